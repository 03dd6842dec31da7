use Rattle.std.proofs.Common.{◌∙◌, sym}
use Rattle.program_crashes.proofs.Playing.{ends_here, stops_here, left_from}
use Rattle.program_crashes.proofs.call_or_crash.play_one.Goals as goal

pub returns-in-None : goal.returns-in-None
returns-in-None c = record {
  plays = ends_here c.args.act c.in_ok-left.ended c.args.disks c.in_ok-left.left c.in_ok-left.ensures.call c.in_ok-left.ensures.stanza c.in_ok-left.ensures.leads (sym c.in_ok-left.ensures.halt ∙ c.in-None.is);
}

pub returns-in_ok-opened-in-Some : goal.returns-in_ok-opened-in-Some
returns-in_ok-opened-in-Some c = record {
  plays = stops_here c.args.act c.in_ok-left.ended c.args.disks c.in_ok-left.left c.in_ok-left.ensures.call c.in_ok-left.ensures.stanza c.in_ok-left.ensures.leads c.in-Some.halt (sym c.in_ok-left.ensures.halt ∙ c.in-Some.is)
      c.in_ok-opened-in-Some.opened (record {
        repo = left_from c.in_ok-left.left.repo c.moment-repo_from.result _ c.in-Some.halt.repo.moment c.in_ok-opened-in-Some.opened.repo c.moment-repo_from.ensures c.in_ok-opened-in-Some.ensures.repo;
        spool = left_from c.in_ok-left.left.spool c.moment-spool_from.result _ c.in-Some.halt.spool.moment c.in_ok-opened-in-Some.opened.spool c.moment-spool_from.ensures c.in_ok-opened-in-Some.ensures.spool;
      });
}
