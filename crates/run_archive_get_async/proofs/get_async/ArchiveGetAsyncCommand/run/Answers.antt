use Rattle.std.proofs.Common.{refl, arith}
use Rattle.cmd_trait.specs.Code.{place_of}
use Rattle.cmd_trait.proofs.Ends.{rose_to, all_later}
use Rattle.run_archive_get_async.proofs.PartEffects.{fetched_ran, shows}
use Rattle.run_archive_get_async.proofs.get_async.ArchiveGetAsyncCommand.run.Goals as goal

pub returns-clause-ran : goal.returns-clause-ran
returns-clause-ran g c =
    let e = c.fetch_after.ensures in
    let o = c.args.order in
    let asked = c.args.self.now in
    let is = c.requires.order in
    let known = c.in-Some-Some.control in
    let shown = shows c.args.places.now.stanza.now _ _ c.args.ready c.requires.ready known c.in-Some-Some.is-0 in
    fetched_ran (place_of c.args.places.now) _ _ refl (record { now = e.looks.now; time = e.looks.time }) (g.met.S.Disk.now_may_be_left c.args.outside.now.spool) (g.met.S.Disk.now_may_be_left c.fetch_after.new.spool) e.marks e.beside
    o.word.now asked.spool.now asked.queue c.fetch_after.result asked.name.now is.0 o.segment (record { fits = is.1; is = o.named }) known shown e.fetched
    _ (rose_to _ _ _ (λ h. h) (λ h. h) (λ h. absurd h) (λ h. absurd h) (λ h. absurd h) (λ h. absurd h) (λ h. absurd h) (λ h. absurd h) (λ h. absurd h)) e.cause
    (record { spool = e.frame.opened; repo = e.looks.opened; tree = refl })
    (all_later _ _ e.looks.later e.frame.later (omega arith) (omega arith) (omega arith) (omega arith) (omega arith) (omega arith) (omega arith))
