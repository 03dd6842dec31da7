use Rattle.std.proofs.Common.{inr, string_bytes}
use Rattle.expire_make.proofs.Alike.{always}
use Rattle.cmd_expire.proofs.Moments.{shown_in}
use Rattle.cmd_expire.proofs.Prunings.{undone_after}
use Rattle.cmd_expire.proofs.following.expire_after.Goals as goal

pub returns-in_err-moment-clause-follows : goal.returns-in_err-moment-clause-follows
returns-in_err-moment-clause-follows g c = undone_after c.args.stanza.now c.args.rules.now (g.C.Clock.state c.args.clock.now) (g.C.Clock.state c.moment_after.new.clock)
    (g.D.Disk.state c.args.repo.now).view (string_bytes c.args.lines.now) c.from_residual.result c.in_err-moment.field-0.0 c.from_residual.ensures.1

pub returns-clause-follows : goal.returns-clause-follows
returns-clause-follows g c = record {
  moment = c.in_ok-moment.moment;
  may_be = shown_in c.args.rules.now.full (g.C.Clock.state c.args.clock.now) (g.C.Clock.state c.moment_after.new.clock) c.in_ok-moment.moment c.in_ok-moment.ensures.known;
  shown = inr c.in_ok-moment.ensures.known;
  known = always c.after_at.result c.in_ok-moment.ensures.known;
  part = c.after_at.ensures.part;
  whole = c.after_at.ensures.whole;
  pruned = c.after_at.ensures.pruned;
  stays = c.after_at.ensures.stays;
  touches = c.after_at.ensures.touches;
  lasts = c.after_at.ensures.lasts;
}
