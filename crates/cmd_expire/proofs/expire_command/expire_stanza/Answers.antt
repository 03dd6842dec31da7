use Rattle.std.proofs.Common.{inr}
use Rattle.base_model.specs.Values.{archive_info_of, backup_info_of}
use Rattle.expire_make.proofs.Alike.{always}
use Rattle.expire_make.proofs.Planned.{have_list}
use Rattle.expire_make.proofs.Spelled.{fits_less, unfits}
use Rattle.cmd_expire.proofs.Moments.{shown_in}
use Rattle.cmd_expire.proofs.Prunings.{undone}
use Rattle.cmd_expire.proofs.expire_command.expire_stanza.Goals as goal

pub returns-in_err-list-clause-pruned : goal.returns-in_err-list-clause-pruned
returns-in_err-list-clause-pruned g c = undone c.args.stanza.now c.args.rules.now (g.C.Clock.state c.args.clock.now) (g.C.Clock.state c.args.clock.now)
    (g.D.Disk.state c.args.repo.now).view c.from_residual.result c.in_err-list.field-0.0 c.from_residual.ensures.1

pub returns-in_err-moment-clause-pruned : goal.returns-in_err-moment-clause-pruned
returns-in_err-moment-clause-pruned g c = undone c.args.stanza.now c.args.rules.now (g.C.Clock.state c.args.clock.now) (g.C.Clock.state c.moment_for.new.clock)
    (g.D.Disk.state c.args.repo.now).view c.from_residual-in_err-moment.result c.in_err-moment.field-0.0 c.from_residual-in_err-moment.ensures.1

pub expire_at-requires-clause-list : goal.expire_at-requires-clause-list
expire_at-requires-clause-list g c = have_list c.args.stanza.now (g.D.Disk.state c.args.repo.now).view.now (archive_info_of c.args.pairs.archive) (backup_info_of c.args.pairs.backup) (backup_info_of c.in_ok-list.list) c.requires.archive.0 c.requires.backup.0 c.in_ok-list.ensures.settled

pub expire_at-requires-clause-within : goal.expire_at-requires-clause-within
expire_at-requires-clause-within g c = fits_less (backup_info_of c.args.pairs.backup) (backup_info_of c.in_ok-list.list) c.in_ok-list.ensures.shorter (unfits (backup_info_of c.args.pairs.backup) c.requires.fits)

pub returns-clause-pruned : goal.returns-clause-pruned
returns-clause-pruned g c = record {
  moment = c.in_ok-moment.moment;
  may_be = shown_in c.args.rules.now.full (g.C.Clock.state c.args.clock.now) (g.C.Clock.state c.moment_for.new.clock) c.in_ok-moment.moment c.in_ok-moment.ensures.known;
  shown = inr c.in_ok-moment.ensures.known;
  known = always c.expire_at.result c.in_ok-moment.ensures.known;
  does = c.expire_at.ensures.does;
  pruned = c.expire_at.ensures.pruned;
  keeps = c.expire_at.ensures.keeps;
  touches = c.expire_at.ensures.touches;
  lasts = c.expire_at.ensures.lasts;
}
