use Rattle.std.proofs.Common.{Option, subst}
use Rattle.std.specs.Prelude.{IfNone}
use Rattle.base_model.specs.declared.wal.Segment.{Segment}
use Rattle.archive_wait.specs.Stored.{HoldsPart, Lasts}
use Rattle.archive_wait.proofs.Coming.{twice_there, twice_cause}
use Rattle.archive_wait.proofs.missing_segment.first_missing.Goals as goal

pub returns-in-Ok-None-clause-there : goal.returns-in-Ok-None-clause-there
returns-in-Ok-None-clause-there g c =
    twice_there c.args.stanza.now c.args.id.now c.args.wal.now (g.D.Disk.state c.args.repo.now)
    (g.D.Disk.state c.look_once.new.repo) (g.D.Disk.state c.look_once-in-Ok-None.new.repo) c.look_once.ensures.looks
    c.look_once-in-Ok-None.ensures.looks
    (subst (λ (o : Option Segment). IfNone o (Lasts c.args.stanza.now
    (HoldsPart c.args.stanza.now c.args.id.now c.args.wal.now) (g.D.Disk.state c.args.repo.now).view
    (g.D.Disk.state c.look_once.new.repo).view)) c.in-Ok-None.field-0-is c.in-Ok-None.ensures.there)
    c.look_once-in-Ok-None.result c.look_once-in-Ok-None.ensures.there

pub returns-in-Ok-None-clause-cause : goal.returns-in-Ok-None-clause-cause
returns-in-Ok-None-clause-cause g c =
    twice_cause c.args.stanza.now c.args.id.now c.args.wal.now (g.D.Disk.state c.args.repo.now)
    (g.D.Disk.state c.look_once.new.repo) (g.D.Disk.state c.look_once-in-Ok-None.new.repo) c.look_once.ensures.looks
    c.look_once-in-Ok-None.ensures.looks c.look_once-in-Ok-None.result c.look_once-in-Ok-None.ensures.cause
