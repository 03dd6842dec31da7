use Rattle.std.proofs.Common.{Option, sym, subst, arith}
use Rattle.std.specs.Prelude.{IfSome}
use Rattle.base_devices.specs.Cause.{Rises}
use Rattle.base_devices.specs.Content.{Content}
use Rattle.base_model.specs.declared.wal.ArchiveName.TheVariants.{Segment as Whole}
use Rattle.archive_lookup.specs.declared.stored.files.Stored.{Stored}
use Rattle.archive_lookup.specs.Causes.{PresentCause}
use Rattle.archive_lookup.specs.Stored.{Finds}
use Rattle.archive_wait.proofs.Held.{found_lasts}
use Rattle.archive_wait.proofs.missing_segment.is_stored.Goals as goal

pub returns-in-Ok-Some-clause-there : goal.returns-in-Ok-Some-clause-there
returns-in-Ok-Some-clause-there g c = λ is.
    found_lasts c.args.stanza.now c.args.id c.args.segment
    (λ sum digest. record {
      version = omega arith;
      number = omega arith;
      fits = record { timeline = omega arith; log = omega arith; seg = omega arith };
      digest = digest;
    })
    (g.D.Disk.state c.args.repo.now).view (g.D.Disk.state c.present.new.d).view
    c.in-Ok-Some.field-0-0 c.present.ensures.looks.now
    (subst (λ (o : Option Stored). IfSome (g.D.Disk.state c.args.repo.now).view.now
    (λ f. Finds c.args.stanza.now c.args.id (Whole c.args.segment) f o)) c.in-Ok-Some.field-0-is c.in-Ok-Some.ensures.finds)
    c.in-Ok-Some.ensures.alike

pub returns-clause-cause : goal.returns-clause-cause
returns-clause-cause g c = c.look_fault.ensures c.args.stanza.now c.args.id c.args.segment
    (g.D.Disk.state c.present.new.d).view.now (g.D.Disk.state c.args.repo.now).faults
    (g.D.Disk.state c.present.new.d).faults
    (subst (λ (o : Option Content). PresentCause c.args.stanza.now c.args.id (Whole c.args.segment) o
    (Rises (g.D.Disk.state c.args.repo.now).faults (g.D.Disk.state c.present.new.d).faults) c.in-Err.fault)
    (sym c.present.ensures.looks.now) c.in-Err.ensures.cause)
