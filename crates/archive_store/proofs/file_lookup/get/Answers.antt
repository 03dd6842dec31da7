use Rattle.std.proofs.Common.{rules, Option, Some, subst}
use Rattle.std.specs.Prelude.{IsSome, IfOk, IsErrOf}
use Rattle.base_devices.specs.Cause.{Rises}
use Rattle.base_devices.specs.Content.{Content}
use Rattle.base_devices.specs.Crash.{IsAlikeAt}
use Rattle.base_model.specs.Now.{NowRepresents}
use Rattle.base_model.specs.Repository.{Stanza}
use Rattle.base_model.specs.Text.{In}
use Rattle.base_model.specs.Walks.{IsSynced}
use Rattle.archive_lookup.specs.declared.stored.fault.ArchiveFault.TheVariants.{NotFound}
use Rattle.archive_lookup.specs.Causes.{IsUnarchived}
use Rattle.archive_store.specs.Pushes.{IsPathOf}
use Rattle.archive_lookup.specs.Stored.{archived_file}
use Rattle.archive_store.proofs.Got.{answer_archived, answer_none, answered, stop_answers}
use Rattle.archive_store.proofs.PushedEach.{after_alike}
use Rattle.archive_store.proofs.file_lookup.get.Goals as goal

pub returns-then-names-clause-archived : goal.returns-then-names-clause-archived
returns-then-names-clause-archived g c =
    subst (λ (o : Option Content). IfOk c.get_segment.result (λ bytes. (s : Stanza) → IsSome o → NowRepresents c.args.stanza.now (Some s) o → In (archived_file c.args.id.now c.args.name.now bytes.items) s.archived))
    c.names_synced.ensures.looks.now
    (answer_archived c.args.stanza.now c.args.id.now c.args.name.now c.in_ok-names.ensures.places (λ v. v.items) (g.D.Disk.state c.names_synced.new.d).view.now c.get_segment.result (search rules))

pub returns-then-names-clause-unarchived : goal.returns-then-names-clause-unarchived
returns-then-names-clause-unarchived g c =
    subst (λ (o : Option Content). IsErrOf c.get_segment.result NotFound → (s : Stanza) → IsSome o → NowRepresents c.args.stanza.now (Some s) o → IsUnarchived c.args.id.now c.args.name.now s.archived)
    c.names_synced.ensures.looks.now
    (answer_none c.args.stanza.now c.args.id.now c.args.name.now c.in_ok-names.ensures.places (g.D.Disk.state c.names_synced.new.d).view.now (Rises (g.D.Disk.state c.names_synced.new.d).faults (g.D.Disk.state c.get_segment.new.d).faults) c.get_segment.result (search rules))

pub returns-then-names-clause-alike : goal.returns-then-names-clause-alike
returns-then-names-clause-alike g c =
    answered c.get_segment.result (IsSynced c.args.stanza.now (g.D.Disk.state c.args.d.now).view → IsSome (g.D.Disk.state c.args.d.now).view.now → IsAlikeAt (IsPathOf c.args.stanza.now c.args.id.now c.args.name.now) (g.D.Disk.state c.get_segment.new.d).view)
    (after_alike c.args.stanza.now c.args.id.now c.args.name.now c.in_ok-names.ensures.places (g.D.Disk.state c.args.d.now).view (g.D.Disk.state c.names_synced.new.d).view c.names_synced.ensures.looks.time c.names_synced.ensures.looks.now c.in_ok-names.ensures.settled
    (g.D.Disk.state c.get_segment.new.d).view c.get_segment.ensures.looks.time c.get_segment.ensures.looks.now)

pub returns-clause-archived : goal.returns-clause-archived
returns-clause-archived g c =
    subst (λ (o : Option Content). IfOk c.get_other.result (λ bytes. (s : Stanza) → IsSome o → NowRepresents c.args.stanza.now (Some s) o → In (archived_file c.args.id.now c.args.name.now bytes.items) s.archived))
    c.names_synced.ensures.looks.now
    (answer_archived c.args.stanza.now c.args.id.now c.args.name.now c.in_ok-names.ensures.places (λ v. v.items) (g.D.Disk.state c.names_synced.new.d).view.now c.get_other.result (search rules))

pub returns-clause-unarchived : goal.returns-clause-unarchived
returns-clause-unarchived g c =
    subst (λ (o : Option Content). IsErrOf c.get_other.result NotFound → (s : Stanza) → IsSome o → NowRepresents c.args.stanza.now (Some s) o → IsUnarchived c.args.id.now c.args.name.now s.archived)
    c.names_synced.ensures.looks.now
    (answer_none c.args.stanza.now c.args.id.now c.args.name.now c.in_ok-names.ensures.places (g.D.Disk.state c.names_synced.new.d).view.now (Rises (g.D.Disk.state c.names_synced.new.d).faults (g.D.Disk.state c.get_other.new.d).faults) c.get_other.result (search rules))

pub returns-clause-alike : goal.returns-clause-alike
returns-clause-alike g c =
    answered c.get_other.result (IsSynced c.args.stanza.now (g.D.Disk.state c.args.d.now).view → IsSome (g.D.Disk.state c.args.d.now).view.now → IsAlikeAt (IsPathOf c.args.stanza.now c.args.id.now c.args.name.now) (g.D.Disk.state c.get_other.new.d).view)
    (after_alike c.args.stanza.now c.args.id.now c.args.name.now c.in_ok-names.ensures.places (g.D.Disk.state c.args.d.now).view (g.D.Disk.state c.names_synced.new.d).view c.names_synced.ensures.looks.time c.names_synced.ensures.looks.now c.in_ok-names.ensures.settled
    (g.D.Disk.state c.get_other.new.d).view c.get_other.ensures.looks.time c.get_other.ensures.looks.now)

pub returns-in_err-names-clause-alike : goal.returns-in_err-names-clause-alike
returns-in_err-names-clause-alike g c =
    stop_answers c.from_residual.result c.in_err-names.field-0.0 (IsSynced c.args.stanza.now (g.D.Disk.state c.args.d.now).view → IsSome (g.D.Disk.state c.args.d.now).view.now → IsAlikeAt (IsPathOf c.args.stanza.now c.args.id.now c.args.name.now) (g.D.Disk.state c.names_synced.new.d).view)
    c.from_residual.ensures.1 c.in_err-names.ensures.stops
