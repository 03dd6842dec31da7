use Rattle.archive_store.proofs.PushedEach.{settles_paths, looked_alike}
use Rattle.archive_store.proofs.Got.{present_cause, finds_one, err_by}
use Rattle.base_devices.specs.Cause.{Rises}
use Rattle.archive_lookup.specs.Causes.{PresentCause}
use Rattle.archive_store.proofs.file_lookup.present.Goals as goal

pub returns-in_err-look_synced-clause-cause : goal.returns-in_err-look_synced-clause-cause
returns-in_err-look_synced-clause-cause g c =
    err_by (PresentCause c.args.stanza.now c.args.id.now c.args.name.now (g.D.Disk.state c.args.d.now).view.now (Rises (g.D.Disk.state c.args.d.now).faults (g.D.Disk.state c.look_synced.new.d).faults)) c.from_residual-in_err-look_synced.result c.in_err-look_synced.field-0.0 c.from_residual-in_err-look_synced.ensures.1
    (present_cause c.args.stanza.now c.args.id.now c.args.name.now c.in_ok-names.names c.in_ok-names.ensures.names _ _ c.in_err-look_synced.field-0.0 c.in_err-look_synced.ensures.cause)

pub returns-in-One-clause-finds : goal.returns-in-One-clause-finds
returns-in-One-clause-finds g c =
    finds_one c.args.stanza.now c.args.id.now c.args.name.now c.file_names.ensures.place _ c.in_ok-names.names _ c.in-One.kept c.stored_as.result c.in_ok-names.ensures.names c.in_ok-look_synced.ensures.shows c.in-One.is c.stored_as.ensures

pub returns-in-Free-clause-alike : goal.returns-in-Free-clause-alike
returns-in-Free-clause-alike g c =
    let old = (g.D.Disk.state c.args.d.now).view in
    let new = (g.D.Disk.state c.look_synced.new.d).view in
    looked_alike c.args.stanza.now c.args.id.now c.args.name.now c.file_names.ensures.place old new c.look_synced.ensures.looks.time c.look_synced.ensures.looks.now
    (settles_paths c.args.stanza.now c.args.id.now c.args.name.now c.in_ok-names.names c.in_ok-names.ensures.names old new c.in_ok-look_synced.ensures.settled)

pub returns-in-One-clause-alike : goal.returns-in-One-clause-alike
returns-in-One-clause-alike g c =
    let old = (g.D.Disk.state c.args.d.now).view in
    let new = (g.D.Disk.state c.look_synced.new.d).view in
    looked_alike c.args.stanza.now c.args.id.now c.args.name.now c.file_names.ensures.place old new c.look_synced.ensures.looks.time c.look_synced.ensures.looks.now
    (settles_paths c.args.stanza.now c.args.id.now c.args.name.now c.in_ok-names.names c.in_ok-names.ensures.names old new c.in_ok-look_synced.ensures.settled)
