use Rattle.base_devices.specs.Cause.{Rises}
use Rattle.repo_names.specs.Header.{BeginsWith}
use Rattle.base_model.specs.Text.{Text}
use Rattle.archive_lookup.specs.Causes.{PushCause}
use Rattle.archive_store.proofs.Got.{err_by}
use Rattle.archive_store.proofs.Placed.{push_cause}
use Rattle.archive_store.proofs.PushedEach.{settles_paths}
use Rattle.archive_store.proofs.pushing.look_checked.Goals as goal

pub returns-in_err-look-clause-cause : goal.returns-in_err-look-clause-cause
returns-in_err-look-clause-cause g c =
    let now = (g.D.Disk.state c.args.d.now).view.now in
    let rose = Rises (g.D.Disk.state c.args.d.now).faults (g.D.Disk.state c.look_synced.new.d).faults in
    let right = c.in_ok-check_bytes.ensures.right in
    err_by (λ e. (bytes : Text) → BeginsWith c.args.prefix.bytes.now c.args.prefix.length bytes → PushCause c.args.stanza.now c.args.id c.args.name.now c.args.system bytes now rose e)
    c.from_residual-in_err-look.result c.in_err-look.field-0.0 c.from_residual-in_err-look.ensures.1
    (λ bytes begins. push_cause c.args.stanza.now c.args.id c.args.name.now c.in_ok-names.names c.in_ok-names.ensures.names c.args.system bytes (right bytes begins) now rose c.in_err-look.field-0.0 c.in_err-look.ensures.cause)

pub returns-clause-settled : goal.returns-clause-settled
returns-clause-settled g c =
    settles_paths c.args.stanza.now c.args.id c.args.name.now c.in_ok-names.names c.in_ok-names.ensures.names
    (g.D.Disk.state c.args.d.now).view (g.D.Disk.state c.look_synced.new.d).view c.in_ok-look.ensures.settled
