use Rattle.std.proofs.Common.{◌≡◌, false, refl, ap, Err}
use Rattle.base_disk.specs.declared.fault.StoreFault.{StoreFault}
use Rattle.base_devices.specs.Cause.{Rises}
use Rattle.base_model.specs.Text.{Text}
use Rattle.base_model.specs.declared.wal.ArchiveId.{ArchiveId}
use Rattle.base_model.specs.declared.wal.ArchiveName.{ArchiveName}
use Rattle.archive_lookup.specs.Fault.{fault_of_store}
use Rattle.archive_lookup.specs.OnlyReads.{AreNamesOf}
use Rattle.archive_lookup.specs.Paths.{has_sum}
use Rattle.archive_lookup.specs.Causes.{GetCause}
use Rattle.archive_store.proofs.Got.{other_cause, err_by}
use Rattle.archive_store.proofs.file_lookup.get_other.Goals as goal

pub returns-in_err-read_whole-clause-cause : goal.returns-in_err-read_whole-clause-cause
returns-in_err-read_whole-clause-cause g c =
    err_by (λ e. (stanza : Text) (id : ArchiveId) (name : ArchiveName) → AreNamesOf stanza id name c.args.names.now → has_sum name ≡ false
    → GetCause stanza id name (g.D.Disk.state c.args.d.now).view.now (Rises (g.D.Disk.state c.args.d.now).faults (g.D.Disk.state c.read_whole.new.d).faults) e)
    c.from_residual.result (fault_of_store c.in_err-read_whole.field-0.0) c.from_residual.ensures.1
    (other_cause _ _ c.args.names.now _ _ c.in_err-read_whole.field-0.0 c.as_str.ensures.value refl c.in_err-read_whole.ensures.named c.in_err-read_whole.ensures.too_long (λ is. c.in_err-read_whole.ensures.cause (ap (λ (s : StoreFault). Err s) is)))
