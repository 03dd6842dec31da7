-- Why a segment isn't served is why one of the calls for it stops.
use Rattle.std.proofs.Common.{Option}
use Rattle.base_devices.specs.Content.{Content}
use Rattle.base_devices.specs.DataFolder.{Nodes}
use Rattle.base_model.specs.declared.wal.ArchiveName.{ArchiveName}
use Rattle.base_model.specs.Text.{Text}
use Rattle.repo_stanza.specs.declared.control.Control.{Control}
use Rattle.cmd_archive_get.specs.declared.fault.GetFault.{GetFault}
use Rattle.cmd_archive_get.specs.declared.fault.GetFault.TheVariants.{SegmentName, PathOutside, StanzaMismatch, Ambiguous, SegmentDamaged, TooLong}
use Rattle.cmd_archive_get.specs.Getting.{GetCause}
use Rattle.cmd_archive_get_async.specs.Getting.{GetAheadCause, LacksFetched}

module _ (stanza folder word path : Text) (known : Control) (name : ArchiveName) (repo : Option Content) (nodes : Option Nodes) (spool : Option Content) where
  -- the repository's is refused, and the spool doesn't have it
  pub get_fails : LacksFetched stanza known name repo spool → (fault : GetFault) → GetCause stanza folder word path repo nodes fault → GetAheadCause stanza folder word path known name repo nodes spool fault
  get_fails lacks (SegmentName n) h = h
  get_fails lacks (PathOutside n) h = h
  get_fails lacks (StanzaMismatch k f) h = h
  get_fails lacks (Ambiguous a b) h = h
  get_fails lacks (SegmentDamaged t f) h = (h, lacks)
  get_fails lacks (TooLong n l) h = h
