-- What follows a stored segment is fetched.
use Rattle.std.proofs.Common.{◌≡◌, inr, ℕ, Option, subst}
use Rattle.base_devices.specs.Content.{Content}
use Rattle.base_model.specs.declared.wal.ArchiveName.TheVariants.{Segment as Whole}
use Rattle.base_model.specs.declared.wal.Segment.{Segment}
use Rattle.base_model.specs.Text.{Text}
use Rattle.repo_stanza.specs.declared.control.Control.{Control}
use Rattle.archive_lookup.specs.declared.stored.files.Stored.{Stored}
use Rattle.cmd_archive_get.specs.declared.fault.GetFault.{GetFault}
use Rattle.cmd_archive_get.specs.Looking.{IsKeptAs}
use Rattle.cmd_archive_get_async.specs.Fetching.{AheadCause, most_ahead}
use Rattle.cmd_archive_get_async.specs.FollowUp.{FollowUpCause, FetchesAfter}

-- of what the repository held before it was looked at
pub after_as : (stanza : Text) (segment : Segment) (file : Stored) (queue : ℕ) (o mid spool new : Option Content) → mid ≡ o → FetchesAfter stanza segment file queue mid spool new → FetchesAfter stanza segment file queue o spool new
after_as stanza segment file queue o mid spool new same h = subst (λ (x : Option Content). FetchesAfter stanza segment file queue x spool new) same h

module _ (stanza : Text) (known : Control) (segment : Segment) (queue : ℕ) (o : Option Content) where
  pub ahead_after : (file : Stored) → IsKeptAs stanza known (Whole segment) file o → (mid : Option Content) → mid ≡ o → (fault : GetFault) → AheadCause stanza file.id segment file.size (most_ahead file.size queue) mid fault → FollowUpCause stanza known segment queue o fault
  ahead_after file kept mid same fault h = inr (file, kept, subst (λ (x : Option Content). AheadCause stanza file.id segment file.size (most_ahead file.size queue) x fault) same h)
