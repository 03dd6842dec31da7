-- What the refusals of archive-push have in common.
use Rattle.std.proofs.Common.{◌≡◌, ◌≤◌, ◌⊎◌, inl, inr, Option, refl, arith}
use Rattle.base_devices.specs.Content.{Content}
use Rattle.base_devices.specs.DataFolder.{Nodes}
use Rattle.base_model.specs.Text.{Text}
use Rattle.cmd_archive_push.specs.declared.fault.PushFault.{PushFault}
use Rattle.cmd_archive_push.specs.declared.fault.PushFault.TheVariants.{SegmentName, PathOutside, StanzaMismatch, SegmentMissing, TooLong, HeaderForm, SegmentSize, HeaderMismatch, Ambiguous, Duplicate}
use Rattle.cmd_archive_push.specs.Causes.{PushCause}
use Rattle.cmd_archive_push.specs.Texts.{push_status}
use Rattle.cmd_archive_push.specs.WalCause.{WordCause}

-- the status of a refusal is none of a command that succeeded, and none of a server's except that of a file that is too
-- long
pub push_within : (fault : PushFault) → (2 ≤ push_status fault) × ((push_status fault ≤ 46) ⊎ (push_status fault ≡ 70))
push_within (SegmentName name) = (omega arith, inl (omega arith))
push_within (PathOutside path) = (omega arith, inl (omega arith))
push_within (StanzaMismatch kept found) = (omega arith, inl (omega arith))
push_within (SegmentMissing path) = (omega arith, inl (omega arith))
push_within (TooLong name limit) = (omega arith, inr refl)
push_within (HeaderForm info) = (omega arith, inl (omega arith))
push_within (SegmentSize known found) = (omega arith, inl (omega arith))
push_within (HeaderMismatch kept found) = (omega arith, inl (omega arith))
push_within (Ambiguous first second) = (omega arith, inl (omega arith))
push_within (Duplicate kept found) = (omega arith, inl (omega arith))

-- an argument is refused for itself, whatever the objects hold
pub push_word : (stanza folder path : Text) (repo : Option Content) (nodes : Option Nodes) (fault : PushFault) → WordCause folder path fault → PushCause stanza folder path repo nodes fault
push_word stanza folder path repo nodes (SegmentName name) h = h
push_word stanza folder path repo nodes (PathOutside word) h = h
push_word stanza folder path repo nodes (StanzaMismatch kept found) h = absurd h
push_word stanza folder path repo nodes (SegmentMissing word) h = absurd h
push_word stanza folder path repo nodes (TooLong name limit) h = absurd h
push_word stanza folder path repo nodes (HeaderForm info) h = absurd h
push_word stanza folder path repo nodes (SegmentSize known found) h = absurd h
push_word stanza folder path repo nodes (HeaderMismatch kept found) h = absurd h
push_word stanza folder path repo nodes (Ambiguous first second) h = absurd h
push_word stanza folder path repo nodes (Duplicate kept found) h = absurd h
