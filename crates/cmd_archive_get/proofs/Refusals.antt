-- What the refusals of archive-get have in common.
use Rattle.std.proofs.Common.{◌≡◌, ◌≤◌, ◌⊎◌, inl, inr, Option, refl, arith}
use Rattle.base_devices.specs.Content.{Content}
use Rattle.base_devices.specs.DataFolder.{Nodes}
use Rattle.base_model.specs.Text.{Text}
use Rattle.cmd_archive_get.specs.declared.fault.GetFault.{GetFault}
use Rattle.cmd_archive_get.specs.declared.fault.GetFault.TheVariants.{SegmentName, PathOutside, StanzaMismatch, Ambiguous, SegmentDamaged, TooLong}
use Rattle.cmd_archive_get.specs.Getting.{ArgumentsCause, GetCause}
use Rattle.cmd_archive_get.specs.Texts.{get_status}

-- the status of a refusal is none of a command that succeeded, and none of a server's except that of a file that is too
-- long
pub get_within : (fault : GetFault) → (2 ≤ get_status fault) × ((get_status fault ≤ 46) ⊎ (get_status fault ≡ 70))
get_within (SegmentName word) = (omega arith, inl (omega arith))
get_within (PathOutside word) = (omega arith, inl (omega arith))
get_within (StanzaMismatch kept found) = (omega arith, inl (omega arith))
get_within (Ambiguous first second) = (omega arith, inl (omega arith))
get_within (SegmentDamaged known found) = (omega arith, inl (omega arith))
get_within (TooLong word limit) = (omega arith, inr refl)

-- arguments are refused for themselves, whatever the objects hold
pub get_arguments : (stanza folder word path : Text) (repo : Option Content) (nodes : Option Nodes) (fault : GetFault) → ArgumentsCause folder word path fault → GetCause stanza folder word path repo nodes fault
get_arguments stanza folder word path repo nodes (SegmentName known) h = h
get_arguments stanza folder word path repo nodes (PathOutside known) h = h
get_arguments stanza folder word path repo nodes (StanzaMismatch kept found) h = absurd h
get_arguments stanza folder word path repo nodes (Ambiguous first second) h = absurd h
get_arguments stanza folder word path repo nodes (SegmentDamaged known found) h = absurd h
get_arguments stanza folder word path repo nodes (TooLong name limit) h = absurd h
