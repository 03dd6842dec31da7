-- What is seen of stored segments.
use Rattle.std.specs.Prelude.{◌≡◌, ℕ, ◌+◌, ◌<◌, List, Some, IsSomeAnd, string_bytes}
use Rattle.base_devices.specs.Content.{Content}
use Rattle.base_model.specs.Text.{Text}
use Rattle.archive_lookup.specs.declared.stored.files.Stored.{Stored}
use Rattle.cmd_verify.specs.What.{What, Second}
use Rattle.archive_lookup.specs.Ends.{RepresentsAt}
use Rattle.cmd_verify.specs.Findings.{BytesDeviate, segment_of, IsSecond}

-- the file has a sum in its name, and its bytes deviate from that
pub record HasOther (f : Content) (file : Stored) (name : Text) (what : What) : Type 0 where
  pub is : name ≡ string_bytes file.path
  pub deviates : IsSomeAnd file.sum (λ sum. BytesDeviate (f name) 0 file.size sum.0 what)

-- a segment is stored under an earlier name too
abbrev pub SecondDeviates : Text → Content → Text → What → Type 0
SecondDeviates stanza f name (Second segment) = IsSecond stanza f name segment
SecondDeviates stanza f name what = ⊥

-- the file holds a segment, whole or in part, and the one before it is the same file of the archive
abbrev pub FollowsAlike : Stored → Stored → Text → What → Type 0
FollowsAlike before file name (Second segment) =
    (name ≡ string_bytes file.path) × (segment_of file.name ≡ Some segment)
    × (before.id ≡ file.id) × (before.name ≡ file.name)
FollowsAlike before file name what = ⊥

-- the same for two neighbours of the list, of which the second comes before this place
abbrev pub SecondsBelow : List Stored → ℕ → Text → What → Type 0
SecondsBelow files k name what = (i : ℕ) × (before : Stored) × (file : Stored) × (i + 1 < k)
    × RepresentsAt files i before × RepresentsAt files (i + 1) file × FollowsAlike before file name what
