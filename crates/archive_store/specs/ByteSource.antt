-- Bytes that are read in pieces, after the first of them.
use Rattle.std.specs.Prelude.{◌≡◌, ◌≤◌, ◌++◌, ℕ, List, Option, Some, IfSome, length, take}
use Rattle.base_devices.specs.Content.{Reads}
use Rattle.base_model.specs.Text.{Text}
use Rattle.repo_names.specs.Header.{BeginsWith}

-- the bytes begin with the first ones and are this many; where any are known, they are these
pub record IsReadFrom (model : Option Text) (first : Text) (count : ℕ) (bytes : Text) : Type 0 where
  pub known : IfSome model (λ b. b ≡ bytes)
  pub begins : BeginsWith first count bytes

-- so far these bytes were read, the first ones before the others
pub record IsReadTo (model : Option Text) (first bytes : Text) : Type 0 where
  pub known : IfSome model (λ b. (length bytes ≤ length b) × (bytes ≡ take (length bytes) b))
  pub prefix : (rest : Text) × (bytes ≡ first ++ rest)

-- what a read into a buffer gives of the bytes, where they are known
abbrev pub ReadsPiece : Option Text → ℕ → List ℕ → List ℕ → ℕ → Type 0
ReadsPiece model at old_buf new_buf n = IfSome model (λ b. Reads (Some b) at (length old_buf) new_buf (Some n))
