-- The test of an item's path says what it is to be one.
use Rattle.std.proofs.Common.{◌≡◌, ℕ, Bool, true, false, length, refl, sym, arith}
use Rattle.std.specs.Prelude.{◌↔◌, ◌&&◌, nat_le}
use Rattle.std.specs.Str.{is_utf8}
use Rattle.std.specs.List.{list_all}
use Rattle.std.proofs.lemmas.Str.{IsUtf8-from_is_utf8, is_utf8-from_IsUtf8}
use Rattle.std.proofs.lemmas.Bool.Decides.{nat_tests}
use Rattle.base_model.specs.Text.{Text}
use Rattle.base_model.specs.Paths.{elements, is_path_byte, is_element}
use Rattle.repo_names.specs.Faults.{IsPathWithin}
use Rattle.repo_names.proofs.Faultless.{in_folder}
use Rattle.worker_protocol.specs.declared.frames.frames.Root.{Root}
use Rattle.worker_protocol.specs.declared.frames.frames.Root.TheVariants.{DataFolder, Repo}
use Rattle.worker_protocol.specs.Frames.{IsItemPath, repo_limit}
use Rattle.worker_protocol.specs.Reading.{is_item_path}

-- the test with any limit
abbrev is_within : ℕ → Text → Bool
is_within limit path = is_utf8 path && nat_le (length path) limit && list_all is_path_byte path && list_all is_element (elements path)

all_true : (a b c d : Bool) → a ≡ true → b ≡ true → c ≡ true → d ≡ true → (a && b && c && d) ≡ true
all_true a b c d p q r s = rw (p, q, r, s) refl

each_true : (a b c d : Bool) → (a && b && c && d) ≡ true → (a ≡ true) × (b ≡ true) × (c ≡ true) × (d ≡ true)
each_true true true true true e = (refl, refl, refl, refl)
each_true true true true false e = absurd cc
each_true true true false d e = absurd cc
each_true true false c d e = absurd cc
each_true false b c d e = absurd cc

within : (limit : ℕ) (path : Text) → IsPathWithin limit path ↔ (is_within limit path ≡ true)
within limit path = (
  λ good. all_true _ _ _ _ (is_utf8-from_IsUtf8 path good.utf8) (grind (arith, nat_tests, good.short)) good.bytes good.elements_hold,
  λ e.
      let each = each_true (is_utf8 path) (nat_le (length path) limit) (list_all is_path_byte path) (list_all is_element (elements path)) e in
      record { utf8 = IsUtf8-from_is_utf8 path each.0; short = grind (arith, nat_tests, each.1); bytes = each.2; elements_hold = each.3 },
)

pub is_path : (root : Root) (path : Text) → IsItemPath root path ↔ (is_item_path root path ≡ true)
is_path DataFolder path = (λ good. (within 1024 path).0 ((in_folder path).1 good), λ e. (in_folder path).0 ((within 1024 path).1 e))
is_path Repo path = within repo_limit path

pub agree : (a b : Bool) → (a ≡ true → b ≡ true) → (b ≡ true → a ≡ true) → a ≡ b
agree true b there back = sym (there refl)
agree false true there back = back refl
agree false false there back = refl
