-- Names among texts.
use Rattle.std.proofs.Common.{◌≡◌, ◌↔◌, ◌||◌, Bool, IsTrue, List, [], ◌∷◌, String, Contains, string_bytes, bytes_eq, refl, sym, ◌∙◌, ap}
use Rattle.std.specs.List.{list_any}
use Rattle.std.specs.declared.alloc.Global.{Global}
use Rattle.std.proofs.lemmas.List.Folds.{list_any_at}
use Rattle.std.proofs.lemmas.Map.Views.{Contains-from_any}
use Rattle.std.proofs.lemmas.Slice.Eq.{bytes_eq-Decides}
use Rattle.base_devices.specs.Content.{Name}
use Rattle.memory_devices.specs.Locks.{names_in}

abbrev is_name : Name → Name → Bool
is_name name other = bytes_eq other name

any_of : (name : Name) (texts : List (String Global)) → list_any (λ x. bytes_eq (string_bytes x) name) texts ≡ list_any (is_name name) (names_in texts)
any_of name [] = refl
any_of name (x ∷ xs) = ap (λ b. bytes_eq (string_bytes x) name || b) (any_of name xs)

-- a test of each text finds the names that are there
pub among : (name : Name) (texts : List (String Global)) → IsTrue (list_any (λ x. bytes_eq (string_bytes x) name) texts) ↔ Contains (names_in texts) name
among name texts = (
  λ any. Contains-from_any {eq = is_name} (λ x y e. sym ((bytes_eq-Decides y x).0 e)) name (names_in texts) (sym (any_of name texts) ∙ any),
  λ (i, within, is). any_of name texts ∙ list_any_at (is_name name) (names_in texts) i name within ((bytes_eq-Decides _ name).1 is),
)
