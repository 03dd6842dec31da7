-- A path is searched for in the half of a list that may have it.
use Rattle.std.proofs.Common.{◌≡◌, ◌≢◌, inl, inr, ℕ, ◌+◌, ◌<◌, true, false, List, [], ◌∷◌, ◌++◌, map, take, drop, length, get_or, String, Global, string_bytes, refl, sym, ap, ◌∙◌, take-append-drop}
use Rattle.serde_json.specs.Data.{Data, null}
use Rattle.base_devices.specs.Order.{is_before, are_after}
use Rattle.base_model.specs.Text.{Text, In, ◌⫽◌}
use Rattle.base_model.specs.Fields.{Field}
use Rattle.repo_keys.specs.Agree.{IsOrdered}
use Rattle.repo_keys.proofs.Halves as halves
use Rattle.repo_keys.proofs.Seeking.{opened}

abbrev field : String Global → Field
field s = (string_bytes s, null)

names : (xs : List (String Global)) → map (λ (k : Field). k.0) (map field xs) ≡ map string_bytes xs
names [] = refl
names (x ∷ xs) = ap (λ (l : List Text). string_bytes x ∷ l) (names xs)

to : (xs : List (String Global)) (p : Text) → In p (map string_bytes xs) → In (p, null) (map field xs)
to [] p i = i
to (x ∷ xs) p (inl e) = inl (ap (λ (n : Text). let f : Field = (n, null) in f) e)
to (x ∷ xs) p (inr i) = inr (to xs p i)

from : (xs : List (String Global)) (p : Text) (d : Data) → In (p, d) (map field xs) → In p (map string_bytes xs)
from [] p d i = i
from (x ∷ xs) p d (inl e) = inl (ap (λ (f : Field). f.0) e)
from (x ∷ xs) p d (inr i) = inr (from xs p d i)

module _ (xs : List (String Global)) (order : are_after [] (map string_bytes xs) ≡ true) (m : ℕ) (x : String Global) (less : m < length xs) (is : x ≡ get_or xs m x) (key : Text) where
  ordered : IsOrdered (map field xs)
  ordered = ap (are_after []) (names xs) ∙ order

  pub not_above : is_before key (string_bytes x) ≡ true → In key (map string_bytes (drop m xs)) → ⊥
  not_above b i = halves.not_above field xs ordered m x less is key b null (to (drop m xs) key i)

  pub above : string_bytes x ≢ key → is_before key (string_bytes x) ≡ false → In key (map string_bytes xs) → In key (map string_bytes (drop (m + 1) xs))
  above apart b i = from (drop (m + 1) xs) key null (halves.above field xs ordered m x less is key apart b null (to xs key i))

  pub found : string_bytes x ≡ key → In key (map string_bytes xs)
  found same = let p = halves.here field xs ordered m x less is key same in from xs key p.0 p.1

-- what comes before a slash, and after it
pub cut : (path : Text) (i : ℕ) → i < length path → 47 ≡ get_or path i 47 → path ≡ take i path ⫽ drop (i + 1) path
cut path i h is = sym (take-append-drop i path) ∙ ap (λ (l : Text). take i path ++ l) (opened (λ (c : ℕ). c) path i 47 h is)
