-- A list that is read item by item.
use Rattle.std.proofs.Common.{◌≡◌, ℕ, ◌+◌, ◌<◌, ◌≤◌, List, [], ◌∷◌, ◌++◌, map, length, get_or, drop, sym, ap, ◌∙◌, append_assoc}
use Rattle.std.proofs.lemmas.List.{append-nil, map-append}
use Rattle.std.proofs.Math.ListN.{drop_of_length-le}
use Rattle.repo_keys.proofs.Seeking.{opened}

module _ {X Y Z : Type 0} (f : X → Z) (g : Y → Z) where
  -- what is read and what is to come are the whole
  abbrev pub IsRead : List Y → List X → ℕ → Type 0
  IsRead ys xs i = map g ys ++ map f (drop i xs) ≡ map f xs

  pub read_next : (ys : List Y) (xs : List X) (i : ℕ) (x : X) (y : Y) → i < length xs → x ≡ get_or xs i x → f x ≡ g y → IsRead ys xs i → IsRead (ys ++ y ∷ []) xs (i + 1)
  read_next ys xs i x y h is same read =
      let more = map f (drop (i + 1) xs) in
      ap (λ (l : List Z). l ++ more) (map-append g ys (y ∷ [])) ∙ append_assoc (map g ys) (g y ∷ []) more ∙ ap (λ (z : Z). map g ys ++ z ∷ more) (sym same) ∙ sym (ap (λ (l : List X). map g ys ++ map f l) (opened f xs i x h is)) ∙ read

  pub read_end : (ys : List Y) (xs : List X) (i : ℕ) → length xs ≤ i → IsRead ys xs i → map g ys ≡ map f xs
  read_end ys xs i h read = sym (append-nil (map g ys)) ∙ sym (ap (λ (l : List X). map g ys ++ map f l) (drop_of_length-le xs h)) ∙ read
