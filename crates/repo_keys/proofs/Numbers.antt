-- Members of lists, and what is numbered 1, 2, 3 and so on.
use Rattle.std.proofs.Common.{◌≡◌, ◌≢◌, inl, inr, ℕ, zero, suc, ◌+◌, ◌-◌, ◌<◌, ◌≤◌, ◌^◌, List, [], ◌∷◌, ◌++◌, map, length, Option, Some, None, refl, sym, ap, ◌∙◌, subst, arith, decimal}
use Rattle.std.specs.Prelude.{slice_get, IfNone, Bool, true, false, IsTrue}
use Rattle.std.specs.List.{AllByRecursion}
use Rattle.std.proofs.lemmas.Bool.{cases_eq}
use Rattle.std.proofs.lemmas.Fmt.{decimal_injective}
use Rattle.base_model.specs.Text.{Text, In}
use Rattle.base_model.specs.InfoFiles.{AreFrom}

pub all_in : {X : Type 0} (P : X → Type 0) (xs : List X) (x : X) → AllByRecursion P xs → In x xs → P x
all_in P [] x h i = absurd i
all_in P (y ∷ ys) x h (inl e) = subst P (sym e) h.0
all_in P (y ∷ ys) x h (inr i) = all_in P ys x h.1 i

pub in_map : {X Y : Type 0} (f : X → Y) (xs : List X) (x : X) → In x xs → In (f x) (map f xs)
in_map f [] x i = i
in_map f (y ∷ ys) x (inl e) = inl (ap f e)
in_map f (y ∷ ys) x (inr i) = inr (in_map f ys x i)

pub map_in : {X Y : Type 0} (f : X → Y) (xs : List X) (z : Y) → In z (map f xs) → (x : X) × In x xs × (z ≡ f x)
map_in f [] z i = absurd i
map_in f (y ∷ ys) z (inl e) = (y, inl refl, e)
map_in f (y ∷ ys) z (inr i) = let (x, j, e) = map_in f ys z i in (x, inr j, e)

pub same_digits : (n m : ℕ) → n < 2 ^ 32 → m < 2 ^ 32 → decimal n ≡ decimal m → n ≡ m
same_digits n m h g e = decimal_injective n m (omega arith) (omega arith) e

-- digits of a number that no history has are of no other
pub no_number : (o : Option ℕ) (x : ℕ) (key : Text) → key ≡ decimal x → x < 2 ^ 64 → IfNone o (1 ≤ x → x < 2 ^ 32 → ⊥) → IfNone o ((n : ℕ) → n < 2 ^ 32 → 1 ≤ n → key ≡ decimal n → ⊥)
no_number None x key is fits far = λ n small low same.
    let e : x ≡ n = decimal_injective x n fits (omega arith) (sym is ∙ same) in
    far (omega arith) (omega arith)
no_number (Some m) x key is fits far = tt

pub unlike : {X : Type 0} {c e : X} (b : Bool) → (c ≡ e → IsTrue b) → b ≡ false → ¬ (c ≡ e)
unlike true then off same = let h : ◌≡◌ {A = Bool} true false = off in cc
unlike false then off same = let h : ◌≡◌ {A = Bool} false true = then same in cc

-- ---- numbers in a row

module _ {X : Type 0} (number : X → ℕ) where
  pub entry_at : (h : List X) (m n : ℕ) → AreFrom m (map number h) → m ≤ n → n < m + length h → (c : X) × In c h × (number c ≡ n)
  entry_at [] m n from low high = absurd (omega arith)
  entry_at (x ∷ xs) m n from low high = elim (cases_eq m n) [
    | inl e ↦ (x, inl refl, from.0 ∙ e)
    | inr off ↦ let apart : m ≢ n = off in let (c, i, is) = entry_at xs (m + 1) n from.1 (omega arith) (omega arith) in (c, inr i, is)
  ]

  pub id_low : (h : List X) (m : ℕ) (c : X) → AreFrom m (map number h) → In c h → m ≤ number c
  id_low [] m c from i = absurd i
  id_low (x ∷ xs) m c from (inl e) = let is : number c ≡ m = ap number e ∙ from.0 in omega arith
  id_low (x ∷ xs) m c from (inr i) = let low = id_low xs (m + 1) c from.1 i in omega (arith, low)

  pub unique_id : (h : List X) (m : ℕ) (c e : X) → AreFrom m (map number h) → In c h → In e h → number c ≡ number e → c ≡ e
  unique_id [] m c e from i j same = absurd i
  unique_id (x ∷ xs) m c e from (inl p) (inl q) same = p ∙ sym q
  unique_id (x ∷ xs) m c e from (inl p) (inr j) same = let is : number c ≡ m = ap number p ∙ from.0 in let low = id_low xs (m + 1) e from.1 j in absurd (omega (arith, low))
  unique_id (x ∷ xs) m c e from (inr i) (inl q) same = let is : number e ≡ m = ap number q ∙ from.0 in let low = id_low xs (m + 1) c from.1 i in absurd (omega (arith, low))
  unique_id (x ∷ xs) m c e from (inr i) (inr j) same = unique_id xs (m + 1) c e from.1 i j same

  pub get_in : (h : List X) (i : ℕ) (c : X) → slice_get h i ≡ Some c → In c h
  get_in [] i c e = let no : ◌≡◌ {A = Option X} None (Some c) = e in cc
  get_in (x ∷ xs) zero c e = let is : ◌≡◌ {A = Option X} (Some x) (Some c) = e in inl cc
  get_in (x ∷ xs) (suc i) c e = inr (get_in xs i c e)

  pub read_at : (xs : List X) (m n : ℕ) → AreFrom m (map number xs) → m ≤ n → n < m + length xs → (c : X) × (slice_get xs (n - m) ≡ Some c) × In c xs × (number c ≡ n)
  read_at [] m n from low high = absurd (omega arith)
  read_at (x ∷ xs) m n from low high = elim (cases_eq m n) [
    | inl e ↦ let zero_of : n - m ≡ 0 = omega arith in (x, subst (λ (k : ℕ). slice_get (x ∷ xs) k ≡ Some x) (sym zero_of) refl, inl refl, from.0 ∙ e)
    | inr off ↦
        let apart : m ≢ n = off in
        let (c, is, i, same) = read_at xs (m + 1) n from.1 (omega arith) (omega arith) in
        let next : n - m ≡ suc (n - (m + 1)) = omega arith in
        (c, subst (λ (k : ℕ). slice_get (x ∷ xs) k ≡ Some c) (sym next) is, inr i, same)
  ]

  pub from_push : (xs : List X) (m : ℕ) (c : X) → AreFrom m (map number xs) → number c ≡ m + length xs → AreFrom m (map number (xs ++ c ∷ []))
  from_push [] m c h e = (let is : number c ≡ m = omega arith in is, tt)
  from_push (x ∷ xs) m c h e = (h.0, from_push xs (m + 1) c h.1 (omega arith))
