-- The folders through which the names of a listing lead.
use Rattle.std.proofs.Common.{◌≡◌, ◌⊎◌, inl, inr, ⊎_elim, ℕ, ◌+◌, ◌<◌, List, [], ◌∷◌, ◌++◌, length, take, map, get_or, Option, Some, None, refl, sym, ◌∙◌, ap, ap₂, subst, arith, string_bytes, true, append_assoc}
use Rattle.std.specs.Prelude.{String, Contains, IsSome}
use Rattle.std.specs.declared.alloc.Global.{Global}
use Rattle.std.proofs.lemmas.List.{take_more}
use Rattle.std.proofs.lemmas.List.Elements.{Contains-append_left, Contains-append_right, Contains-push, Contains-push_cases, Contains-append_cases}
use Rattle.base_devices.specs.declared.disk.Found.{Found}
use Rattle.base_devices.specs.Content.{Name, Content, is_below, IsListing, IsFolderName, AreFolders}
use Rattle.memory_devices.proofs.Slashes.{below_of}

-- ---- a path has one first folder

pub one_prefix : (a b x y : Name) → (Contains a 47 → ⊥) → (Contains b 47 → ⊥) → a ++ 47 ∷ x ≡ b ++ 47 ∷ y → a ≡ b
one_prefix [] [] x y p q e = refl
one_prefix [] (d ∷ b) x y p q e = let h : d ≡ 47 = cc in absurd (q (0, omega arith, h))
one_prefix (c ∷ a) [] x y p q e = let h : c ≡ 47 = cc in absurd (p (0, omega arith, h))
one_prefix (c ∷ a) (d ∷ b) x y p q e =
    let same : c ≡ d = cc in
    let rest : a ++ 47 ∷ x ≡ b ++ 47 ∷ y = cc in
    let r = one_prefix a b x y (λ h. p (Contains-append_right (c ∷ []) a 47 h)) (λ h. q (Contains-append_right (d ∷ []) b 47 h)) rest in
    ap₂ (λ (k : ℕ) (l : Name). k ∷ l) same r

pub has_slash : (x rest path : Name) → path ≡ x ++ 47 ∷ rest → Contains path 47
has_slash x rest path e = subst (λ (l : Name). Contains l 47) (sym e) (Contains-append_right x (47 ∷ rest) 47 (0, omega arith, refl))

-- ---- those of a listing

first_or_later : {X : Type 0} (y : X) (ys : List X) (x : X) → Contains (y ∷ ys) x → (y ≡ x) ⊎ Contains ys x
first_or_later y ys x has = ⊎_elim
    (λ h. ⊎_elim (λ (none : Contains [] x). absurd (omega (arith, none.1))) (λ e. inl e) (Contains-push_cases [] y x h))
    (λ h. inr h) (Contains-append_cases (y ∷ []) ys x has)

abbrev pub pair_of : Found → Name × ℕ
pair_of x = (string_bytes x.name, x.size)

-- names of folders, among them each through which one of these leads
pub record AreThrough (folder : Name) (found : List Found) (known : List Name) : Type 0 where
  pub each : (x : Name) → Contains known x → IsFolderName x
  pub all : (y : Found) (x rest : Name) → Contains found y → IsFolderName x → string_bytes y.name ≡ folder ++ 47 ∷ x ++ 47 ∷ rest → Contains known x

-- what one more name does
abbrev pub Adds : Name → Found → List Name → List Name → Type 0
Adds folder y before after = (x rest : Name) → IsFolderName x → string_bytes y.name ≡ folder ++ 47 ∷ x ++ 47 ∷ rest → Contains after x

pub through_more : (folder : Name) (found : List Found) (i : ℕ) (y : Found) (before after : List Name) → i < length found → y ≡ get_or found i y → AreThrough folder (take i found) before
    → ((x : Name) → Contains before x → Contains after x) → ((x : Name) → Contains after x → IsFolderName x) → Adds folder y before after → AreThrough folder (take (i + 1) found) after
through_more folder found i y before after lt is kept grows each adds = record {
  each = each;
  all = λ z x rest has named e.
      let more : take (i + 1) found ≡ take i found ++ y ∷ [] = take_more found i y lt ∙ ap (λ (w : Found). take i found ++ w ∷ []) (sym is) in
      ⊎_elim (λ h. grows x (kept.all z x rest h named e)) (λ (same : y ≡ z). adds x rest named (ap (λ (w : Found). string_bytes w.name) same ∙ e))
      (Contains-push_cases (take i found) y z (subst (λ (l : List Found). Contains l z) more has));
}

texts_push : (texts : List (String Global)) (x : String Global) → map string_bytes (texts ++ x ∷ []) ≡ map string_bytes texts ++ string_bytes x ∷ []
texts_push [] x = refl
texts_push (y ∷ texts) x = ap (λ (l : List Name). string_bytes y ∷ l) (texts_push texts x)

-- the loop's steps
module _ (folder : Name) (found : List Found) (i : ℕ) (y : Found) (before after : List (String Global)) (lt : i < length found) (is : y ≡ get_or found i y)
    (kept : AreThrough folder (take i found) (map string_bytes before)) where
  -- the one folder through which the name leads, where it leads through any
  abbrev LeadsBy : Option Name → Type 0
  LeadsBy within = (z rest : Name) → IsFolderName z → string_bytes y.name ≡ folder ++ 47 ∷ z ++ 47 ∷ rest → within ≡ Some z

  pub through_known : (x : String Global) (within : Name) → after ≡ before ++ x ∷ [] → string_bytes x ≡ within → IsFolderName within → LeadsBy (Some within) → AreThrough folder (take (i + 1) found) (map string_bytes after)
  through_known x within grown named fits leads =
      let more : map string_bytes after ≡ map string_bytes before ++ within ∷ [] = ap (λ (l : List (String Global)). map string_bytes l) grown ∙ texts_push before x ∙ ap (λ (n : Name). map string_bytes before ++ n ∷ []) named in
      subst (λ (l : List Name). AreThrough folder (take (i + 1) found) l) (sym more) (through_more folder found i y (map string_bytes before) (map string_bytes before ++ within ∷ []) lt is kept
      (λ z h. Contains-append_left (map string_bytes before) (within ∷ []) z h)
      (λ z h. ⊎_elim (kept.each z) (λ (e : within ≡ z). subst (λ (n : Name). IsFolderName n) e fits) (Contains-push_cases (map string_bytes before) within z h))
      (λ z rest h e. let same : within ≡ z = cc (leads z rest h e) in subst (λ (n : Name). Contains (map string_bytes before ++ within ∷ []) n) same (Contains-push (map string_bytes before) within)))

  pub through_passed : after ≡ before → LeadsBy None → AreThrough folder (take (i + 1) found) (map string_bytes after)
  through_passed same leads =
      subst (λ (l : List (String Global)). AreThrough folder (take (i + 1) found) (map string_bytes l)) (sym same) (through_more folder found i y (map string_bytes before) (map string_bytes before) lt is kept
      (λ z h. h) kept.each (λ z rest h e. let none : ◌≡◌ {A = Option Name} None (Some z) = leads z rest h e in cc))

found_as : (found : List Found) (name : Name) (size : ℕ) → Contains (map pair_of found) (name, size) → (y : Found) × Contains found y × (string_bytes y.name ≡ name)
found_as [] name size has = absurd (omega (arith, has.1))
found_as (y ∷ ys) name size has = ⊎_elim
    (λ (e : pair_of y ≡ (name, size)). (y, (0, omega arith, refl), ap (λ (p : Name × ℕ). p.0) e))
    (λ h. let r = found_as ys name size h in (r.0, Contains-append_right (y ∷ []) ys r.0 r.1, r.2))
    (first_or_later (pair_of y) (map pair_of ys) (name, size) has)

value_of : (v : Option Name) → IsSome v → (bytes : Name) × (v ≡ Some bytes)
value_of None some = cc
value_of (Some bytes) some = (bytes, refl)

pub are_folders : (folder : Name) (found : List Found) (known : List Name) → AreThrough folder found known → (f : Content) → IsListing folder f (map pair_of found) → AreFolders folder f known
are_folders folder found known through f listing = record {
  each = through.each;
  all = λ x rest named some.
      let name : Name = folder ++ 47 ∷ x ++ 47 ∷ rest in
      let value = value_of (f name) some in
      let whole : name ≡ folder ++ 47 ∷ (x ++ 47 ∷ rest) = append_assoc folder (47 ∷ x) (47 ∷ rest) in
      let below : is_below folder name ≡ true = ap (is_below folder) whole ∙ below_of folder (x ++ 47 ∷ rest) in
      let y = found_as found name (length value.0) (listing.all name value.0 below value.1) in
      through.all y.0 x rest y.1 named y.2;
}
