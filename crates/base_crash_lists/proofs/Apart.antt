-- The names of two stanzas differ.
use Rattle.std.proofs.Common.{◌≡◌, ◌⊎◌, inl, inr, ⊎_elim, ℕ, Bool, true, false, [], ◌∷◌, ◌++◌, length, take, drop, get_or, refl, sym, ◌∙◌, ap, ap₂, arith, append_assoc}
use Rattle.std.specs.Prelude.{Contains, bytes_eq, ◌||◌, codes}
use Rattle.std.proofs.lemmas.List.{take-append-drop, append_cancel_left}
use Rattle.std.proofs.lemmas.List.Elements.{Contains-append_right}
use Rattle.std.proofs.lemmas.Slice.Eq.{bytes_eq-Decides}
use Rattle.base_devices.specs.Content.{Name, is_below}
use Rattle.base_model.specs.Text.{Text}
use Rattle.base_model.specs.Names.{is_of_stanza, archive_folder, backup_folder}
use Rattle.base_crash_lists.specs.Beside.{IsStanza}

-- a path has one first folder
one_prefix : (a b x y : Name) → (Contains a 47 → ⊥) → (Contains b 47 → ⊥) → a ++ 47 ∷ x ≡ b ++ 47 ∷ y → a ≡ b
one_prefix [] [] x y p q e = refl
one_prefix [] (d ∷ b) x y p q e = let h : d ≡ 47 = cc in absurd (q (0, omega arith, h))
one_prefix (c ∷ a) [] x y p q e = let h : c ≡ 47 = cc in absurd (p (0, omega arith, h))
one_prefix (c ∷ a) (d ∷ b) x y p q e =
    let same : c ≡ d = cc in
    let rest : a ++ 47 ∷ x ≡ b ++ 47 ∷ y = cc in
    let r = one_prefix a b x y (λ h. p (Contains-append_right (c ∷ []) a 47 h)) (λ h. q (Contains-append_right (d ∷ []) b 47 h)) rest in
    ap₂ (λ (k : ℕ) (l : Name). k ∷ l) same r

-- what lies below a folder has it in front
below_is : (folder path : Name) → is_below folder path ≡ true → path ≡ folder ++ 47 ∷ drop (length (folder ++ 47 ∷ [])) path
below_is folder path h =
    let prefix = folder ++ 47 ∷ [] in
    let e : prefix ≡ take (length prefix) path = (bytes_eq-Decides prefix (take (length prefix) path)).0 h in
    sym (take-append-drop (length prefix) path) ∙ ap (λ (t : Name). t ++ drop (length prefix) path) (sym e) ∙ append_assoc folder (47 ∷ []) (drop (length prefix) path)

-- the name is in one of the two folders
either_folder : (a b : Bool) → (a || b) ≡ true → (a ≡ true) ⊎ (b ≡ true)
either_folder true b h = inl refl
either_folder false b h = inr h

of_folder : (stanza n : Text) → is_of_stanza stanza n ≡ true → ((rest : Text) × (n ≡ codes "archive" ++ 47 ∷ (stanza ++ 47 ∷ rest))) ⊎ ((rest : Text) × (n ≡ codes "backup" ++ 47 ∷ (stanza ++ 47 ∷ rest)))
of_folder stanza n h = ⊎_elim
    (λ a. inl (drop (length (archive_folder stanza ++ 47 ∷ [])) n, below_is (archive_folder stanza) n a))
    (λ b. inr (drop (length (backup_folder stanza ++ 47 ∷ [])) n, below_is (backup_folder stanza) n b))
    (either_folder (is_below (archive_folder stanza) n) (is_below (backup_folder stanza) n) h)

module _ (s c : Text) (is_s : IsStanza s) (is_c : IsStanza c) where
  -- a name that is of both is of one stanza
  pub one_stanza : (n : Text) → is_of_stanza s n ≡ true → is_of_stanza c n ≡ true → s ≡ c
  one_stanza n in_s in_c = go (of_folder s n in_s) (of_folder c n in_c)
    where
      go : ((rest : Text) × (n ≡ codes "archive" ++ 47 ∷ (s ++ 47 ∷ rest))) ⊎ ((rest : Text) × (n ≡ codes "backup" ++ 47 ∷ (s ++ 47 ∷ rest)))
          → ((rest : Text) × (n ≡ codes "archive" ++ 47 ∷ (c ++ 47 ∷ rest))) ⊎ ((rest : Text) × (n ≡ codes "backup" ++ 47 ∷ (c ++ 47 ∷ rest))) → s ≡ c
      go (inl a) (inl b) = one_prefix s c a.0 b.0 is_s is_c (append_cancel_left (codes "archive" ++ 47 ∷ []) (s ++ 47 ∷ a.0) (c ++ 47 ∷ b.0) (sym a.1 ∙ b.1))
      go (inr a) (inr b) = one_prefix s c a.0 b.0 is_s is_c (append_cancel_left (codes "backup" ++ 47 ∷ []) (s ++ 47 ∷ a.0) (c ++ 47 ∷ b.0) (sym a.1 ∙ b.1))
      go (inl a) (inr b) = let h : ◌≡◌ {A = ℕ} 97 98 = ap (λ (t : Text). get_or t 0 0) (sym a.1 ∙ b.1) in absurd (omega (arith, h))
      go (inr a) (inl b) = let h : ◌≡◌ {A = ℕ} 98 97 = ap (λ (t : Text). get_or t 0 0) (sym a.1 ∙ b.1) in absurd (omega (arith, h))

  -- where they differ no name of the one is of the other
  pub beside : bytes_eq s c ≡ false → (n : Text) → is_of_stanza s n ≡ true → is_of_stanza c n ≡ false
  beside differ n in_s = go (is_of_stanza c n) refl
    where
      go : (b : Bool) → is_of_stanza c n ≡ b → is_of_stanza c n ≡ false
      go false e = e
      go true e = let same = (bytes_eq-Decides s c).1 (one_stanza n in_s e) in let u : ◌≡◌ {A = Bool} false true = sym differ ∙ same in cc
