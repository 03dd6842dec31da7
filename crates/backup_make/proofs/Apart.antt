-- The names of a backup's two pairs are none at which its bytes are stored.
use Rattle.std.proofs.Common.{◌≡◌, ◌≢◌, ◌<◌, ℕ, zero, suc, Bool, true, false, [], ◌∷◌, ◌++◌, length, take, drop, get_or, refl, sym, ◌∙◌, ap, subst, arith, inl, inr, append_assoc, take-append-drop, length-append}
use Rattle.std.specs.Prelude.{codes, ◌||◌}
use Rattle.std.proofs.lemmas.Bool.{false_from_ne_true}
use Rattle.std.proofs.lemmas.List.{append_cancel_left}
use Rattle.std.proofs.lemmas.Slice.Eq.{bytes_eq-Decides}
use Rattle.base_devices.specs.Content.{Name, is_below}
use Rattle.base_model.specs.declared.labels.Label.{Label}
use Rattle.base_model.specs.Text.{Text, ◌⫽◌}
use Rattle.base_model.specs.Names.{copy_of, backup_info, backup_folder, label_folder, label_text, manifest_name}
use Rattle.base_model.specs.Log.{Manifested}
use Rattle.base_model.proofs.Temporary.{fixed_lasts, pair_lasts}
use Rattle.base_model.proofs.NameLemmas.{copy_apart}
use Rattle.backup_sink.specs.Keeping.{is_own}
use Rattle.backup_make.specs.Made.{AreApart}

get_prefix : (x t : Name) (k : ℕ) → k < length x → get_or (x ++ t) k 0 ≡ get_or x k 0
get_prefix [] t k lt = absurd (omega (arith, lt))
get_prefix (c ∷ x) t zero lt = refl
get_prefix (c ∷ x) t (suc k) lt = get_prefix x t k (omega (arith, lt))

-- a name that differs from the folder's at a byte isn't below it
pub not_below : (prefix x rest : Name) (k : ℕ) → k < length x → get_or rest k 0 ≢ get_or x k 0 → is_below (prefix ⫽ x) (prefix ⫽ rest) ≡ false
not_below prefix x rest k lt off = false_from_ne_true (is_below (prefix ⫽ x) (prefix ⫽ rest)) (λ (h : is_below (prefix ⫽ x) (prefix ⫽ rest) ≡ true).
    let whole = (prefix ⫽ x) ++ 47 ∷ [] in
    let tail = drop (length whole) (prefix ⫽ rest) in
    let same : whole ≡ take (length whole) (prefix ⫽ rest) = (bytes_eq-Decides whole (take (length whole) (prefix ⫽ rest))).0 h in
    let all : prefix ++ 47 ∷ rest ≡ whole ++ tail = sym (take-append-drop (length whole) (prefix ⫽ rest)) ∙ ap (λ (l : Name). l ++ tail) (sym same) in
    let moved : whole ++ tail ≡ prefix ++ 47 ∷ (x ++ 47 ∷ tail) = append_assoc (prefix ⫽ x) (47 ∷ []) tail ∙ append_assoc prefix (47 ∷ x) (47 ∷ tail) in
    let cut : 47 ∷ rest ≡ 47 ∷ (x ++ 47 ∷ tail) = append_cancel_left prefix (47 ∷ rest) (47 ∷ (x ++ 47 ∷ tail)) (all ∙ moved) in
    off (ap (λ (l : Name). get_or l (suc k) 0) cut ∙ get_prefix x (47 ∷ tail) k lt))

neither : (a b : Bool) → a ≡ false → b ≡ false → (a || b) ≡ false
neither false false e f = refl
neither true b e f = cc
neither false true e f = cc

module _ (stanza : Text) (label : Label) (some : 0 < length (label_text label)) (first : get_or (label_text label) 0 0 ≢ 98) where
  abbrev folder : Text
  folder = label_folder stanza label

  -- directly in the label's folder
  in_folder : (rest : Name) → get_or rest 0 0 ≡ 98 → get_or rest 1 0 ≡ 97 → is_own folder (folder ⫽ rest) ≡ false
  in_folder rest b a = neither _ _ (not_below folder (codes "pg_data") rest 0 (omega arith) (λ e. let h : 98 ≡ 112 = sym b ∙ e in omega (arith, h))) (not_below folder (codes "bundle") rest 1 (omega arith) (λ e. let h : 97 ≡ 117 = sym a ∙ e in omega (arith, h)))

  -- directly in the stanza's
  in_stanza : (rest : Name) → get_or rest 0 0 ≡ 98 → is_own folder (backup_folder stanza ⫽ rest) ≡ false
  in_stanza rest b = neither _ _ (by (codes "pg_data")) (by (codes "bundle"))
    where
      long : (x : Name) → 0 < length (label_text label ++ 47 ∷ x)
      long x = omega (arith, some, length-append (label_text label) (47 ∷ x))

      by : (x : Name) → is_below (folder ⫽ x) (backup_folder stanza ⫽ rest) ≡ false
      by x = subst (λ (q : Name). is_below q (backup_folder stanza ⫽ rest) ≡ false) (sym (append_assoc (backup_folder stanza) (47 ∷ label_text label) (47 ∷ x)))
          (not_below (backup_folder stanza) (label_text label ++ 47 ∷ x) rest 0 (long x) (λ e. first (sym (get_prefix (label_text label) (47 ∷ x) 0 some) ∙ sym e ∙ b)))

  -- a name in the label's folder is none directly in the stanza's
  differ : (x rest : Name) → get_or rest 0 0 ≡ 98 → folder ⫽ x ≢ backup_folder stanza ⫽ rest
  differ x rest b e =
      let cut : 47 ∷ (label_text label ++ 47 ∷ x) ≡ 47 ∷ rest = append_cancel_left (backup_folder stanza) (47 ∷ (label_text label ++ 47 ∷ x)) (47 ∷ rest) (sym (append_assoc (backup_folder stanza) (47 ∷ label_text label) (47 ∷ x)) ∙ e) in
      first (sym (get_prefix (label_text label) (47 ∷ x) 0 some) ∙ ap (λ (l : Name). get_or l 1 0) cut ∙ b)

  copy_in : (prefix rest : Name) → copy_of (prefix ⫽ rest) ≡ prefix ⫽ (rest ++ codes ".copy")
  copy_in prefix rest = append_assoc prefix (47 ∷ rest) (codes ".copy")

  pub are_apart : AreApart (is_own (label_folder stanza label)) (manifest_name stanza label) (backup_info stanza)
  are_apart = record {
    pair_lasts = fixed_lasts stanza (manifest_name stanza label) (Manifested (label, inl refl));
    main_lasts = pair_lasts stanza (backup_info stanza) (inr (inr (inl refl)));
    pair_two = copy_apart (manifest_name stanza label);
    main_two = copy_apart (backup_info stanza);
    pair_out = in_folder (codes "backup.manifest") refl refl;
    copy_out = subst (λ (n : Name). is_own folder n ≡ false) (sym (copy_in folder (codes "backup.manifest"))) (in_folder (codes "backup.manifest.copy") refl refl);
    main_out = in_stanza (codes "backup.info") refl;
    main_copy_out = subst (λ (n : Name). is_own folder n ≡ false) (sym (copy_in (backup_folder stanza) (codes "backup.info"))) (in_stanza (codes "backup.info.copy") refl);
    apart = (differ (codes "backup.manifest") (codes "backup.info") refl, (λ e. differ (codes "backup.manifest") (codes "backup.info.copy") refl (e ∙ copy_in (backup_folder stanza) (codes "backup.info"))));
    copy_apart = (
      λ e. differ (codes "backup.manifest.copy") (codes "backup.info") refl (sym (copy_in folder (codes "backup.manifest")) ∙ e),
      λ e. differ (codes "backup.manifest.copy") (codes "backup.info.copy") refl (sym (copy_in folder (codes "backup.manifest")) ∙ e ∙ copy_in (backup_folder stanza) (codes "backup.info")),
    );
    copy_lasts = fixed_lasts stanza (copy_of (manifest_name stanza label)) (Manifested (label, inr refl));
    main_copy_lasts = pair_lasts stanza (copy_of (backup_info stanza)) (inr (inr (inr refl)));
  }
