-- All names that a backup changes lie in its stanza's folders.
use Rattle.std.proofs.Common.{◌≡◌, inl, inr, Bool, true, false, [], ◌∷◌, ◌++◌, length, take, drop, refl, sym, ◌∙◌, ap, subst, append_assoc}
use Rattle.std.specs.Prelude.{codes}
use Rattle.std.proofs.lemmas.List.{take-append-drop}
use Rattle.std.proofs.lemmas.Slice.Eq.{bytes_eq-Decides}
use Rattle.base_devices.specs.Content.{Name, is_below}
use Rattle.base_devices.specs.Moments.{View}
use Rattle.base_devices.specs.Crash.{IsTemporary}
use Rattle.base_devices.proofs.Steps.{goes_wide}
use Rattle.base_disk.specs.Store.{ChangesOnly}
use Rattle.base_model.specs.declared.labels.Label.{Label}
use Rattle.base_model.specs.Text.{Text, ◌⫽◌}
use Rattle.base_model.specs.Names.{is_of_stanza, backup_folder, label_folder, label_text, manifest_name, backup_info}
use Rattle.base_model.specs.Log.{Pair, Manifested}
use Rattle.base_model.proofs.Below.{fixed_of}
use Rattle.repo_pair.specs.Member.{IsOfPair}
use Rattle.base_crash_lists.specs.Beside.{StaysBeside}
use Rattle.base_crash_lists.proofs.Named.{in_backup}
use Rattle.base_crash_lists.proofs.Stays.{beside_on}
use Rattle.backup_sink.specs.Keeping.{is_own}
use Rattle.backup_sink.specs.Relation.{Touches}
use Rattle.backup_sink.proofs.Synced.{own_below}

both_ways : {X : Type 0} (b : Bool) → b ≡ true → b ≡ false → X
both_ways b is out = let u : ◌≡◌ {A = Bool} true false = sym is ∙ out in cc

-- calls whose names are all of one stanza keep to it
only_beside : (stanza : Text) (these : Name → Type 0) (a b : View) → ((n : Name) → these n → is_of_stanza stanza n ≡ true) → ChangesOnly these a b → StaysBeside stanza a b
only_beside stanza these a b of p = record {
  now = λ n out. p.now n (λ h. both_ways (is_of_stanza stanza n) (of n h) out);
  time = goes_wide (λ n _. these n) (λ n _. is_of_stanza stanza n ≡ true) (λ n. these n × IsTemporary n) (λ n. is_of_stanza stanza n ≡ true) a b (λ n v h. of n h) (λ n h. of n h.0) p.time;
}

-- what lies below a folder has it in front
below_is : (folder path : Name) → is_below folder path ≡ true → path ≡ folder ++ 47 ∷ drop (length (folder ++ 47 ∷ [])) path
below_is folder path h =
    let prefix = folder ++ 47 ∷ [] in
    let e : prefix ≡ take (length prefix) path = (bytes_eq-Decides prefix (take (length prefix) path)).0 h in
    sym (take-append-drop (length prefix) path) ∙ ap (λ (t : Name). t ++ drop (length prefix) path) (sym e) ∙ append_assoc folder (47 ∷ []) (drop (length prefix) path)

own_of : (stanza : Text) (l : Label) (n : Name) → is_own (label_folder stanza l) n ≡ true → is_of_stanza stanza n ≡ true
own_of stanza l n h =
    let rest = drop (length (label_folder stanza l ++ 47 ∷ [])) n in
    in_backup stanza n (label_text l ++ 47 ∷ rest) (below_is (label_folder stanza l) n (own_below (label_folder stanza l) n h) ∙ append_assoc (backup_folder stanza) (47 ∷ label_text l) (47 ∷ rest))

manifest_of : (stanza : Text) (l : Label) (n : Name) → IsOfPair (manifest_name stanza l) n → is_of_stanza stanza n ≡ true
manifest_of stanza l n (inl e) = in_backup stanza n (label_text l ⫽ codes "backup.manifest.pgbackrest.tmp")
    (e ∙ append_assoc (label_folder stanza l) (47 ∷ codes "backup.manifest") (codes ".pgbackrest.tmp") ∙ append_assoc (backup_folder stanza) (47 ∷ label_text l) (47 ∷ codes "backup.manifest.pgbackrest.tmp"))
manifest_of stanza l n (inr (inl e)) = fixed_of stanza n (Manifested (l, inl e))
manifest_of stanza l n (inr (inr e)) = fixed_of stanza n (Manifested (l, inr e))

list_of : (stanza : Text) (n : Name) → IsOfPair (backup_info stanza) n → is_of_stanza stanza n ≡ true
list_of stanza n (inl e) = in_backup stanza n (codes "backup.info.pgbackrest.tmp") (e ∙ append_assoc (backup_folder stanza) (47 ∷ codes "backup.info") (codes ".pgbackrest.tmp"))
list_of stanza n (inr (inl e)) = fixed_of stanza n (Pair (inr (inr (inl e))))
list_of stanza n (inr (inr e)) = fixed_of stanza n (Pair (inr (inr (inr e))))

-- while the bytes are stored
pub fetched_beside : (stanza : Text) (label : Label) (a b : View) → Touches (is_own (label_folder stanza label)) a b → StaysBeside stanza a b
fetched_beside stanza label a b touches = record {
  now = λ n out. touches.now n (outside n out (is_own (label_folder stanza label) n) refl);
  time = goes_wide (λ n _. is_own (label_folder stanza label) n ≡ true) (λ n _. is_of_stanza stanza n ≡ true) (λ n. is_own (label_folder stanza label) n ≡ true) (λ n. is_of_stanza stanza n ≡ true) a b
      (λ n v h. own_of stanza label n h) (λ n h. own_of stanza label n h) touches.time;
}
  where
    outside : (n : Name) → is_of_stanza stanza n ≡ false → (o : Bool) → is_own (label_folder stanza label) n ≡ o → is_own (label_folder stanza label) n ≡ false
    outside n out false e = e
    outside n out true e = both_ways (is_of_stanza stanza n) (own_of stanza label n e) out

module _ (stanza : Text) (b : View) (own : Label) (e : View) (saved : ChangesOnly (IsOfPair (manifest_name stanza own)) b e) where
  -- while the manifest is saved
  pub saved_beside : StaysBeside stanza b e
  saved_beside = only_beside stanza (IsOfPair (manifest_name stanza own)) b e (manifest_of stanza own) saved

  -- and while the list is, at the name that it was given
  pub listed_beside : (d : View) (name : Name) → name ≡ backup_info stanza → ChangesOnly (IsOfPair name) e d → StaysBeside stanza b d
  listed_beside d name is p = beside_on stanza b e d saved_beside
      (only_beside stanza (IsOfPair (backup_info stanza)) e d (list_of stanza) (subst (λ (n : Name). ChangesOnly (IsOfPair n) e d) is p))
