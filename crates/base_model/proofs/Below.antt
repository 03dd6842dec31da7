-- The names that are looked at lie below the stanza's folders.
use Rattle.std.proofs.Common.{◌≡◌, inl, inr, ⊎_elim, Bool, true, [], ◌∷◌, ◌++◌, length, take, refl, sym, ◌∙◌, ap, arith, append_assoc, Option, Some, None}
use Rattle.std.specs.Prelude.{bytes_eq, codes, ◌||◌, decimal}
use Rattle.std.proofs.lemmas.List.{take_at}
use Rattle.std.proofs.lemmas.Grind.{common_steps}
use Rattle.std.proofs.lemmas.Slice.Eq.{bytes_eq-Decides}
use Rattle.base_devices.specs.Content.{Name, Content, is_below}
use Rattle.base_model.specs.declared.labels.Label.{Label}
use Rattle.base_model.specs.declared.files.Bundled.{Bundled}
use Rattle.base_model.specs.Text.{Text, ◌⫽◌}
use Rattle.base_model.specs.Names.{is_of_stanza, copy_of, archive_folder, backup_folder, manifest_name, label_text, label_folder, id_text, archive_text}
use Rattle.base_text.specs.Sum.{sum_text}
use Rattle.base_model.specs.Values.{FileEntry}
use Rattle.base_model.specs.Place.{place_by, holder}
use Rattle.base_model.specs.Log.{IsFixed, Pair, File, Manifested, IsPlaceOf, IsPairMember}

pub below_prefix : (folder rest name : Name) → name ≡ folder ++ 47 ∷ rest → is_below folder name ≡ true
below_prefix folder rest name is =
    let prefix = folder ++ 47 ∷ [] in
    let split : name ≡ prefix ++ rest = is ∙ sym (append_assoc folder (47 ∷ []) rest) in
    ap (λ (n : Name). bytes_eq prefix (take (length prefix) n)) split ∙ ap (bytes_eq prefix) (take_at prefix rest (length prefix) refl) ∙ (bytes_eq-Decides prefix prefix).1 refl

or_left : (a b : Bool) → a ≡ true → (a || b) ≡ true
or_left a b h = grind (arith, common_steps)

or_right : (a b : Bool) → b ≡ true → (a || b) ≡ true
or_right a b h = grind (arith, common_steps)

in_archive : (stanza name rest : Text) → name ≡ archive_folder stanza ++ 47 ∷ rest → is_of_stanza stanza name ≡ true
in_archive stanza name rest is = or_left _ _ (below_prefix (archive_folder stanza) rest name is)

in_backup : (stanza name rest : Text) → name ≡ backup_folder stanza ++ 47 ∷ rest → is_of_stanza stanza name ≡ true
in_backup stanza name rest is = or_right _ _ (below_prefix (backup_folder stanza) rest name is)

pair_of : (stanza n : Text) → IsPairMember stanza n → is_of_stanza stanza n ≡ true
pair_of stanza n (inl e) = in_archive stanza n (codes "archive.info") e
pair_of stanza n (inr (inl e)) = in_archive stanza n (codes "archive.info.copy") (e ∙ append_assoc (archive_folder stanza) (47 ∷ codes "archive.info") (codes ".copy"))
pair_of stanza n (inr (inr (inl e))) = in_backup stanza n (codes "backup.info") e
pair_of stanza n (inr (inr (inr e))) = in_backup stanza n (codes "backup.info.copy") (e ∙ append_assoc (backup_folder stanza) (47 ∷ codes "backup.info") (codes ".copy"))

-- a name in a label's folder
in_label : (stanza name : Text) (l : Label) (rest : Text) → name ≡ label_folder stanza l ++ 47 ∷ rest → is_of_stanza stanza name ≡ true
in_label stanza name l rest is = in_backup stanza name (label_text l ++ 47 ∷ rest) (is ∙ append_assoc (backup_folder stanza) (47 ∷ label_text l) (47 ∷ rest))

pub fixed_of : (stanza n : Text) → IsFixed stanza n → is_of_stanza stanza n ≡ true
fixed_of stanza n (Pair m) = pair_of stanza n m
fixed_of stanza n (File m) = in_archive stanza n (id_text m.id ⫽ archive_text m.file (sum_text m.sum)) m.is
fixed_of stanza n (Manifested m) = ⊎_elim
    (λ (e : n ≡ manifest_name stanza m.0). in_label stanza n m.0 (codes "backup.manifest") e)
    (λ (e : n ≡ copy_of (manifest_name stanza m.0)). in_label stanza n m.0 (codes "backup.manifest.copy") (e ∙ append_assoc (label_folder stanza m.0) (47 ∷ codes "backup.manifest") (codes ".copy"))) m.1

lies_by : (stanza : Text) (l : Label) (e : FileEntry) (b : Option Bundled) (n : Text) → n ≡ (place_by stanza l e b).0 → is_of_stanza stanza n ≡ true
lies_by stanza l e None n is = in_label stanza n (holder l e) (codes "pg_data" ⫽ e.path) is
lies_by stanza l e (Some b) n is = in_label stanza n (holder l e) (codes "bundle" ⫽ decimal b.number) is

pub places_of : (stanza : Text) (f : Content) (n : Text) → IsPlaceOf stanza f n → is_of_stanza stanza n ≡ true
places_of stanza f n p = lies_by stanza p.label p.entry p.entry.bundle n p.is
