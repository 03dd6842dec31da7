-- No name below the folder of a label that isn't listed is looked at.
use Rattle.std.proofs.Common.{◌≡◌, ℕ, true, [], ◌∷◌, ◌++◌, length, take, drop, get_or, Option, Some, None, refl, ap, ◌∙◌, sym, arith, append_assoc}
use Rattle.std.specs.Prelude.{codes, decimal}
use Rattle.std.proofs.lemmas.List.{append_cancel_left, take-append-drop}
use Rattle.std.proofs.lemmas.Slice.Eq.{bytes_eq-Decides}
use Rattle.base_devices.specs.Content.{Name, is_below}
use Rattle.base_model.specs.declared.files.Bundled.{Bundled}
use Rattle.base_model.specs.declared.labels.Later.{Later}
use Rattle.base_model.specs.declared.labels.Label.{Label}
use Rattle.base_model.specs.Dates.{stamp}
use Rattle.base_model.specs.Text.{Text, ◌⫽◌}
use Rattle.base_model.specs.Names.{backup_folder, label_folder, label_text, later_text, manifest_name, copy_of}
use Rattle.base_model.specs.Values.{FileEntry}
use Rattle.base_model.specs.Place.{place_by, holder}
use Rattle.repo_names.proofs.Digits.{seam}

-- ---- a name below a folder

pub below_is : (folder name : Name) → is_below folder name ≡ true → (rest : Name) × (name ≡ folder ++ 47 ∷ rest)
below_is folder name h =
    let prefix = folder ++ 47 ∷ [] in
    let is : prefix ≡ take (length prefix) name = (bytes_eq-Decides prefix (take (length prefix) name)).0 h in
    (drop (length prefix) name, sym (take-append-drop (length prefix) name) ∙ ap (λ (t : Name). t ++ drop (length prefix) name) (sym is) ∙ append_assoc folder (47 ∷ []) (drop (length prefix) name))

-- ---- the text of a label ends before a slash

short_length : (l : Label) → l.later ≡ None → length (label_text l) ≡ 16
unfolding stamp
short_length l e = ap (λ (o : Option Later). length (stamp l.full ++ 70 ∷ later_text o)) e

long_length : (l : Label) (p : Later) → l.later ≡ Some p → length (label_text l) ≡ 33
unfolding stamp
long_length l p e = ap (λ (o : Option Later). length (stamp l.full ++ 70 ∷ later_text o)) e

short_next : (l : Label) (rest : Text) → l.later ≡ None → get_or (label_text l ++ 47 ∷ rest) 16 0 ≡ 47
unfolding stamp
short_next l rest e = ap (λ (o : Option Later). get_or ((stamp l.full ++ 70 ∷ later_text o) ++ 47 ∷ rest) 16 0) e

long_next : (l : Label) (p : Later) (rest : Text) → l.later ≡ Some p → get_or (label_text l ++ 47 ∷ rest) 16 0 ≡ 95
unfolding stamp
long_next l p rest e = ap (λ (o : Option Later). get_or ((stamp l.full ++ 70 ∷ later_text o) ++ 47 ∷ rest) 16 0) e

pub one_text : (l m : Label) (x y : Text) → label_text l ++ 47 ∷ x ≡ label_text m ++ 47 ∷ y → label_text l ≡ label_text m
one_text l m x y e = by l.later m.later refl refl
  where
    long : (n : ℕ) → length (label_text l) ≡ n → length (label_text m) ≡ n → label_text l ≡ label_text m
    long n a b = (seam (label_text l) (label_text m) (47 ∷ x) (47 ∷ y) (a ∙ sym b) e).0

    at : (i j : ℕ) → get_or (label_text l ++ 47 ∷ x) 16 0 ≡ i → get_or (label_text m ++ 47 ∷ y) 16 0 ≡ j → i ≡ j
    at i j a b = sym a ∙ ap (λ (t : Text). get_or t 16 0) e ∙ b

    by : (o p : Option Later) → l.later ≡ o → m.later ≡ p → label_text l ≡ label_text m
    by None None a b = long 16 (short_length l a) (short_length m b)
    by None (Some q) a b = absurd (omega (arith, at 47 95 (short_next l x a) (long_next m q y b)))
    by (Some p) None a b = absurd (omega (arith, at 95 47 (long_next l p x a) (short_next m y b)))
    by (Some p) (Some q) a b = long 33 (long_length l p a) (long_length m q b)

-- names in the folders of two labels
pub in_folders : (stanza : Text) (l m : Label) (x y : Text) → label_folder stanza l ⫽ x ≡ label_folder stanza m ⫽ y → label_text l ≡ label_text m
in_folders stanza l m x y e =
    let following = append_cancel_left (backup_folder stanza) ((47 ∷ label_text l) ++ 47 ∷ x) ((47 ∷ label_text m) ++ 47 ∷ y) (sym (append_assoc (backup_folder stanza) (47 ∷ label_text l) (47 ∷ x)) ∙ e ∙ append_assoc (backup_folder stanza) (47 ∷ label_text m) (47 ∷ y)) in
    one_text l m x y (ap (drop 1) following)

-- what lies below a label's folder, and what lies in one
pub below_label : (stanza : Text) (l m : Label) (n y : Text) → is_below (label_folder stanza l) n ≡ true → n ≡ label_folder stanza m ⫽ y → label_text l ≡ label_text m
below_label stanza l m n y below is = let r = below_is (label_folder stanza l) n below in in_folders stanza l m r.0 y (sym r.1 ∙ is)

pub label_begins : (stanza : Text) (l : Label) (n : Text) → is_below (label_folder stanza l) n ≡ true → get_or n 0 0 ≡ 98
label_begins stanza l n below = let r = below_is (label_folder stanza l) n below in ap (λ t. get_or t 0 0) r.1

-- ---- what is looked at of a label

copy_is : (stanza : Text) (m : Label) → copy_of (manifest_name stanza m) ≡ label_folder stanza m ⫽ codes "backup.manifest.copy"
copy_is stanza m = append_assoc (label_folder stanza m) (47 ∷ codes "backup.manifest") (codes ".copy")

pub manifest_below : (stanza : Text) (l m : Label) → is_below (label_folder stanza l) (manifest_name stanza m) ≡ true → label_text l ≡ label_text m
manifest_below stanza l m below = below_label stanza l m (manifest_name stanza m) (codes "backup.manifest") below refl

pub copy_below : (stanza : Text) (l m : Label) → is_below (label_folder stanza l) (copy_of (manifest_name stanza m)) ≡ true → label_text l ≡ label_text m
copy_below stanza l m below = below_label stanza l m (copy_of (manifest_name stanza m)) (codes "backup.manifest.copy") below (copy_is stanza m)

pub place_below : (stanza : Text) (l m : Label) (e : FileEntry) (b : Option Bundled) → is_below (label_folder stanza l) (place_by stanza m e b).0 ≡ true → label_text l ≡ label_text (holder m e)
place_below stanza l m e None below = below_label stanza l (holder m e) _ (codes "pg_data" ⫽ e.path) below refl
place_below stanza l m e (Some b) below = below_label stanza l (holder m e) _ (codes "bundle" ⫽ decimal b.number) below refl
