-- No name in a backup's folder is that of a member of the backup pair.
use Rattle.std.proofs.Common.{◌≡◌, ◌≢◌, ⊎_elim, ◌∷◌, ◌++◌, ap, ◌∙◌, sym, refl, arith, codes, get_or, append_assoc, decimal, Option, Some, None}
use Rattle.std.proofs.lemmas.List.{append_cancel_left}
use Rattle.base_devices.specs.Content.{Content}
use Rattle.base_model.specs.declared.files.Bundled.{Bundled}
use Rattle.base_model.specs.declared.labels.Label.{Label}
use Rattle.base_model.specs.Dates.{stamp}
use Rattle.base_model.specs.Text.{Text, ◌⫽◌}
use Rattle.base_model.specs.Names.{copy_of, backup_info, backup_folder, label_text, label_folder, manifest_name}
use Rattle.base_model.specs.Values.{FileEntry}
use Rattle.base_model.specs.Place.{place, place_by, holder}
use Rattle.base_model.specs.Log.{IsPlaceOf, IsManifestMember}

-- the ninth byte of a label is a dash
dash : (l : Label) (more : Text) → get_or (label_text l ++ more) 8 0 ≡ 45
unfolding stamp
dash l more = refl

-- a name in a label's folder isn't such a name in the stanza's folder
pub below_label : (stanza : Text) (l : Label) (rest other : Text) → get_or other 8 0 ≡ 110 → label_folder stanza l ⫽ rest ≢ backup_folder stanza ⫽ other
below_label stanza l rest other letter e =
    let below = append_cancel_left (backup_folder stanza) ((47 ∷ label_text l) ++ 47 ∷ rest) (47 ∷ other) (sym (append_assoc (backup_folder stanza) (47 ∷ label_text l) (47 ∷ rest)) ∙ e) in
    let same : get_or (label_text l ++ 47 ∷ rest) 8 0 ≡ get_or other 8 0 = ap (λ (t : Text). get_or t 9 0) below in
    omega (arith, dash l (47 ∷ rest), same, letter)

copy_is : (stanza : Text) → copy_of (backup_info stanza) ≡ backup_folder stanza ⫽ codes "backup.info.copy"
copy_is stanza = append_assoc (backup_folder stanza) (47 ∷ codes "backup.info") (codes ".copy")

-- a member of the backup pair
abbrev pub IsBackupMember : Text → Text → Type 0
IsBackupMember stanza name = (other : Text) × (name ≡ backup_folder stanza ⫽ other) × (get_or other 8 0 ≡ 110)

pub main_member : (stanza : Text) → IsBackupMember stanza (backup_info stanza)
main_member stanza = (codes "backup.info", refl, refl)

pub copy_member : (stanza : Text) → IsBackupMember stanza (copy_of (backup_info stanza))
copy_member stanza = (codes "backup.info.copy", copy_is stanza, refl)

in_label : (stanza : Text) (l : Label) (rest n name : Text) → n ≡ label_folder stanza l ⫽ rest → IsBackupMember stanza name → n ≢ name
in_label stanza l rest n name is member e = below_label stanza l rest member.0 member.2 (sym is ∙ e ∙ member.1)

pub manifest_apart : (stanza n name : Text) → IsManifestMember stanza n → IsBackupMember stanza name → n ≢ name
manifest_apart stanza n name m member = ⊎_elim
    (λ (e : n ≡ manifest_name stanza m.0). in_label stanza m.0 (codes "backup.manifest") n name e member)
    (λ (e : n ≡ copy_of (manifest_name stanza m.0)). in_label stanza m.0 (codes "backup.manifest.copy") n name (e ∙ append_assoc (label_folder stanza m.0) (47 ∷ codes "backup.manifest") (codes ".copy")) member) m.1

pub entry_apart : (stanza : Text) (l : Label) (e : FileEntry) (b : Option Bundled) (name : Text) → IsBackupMember stanza name → (place_by stanza l e b).0 ≢ name
entry_apart stanza l e None name member = in_label stanza (holder l e) _ _ name refl member
entry_apart stanza l e (Some b) name member = in_label stanza (holder l e) _ _ name refl member

pub place_apart : (stanza : Text) (f : Content) (n name : Text) → IsPlaceOf stanza f n → IsBackupMember stanza name → n ≢ name
place_apart stanza f n name p member e = entry_apart stanza p.label p.entry p.entry.bundle name member (sym p.is ∙ e)

-- ---- labels with one text

module _ (stanza : Text) (l m : Label) (same : label_text l ≡ label_text m) where
  pub manifest_same : manifest_name stanza l ≡ manifest_name stanza m
  manifest_same = ap (λ (t : Text). (backup_folder stanza ⫽ t) ⫽ codes "backup.manifest") same

  holder_same : (e : FileEntry) → (r : Option Label) → r ≡ e.reference → label_text (holder l e) ≡ label_text (holder m e)
  holder_same e None is = rw (← is) same
  holder_same e (Some r) is = rw (← is) refl

  by_same : (e : FileEntry) (b : Option Bundled) → (place_by stanza l e b).0 ≡ (place_by stanza m e b).0
  by_same e None = ap (λ (t : Text). (backup_folder stanza ⫽ t) ⫽ codes "pg_data" ⫽ e.path) (holder_same e e.reference refl)
  by_same e (Some b) = ap (λ (t : Text). (backup_folder stanza ⫽ t) ⫽ codes "bundle" ⫽ decimal b.number) (holder_same e e.reference refl)

  pub place_same : (e : FileEntry) → (place stanza l e).0 ≡ (place stanza m e).0
  place_same e = by_same e e.bundle
