-- The folders of labels that aren't listed are removed.
use Rattle.std.proofs.Common.{◌≡◌, ⊎_elim, inl, inr, true, false, List, get_or, Option, Some, None, refl, ap, ◌∙◌, sym, subst, arith}
use Rattle.std.specs.Prelude.{IsSome}
use Rattle.std.proofs.lemmas.Bool.{false≢true}
use Rattle.base_devices.specs.Content.{Content}
use Rattle.base_devices.specs.Moments.{View, is_unsynced}
use Rattle.base_devices.specs.Crash.{Leaves, Crash, NowChanges}
use Rattle.base_devices.proofs.Nows.{known_as}
use Rattle.base_model.specs.declared.labels.Label.{Label}
use Rattle.base_model.specs.Text.{Text, In}
use Rattle.base_model.specs.Names.{archive_info, backup_info, copy_of, manifest_name, label_folder, label_text}
use Rattle.base_model.specs.Values.{FileEntry, Manifest}
use Rattle.base_model.specs.InfoFiles.{IsLabel, IsBackupText}
use Rattle.base_model.specs.ManifestText.{IsManifestText}
use Rattle.base_model.specs.Pair.{PairIs}
use Rattle.base_model.specs.Place.{place_by, holder}
use Rattle.base_model.specs.Repository.{Backup, Stanza}
use Rattle.base_model.specs.Represents.{Represents, HasStanza, IsManifestOf, IsListed, IsArchiveFile, backup_value}
use Rattle.base_model.specs.Log.{IsPlaceOf}
use Rattle.base_model.specs.Now.{NowRepresents}
use Rattle.base_model.specs.Steady.{IsSteady, EachImage}
use Rattle.base_model.proofs.Frame.{pair_same, place_lasts}
use Rattle.base_model.proofs.Passing.{crash_moves}
use Rattle.repo_names.proofs.LabelTexts.{label_text-injective}
use Rattle.expire_rules.specs.Labels.{has_label}
use Rattle.expire_make.specs.Losing.{Loses, IsUnlisted}
use Rattle.expire_make.proofs.Leaving.{all_kept, AgreesOn, has_left, place_left}
use Rattle.base_model.proofs.BackupNames.{IsBackupMember, main_member, copy_member}
use Rattle.base_model.proofs.BackupNames as backup_names
use Rattle.expire_make.proofs.LabelFolders.{below_is, label_begins, manifest_below, copy_below, place_below}

-- the labels are those of the stanza's backups
abbrev pub Covers : List Label → Stanza → Type 0
Covers labels s = (b : Backup) → In b s.backups → has_label labels b.entry.label ≡ true

pub file_begins : (stanza n : Text) → IsArchiveFile stanza n → get_or n 0 0 ≡ 97
file_begins stanza n file = ap (λ t. get_or t 0 0) file.is

module _ (stanza : Text) (labels : List Label) (s : Stanza) (covers : Covers labels s) where
  -- the label of a backup, and of what it refers to, has the form
  form_of : (f : Content) → HasStanza stanza f s → (l : Label) → IsListed s.backups l → IsLabel l
  form_of f h l listed = let x = h.manifests listed.0 listed.1 in
      subst IsLabel (x.2.label ∙ listed.2) (by x.0 (manifest_name stanza listed.0.entry.label) x.1)
    where
      by : (m : Manifest) (name : Text) → PairIs IsManifestText f name m → IsLabel m.label
      by m name (inl r) = r.2.rules.label
      by m name (inr q) = q.1.2.rules.label

  listed_has : (l : Label) → IsListed s.backups l → has_label labels l ≡ true
  listed_has l x = subst (λ (k : Label). has_label labels k ≡ true) x.2 (covers x.0 x.1)

  module _ (f : Content) (h : HasStanza stanza f s) where
    -- a label with the text of a listed one is listed
    off_label : (l m : Label) → IsLabel l → has_label labels l ≡ false → IsListed s.backups m → label_text l ≡ label_text m → ⊥
    off_label l m is off listed same =
        let one : l ≡ m = label_text-injective l m is (form_of f h m listed) same in
        false≢true (sym off ∙ ap (has_label labels) one ∙ listed_has m listed)

    holder_listed : (b : Backup) → In b s.backups → (m : Manifest) → IsManifestOf stanza f s b m → (e : FileEntry) → In e m.files → IsListed s.backups (holder b.entry.label e)
    holder_listed b at m of e in_m = by e.reference refl
      where
        by : (o : Option Label) → e.reference ≡ o → IsListed s.backups (holder b.entry.label e)
        by None is = (b, at, rw is refl)
        by (Some r) is = rw is ((of.ancestors r ((of.references r).1 (e, in_m, is))).1)

    module _ (g : Content) (loses : Loses (IsUnlisted stanza labels) f g) where
      same_at : (n : Text) → (IsUnlisted stanza labels n → ⊥) → g n ≡ f n
      same_at n off = ⊎_elim (λ e. e) (λ (x : IsUnlisted stanza labels n × (g n ≡ None)). absurd (off x.0)) (loses n)

      in_archive : (n : Text) → get_or n 0 0 ≡ 97 → g n ≡ f n
      in_archive n first = same_at n (λ u. absurd (omega (arith, first, label_begins stanza u.label n u.below)))

      member_same : (n : Text) → IsBackupMember stanza n → g n ≡ f n
      member_same n member = same_at n (λ u. let r = below_is (label_folder stanza u.label) n u.below in backup_names.below_label stanza u.label r.0 member.0 member.2 (sym r.1 ∙ member.1))

      agrees : AgreesOn stanza s s.backups f g
      agrees = record {
        archive = in_archive (archive_info stanza) refl;
        archive_copy = in_archive (copy_of (archive_info stanza)) refl;
        listed = λ b at. (
          same_at (manifest_name stanza b.entry.label) (λ u. off_label u.label b.entry.label u.is_label u.not_listed (b, at, refl) (manifest_below stanza u.label b.entry.label u.below)),
          same_at (copy_of (manifest_name stanza b.entry.label)) (λ u. off_label u.label b.entry.label u.is_label u.not_listed (b, at, refl) (copy_below stanza u.label b.entry.label u.below)),
        );
        places = λ b at m of e in_m filled. same_at (place_by stanza b.entry.label e e.bundle).0 (λ u. off_label u.label (holder b.entry.label e) u.is_label u.not_listed (holder_listed b at m of e in_m) (place_below stanza u.label b.entry.label e e.bundle u.below));
      }

      pair : PairIs IsBackupText g (backup_info stanza) (backup_value s h.pending)
      pair = pair_same IsBackupText f g (backup_info stanza) (backup_value s h.pending) (member_same (backup_info stanza) (main_member stanza)) (member_same (copy_of (backup_info stanza)) (copy_member stanza)) h.backup_pair

      pub dropped_has : HasStanza stanza g s
      dropped_has = has_left stanza f g s s.backups s.archived h (all_kept s) agrees h.pending h.is_pending pair h.named
          (λ n bytes file. let e = in_archive n (file_begins stanza n file) in ((λ is. (h.archived n bytes file).0 (sym e ∙ is)), (λ x. e ∙ (h.archived n bytes file).1 x)))

      pub dropped_places : (n : Text) → IsPlaceOf stanza g n → IsPlaceOf stanza f n
      dropped_places = place_left stanza f g s s.backups s.archived h (all_kept s) agrees h.pending h.is_pending pair

  module _ (a d : View) (steady : IsSteady stanza (Some s) a) (known : IsSome a.now) (crash : Crash (Loses (IsUnlisted stanza labels)) a d) where
    places : (g : Content) → Leaves d d.moment g → (n : Text) → IsPlaceOf stanza g n → is_unsynced d n ≡ false
    places g leaves n p =
        let x = crash.comes known d.moment g crash.later (omega arith) leaves in
        crash.synced d.moment n crash.later (omega arith) (place_lasts stanza g n p) (steady.places x.0 x.1 n (dropped_places x.0 (steady.represents x.0 x.1) g x.2 n p))

    pub dropped_moves : EachImage stanza (λ g. Represents stanza g (Some s)) a d
    dropped_moves = crash_moves stanza (Some s) (Loses (IsUnlisted stanza labels)) a d steady known crash (λ g. Represents stanza g (Some s)) (λ f g h x. dropped_has f h g x) places

    pub dropped_steady : IsSteady stanza (Some s) d
    dropped_steady = record { fixed = dropped_moves.fixed; places = dropped_moves.places; represents = λ g leaves. dropped_moves.leaves d.moment g crash.later (omega arith) leaves }

  pub dropped_now : (old new : Option Content) → IsSome old → NowRepresents stanza (Some s) old → NowChanges (Loses (IsUnlisted stanza labels)) old new → NowRepresents stanza (Some s) new
  dropped_now old new some now goes = let f = known_as old some in record { represents = λ g is. dropped_has f.0 (now.represents f.0 f.1) g (goes.goes f.0 g f.1 is) }
