-- A stanza of whose pairs members are written anew.
use Rattle.std.proofs.Common.{◌≡◌, ◌≢◌, ⊎_elim, inl, inr, List, [], ◌∷◌, map, Option, Some, None, refl, ap, ◌∙◌, sym, subst, arith, false}
use Rattle.std.specs.Prelude.{IsSome}
use Rattle.std.specs.List.{AllByRecursion}
use Rattle.base_devices.specs.Content.{Content, put}
use Rattle.base_devices.specs.Moments.{View, is_unsynced}
use Rattle.base_devices.specs.Crash.{Alike, Leaves, Crash, NowChanges, Write, SomeOf}
use Rattle.base_devices.proofs.Crashes.{alike_refl}
use Rattle.base_devices.proofs.Nows.{known_as}
use Rattle.base_model.specs.declared.clusters.Cluster.{Cluster}
use Rattle.base_model.specs.declared.labels.Label.{Label}
use Rattle.base_model.specs.Text.{Text, In}
use Rattle.base_model.specs.Names.{archive_info, backup_info, copy_of, manifest_name, label_text}
use Rattle.base_model.specs.Values.{BackupInfo, Manifest}
use Rattle.base_model.specs.Fields.{Field}
use Rattle.base_model.specs.InfoFiles.{IsArchiveText, IsBackupText, entry_field}
use Rattle.base_model.specs.ManifestText.{IsManifestText}
use Rattle.base_model.specs.Pair.{PairIs, MemberIs}
use Rattle.base_model.specs.Repository.{Stanza, Backup}
use Rattle.base_model.specs.Represents.{Represents, HasStanza, IsPending, IsArchiveFile, archive_value, backup_value}
use Rattle.base_model.specs.Log.{IsPlaceOf, Lists}
use Rattle.base_model.specs.Now.{NowRepresents}
use Rattle.base_model.specs.Steady.{IsSteady, EachImage}
use Rattle.base_model.proofs.NameLemmas.{copy_apart, pairs_apart, archive_backup_copy_apart, archive_copy_backup_apart, copies_apart, file_backup_apart, file_backup_copy_apart}
use Rattle.base_model.proofs.Created.{put_other, put_same}
use Rattle.base_model.proofs.Frame.{pair_same, place_past, place_lasts, past_alike, alike_represents}
use Rattle.base_model.proofs.Healed.{healed_represents, put_past}
use Rattle.base_model.proofs.Passing.{crash_moves}
use Rattle.repo_keys.proofs.Numbers.{in_map, map_in}
use Rattle.repo_stanza.specs.HealingPair.{mending_writes}
use Rattle.base_model.proofs.BackupNames.{IsBackupMember, main_member, copy_member, manifest_apart, place_apart, manifest_same, place_same}
use Rattle.repo_stanza.proofs.OneBackup.{pair_agrees}
use Rattle.repo_stanza.proofs.ManifestKept.{entries_of, manifest_kept}

-- g has the stanza, and no place that f doesn't have
pub record Keeps (stanza : Text) (s : Stanza) (f g : Content) : Type 0 where
  pub has : HasStanza stanza g s
  pub places : (n : Text) → IsPlaceOf stanza g n → IsPlaceOf stanza f n

abbrev pub WriteKeeps : Text → Stanza → Write → Type 0
WriteKeeps stanza s w = (f : Content) → HasStanza stanza f s → Keeps stanza s f (put w.0 (Some w.1) f)

pub alike_keeps : (stanza : Text) (s : Stanza) (f g : Content) → HasStanza stanza f s → Alike f g → Keeps stanza s f g
alike_keeps stanza s f g h a = record { has = alike_represents stanza f g (Some s) a h; places = λ n p. place_past stanza f g (past_alike stanza f g a) n p }

-- what each write keeps some of the writes keep
some_keep : (stanza : Text) (s : Stanza) (ws : List Write) → AllByRecursion (WriteKeeps stanza s) ws → (f g : Content) → HasStanza stanza f s → SomeOf ws f g → Keeps stanza s f g
some_keep stanza s [] all f g h a = alike_keeps stanza s f g h a
some_keep stanza s (w ∷ ws) all f g h (inl q) = some_keep stanza s ws all.1 f g h q
some_keep stanza s (w ∷ ws) all f g h (inr q) =
    let first = all.0 f h in
    let rest = some_keep stanza s ws all.1 (put w.0 (Some w.1) f) g first.has q in
    record { has = rest.has; places = λ n p. first.places n (rest.places n p) }

-- ---- the archive pair

module _ (stanza : Text) (s : Stanza) (text : Text) (is : IsArchiveText (archive_value s) text) where
  archive_main : WriteKeeps stanza s (archive_info stanza, text)
  archive_main f h = record {
    has = healed_represents stanza s text is f (put (archive_info stanza) (Some text) f) h (inr (inl (alike_refl _)));
    places = λ n p. place_past stanza f (put (archive_info stanza) (Some text) f) (put_past stanza (archive_info stanza) text f refl) n p;
  }

  pub archive_copy : WriteKeeps stanza s (copy_of (archive_info stanza), text)
  archive_copy f h = record {
    has = healed_represents stanza s text is f (put (copy_of (archive_info stanza)) (Some text) f) h (inl (inr (alike_refl _)));
    places = λ n p. place_past stanza f (put (copy_of (archive_info stanza)) (Some text) f) (put_past stanza (copy_of (archive_info stanza)) text f refl) n p;
  }

-- ---- the backup pair

-- a write at a name of no other kind
record IsApart (stanza name : Text) : Type 0 where
  archive : archive_info stanza ≢ name
  archive_copy : copy_of (archive_info stanza) ≢ name
  files : (n : Text) → IsArchiveFile stanza n → n ≢ name
  member : IsBackupMember stanza name

main_is_apart : (stanza : Text) → IsApart stanza (backup_info stanza)
main_is_apart stanza = record { archive = pairs_apart stanza; archive_copy = archive_copy_backup_apart stanza; files = file_backup_apart stanza; member = main_member stanza }

copy_is_apart : (stanza : Text) → IsApart stanza (copy_of (backup_info stanza))
copy_is_apart stanza = record { archive = archive_backup_copy_apart stanza; archive_copy = copies_apart stanza; files = file_backup_copy_apart stanza; member = copy_member stanza }

module _ (stanza : Text) (s : Stanza) (name text : Text) (apart : IsApart stanza name) (f : Content) (h : HasStanza stanza f s) where
  abbrev g : Content
  g = put name (Some text) f

  other : (n : Text) → n ≢ name → g n ≡ f n
  other n e = put_other name (Some text) f n e

  at_place : (n : Text) → IsPlaceOf stanza f n → g n ≡ f n
  at_place n p = other n (place_apart stanza f n name p apart.member)

  manifest_there : (l : Label) (m : Manifest) → PairIs IsManifestText f (manifest_name stanza l) m → PairIs IsManifestText g (manifest_name stanza l) m
  manifest_there l m p = pair_same IsManifestText f g (manifest_name stanza l) m
      (other _ (manifest_apart stanza _ name (l, inl refl) apart.member)) (other _ (manifest_apart stanza _ name (l, inr refl) apart.member)) p

  manifest_back : (l : Label) (m : Manifest) → PairIs IsManifestText g (manifest_name stanza l) m → PairIs IsManifestText f (manifest_name stanza l) m
  manifest_back l m p = pair_same IsManifestText g f (manifest_name stanza l) m
      (sym (other _ (manifest_apart stanza _ name (l, inl refl) apart.member))) (sym (other _ (manifest_apart stanza _ name (l, inr refl) apart.member))) p

  module _ (pending : Option Cluster) (fits : IsPending s pending) (pair : PairIs IsBackupText g (backup_info stanza) (backup_value s pending)) where
    has_it : HasStanza stanza g s
    has_it = record {
      archive_pair = pair_same IsArchiveText f g (archive_info stanza) (archive_value s) (other _ apart.archive) (other _ apart.archive_copy) h.archive_pair;
      pending = pending;
      is_pending = fits;
      backup_pair = pair;
      manifests = λ b at. let x = h.manifests b at in (x.0, manifest_there b.entry.label x.0 x.1, manifest_kept stanza f s h b at g s at_place (λ d is. is) (λ l a. a) x.0 x.1 x.2);
      archived = λ n bytes file. let e = other n (apart.files n file) in ((λ is. (h.archived n bytes file).0 (sym e ∙ is)), (λ x. e ∙ (h.archived n bytes file).1 x));
      named = h.named;
    }

    -- what g lists has the label's text of what f lists
    listed_back : (l : Label) → Lists stanza g l → (m : Label) × Lists stanza f m × (label_text l ≡ label_text m)
    listed_back l x =
        let agree = pair_agrees g (backup_info stanza) x.0 (backup_value s pending) x.1 pair in
        let at = subst (λ (ks : List Field). In (entry_field x.2.0) ks) (agree.entries ∙ ap (map entry_field) (entries_of s pending ∙ sym (entries_of s h.pending))) (in_map entry_field x.0.backups x.2.0 x.2.1) in
        let (e, there, same) = map_in entry_field (backup_value s h.pending).backups (entry_field x.2.0) at in
        (e.label, (backup_value s h.pending, h.backup_pair, (e, there, refl)), ap label_text (sym x.2.2) ∙ ap (λ (k : Field). k.0) same)

    place_back : (n : Text) → IsPlaceOf stanza g n → IsPlaceOf stanza f n
    place_back n p =
        let (m, lists, same) = listed_back p.label p.listed in
        record {
          label = m;
          listed = lists;
          manifest = p.manifest;
          reads = subst (λ (k : Text). PairIs IsManifestText f k p.manifest) (manifest_same stanza p.label m same) (manifest_back p.label p.manifest p.reads);
          entry = p.entry;
          of_it = p.of_it;
          filled = p.filled;
          is = p.is ∙ place_same stanza p.label m same p.entry;
        }

    written : Keeps stanza s f g
    written = record { has = has_it; places = place_back }

module _ (stanza : Text) (s : Stanza) (pending : Option Cluster) (fits : IsPending s pending) (text : Text) (is : IsBackupText (backup_value s pending) text) where
  pub backup_main : WriteKeeps stanza s (backup_info stanza, text)
  backup_main f h = written stanza s (backup_info stanza) text (main_is_apart stanza) f h pending fits (inl (text, put_same (backup_info stanza) (Some text) f, is))

  pub backup_copy : WriteKeeps stanza s (copy_of (backup_info stanza), text)
  backup_copy f h = ⊎_elim
      (λ (m : MemberIs IsBackupText f (backup_info stanza) (backup_value s h.pending)). by h.pending h.is_pending (inl (m.0, main ∙ m.1, m.2)))
      (λ (q : ((w : BackupInfo) → ¬ MemberIs IsBackupText f (backup_info stanza) w) × MemberIs IsBackupText f (copy_of (backup_info stanza)) (backup_value s h.pending)).
      by pending fits (inr ((λ w m. q.0 w (m.0, sym main ∙ m.1, m.2)), (text, put_same (copy_of (backup_info stanza)) (Some text) f, is)))) h.backup_pair
    where
      main : put (copy_of (backup_info stanza)) (Some text) f (backup_info stanza) ≡ f (backup_info stanza)
      main = put_other (copy_of (backup_info stanza)) (Some text) f (backup_info stanza) (copy_apart (backup_info stanza))

      by : (x : Option Cluster) → IsPending s x → PairIs IsBackupText (put (copy_of (backup_info stanza)) (Some text) f) (backup_info stanza) (backup_value s x) → Keeps stanza s f (put (copy_of (backup_info stanza)) (Some text) f)
      by x fits_x pair = written stanza s (copy_of (backup_info stanza)) text (copy_is_apart stanza) f h x fits_x pair

-- ---- both pairs

module _ (stanza : Text) (s : Stanza) (pending : Option Cluster) (fits : IsPending s pending) (archive backup : Text) (archive_is : IsArchiveText (archive_value s) archive) (backup_is : IsBackupText (backup_value s pending) backup) where
  abbrev writes : List Write
  writes = mending_writes stanza archive backup

  keeps : (f g : Content) → HasStanza stanza f s → SomeOf writes f g → Keeps stanza s f g
  keeps f g h w = some_keep stanza s writes (archive_main stanza s archive archive_is, (archive_copy stanza s archive archive_is, (backup_main stanza s pending fits backup backup_is, (backup_copy stanza s pending fits backup backup_is, tt)))) f g h w

  module _ (a d : View) (steady : IsSteady stanza (Some s) a) (known : IsSome a.now) (crash : Crash (SomeOf writes) a d) where
    places : (g : Content) → Leaves d d.moment g → (n : Text) → IsPlaceOf stanza g n → is_unsynced d n ≡ false
    places g leaves n p =
        let x = crash.comes known d.moment g crash.later (omega arith) leaves in
        let k = keeps x.0 g (steady.represents x.0 x.1) x.2 in
        crash.synced d.moment n crash.later (omega arith) (place_lasts stanza g n p) (steady.places x.0 x.1 n (k.places n p))

    pub healed_pair_moves : EachImage stanza (λ g. Represents stanza g (Some s)) a d
    healed_pair_moves = crash_moves stanza (Some s) (SomeOf writes) a d steady known crash (λ g. Represents stanza g (Some s)) (λ f g h w. (keeps f g h w).has) places

    pub healed_pair_steady : IsSteady stanza (Some s) d
    healed_pair_steady = record {
      fixed = healed_pair_moves.fixed;
      places = healed_pair_moves.places;
      represents = λ g leaves. healed_pair_moves.leaves d.moment g crash.later (omega arith) leaves;
    }

  -- of what the disk holds
  pub healed_pair_now : (old new : Option Content) → IsSome old → NowChanges (SomeOf writes) old new → NowRepresents stanza (Some s) old → NowRepresents stanza (Some s) new
  healed_pair_now old new some goes now = let f = known_as old some in
      record { represents = λ g is_g. (keeps f.0 g (now.represents f.0 f.1) (goes.goes f.0 g f.1 is_g)).has }
