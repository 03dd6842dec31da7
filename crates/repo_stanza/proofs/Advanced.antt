-- A stanza that gets a further cluster, write by write.
use Rattle.std.proofs.Common.{◌≡◌, ◌≢◌, ◌⊎◌, ⊎_elim, inl, inr, ℕ, ◌+◌, List, [], ◌∷◌, ◌++◌, map, length, Option, Some, None, refl, ap, ◌∙◌, sym, subst, arith, length-append, false}
use Rattle.std.specs.Prelude.{IsSome}
use Rattle.base_devices.specs.Content.{Content, put}
use Rattle.base_devices.specs.Moments.{View, is_unsynced}
use Rattle.base_devices.specs.Crash.{Leaves, Crash, Ends, NowChanges, Write, FirstOf, AllOf}
use Rattle.base_devices.proofs.Nows.{known_as}
use Rattle.base_model.specs.declared.clusters.Cluster.{Cluster}
use Rattle.base_model.specs.Text.{Text, In}
use Rattle.base_model.specs.Names.{archive_info, backup_info, copy_of, manifest_name}
use Rattle.base_model.specs.Values.{BackupInfo}
use Rattle.base_model.specs.InfoFiles.{IsArchiveText, IsBackupText}
use Rattle.base_model.specs.ManifestText.{IsManifestText}
use Rattle.base_model.specs.Pair.{PairIs}
use Rattle.base_model.specs.Repository.{Stanza, Backup}
use Rattle.base_model.specs.Represents.{Represents, HasStanza, IsPending, IsArchiveFile, archive_value, backup_value}
use Rattle.base_model.specs.Steps.{Upgrade, changed}
use Rattle.base_model.specs.Log.{IsPlaceOf}
use Rattle.base_model.specs.Now.{NowRepresents}
use Rattle.base_model.specs.Steady.{IsSteady, EachImage}
use Rattle.base_model.proofs.NameLemmas.{copy_apart, pairs_apart, file_info_apart}
use Rattle.base_model.proofs.Created.{put_other, put_same}
use Rattle.base_model.proofs.Frame.{AgreesPast, pair_same, place_past, place_lasts}
use Rattle.base_model.proofs.Healed.{put_past}
use Rattle.base_model.proofs.Made.{now_of}
use Rattle.base_model.proofs.Passing.{crash_moves, crash_steady}
use Rattle.base_model.proofs.Pushed.{in_left}
use Rattle.repo_stanza.specs.Upgrading.{upgrade_writes}
use Rattle.repo_stanza.proofs.ManifestKept.{manifest_kept}
use Rattle.repo_stanza.proofs.HealedPair.{Keeps, alike_keeps, archive_copy, backup_main, backup_copy}

module _ (stanza : Text) (s : Stanza) (c : Cluster) (number : c.id ≡ length s.history + 1) where
  -- the stanza with the cluster
  abbrev next : Stanza
  next = changed (Upgrade c) s

  -- what was to come is the value of the new stanza
  pub same_list : backup_value s (Some c) ≡ backup_value next None
  same_list =
      let n : c.id ≡ length (s.history ++ c ∷ []) = omega (arith, number, length-append s.history (c ∷ [])) in
      ap (λ (k : ℕ). (let v : BackupInfo = record { current = k; history = s.history ++ c ∷ []; backups = map (λ b. b.entry) s.backups } in v)) n

  module _ (f g : Content) (agrees : AgreesPast stanza f g) (h : HasStanza stanza f s) where
    -- the archive pair states the cluster that the backup pair stated as still to come
    pub advanced : PairIs IsArchiveText g (archive_info stanza) (archive_value next) → PairIs IsBackupText f (backup_info stanza) (backup_value s (Some c)) →
        ((n : Text) → IsArchiveFile stanza n → g n ≡ f n) → HasStanza stanza g next
    advanced archive_pair listed files = record {
      archive_pair = archive_pair;
      pending = None;
      is_pending = tt;
      backup_pair = pair_same IsBackupText f g (backup_info stanza) (backup_value next None) agrees.backup agrees.backup_copy (subst (λ (v : BackupInfo). PairIs IsBackupText f (backup_info stanza) v) same_list listed);
      manifests = λ b at. let x = h.manifests b at in (
        x.0,
        pair_same IsManifestText f g (manifest_name stanza b.entry.label) x.0
            (agrees.listed _ (b.entry.label, inl refl)) (agrees.listed _ (b.entry.label, inr refl)) x.1,
        manifest_kept stanza f s h b at g next agrees.places (λ d is. in_left d s.history (c ∷ []) is) (λ l a. a) x.0 x.1 x.2,
      );
      archived = λ n bytes file. let e = files n file in ((λ is. (h.archived n bytes file).0 (sym e ∙ is)), (λ x. e ∙ (h.archived n bytes file).1 x));
      named = h.named;
    }

  -- ---- the four writes

  module _ (fits : IsPending s (Some c)) (backup archive : Text) (backup_is : IsBackupText (backup_value s (Some c)) backup) (archive_is : IsArchiveText (archive_value next) archive) where
    abbrev writes : List Write
    writes = upgrade_writes stanza backup archive

    -- g has the stanza as it was or with the cluster, and no place that f doesn't have
    pub record Comes (f g : Content) : Type 0 where
      pub has : Represents stanza g (Some s) ⊎ Represents stanza g (Some next)
      pub places : (n : Text) → IsPlaceOf stanza g n → IsPlaceOf stanza f n

    module _ (f : Content) (h : HasStanza stanza f s) where
      abbrev f1 : Content
      f1 = put (backup_info stanza) (Some backup) f

      abbrev f2 : Content
      f2 = put (copy_of (backup_info stanza)) (Some backup) f1

      abbrev f3 : Content
      f3 = put (archive_info stanza) (Some archive) f2

      abbrev f4 : Content
      f4 = put (copy_of (archive_info stanza)) (Some archive) f3

      k1 : Keeps stanza s f f1
      k1 = backup_main stanza s (Some c) fits backup backup_is f h

      k2 : Keeps stanza s f1 f2
      k2 = backup_copy stanza s (Some c) fits backup backup_is f1 k1.has

      m2 : f2 (backup_info stanza) ≡ Some backup
      m2 = put_other (copy_of (backup_info stanza)) (Some backup) f1 (backup_info stanza) (copy_apart (backup_info stanza)) ∙ put_same (backup_info stanza) (Some backup) f

      past3 : AgreesPast stanza f2 f3
      past3 = put_past stanza (archive_info stanza) archive f2 refl

      s3 : HasStanza stanza f3 next
      s3 = advanced f2 f3 past3 k2.has (inl (archive, put_same (archive_info stanza) (Some archive) f2, archive_is)) (inl (backup, m2, backup_is))
          (λ n file. put_other (archive_info stanza) (Some archive) f2 n (file_info_apart stanza n file))

      k4 : Keeps stanza next f3 f4
      k4 = archive_copy stanza next archive archive_is f3 s3

      from2 : (n : Text) → IsPlaceOf stanza f2 n → IsPlaceOf stanza f n
      from2 n p = k1.places n (k2.places n p)

      from3 : (n : Text) → IsPlaceOf stanza f3 n → IsPlaceOf stanza f n
      from3 n p = from2 n (place_past stanza f2 f3 past3 n p)

      from4 : (n : Text) → IsPlaceOf stanza f4 n → IsPlaceOf stanza f n
      from4 n p = from3 n (k4.places n p)

      pub comes : (g : Content) → FirstOf writes f g → Comes f g
      comes g w =
          ⊎_elim (λ a. let k = alike_keeps stanza s f g h a in record { has = inl k.has; places = k.places })
          (⊎_elim (λ a. let k = alike_keeps stanza s f1 g k1.has a in record { has = inl k.has; places = λ n p. k1.places n (k.places n p) })
          (⊎_elim (λ a. let k = alike_keeps stanza s f2 g k2.has a in record { has = inl k.has; places = λ n p. from2 n (k.places n p) })
          (⊎_elim (λ a. let k = alike_keeps stanza next f3 g s3 a in record { has = inr k.has; places = λ n p. from3 n (k.places n p) })
          (λ a. let k = alike_keeps stanza next f4 g k4.has a in record { has = inr k.has; places = λ n p. from4 n (k.places n p) })))) w

      pub ended : (g : Content) → AllOf writes f g → Represents stanza g (Some next)
      ended g a = (alike_keeps stanza next f4 g k4.has a).has

    -- ---- at each crash

    abbrev P : Content → Type 0
    P g = Represents stanza g (Some s) ⊎ Represents stanza g (Some next)

    module _ (a d : View) (steady : IsSteady stanza (Some s) a) (known : IsSome a.now) (crash : Crash (FirstOf writes) a d) where
      places : (g : Content) → Leaves d d.moment g → (n : Text) → IsPlaceOf stanza g n → is_unsynced d n ≡ false
      places g leaves n p =
          let x = crash.comes known d.moment g crash.later (omega arith) leaves in
          let k = comes x.0 (steady.represents x.0 x.1) g x.2 in
          crash.synced d.moment n crash.later (omega arith) (place_lasts stanza g n p) (steady.places x.0 x.1 n (k.places n p))

      pub advanced_moves : EachImage stanza P a d
      advanced_moves = crash_moves stanza (Some s) (FirstOf writes) a d steady known crash P (λ f g h w. (comes f h g w).has) places

      pub advanced_steady : Ends (AllOf writes) a d → IsSteady stanza (Some next) d
      advanced_steady ends = crash_steady stanza (Some s) (FirstOf writes) a d steady known crash (AllOf writes) ends (Some next) (λ f g h w. ended f h g w) places

    -- ---- of what the disk holds

    module _ (old new : Option Content) (some : IsSome old) (now : NowRepresents stanza (Some s) old) where
      pub advanced_part : NowChanges (FirstOf writes) old new → NowRepresents stanza (Some s) new ⊎ NowRepresents stanza (Some next) new
      advanced_part goes =
          let f = known_as old some in
          let g = known_as new (goes.known some) in
          ⊎_elim (λ (x : Represents stanza g.0 (Some s)). inl (now_of stanza (Some s) new g.0 g.1 x)) (λ (x : Represents stanza g.0 (Some next)). inr (now_of stanza (Some next) new g.0 g.1 x))
          (comes f.0 (now.represents f.0 f.1) g.0 (goes.goes f.0 g.0 f.1 g.1)).has

      pub advanced_whole : NowChanges (AllOf writes) old new → NowRepresents stanza (Some next) new
      advanced_whole goes =
          let f = known_as old some in
          let g = known_as new (goes.known some) in
          now_of stanza (Some next) new g.0 g.1 (ended f.0 (now.represents f.0 f.1) g.0 (goes.goes f.0 g.0 f.1 g.1))
