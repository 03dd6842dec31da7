-- Contents that agree on the names that are looked at represent the same.
use Rattle.std.proofs.Common.{◌≡◌, ◌↔◌, ⊎_elim, inl, inr, List, [], ◌∷◌, map, Option, Some, None, refl, ap, ◌∙◌, sym, subst}
use Rattle.base_devices.specs.Content.{Content}
use Rattle.base_devices.specs.Crash.{IsTemporary, Alike}
use Rattle.base_model.specs.declared.clusters.Cluster.{Cluster}
use Rattle.base_model.specs.Names.{copy_of, archive_info, backup_info, manifest_name}
use Rattle.base_model.specs.Pair.{MemberIs, PairIs, PairAbsent}
use Rattle.base_model.specs.Text.{Text, In}
use Rattle.base_model.specs.Values.{Entry, Manifest, BackupInfo}
use Rattle.base_model.specs.InfoFiles.{IsArchiveText, IsBackupText}
use Rattle.base_model.specs.ManifestText.{IsManifestText, IsFileEntry}
use Rattle.base_model.specs.Repository.{Backup, Archived, Stanza, Repository}
use Rattle.base_model.specs.Represents.{Represents, IsVacant, HasStanza, IsArchiveFile, IsArchivePlace, stored_name, IsManifestOf, archive_value, backup_value, IsPending}
use Rattle.base_model.specs.Log.{IsFixed, Pair, File as FileName, Manifested, IsPlaceOf, Lists, IsPairMember, IsManifestMember}
use Rattle.sha1.specs.Sha1.{sha1}
use Rattle.base_model.proofs.Temporary.{fixed_lasts, entry_lasts}

-- g has what f has at each name that is looked at
pub record Agrees (stanza : Text) (f g : Content) : Type 0 where
  pub fixed : (n : Text) → IsFixed stanza n → g n ≡ f n
  pub places : (n : Text) → IsPlaceOf stanza f n → g n ≡ f n

module _ {V : Type 0} (IsTextOf : V → Text → Type 0) where
  member_same : (f g : Content) (name : Text) (v : V) → g name ≡ f name → MemberIs IsTextOf f name v → MemberIs IsTextOf g name v
  member_same f g name v e m = (m.0, e ∙ m.1, m.2)

  pub pair_same : (f g : Content) (name : Text) (v : V) → g name ≡ f name → g (copy_of name) ≡ f (copy_of name) → PairIs IsTextOf f name v → PairIs IsTextOf g name v
  pair_same f g name v e c p = ⊎_elim (λ m. inl (member_same f g name v e m))
      (λ (q : ((w : V) → ¬ MemberIs IsTextOf f name w) × MemberIs IsTextOf f (copy_of name) v). inr ((λ w m. q.0 w (member_same g f name w (sym e) m)), member_same f g (copy_of name) v c q.1)) p

in_map : {X Y : Type 0} (f : X → Y) (x : X) (xs : List X) → In x xs → In (f x) (map f xs)
in_map f x [] h = absurd h
in_map f x (y ∷ ys) h = ⊎_elim (λ (e : x ≡ y). inl (ap f e)) (λ h. inr (in_map f x ys h)) h

-- g has what f has at the members of the pairs and manifests and at the places
pub record AgreesBeside (stanza : Text) (f g : Content) : Type 0 where
  pub pairs : (n : Text) → IsPairMember stanza n → g n ≡ f n
  pub listed : (n : Text) → IsManifestMember stanza n → g n ≡ f n
  pub places : (n : Text) → IsPlaceOf stanza f n → g n ≡ f n

-- The same, except for the archive pair.
pub record AgreesPast (stanza : Text) (f g : Content) : Type 0 where
  pub backup : g (backup_info stanza) ≡ f (backup_info stanza)
  pub backup_copy : g (copy_of (backup_info stanza)) ≡ f (copy_of (backup_info stanza))
  pub listed : (n : Text) → IsManifestMember stanza n → g n ≡ f n
  pub places : (n : Text) → IsPlaceOf stanza f n → g n ≡ f n

pub past : (stanza : Text) (f g : Content) → AgreesBeside stanza f g → AgreesPast stanza f g
past stanza f g a = record {
  backup = a.pairs (backup_info stanza) (inr (inr (inl refl)));
  backup_copy = a.pairs (copy_of (backup_info stanza)) (inr (inr (inr refl)));
  listed = a.listed;
  places = a.places;
}

pub beside : (stanza : Text) (f g : Content) → Agrees stanza f g → AgreesBeside stanza f g
beside stanza f g a = record { pairs = λ n h. a.fixed n (Pair h); listed = λ n h. a.fixed n (Manifested h); places = a.places }

module _ (stanza : Text) (f g : Content) (agrees : AgreesPast stanza f g) where
  -- the reverse: a place of what g lists is one of what f lists
  pub place_past : (n : Text) → IsPlaceOf stanza g n → IsPlaceOf stanza f n
  place_past n p = record {
    label = p.label;
    listed = (p.listed.0, pair_same IsBackupText g f (backup_info stanza) p.listed.0 (sym agrees.backup) (sym agrees.backup_copy) p.listed.1, p.listed.2);
    manifest = p.manifest;
    reads = pair_same IsManifestText g f (manifest_name stanza p.label) p.manifest (sym (agrees.listed _ (p.label, inl refl))) (sym (agrees.listed _ (p.label, inr refl))) p.reads;
    entry = p.entry;
    of_it = p.of_it;
    filled = p.filled;
    is = p.is;
  }

  module _ (s : Stanza) (h : HasStanza stanza f s) where
    entries_of : (c : Option Cluster) → (backup_value s c).backups ≡ map (λ b. b.entry) s.backups
    entries_of None = refl
    entries_of (Some c) = refl

    lists : (b : Backup) → In b s.backups → Lists stanza f b.entry.label
    lists b at = (backup_value s h.pending, h.backup_pair, (b.entry, subst (λ (es : List Entry). In b.entry es) (sym (entries_of h.pending)) (in_map (λ b. b.entry) b s.backups at), refl))

    module _ (files : List Archived) where
      abbrev s2 : Stanza
      s2 = record s { archived = files }

      value_same : (c : Option Cluster) → backup_value s c ≡ backup_value s2 c
      value_same None = refl
      value_same (Some c) = refl

      pending_same : (c : Option Cluster) → IsPending s c → IsPending s2 c
      pending_same None p = tt
      pending_same (Some c) p = p

      manifest_same : (b : Backup) → In b s.backups → (m : Manifest) → PairIs IsManifestText f (manifest_name stanza b.entry.label) m → IsManifestOf stanza f s b m → IsManifestOf stanza g s2 b m
      manifest_same b at m reads of = record {
        label = of.label;
        kind = of.kind;
        prior = of.prior;
        start = of.start;
        stop = of.stop;
        cluster = of.cluster;
        wal = of.wal;
        choices = of.choices;
        folders = of.folders;
        paths = of.paths;
        references = of.references;
        ancestors = of.ancestors;
        files = λ e in_m. let x = of.files e in_m in (
          x.0,
          x.1,
          record {
            size = x.2.size;
            time = x.2.time;
            sum = x.2.sum;
            stored = λ filled. let y = x.2.stored filled in (y.0, agrees.places _ (record { label = b.entry.label; listed = lists b at; manifest = m; reads = reads; entry = e; of_it = in_m; filled = filled; is = refl }) ∙ y.1, y.2);
          },
        );
      }

      -- with other archived files
      pub stanza_past : PairIs IsArchiveText g (archive_info stanza) (archive_value s) → ((a : Archived) → In a files → IsArchivePlace a.id a.name (sha1 a.bytes)) → ((name bytes : Text) → IsArchiveFile stanza name → (g name ≡ Some bytes) ↔ ((a : Archived) × In a files × (name ≡ stored_name stanza a) × (bytes ≡ a.bytes))) → HasStanza stanza g s2
      stanza_past pair named archived = record {
        named = named;
        is_pending = pending_same h.pending h.is_pending;
        archive_pair = pair;
        pending = h.pending;
        backup_pair = pair_same IsBackupText f g (backup_info stanza) _ agrees.backup agrees.backup_copy (let P : BackupInfo → Type 0 = λ v. PairIs IsBackupText f (backup_info stanza) v in subst P (value_same h.pending) h.backup_pair);
        manifests = λ b at. let x = h.manifests b at in (
          x.0,
          pair_same IsManifestText f g (manifest_name stanza b.entry.label) x.0
              (agrees.listed _ (b.entry.label, inl refl)) (agrees.listed _ (b.entry.label, inr refl)) x.1,
          manifest_same b at x.0 x.1 x.2,
        );
        archived = archived;
      }

module _ (stanza : Text) (f g : Content) (agrees : AgreesBeside stanza f g) where
  archive_main : g (archive_info stanza) ≡ f (archive_info stanza)
  archive_main = agrees.pairs (archive_info stanza) (inl refl)

  archive_copy : g (copy_of (archive_info stanza)) ≡ f (copy_of (archive_info stanza))
  archive_copy = agrees.pairs (copy_of (archive_info stanza)) (inr (inl refl))

  backup_main : g (backup_info stanza) ≡ f (backup_info stanza)
  backup_main = agrees.pairs (backup_info stanza) (inr (inr (inl refl)))

  backup_copy : g (copy_of (backup_info stanza)) ≡ f (copy_of (backup_info stanza))
  backup_copy = agrees.pairs (copy_of (backup_info stanza)) (inr (inr (inr refl)))

  vacant_beside : IsVacant stanza f → ((name : Text) → IsArchiveFile stanza name → g name ≡ None) → IsVacant stanza g
  vacant_beside v archived = record {
    archive_pair = (archive_main ∙ v.archive_pair.0, archive_copy ∙ v.archive_pair.1);
    backup_pair = ⊎_elim (λ (p : PairAbsent f (backup_info stanza)). inl (backup_main ∙ p.0, backup_copy ∙ p.1))
        (λ (p : (v : BackupInfo) × PairIs IsBackupText f (backup_info stanza) v × (v.backups ≡ [])). inr (p.0, pair_same IsBackupText f g (backup_info stanza) p.0 backup_main backup_copy p.1, p.2)) v.backup_pair;
    archived = archived;
  }

  pub place_beside : (n : Text) → IsPlaceOf stanza g n → IsPlaceOf stanza f n
  place_beside n p = place_past stanza f g (past stanza f g agrees) n p

  pub stanza_beside : (s : Stanza) → HasStanza stanza f s → (files : List Archived) → ((a : Archived) → In a files → IsArchivePlace a.id a.name (sha1 a.bytes)) → ((name bytes : Text) → IsArchiveFile stanza name → (g name ≡ Some bytes) ↔ ((a : Archived) × In a files × (name ≡ stored_name stanza a) × (bytes ≡ a.bytes))) → HasStanza stanza g (record s { archived = files })
  stanza_beside s h files = stanza_past stanza f g (past stanza f g agrees) s h files (pair_same IsArchiveText f g (archive_info stanza) _ archive_main archive_copy h.archive_pair)

pub represents_same : (stanza : Text) (f g : Content) → Agrees stanza f g → (r : Repository) → Represents stanza f r → Represents stanza g r
represents_same stanza f g a None v = vacant_beside stanza f g (beside stanza f g a) v (λ name file. a.fixed name (FileName file) ∙ v.archived name file)
represents_same stanza f g a (Some s) h = stanza_beside stanza f g (beside stanza f g a) s h s.archived h.named (λ name bytes file. let e = a.fixed name (FileName file) in
    ((λ is. (h.archived name bytes file).0 (sym e ∙ is)), (λ x. e ∙ (h.archived name bytes file).1 x)))

-- no place of a label that is listed is temporary
pub place_lasts : (stanza : Text) (f : Content) (n : Text) → IsPlaceOf stanza f n → ¬ IsTemporary n
place_lasts stanza f n p t = ⊎_elim
    (λ (m : MemberIs IsManifestText f (manifest_name stanza p.label) p.manifest). by p.manifest.folders (m.2.rules.files p.entry p.of_it))
    (λ (q : ((w : Manifest) → ¬ MemberIs IsManifestText f (manifest_name stanza p.label) w) × MemberIs IsManifestText f (copy_of (manifest_name stanza p.label)) p.manifest). by p.manifest.folders (q.1.2.rules.files p.entry p.of_it)) p.reads
  where
    by : (folders : List Text) → IsFileEntry folders p.entry → ⊥
    by folders is = entry_lasts stanza p.label folders p.entry is (subst (λ (k : Text). IsTemporary k) p.is t)

-- temporary names don't matter
pub alike_agrees : (stanza : Text) (f g : Content) → Alike f g → Agrees stanza f g
alike_agrees stanza f g a = record { fixed = λ n h. a.same n (fixed_lasts stanza n h); places = λ n h. a.same n (place_lasts stanza f n h) }

pub alike_represents : (stanza : Text) (f g : Content) (r : Repository) → Alike f g → Represents stanza f r → Represents stanza g r
alike_represents stanza f g r a = represents_same stanza f g (alike_agrees stanza f g a) r

-- with temporary names apart
pub past_alike : (stanza : Text) (f g : Content) → Alike f g → AgreesPast stanza f g
past_alike stanza f g a = past stanza f g (beside stanza f g (alike_agrees stanza f g a))

past_back : (stanza : Text) (f g : Content) → AgreesPast stanza f g → AgreesPast stanza g f
past_back stanza f g p = record {
  backup = sym p.backup;
  backup_copy = sym p.backup_copy;
  listed = λ n m. sym (p.listed n m);
  places = λ n m. sym (p.places n (place_past stanza f g p n m));
}

-- a change, and then a further one of the result of it
pub past_past : (stanza : Text) (f g h : Content) → AgreesPast stanza f g → AgreesPast stanza g h → AgreesPast stanza f h
past_past stanza f g h p q = record {
  backup = q.backup ∙ p.backup;
  backup_copy = q.backup_copy ∙ p.backup_copy;
  listed = λ n m. q.listed n m ∙ p.listed n m;
  places = λ n m. q.places n (place_past stanza g f (past_back stanza f g p) n m) ∙ p.places n m;
}
