-- A backup as the way of a command: each content that may be left represents the repository unchanged, or with the
-- backup.
use Rattle.std.proofs.Common.{◌≡◌, ◌<◌, ◌⊎◌, length, slice_get, ⊎_elim, inl, inr, ℕ, Bool, true, false, List, [], ◌∷◌, ◌++◌, Option, Some, None, refl, sym, ◌∙◌, ap, subst, arith}
use Rattle.std.specs.Prelude.{IsSome}
use Rattle.base_devices.specs.Content.{Name, Content}
use Rattle.base_devices.specs.Moments.{View, is_unsynced}
use Rattle.base_devices.specs.Crash.{IsTemporary, Leaves}
use Rattle.base_devices.specs.Links.{LinkState}
use Rattle.base_model.specs.declared.labels.Label.{Label}
use Rattle.base_model.specs.declared.clusters.Cluster.{Cluster}
use Rattle.base_model.specs.Text.{Text, In}
use Rattle.base_model.specs.Names.{copy_of, archive_info, backup_info, manifest_name}
use Rattle.base_model.specs.Values.{Entry, FileEntry, Manifest, BackupInfo}
use Rattle.base_model.specs.InfoFiles.{IsBackupText}
use Rattle.base_model.specs.ManifestText.{IsManifestText}
use Rattle.base_model.specs.Pair.{PairIs}
use Rattle.base_model.specs.Place.{place}
use Rattle.base_model.specs.Repository.{Backup, Stanza}
use Rattle.base_model.specs.Represents.{Represents, HasStanza, IsManifestOf, backup_value}
use Rattle.base_model.specs.Steps.{changed, AddBackup}
use Rattle.base_model.specs.Log.{IsFixed, IsPlaceOf, Lists}
use Rattle.base_model.specs.Steady.{IsSteady, EachImage}
use Rattle.backup_sink.specs.Way.{IsBeside}
use Rattle.backup_plan.proofs.Lists.{in_parts}
use Rattle.backup_record.specs.Item.{IsItem}
use Rattle.backup_record.specs.Making.{entry_with}
use Rattle.backup_record.specs.Record.{PriorRead, HasPrior, IsListOf, Adds}
use Rattle.backup_record.proofs.Coming.{AreReads}
use Rattle.backup_record.proofs.Recorded.{recorded}
use Rattle.backup_make.specs.declared.draft.Draft.{Draft}
use Rattle.worker_protocol.specs.PartSinkState.{Done, JobItems}
use Rattle.backup_record.specs.Ends.{AreReceived}
use Rattle.backup_record.specs.Further.{Further, with_name, with_kept}
use Rattle.backup_record.proofs.Extended.{with_received, with_counts}
use Rattle.backup_make.specs.Draft.{stanza_of, pair_of, main_of, is_own_of, jobs_in, list_in, further_in, IsDraft}
use Rattle.backup_make.specs.Made.{IsSyncedAt, ListsIt, MakesOf}
use Rattle.backup_make.specs.Online.{Online}
use Rattle.backup_make.proofs.LabelFile.{label_is}
use Rattle.backup_make.proofs.Came.{counts, kept_count}
use Rattle.backup_make.proofs.Drafted.{reads}
use Rattle.backup_make.proofs.Listed.{AgreesBelow, listed_more_represents}
use Rattle.backup_make.proofs.Unlisted.{IsClear, IsFar, beside_represents, stays_synced, fixed_synced, old_place_synced, beside_place_synced}

-- Each content that may be left is, at all places that it leads to, like one that has the prior's manifest as it was
-- read.
abbrev pub IsMixed : Text → Stanza → Option PriorRead → View → Type 0
IsMixed stanza s prior a = (f : Content) → Leaves a a.moment f → (h : Content) × Leaves a a.moment h × HasPrior stanza s prior h × ((n : Name) → IsPlaceOf stanza h n → h n ≡ f n)

-- the content is like one that has the prior's manifest as it was read
abbrev pub IsLike : Text → Stanza → Option PriorRead → Content → Type 0
IsLike stanza s prior f = (h : Content) × HasPrior stanza s prior h × ((n : Name) → IsPlaceOf stanza h n → h n ≡ f n)

module _ (draft : Draft) (is_draft : IsDraft draft) (o : Option Online) (links : List LinkState) (whole : Bool) (s : Stanza) (a d : View) (known : IsSome a.now) (makes : MakesOf draft o links whole a d)
    (far : IsFar (stanza_of draft) (is_own_of draft) (pair_of draft) s) (prior : Option PriorRead)
    (list_of : IsListOf s (list_in draft)) (b : Backup) (adds : Adds (stanza_of draft) (with_name (further_in draft o makes.stop) makes.names) (with_kept (further_in draft o makes.stop) makes.kept) prior makes.manifest makes.list s b) where
  abbrev stanza : Text
  stanza = stanza_of draft

  abbrev own : Name → Bool
  own = is_own_of draft

  abbrev pair : Text
  pair = pair_of draft

  abbrev label : Label
  label = draft.label

  abbrev after : Stanza
  after = changed (AddBackup b) s

  abbrev Listed : Content → Content → Type 0
  Listed f g = ListsIt draft o makes.manifest makes.list makes.names makes.kept makes.stop f g

  -- the label file, where a server ran
  abbrev further : Option Further
  further = further_in draft o makes.stop

  named : b.entry.label ≡ label
  named = sym adds.is.head.label ∙ ap (λ (m : Manifest). m.label) makes.manifest_is

  listed_same : (f g : Content) → Listed f g → (n : Name) → IsClear own pair (backup_info stanza) n → g n ≡ f n
  listed_same f g x n c = x.others n c.out c.lasts c.pair_off c.copy_off c.main_off c.main_copy_off

  listed_below : (f g : Content) → HasStanza stanza f s → Listed f g → AgreesBelow stanza f g
  listed_below f g h x = record {
    archive = (listed_same f g x (archive_info stanza) far.archive.0, listed_same f g x (copy_of (archive_info stanza)) far.archive.1);
    files = λ n file. listed_same f g x n (far.files n file);
    manifests = λ l listed. let y = far.manifests f h l listed in (listed_same f g x (manifest_name stanza l) y.0, listed_same f g x (copy_of (manifest_name stanza l)) y.1);
    places = λ n p. listed_same f g x n (far.places f h n p);
  }

  all_reads : AreReads (jobs_in draft)
  all_reads = reads draft is_draft

  -- what is known of all that is held
  all_got : AreReceived (with_kept further makes.kept)
  all_got = with_received (stanza_of draft) draft.label makes.kept further (label_is draft o makes.stop) (makes.got known)

  all_counts : (j i : ℕ) (k : JobItems) (x : Done) (bytes : Text) → slice_get (with_kept further makes.kept) j ≡ Some k → slice_get k.done i ≡ Some x → x.held.known ≡ Some bytes → x.held.count ≡ length bytes
  all_counts = with_counts (stanza_of draft) draft.label makes.kept further (counts (jobs_in draft) links makes.kept all_reads (kept_count (jobs_in draft) makes.kept makes.ends makes.are makes.come) makes.received)

  -- the manifest is that of the backup where it is listed
  record_is : (f g : Content) → IsLike (stanza_of draft) s prior f → Listed f g → IsManifestOf stanza g after b makes.manifest
  record_is f g q x =
      recorded stanza (with_name further makes.names) (with_kept further makes.kept) s prior b makes.manifest adds.is all_got all_counts
      q.0 g q.1 x.placed (λ e bytes left.
      let p = left.place_is q.0 q.1 in
      listed_same f g x (place stanza b.entry.label e).0 (far.places q.0 q.1.has (place stanza b.entry.label e).0 p) ∙ sym (q.2 (place stanza b.entry.label e).0 p))

  -- a content with the backup has the stanza with it
  pub listed_represents : (f g : Content) → HasStanza (stanza_of draft) f s → IsLike (stanza_of draft) s prior f → ListsIt draft o makes.manifest makes.list makes.names makes.kept makes.stop f g
      → HasStanza (stanza_of draft) g (changed (AddBackup b) s)
  listed_represents f g h like x = listed_more_represents stanza f g (listed_below f g h x) s h b makes.manifest makes.list adds.list_is makes.list_valid makes.manifest_valid x.info_is
      (ap (λ (l : Label). g (manifest_name stanza l)) named ∙ x.manifest_is) (record_is f g like x)

  module _ (steady : IsSteady (stanza_of draft) (Some s) a) (mixed : IsMixed (stanza_of draft) s prior a) (synced : IsSyncedAt (pair_of draft) (main_of draft) a) where
    with_it : (f g : Content) → Leaves a a.moment f → Listed f g → HasStanza stanza g after
    with_it f g leaves x = let m = mixed f leaves in listed_represents f g (steady.represents f leaves) (m.0, m.2, m.3) x

    part : (g : Content) → (f : Content) × Leaves a a.moment f × (IsBeside own pair f g ⊎ Listed f g) → Represents stanza g (Some s) ⊎ Represents stanza g (Some after)
    part g x = ⊎_elim (λ y. inl (beside_represents draft s far x.0 g (steady.represents x.0 x.1) y)) (λ y. inr (with_it x.0 g x.1 y)) x.2

    stays : (n : Name) → own n ≡ false → ¬ IsTemporary n → is_unsynced a n ≡ false → is_unsynced d n ≡ false
    stays n out lasts h = stays_synced draft s far a d _ (makes.way synced) steady n out lasts h

    fixed : (n : Text) → IsFixed stanza n → is_unsynced d n ≡ false
    fixed n h = fixed_synced draft s far a d _ (makes.way synced) steady n h

    -- ---- the places of what may be left

    old_place : (f g : Content) → Leaves a a.moment f → AgreesBelow stanza f g → (n : Text) → (p : IsPlaceOf stanza g n) → Lists stanza f p.label → is_unsynced d n ≡ false
    old_place f g leaves agrees n p listed = old_place_synced draft s far a d _ (makes.way synced) steady f g leaves agrees n p listed

    beside_place : (f g : Content) → Leaves a a.moment f → IsBeside own pair f g → (n : Text) → IsPlaceOf stanza g n → is_unsynced d n ≡ false
    beside_place f g leaves x n p = beside_place_synced draft s far a d _ (makes.way synced) steady f g leaves x n p

    -- what the new list has is listed, or is the backup
    entries_of : (c : Option Cluster) → (backup_value s c).backups ≡ (backup_value s None).backups
    entries_of None = refl
    entries_of (Some c) = refl

    entries : (f : Content) → HasStanza stanza f s → (e : Entry) → In e makes.list.backups → Lists stanza f e.label ⊎ (e.label ≡ label)
    entries f h e at =
        let split : makes.list.backups ≡ (backup_value s None).backups ++ entry_with makes.manifest makes.listed.references ∷ [] = ap (λ (v : BackupInfo). v.backups) makes.listed.is ∙ ap (λ (v : BackupInfo). v.backups ++ entry_with makes.manifest makes.listed.references ∷ []) list_of in
        ⊎_elim
        (λ (was : In e (backup_value s None).backups). inl (backup_value s h.pending, h.backup_pair, (e, subst (λ (es : List Entry). In e es) (sym (entries_of h.pending)) was, refl)))
        (λ (new : In e (entry_with makes.manifest makes.listed.references ∷ [])). ⊎_elim (λ (is : e ≡ entry_with makes.manifest makes.listed.references). inr (ap (λ (x : Entry). x.label) is ∙ ap (λ (m : Manifest). m.label) makes.manifest_is)) (λ (none : ⊥). absurd none) new)
        (in_parts (backup_value s None).backups (entry_with makes.manifest makes.listed.references ∷ []) e (subst (λ (es : List Entry). In e es) split at))

    -- an item has as many bytes as its entry states
    held : (e : FileEntry) (bytes : Text) (i : IsItem stanza b.entry.label (with_name further makes.names) (with_kept further makes.kept) e bytes) → i.done.held.count ≡ e.size
    held e bytes i =
        let r = all_got i.job i.item i.of i.done e.size i.sum i.of_is i.done_is i.end in
        let count = all_counts i.job i.item i.of i.done r.0 i.of_is i.done_is r.1.known in
        count ∙ sym r.1.number

    -- One text is of one value.
    module _ (one_list : (v w : BackupInfo) (t : Text) → IsBackupText v t → IsBackupText w t → v ≡ w) (one_manifest : (v w : Manifest) (t : Text) → IsManifestText v t → IsManifestText w t → v ≡ w) where
      one_member : {V : Type 0} (IsTextOf : V → Text → Type 0) → ((v w : V) (t : Text) → IsTextOf v t → IsTextOf w t → v ≡ w) → (g : Content) (name t : Text) (v w : V) → g name ≡ Some t → IsTextOf v t → PairIs IsTextOf g name w → w ≡ v
      one_member IsTextOf one g name t v w is valid (inl x) = one w v t (subst (λ (u : Text). IsTextOf w u) (let e : ◌≡◌ {A = Option Text} (Some x.0) (Some t) = sym x.1 ∙ is in cc) x.2) valid
      one_member IsTextOf one g name t v w is valid (inr x) = absurd (x.0 v (t, is, valid))

      own_place : (e : FileEntry) → In e makes.manifest.files → e.reference ≡ None → 0 < e.size → is_unsynced d (place stanza label e).0 ≡ false
      own_place e at none some =
          let x = adds.is.received e at none some in
          let i = x.1 in
          let there : (place stanza b.entry.label e).0 ≡ i.name = ap (λ (q : Text × ℕ). q.0) (i.at some) in
          subst (λ (n : Name). is_unsynced d n ≡ false) (sym (ap (λ (l : Label). (place stanza l e).0) (sym named) ∙ there))
          (makes.synced synced known i.job i.item i.name i.of i.done i.name_is i.of_is i.done_is (subst (λ (k : ℕ). 0 < k) (sym (held e x.0 i)) some))

      new_place : (f g : Content) → Leaves a a.moment f → Listed f g → (n : Text) → (p : IsPlaceOf stanza g n) → p.label ≡ label → is_unsynced d n ≡ false
      new_place f g leaves x n p same =
          let m_is : p.manifest ≡ makes.manifest = one_member IsManifestText one_manifest g pair _ makes.manifest p.manifest x.manifest_is makes.manifest_valid (subst (λ (l : Label). PairIs IsManifestText g (manifest_name stanza l) p.manifest) same p.reads) in
          let at : In p.entry makes.manifest.files = subst (λ (m : Manifest). In p.entry m.files) m_is p.of_it in
          let where_is : n ≡ (place stanza label p.entry).0 = p.is ∙ ap (λ (l : Label). (place stanza l p.entry).0) same in
          subst (λ (k : Name). is_unsynced d k ≡ false) (sym where_is) (by p.entry at p.filled p.entry.reference refl)
        where
          by : (e : FileEntry) → In e makes.manifest.files → 0 < e.size → (o : Option Label) → e.reference ≡ o → is_unsynced d (place stanza label e).0 ≡ false
          by e at some None none = own_place e at none some
          by e at some (Some l) is =
              let y = adds.is.left e l at is some in
              let m = mixed f leaves in
              let q : IsPlaceOf stanza m.0 (place stanza label e).0 = subst (λ (k : Label). IsPlaceOf stanza m.0 (place stanza k e).0) named (y.2.place_is m.0 m.2) in
              let c = far.places m.0 m.2.has (place stanza label e).0 q in
              stays (place stanza label e).0 c.out c.lasts (steady.places m.0 m.1 (place stanza label e).0 q)

      listed_place : (f g : Content) → Leaves a a.moment f → Listed f g → (n : Text) → IsPlaceOf stanza g n → is_unsynced d n ≡ false
      listed_place f g leaves x n p =
          let h = steady.represents f leaves in
          let v_same : p.listed.0 ≡ makes.list = one_member IsBackupText one_list g (backup_info stanza) _ makes.list p.listed.0 x.info_is makes.list_valid p.listed.1 in
          let e = p.listed.2.0 in
          let at : In e makes.list.backups = subst (λ (v : BackupInfo). In e v.backups) v_same p.listed.2.1 in
          ⊎_elim
          (λ (listed : Lists stanza f e.label). old_place f g leaves (listed_below f g h x) n p (subst (λ (l : Label). Lists stanza f l) p.listed.2.2 listed))
          (λ (is : e.label ≡ label). new_place f g leaves x n p (sym p.listed.2.2 ∙ is))
          (entries f h e at)

      places : (g : Content) → Leaves d d.moment g → (n : Text) → IsPlaceOf stanza g n → is_unsynced d n ≡ false
      places g leaves n p =
          let x = (makes.way synced).comes known d.moment g (makes.way synced).later (omega arith) leaves in
          ⊎_elim (λ y. beside_place x.0 g x.1 y n p) (λ y. listed_place x.0 g x.1 y n p) x.2

      -- the command's way
      pub backup_moves : EachImage (stanza_of draft) (λ g. Represents (stanza_of draft) g (Some s) ⊎ Represents (stanza_of draft) g (Some (changed (AddBackup b) s))) a d
      backup_moves = record {
        later = (makes.way synced).later;
        past = (makes.way synced).past;
        past_unsynced = (makes.way synced).past_unsynced;
        known = (makes.way synced).known known;
        fixed = fixed;
        places = places;
        leaves = λ t g lo hi leaves. part g ((makes.way synced).comes known t g lo hi leaves);
      }

      -- and at Ok the disk is steady at the repository with the backup
      pub backup_steady : whole ≡ true → IsSteady (stanza_of draft) (Some (changed (AddBackup b) s)) d
      backup_steady is = record {
        fixed = fixed;
        places = places;
        represents = λ g leaves. let x = (makes.whole_way synced is).comes known g leaves in with_it x.0 g x.1 x.2;
      }
