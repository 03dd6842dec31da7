-- The push of a file, image by image.
use Rattle.std.proofs.Common.{◌≡◌, ⊎_elim, inl, inr, List, [], ◌∷◌, map, Option, Some, refl, ap, ◌∙◌, sym, subst}
use Rattle.std.specs.Prelude.{false, IsSome, IfSome, string_bytes, bytes_eq, if◌then◌else◌}
use Rattle.sha1.specs.Sha1.{sha1}
use Rattle.base_text.specs.Sum.{IsSum}
use Rattle.base_text.proofs.Digests.{IsSum-sha1}
use Rattle.base_devices.specs.Content.{Content, LiesDirectlyIn, put}
use Rattle.base_devices.specs.Moments.{View, LeavesNoMore, SyncsFolders, is_unsynced}
use Rattle.base_devices.specs.Crash.{IsTemporary, Leaves, Crash, Ends, NowChanges, FirstOf, AllOf, Alike, IsAlikeAt}
use Rattle.base_devices.proofs.Crashes.{crash_ends, crash_rests, first_none, writes_on}
use Rattle.base_devices.proofs.Nows.{known_as, now_none, now_rests}
use Rattle.base_devices.proofs.Steps.{goes_on}
use Rattle.base_model.specs.declared.wal.ArchiveId.{ArchiveId}
use Rattle.base_model.specs.declared.wal.ArchiveName.{ArchiveName}
use Rattle.base_model.specs.Text.{Text}
use Rattle.base_model.specs.Repository.{Stanza, Repository}
use Rattle.base_model.specs.Represents.{Represents, HasStanza, IsArchivePlace, IsArchiveFile}
use Rattle.base_model.specs.Steps.{Step, One, IsPartOf, Push, changed, after, after_all, push_of}
use Rattle.base_model.specs.Log.{File}
use Rattle.base_model.proofs.Done.{part_none}
use Rattle.base_model.proofs.Begun.{old_leaves, still_synced}
use Rattle.base_model.proofs.Frame.{AgreesPast, alike_represents, past_alike, past_past}
use Rattle.base_model.proofs.Healed.{put_past}
use Rattle.base_model.proofs.Pushed.{at_known, stored_represents}
use Rattle.base_model.proofs.Temporary.{file_lasts}
use Rattle.base_model.specs.Now.{NowRepresents}
use Rattle.base_model.specs.Steady.{IsSteady, EachImage}
use Rattle.base_model.specs.Walks.{IsSynced, Walks}
use Rattle.base_model.proofs.Segments.{IsPartOfPush, NowPartOfPush}
use Rattle.base_model.proofs.Walking.{rests_synced, rests_walks, walks_on, ends_on, crash_walks, ends_with, settled_same, settles_on, steady_synced, walks_moves, ends_steady}
use Rattle.archive_lookup.specs.declared.stored.names.FileNames.{FileNames}
use Rattle.archive_lookup.specs.Stored.{archived_file, archive_path, StoresNone}
use Rattle.archive_lookup.specs.OnlyReads.{AreNamesOf, path_with}
use Rattle.archive_store.specs.Pushes.{IsPathOf, writes_of, PushesPart, PushesAll, LeavesPart, LeavesAll, Writes}
use Rattle.archive_store.proofs.AlikeFiles.{alike_stores, alike_none}
use Rattle.archive_store.proofs.FilePushed.{StoresSome, lacks_at, new_push, no_push}
use Rattle.archive_store.specs.Pushing.{PutsPart, PutsWhole}
use Rattle.archive_store.proofs.PathLies.{path_lies}
use Rattle.archive_store.proofs.Placed.{name_of, put_goes}

-- nothing is done
pub still_pushes : (stanza : Text) (id : ArchiveId) (name : ArchiveName) (bytes : Text) (f : Content) → PushesPart stanza id name bytes f f
still_pushes stanza id name bytes f s h = ([], part_none _, h)

-- nothing was changed, after every answer
pub rests_leave : (stanza : Text) (id : ArchiveId) (name : ArchiveName) (bytes : Text) (v b : View) → LeavesNoMore v b → b.now ≡ v.now → LeavesPart stanza id name bytes v b
rests_leave stanza id name bytes v b rests same = record {
  now = now_rests (PushesPart stanza id name bytes) v.now b.now (still_pushes stanza id name bytes) same;
  walks = λ synced known. rests_walks stanza v b rests same (PushesPart stanza id name bytes) (still_pushes stanza id name bytes) known synced;
}

-- .. and so the write wasn't made
pub rests_write : (stanza : Text) (id : ArchiveId) (name : ArchiveName) (bytes : Text) (v b : View) → LeavesNoMore v b → b.now ≡ v.now → Writes stanza id name bytes v b
rests_write stanza id name bytes v b rests same = record {
  now = now_none (writes_of stanza id name bytes) v.now b.now same;
  crash = λ synced known. crash_rests (FirstOf (writes_of stanza id name bytes)) v b (first_none (writes_of stanza id name bytes)) rests same;
}

-- what is synced in the file's folder is so at its paths
pub settles_paths : (stanza : Text) (id : ArchiveId) (name : ArchiveName) (names : FileNames) → AreNamesOf stanza id name names → (v b : View) → SyncsFolders (LiesDirectlyIn (string_bytes names.folder)) v b → SyncsFolders (IsPathOf stanza id name) v b
settles_paths stanza id name names of v b settles n x is synced k = settles n x (subst (λ (folder : Text). LiesDirectlyIn folder n) (sym of.folder) (path_lies stanza id name n is)) synced k

module _ (stanza : Text) (id : ArchiveId) (name : ArchiveName) (place : (sum : Text) → IsSum sum → IsArchivePlace id name sum) where
  -- ---- one content

  module _ (bytes : Text) where
    fits : IsArchivePlace id name (sha1 bytes)
    fits = place (sha1 bytes) (IsSum-sha1 bytes)

    abbrev path : Text
    path = archive_path stanza id name (sha1 bytes)

    path_is : IsArchiveFile stanza (archive_path stanza id name (sha1 bytes))
    path_is = record { id = id; file = name; sum = sha1 bytes; fits = fits; is = refl }

    -- the stanza has the file more
    with_file : (f g : Content) (s : Stanza) → StoresNone stanza id name f → HasStanza stanza f s → Alike (put (archive_path stanza id name (sha1 bytes)) (Some bytes) f) g → Represents stanza g (Some (changed (Push (archived_file id name bytes)) s))
    with_file f g s lacks h alike = alike_represents stanza (put path (Some bytes) f) g (Some (changed (Push (archived_file id name bytes)) s)) alike
        (stored_represents stanza (archived_file id name bytes) fits f s h (lacks_at stanza id name f lacks bytes))

    pub new_part : (f g : Content) → StoresNone stanza id name f → FirstOf ((archive_path stanza id name (sha1 bytes), bytes) ∷ []) f g → PushesPart stanza id name bytes f g
    new_part f g lacks w s h = ⊎_elim
        (λ (k : Alike f g). ([], part_none _, alike_represents stanza f g (Some s) k h))
        (λ (k : Alike (put path (Some bytes) f) g). (
          Push (archived_file id name bytes) ∷ [],
          subst (λ (steps : List Step). IsPartOf (Push (archived_file id name bytes) ∷ []) (map One steps)) (sym (new_push stanza id name place bytes f s h lacks)) (inr ([], refl, refl)),
          with_file f g s lacks h k,
        )) w

    pub new_all : (f g : Content) → StoresNone stanza id name f → AllOf ((archive_path stanza id name (sha1 bytes), bytes) ∷ []) f g → PushesAll stanza id name bytes f g
    new_all f g lacks w s h = subst (λ (steps : List Step). Represents stanza g (Some (after_all s steps))) (sym (new_push stanza id name place bytes f s h lacks)) (with_file f g s lacks h w)

    pub same_all : (f : Content) → StoresSome stanza id name f → PushesAll stanza id name bytes f f
    same_all f has s h = subst (λ (steps : List Step). Represents stanza f (Some (after_all s steps))) (sym (no_push stanza id name place bytes f s h has)) h

    new_past : (f g : Content) → FirstOf ((archive_path stanza id name (sha1 bytes), bytes) ∷ []) f g → AgreesPast stanza f g
    new_past f g w = ⊎_elim (λ (k : Alike f g). past_alike stanza f g k)
        (λ (k : Alike (put path (Some bytes) f) g). past_past stanza f (put path (Some bytes) f) g (put_past stanza path bytes f refl) (past_alike stanza (put path (Some bytes) f) g k)) w

  -- ---- the disk

  path_synced : (v : View) → IsSynced stanza v → (n : Text) → IsPathOf stanza id name n → is_unsynced v n ≡ false
  path_synced v synced n is = synced.fixed n (File (record { id = id; file = name; sum = is.0; fits = place is.0 is.1; is = is.2 }))

  module _ (v b : View) (rests : LeavesNoMore v b) (same : b.now ≡ v.now) (synced : IsSynced stanza v) (known : IsSome v.now) (settles : SyncsFolders (IsPathOf stanza id name) v b) where
    -- all that is left has at the file's paths what the disk holds
    pub alike_here : (f0 : Content) → v.now ≡ Some f0 → (f : Content) → Leaves b b.moment f → (n : Text) → IsPathOf stanza id name n → f n ≡ f0 n
    alike_here f0 now = settled_same (IsPathOf stanza id name) v b rests same settles (path_synced v synced) f0 now

    some_b : IsSome b.now
    some_b = subst (λ (o : Option Content). IsSome o) (sym same) known

    pub kept_alike : IsAlikeAt (IsPathOf stanza id name) b
    kept_alike f g now leaves n is = alike_here f (sym same ∙ now) g leaves n is

    module _ (bytes : Text) where
      -- it is stored already, in all that is left
      pub kept_ends : IfSome v.now (StoresSome stanza id name) → Ends (PushesAll stanza id name bytes) v b
      kept_ends has = record {
        comes = λ some g leaves.
            let f0 = known_as v.now known in
            let stores = at_known (StoresSome stanza id name) v.now f0.0 f0.1 has in
            let there : StoresSome stanza id name g = (stores.0, alike_stores stanza id name f0.0 g (alike_here f0.0 f0.1 g leaves) stores.0 stores.1) in
            (g, old_leaves v b rests g same leaves, same_all bytes g there);
      }

      module _ (d : View) (lacks : IfSome v.now (StoresNone stanza id name)) (crash : Crash (FirstOf ((archive_path stanza id name (sha1 bytes), bytes) ∷ [])) b d) where
        abbrev Pushes : Content → Content → Type 0
        Pushes = PushesPart stanza id name bytes

        -- it is stored in nothing that is left
        none_left : (f : Content) → Leaves b b.moment f → StoresNone stanza id name f
        none_left f leaves =
            let f0 = known_as v.now known in
            alike_none stanza id name f0.0 f (alike_here f0.0 f0.1 f leaves) (at_known (StoresNone stanza id name) v.now f0.0 f0.1 lacks)

        second : Walks stanza (PushesPart stanza id name bytes) b d
        second = crash_walks stanza (FirstOf ((archive_path stanza id name (sha1 bytes), bytes) ∷ [])) b d (rests_synced stanza v b rests same synced) some_b crash (new_past bytes)
            (PushesPart stanza id name bytes) (λ f g leaves w. new_part bytes f g (none_left f leaves) w)

        reads : Walks stanza (λ f g. g ≡ f) v b
        reads = rests_walks stanza v b rests same (λ f g. g ≡ f) (λ f. refl) known synced

        pub new_walks : Walks stanza (PushesPart stanza id name bytes) v d
        new_walks = walks_on stanza (λ f g. g ≡ f) (PushesPart stanza id name bytes) (PushesPart stanza id name bytes)
            (λ f g e. subst (λ (x : Content). PushesPart stanza id name bytes f x) (sym e) (still_pushes stanza id name bytes f))
            (λ f g h e p. subst (λ (x : Content). PushesPart stanza id name bytes x h) e p) v b d reads second

        pub new_ends : Ends (AllOf ((archive_path stanza id name (sha1 bytes), bytes) ∷ [])) b d → Ends (PushesAll stanza id name bytes) v d
        new_ends ends = ends_on stanza (λ f g. g ≡ f) (PushesAll stanza id name bytes) (PushesAll stanza id name bytes)
            (λ f g h e p. subst (λ (x : Content). PushesAll stanza id name bytes x h) e p) v b d reads
            (ends_with (AllOf ((archive_path stanza id name (sha1 bytes), bytes) ∷ [])) (PushesAll stanza id name bytes) b d ends (λ f g leaves w. new_all bytes f g (none_left f leaves) w))

        -- then all that is left is alike at the file's paths
        pub new_alike : Ends (AllOf ((archive_path stanza id name (sha1 bytes), bytes) ∷ [])) b d → IsAlikeAt (IsPathOf stanza id name) d
        new_alike ends f g now leaves n is =
            let f0 = known_as v.now known in
            let x = ends.comes some_b f (inl now) in
            let y = ends.comes some_b g leaves in
            stored_at y.0 g y.2 n is ∙ ap (λ (o : Option Text). o) (both x.0 y.0 (alike_here f0.0 f0.1 y.0 y.1 n is ∙ sym (alike_here f0.0 f0.1 x.0 x.1 n is))) ∙ sym (stored_at x.0 f x.2 n is)
          where
            lasts : (n : Text) → IsPathOf stanza id name n → ¬ IsTemporary n
            lasts n is = file_lasts stanza n (record { id = id; file = name; sum = is.0; fits = place is.0 is.1; is = is.2 })

            stored_at : (h k : Content) → Alike (put (archive_path stanza id name (sha1 bytes)) (Some bytes) h) k → (n : Text) → IsPathOf stanza id name n → k n ≡ put (archive_path stanza id name (sha1 bytes)) (Some bytes) h n
            stored_at h k alike n is = alike.same n (lasts n is)

            both : (h k : Content) → k n ≡ h n → put (archive_path stanza id name (sha1 bytes)) (Some bytes) k n ≡ put (archive_path stanza id name (sha1 bytes)) (Some bytes) h n
            both h k e = ap (λ (o : Option Text). if bytes_eq (archive_path stanza id name (sha1 bytes)) n then Some bytes else o) e

  -- ---- the file was looked for, and its folder synced

  module _ (v b : View) (rests : LeavesNoMore v b) (same : b.now ≡ v.now) (settles : SyncsFolders (IsPathOf stanza id name) v b) where
    -- what the disk held at the file's paths it has in all that is left
    pub looked_alike : IsSynced stanza v → IsSome v.now → IsAlikeAt (IsPathOf stanza id name) b
    looked_alike synced known = kept_alike v b rests same synced known settles

    -- .. also after calls that only read
    pub after_alike : (d : View) → LeavesNoMore b d → d.now ≡ b.now → IsSynced stanza v → IsSome v.now → IsAlikeAt (IsPathOf stanza id name) d
    after_alike d later still synced known = kept_alike v d (goes_on (λ _ _. ⊥) (λ _. ⊥) v b d rests later) (still ∙ same) synced known (settles_on (IsPathOf stanza id name) v b d settles later)

    -- it was stored
    pub stored_leaves : (bytes : Text) → IfSome v.now (StoresSome stanza id name) → LeavesAll stanza id name bytes v b
    stored_leaves bytes has = record {
      now = record {
        known = λ known. subst (λ (o : Option Content). IsSome o) (sym same) known;
        goes = λ f g is is'. subst (λ (h : Content). PushesAll stanza id name bytes f h) (same_content f g v.now is (sym same ∙ is')) (same_all bytes f (at_known (StoresSome stanza id name) v.now f is has));
      };
      ends = λ synced known. kept_ends v b rests same synced known settles bytes has;
    }
      where
        same_content : (f g : Content) (o : Option Content) → o ≡ Some f → o ≡ Some g → f ≡ g
        same_content f g o is is' = let e : ◌≡◌ {A = Option Content} (Some f) (Some g) = sym is ∙ is' in cc

    -- it was put, from pieces that were read
    module _ (names : FileNames) (of : AreNamesOf stanza id name names) (d : View) (lacks : IfSome v.now (StoresNone stanza id name))
        (read : Text) (part : PutsPart (path_with names (sha1 read)) read b d) where
      put_path : path_with names (sha1 read) ≡ archive_path stanza id name (sha1 read)
      put_path = name_of stanza id name names of (sha1 read)

      put_synced : IsSynced stanza v → is_unsynced b (path_with names (sha1 read)) ≡ false
      put_synced synced = subst (λ (n : Text). is_unsynced b n ≡ false) (sym put_path)
          (still_synced v b rests (archive_path stanza id name (sha1 read)) (path_synced v synced (archive_path stanza id name (sha1 read)) (sha1 read, IsSum-sha1 read, refl)))

      put_crash : IsSynced stanza v → IsSome v.now → Crash (FirstOf ((archive_path stanza id name (sha1 read), read) ∷ [])) b d
      put_crash synced known = subst (λ (n : Text). Crash (FirstOf ((n, read) ∷ [])) b d) put_path (part.crash (some_b v b rests same synced known settles) (put_synced synced))

      -- the write was made, or not
      pub put_writes : Writes stanza id name read v d
      put_writes =
          let file_lookup = crash_rests (FirstOf []) v b (first_none []) rests same in
          record {
            now = put_goes stanza id name names of place read (sha1 read) refl FirstOf v.now b.now d.now same part.now;
            crash = λ synced known. writes_on [] (writes_of stanza id name read) v b d file_lookup (crash_ends (AllOf []) v b file_lookup) (put_crash synced known);
          }

      -- what the disk held has the file nowhere
      was_none : (f : Content) → v.now ≡ Some f → StoresNone stanza id name f
      was_none f is = at_known (StoresNone stanza id name) v.now f is lacks

      now_part : NowChanges (PushesPart stanza id name read) v.now d.now
      now_part =
          let goes = put_writes.now in
          record { known = goes.known; goes = λ f g is is'. new_part read f g (was_none f is) (goes.goes f g is is') }

      pub put_leaves : LeavesPart stanza id name read v d
      put_leaves = record { now = now_part; walks = λ synced known. new_walks v b rests same synced known settles read d lacks (put_crash synced known) }

      module _ (whole : PutsWhole (path_with names (sha1 read)) read b d) where
        put_ends : IsSynced stanza v → IsSome v.now → Ends (AllOf ((archive_path stanza id name (sha1 read), read) ∷ [])) b d
        put_ends synced known = subst (λ (n : Text). Ends (AllOf ((n, read) ∷ [])) b d) put_path (whole.ends (some_b v b rests same synced known settles) (put_synced synced))

        now_all : NowChanges (PushesAll stanza id name read) v.now d.now
        now_all =
            let goes = put_goes stanza id name names of place read (sha1 read) refl AllOf v.now b.now d.now same whole.now in
            record { known = goes.known; goes = λ f g is is'. new_all read f g (was_none f is) (goes.goes f g is is') }

        pub put_leaves_all : LeavesAll stanza id name read v d
        put_leaves_all = record { now = now_all; ends = λ synced known. new_ends v b rests same synced known settles read d lacks (put_crash synced known) (put_ends synced known) }

        pub put_alike : IsSynced stanza v → IsSome v.now → IsAlikeAt (IsPathOf stanza id name) d
        put_alike synced known = new_alike v b rests same synced known settles read d lacks (put_crash synced known) (put_ends synced known)

-- ---- of a disk that represents one repository

module _ (stanza : Text) (id : ArchiveId) (name : ArchiveName) (bytes : Text) (v d : View) (part : LeavesPart stanza id name bytes v d) where
  now_represents : (r : Repository) (g : Content) → d.now ≡ Some g → Represents stanza g r → NowRepresents stanza r d.now
  now_represents r g is represents = record { represents = λ h is'. subst (λ (k : Content). Represents stanza k r) (same_content g h d.now is is') represents }
    where
      same_content : (f g : Content) (o : Option Content) → o ≡ Some f → o ≡ Some g → f ≡ g
      same_content f g o is is' = let e : ◌≡◌ {A = Option Content} (Some f) (Some g) = sym is ∙ is' in cc

  pub part_now : (s : Stanza) → IsSome v.now → NowRepresents stanza (Some s) v.now → NowPartOfPush stanza s (archived_file id name bytes) d.now
  part_now s some now =
      let f = known_as v.now some in
      let g = known_as d.now (part.now.known some) in
      let x = part.now.goes f.0 g.0 f.1 g.1 s (now.represents f.0 f.1) in
      (x.0, x.1, now_represents (after (Some s) x.0) g.0 g.1 x.2)

  pub part_moves : (s : Stanza) → IsSteady stanza (Some s) v → IsSome v.now → EachImage stanza (IsPartOfPush stanza s (archived_file id name bytes)) v d
  part_moves s steady some = walks_moves stanza (Some s) (PushesPart stanza id name bytes) v d steady (part.walks (steady_synced stanza (Some s) v steady) some)
      (IsPartOfPush stanza s (archived_file id name bytes)) (λ f g h p. p s h)

  module _ (all : LeavesAll stanza id name bytes v d) where
    pub all_now : (s : Stanza) → IsSome v.now → NowRepresents stanza (Some s) v.now → NowRepresents stanza (Some (after_all s (push_of s (archived_file id name bytes)))) d.now
    all_now s some now =
        let f = known_as v.now some in
        let g = known_as d.now (all.now.known some) in
        now_represents (Some (after_all s (push_of s (archived_file id name bytes)))) g.0 g.1 (all.now.goes f.0 g.0 f.1 g.1 s (now.represents f.0 f.1))

    pub all_steady : (s : Stanza) → IsSteady stanza (Some s) v → IsSome v.now → IsSteady stanza (Some (after_all s (push_of s (archived_file id name bytes)))) d
    all_steady s steady some =
        let synced = steady_synced stanza (Some s) v steady in
        ends_steady stanza (Some s) (PushesPart stanza id name bytes) v d steady (part.walks synced some) (PushesAll stanza id name bytes) some (all.ends synced some)
        (Some (after_all s (push_of s (archived_file id name bytes)))) (λ f g h p. p s h)
