-- A backup from the calls that make it.
use Rattle.std.proofs.Common.{◌≡◌, ◌≤◌, ◌⊎◌, ℕ, Bool, true, false, List, [], ◌<◌, slice_get, length, Option, Some, None, refl, sym, ◌∙◌, ap, subst, arith, inl, inr, ⊎_elim}
use Rattle.std.specs.Prelude.{IfSome, IsSome}
use Rattle.base_devices.specs.Content.{Name, Value, Content, HasBytes, Holds}
use Rattle.base_devices.specs.Moments.{View, is_unsynced}
use Rattle.base_devices.specs.Crash.{Crash, Ends, FirstOf, AllOf, IsTemporary, NowChanges, Write}
use Rattle.base_devices.specs.Links.{LinkState}
use Rattle.base_model.specs.Text.{Text}
use Rattle.base_model.specs.Names.{copy_of}
use Rattle.base_model.specs.Create.{member_writes}
use Rattle.base_model.specs.Values.{Manifest}
use Rattle.base_model.specs.InfoText.{info_text}
use Rattle.base_model.specs.InfoFiles.{backup_sections, IsBackupText}
use Rattle.base_model.specs.ManifestText.{manifest_limit}
use Rattle.repo_manifest.specs.Keeping.{manifest_text}
use Rattle.worker_protocol.specs.PartSinkState.{Done, JobItems}
use Rattle.backup_sink.specs.declared.keeper.EndedItem.{EndedItem}
use Rattle.backup_sink.specs.Relation.{Touches, touches_same}
use Rattle.backup_sink.specs.Way.{Way, MayUnsync, IsBeside}
use Rattle.backup_sink.proofs.Ways.{Law, way_as}
use Rattle.backup_sink.proofs.Made.{HasStored, IsMade, stored_way, manifest_way, made_way, made_ends}
use Rattle.backup_record.specs.Further.{Further, with_name, with_kept, kept_of}
use Rattle.backup_record.proofs.Extended.{at_both, with_placed}
use Rattle.backup_make.specs.declared.draft.Draft.{Draft}
use Rattle.backup_make.specs.Draft.{stanza_of, pair_of, main_of, is_own_of, label_name, label_further, further_in, IsDraft}
use Rattle.backup_make.specs.Online.{Online}
use Rattle.backup_make.specs.Stored.{Stored}
use Rattle.backup_make.specs.Staged.{HasLabel, IsStaged}
use Rattle.backup_make.specs.Prepared.{Prepares}
use Rattle.backup_make.specs.Made.{AreApart, HasCopies, IsSyncedAt, LeavesList, ListsIt, MakesOf}
use Rattle.backup_make.proofs.Copies.{copies_end, copies_held}
use Rattle.backup_make.proofs.Drafted.{names_held}
use Rattle.backup_make.proofs.LabelFile.{label_own, label_lasts}
use Rattle.backup_make.proofs.Nows.{stored_now, saved_now, listed_now, made_now}

-- what is held at a name
held_bytes : (o : Option Content) (n : Name) (t : Text) → Holds o n (Some t) → HasBytes o n
held_bytes None n t h = h
held_bytes (Some f) n t h = subst (λ (v : Value). IsSome v) h refl

held_one : (o : Option Content) (n : Name) (v : Value) (t : Text) → Holds o n (Some t) → Holds o n v → v ≡ Some t
held_one None n v t h k = absurd h
held_one (Some f) n v t h k = k ∙ sym h

module _ (draft : Draft) (apart : AreApart (is_own_of draft) (pair_of draft) (main_of draft)) where
  abbrev own : Name → Bool
  own = is_own_of draft

  abbrev pair : Name
  pair = pair_of draft

  abbrev main : Name
  main = main_of draft

  -- ---- bytes are stored

  module _ (a b : View) (law : Law a) (touches : Touches (is_own_of draft) a b) where
    stored_so : Way (MayUnsync (is_own_of draft)) (IsBeside (is_own_of draft) (pair_of draft)) a b
    stored_so = stored_way own pair main [] [] apart.pair_lasts apart.main_lasts apart.pair_two apart.main_two apart.pair_out apart.copy_out apart.main_out apart.main_copy_out apart.apart a b law touches

    stored_goes : NowChanges (IsBeside (is_own_of draft) (pair_of draft)) a.now b.now
    stored_goes = stored_now own pair main [] [] apart.pair_lasts apart.main_lasts apart.pair_two apart.main_two apart.pair_out apart.copy_out apart.main_out apart.main_copy_out apart.apart a b stored_so.known touches

    pub stays_stored : LeavesList draft a b
    stays_stored = record { now = stored_goes; way = λ synced. stored_so }

  -- ---- and the backup is listed

  module _ (o : Option Online) (links : List LinkState) (b : View) (law : Law b) where
    abbrev Synced : Type 0
    Synced = IsSyncedAt (pair_of draft) (main_of draft) b

    -- nothing was done yet
    none_way : Way (MayUnsync (is_own_of draft)) (IsBeside (is_own_of draft) (pair_of draft)) b b
    none_way = stored_so b b law (touches_same own b)

    none_goes : NowChanges (IsBeside (is_own_of draft) (pair_of draft)) b.now b.now
    none_goes = stored_goes b b law (touches_same own b)

    pub stays_still : LeavesList draft b b
    stays_still = stays_stored b b law (touches_same own b)

    -- what the manifest's saving leaves, at the name that it was given
    pub crash_at : (m : Manifest) (e : View) (n : Name) → n ≡ pair_of draft → (is_unsynced b n ≡ false → is_unsynced b (copy_of n) ≡ false → Crash (FirstOf (member_writes n (manifest_text m))) b e) → Synced → Crash (FirstOf (member_writes (pair_of draft) (manifest_text m))) b e
    crash_at m e n is h synced = subst (λ (k : Name). is_unsynced b k ≡ false → is_unsynced b (copy_of k) ≡ false → Crash (FirstOf (member_writes k (manifest_text m))) b e) is h synced.manifest synced.manifest_copy

    pub ends_at : (m : Manifest) (e : View) (n : Name) → n ≡ pair_of draft → (is_unsynced b n ≡ false → is_unsynced b (copy_of n) ≡ false → Ends (AllOf (member_writes n (manifest_text m))) b e) → Synced → Ends (AllOf (member_writes (pair_of draft) (manifest_text m))) b e
    ends_at m e n is h synced = subst (λ (k : Name). is_unsynced b k ≡ false → is_unsynced b (copy_of k) ≡ false → Ends (AllOf (member_writes k (manifest_text m))) b e) is h synced.manifest synced.manifest_copy

    -- the names of the writes that the disk holds
    pub goes_at : (Of : List Write → Content → Content → Type 0) (text given : Text) (old new : Option Content) (name n : Name) → n ≡ name → given ≡ text → NowChanges (Of (member_writes n given)) old new → NowChanges (Of (member_writes name text)) old new
    goes_at Of text given old new name n is same h = subst (λ (t : Text). NowChanges (Of (member_writes name t)) old new) same (subst (λ (k : Name). NowChanges (Of (member_writes k given)) old new) is h)

    module _ (m : Manifest) (e : View) (crash : Synced → Crash (FirstOf (member_writes (pair_of draft) (manifest_text m))) b e) where
      -- while the manifest is saved
      pub saved : Synced → Way (MayUnsync (is_own_of draft)) (IsBeside (is_own_of draft) (pair_of draft)) b e
      saved synced = manifest_way own pair main (manifest_text m) [] apart.pair_lasts apart.main_lasts apart.pair_two apart.main_two apart.pair_out apart.copy_out apart.main_out apart.main_copy_out apart.apart b b e none_way (crash synced)

      pub stays_saved : NowChanges (FirstOf (member_writes (pair_of draft) (manifest_text m))) b.now e.now → LeavesList draft b e
      stays_saved goes = record {
        now = saved_now own pair main (manifest_text m) [] apart.pair_lasts apart.main_lasts apart.pair_two apart.main_two apart.pair_out apart.copy_out apart.main_out apart.main_copy_out apart.apart b.now b.now e.now none_goes goes;
        way = saved;
      }

      later_still : Synced → (n : Name) → own n ≡ false → ¬ IsTemporary n → is_unsynced b n ≡ false → is_unsynced e n ≡ false
      later_still synced n out lasts h = (saved synced).synced e.moment n (saved synced).later (omega arith) (λ x. ⊎_elim (λ (is : own n ≡ true). let u : ◌≡◌ {A = Bool} true false = sym is ∙ out in cc) lasts x) h

      main_synced : Synced → is_unsynced e (main_of draft) ≡ false
      main_synced synced = later_still synced main apart.main_out apart.main_lasts synced.info

      main_copy_synced : Synced → is_unsynced e (copy_of (main_of draft)) ≡ false
      main_copy_synced synced = later_still synced (copy_of main) apart.main_copy_out apart.main_copy_lasts synced.info_copy

      -- what the list's saving leaves
      pub list_crash : (text given : Text) (d : View) (n : Name) → n ≡ main_of draft → given ≡ text → (is_unsynced e n ≡ false → is_unsynced e (copy_of n) ≡ false → Crash (FirstOf (member_writes n given)) e d) → Synced → Crash (FirstOf (member_writes (main_of draft) text)) e d
      list_crash text given d n is same h synced = subst (λ (t : Text). Crash (FirstOf (member_writes (main_of draft) t)) e d) same
          (subst (λ (k : Name). is_unsynced e k ≡ false → is_unsynced e (copy_of k) ≡ false → Crash (FirstOf (member_writes k given)) e d) is h (main_synced synced) (main_copy_synced synced))

      pub list_ends : (text given : Text) (d : View) (n : Name) → n ≡ main_of draft → given ≡ text → (is_unsynced e n ≡ false → is_unsynced e (copy_of n) ≡ false → Ends (AllOf (member_writes n given)) e d) → Synced → Ends (AllOf (member_writes (main_of draft) text)) e d
      list_ends text given d n is same h synced = subst (λ (t : Text). Ends (AllOf (member_writes (main_of draft) t)) e d) same
          (subst (λ (k : Name). is_unsynced e k ≡ false → is_unsynced e (copy_of k) ≡ false → Ends (AllOf (member_writes k given)) e d) is h (main_synced synced) (main_copy_synced synced))

      module _ (is_draft : IsDraft draft) (text : Text) (d : View) (ended : List (List EndedItem)) (staged : IsStaged draft o links ended b) (stop : ℕ) (prepares : Prepares draft o ended stop m text) (within : length (manifest_text m) ≤ manifest_limit)
          (ends : Synced → Ends (AllOf (member_writes (pair_of draft) (manifest_text m))) b e) (last : Synced → Crash (FirstOf (member_writes (main_of draft) text)) e d)
          (pair_goes : NowChanges (AllOf (member_writes (pair_of draft) (manifest_text m))) b.now e.now) (list_goes : NowChanges (FirstOf (member_writes (main_of draft) text)) e.now d.now) where
        abbrev got : Stored draft links ended b.now
        got = staged.stored

        -- the label file, where a server ran
        abbrev further : Option Further
        further = further_in draft o stop

        abbrev names : List Name
        names = with_name (further_in draft o stop) staged.stored.names

        abbrev kept : List JobItems
        kept = with_kept (further_in draft o stop) staged.stored.kept

        abbrev Listed : Content → Content → Type 0
        Listed f g = ListsIt draft o m prepares.list staged.stored.names staged.stored.kept stop f g

        count : length staged.stored.names ≡ length staged.stored.kept
        count = names_held draft is_draft staged.stored.names staged.stored.names_are ended staged.stored.kept staged.stored.are staged.stored.come

        spelled : text ≡ info_text (backup_sections prepares.list)
        spelled = prepares.valid.spelled

        label_in : (g : Content) → IsSome b.now → HasStored own b.now g → IfSome further (λ y. g y.name ≡ Some y.bytes)
        label_in g known has = by o staged.label
          where
            by : (o : Option Online) → IfSome o (HasLabel draft b.now) → IfSome (further_in draft o stop) (λ y. g y.name ≡ Some y.bytes)
            by None x = tt
            by (Some y) x = held_one b.now (label_name draft) (g (label_name draft)) y.label_file (x known) (has.stored (label_name draft) (label_own draft) (label_lasts draft) (held_bytes b.now (label_name draft) y.label_file (x known)))

        has_backup : IsSome b.now → (f g : Content) → IsMade own pair main (manifest_text m) text b.now f g → Listed f g
        has_backup known f g made = record {
          info_is = made.info_is ∙ ap (λ (t : Text). Some t) spelled;
          manifest_is = made.manifest_is;
          placed = with_placed (stanza_of draft) draft.label staged.stored.kept staged.stored.names further g count (label_in g known made.has) (staged.stored.placed known g (λ n is lasts has. made.has.stored n is lasts has));
          others = made.others;
        }

        done_way : Synced → Way (MayUnsync own) (λ f g. IsBeside own pair f g ⊎ Listed f g) b d
        done_way synced = way_as (MayUnsync own) (λ f g. IsBeside own pair f g ⊎ IsMade own pair main (manifest_text m) text b.now f g) (λ f g. IsBeside own pair f g ⊎ Listed f g) b d
            (λ known f g s. ⊎_elim inl (λ made. inr (has_backup known f g made)) s)
            (made_way own pair main (manifest_text m) text apart.pair_lasts apart.main_lasts apart.pair_two apart.main_two apart.pair_out apart.copy_out apart.main_out apart.main_copy_out apart.apart b b e d none_way (saved synced) staged.sealed (ends synced) (last synced))

        -- a name with bytes that were stored isn't unsynced
        own_lasting : Synced → (n : Name) → own n ≡ true → ¬ IsTemporary n → HasBytes b.now n → is_unsynced d n ≡ false
        own_lasting synced n is lasts has = (last synced).synced d.moment n (last synced).later (omega arith) lasts ((crash synced).synced e.moment n (crash synced).later (omega arith) lasts (staged.sealed.synced n is has))

        item_lasting : Synced → IsSome b.now → (j i : ℕ) (n : Name) (k : JobItems) (x : Done) → slice_get staged.stored.names j ≡ Some n → slice_get staged.stored.kept j ≡ Some k → slice_get k.done i ≡ Some x → 0 < x.held.count → is_unsynced d n ≡ false
        item_lasting synced known j i n k x is_n is_k is_x some = let own_n = staged.stored.own j n is_n in own_lasting synced n own_n.0 own_n.1 (staged.stored.filled known j i n k x is_n is_k is_x some)

        lasting : Synced → IsSome b.now → (j i : ℕ) (n : Name) (k : JobItems) (x : Done) → slice_get names j ≡ Some n → slice_get kept j ≡ Some k → slice_get k.done i ≡ Some x → 0 < x.held.count → is_unsynced d n ≡ false
        lasting synced known = by o staged.label
          where
            by : (o : Option Online) → IfSome o (HasLabel draft b.now) → (j i : ℕ) (n : Name) (k : JobItems) (x : Done) → slice_get (with_name (further_in draft o stop) staged.stored.names) j ≡ Some n
                → slice_get (with_kept (further_in draft o stop) staged.stored.kept) j ≡ Some k → slice_get k.done i ≡ Some x → 0 < x.held.count → is_unsynced d n ≡ false
            by None h j i n k x is_n is_k is_x some = item_lasting synced known j i n k x is_n is_k is_x some
            by (Some y) h j i n k x is_n is_k is_x some = ⊎_elim
                (λ (r : (slice_get staged.stored.names j ≡ Some n) × (slice_get staged.stored.kept j ≡ Some k)). item_lasting synced known j i n k x r.0 r.1 is_x some)
                (λ (r : (n ≡ label_name draft) × (k ≡ kept_of (label_further draft y stop))). subst (λ (q : Name). is_unsynced d q ≡ false) (sym r.0) (own_lasting synced (label_name draft) (label_own draft) (label_lasts draft) (held_bytes b.now (label_name draft) y.label_file (h known))))
                (at_both (stanza_of draft) draft.label staged.stored.kept staged.stored.names (label_further draft y stop) count j n k is_n is_k)

        some_of : (o : Option Content) (f : Content) → o ≡ Some f → IsSome o
        some_of o f is = subst (λ (x : Option Content). IsSome x) (sym is) refl

        done_goes : NowChanges (λ f g. IsBeside own pair f g ⊎ Listed f g) b.now d.now
        done_goes =
            let x = listed_now own pair main (manifest_text m) text apart.pair_lasts apart.main_lasts apart.pair_two apart.main_two apart.pair_out apart.copy_out apart.main_out apart.main_copy_out apart.apart b.now b.now e.now none_goes d.now pair_goes list_goes in
            record { known = x.known; goes = λ f g is_f is_g. ⊎_elim inl (λ made. inr (has_backup (some_of b.now f is_f) f g made)) (x.goes f g is_f is_g) }

        makes : (whole : Bool) → (Synced → whole ≡ true → Ends Listed b d) → (whole ≡ true → NowChanges Listed b.now d.now) → (Synced → whole ≡ true → Ends (λ f g. HasCopies pair main m prepares.list g) b d)
            → (whole ≡ true → NowChanges (λ f g. HasCopies pair main m prepares.list g) b.now d.now) → (x : MakesOf draft o links whole b d) × (x.stop ≡ stop)
        makes whole at_end all_now copied copied_now = (
          record {
            names = staged.stored.names;
            names_are = staged.stored.names_are;
            ends = ended;
            kept = staged.stored.kept;
            received = staged.stored.received;
            payload = staged.stored.payload;
            are = staged.stored.are;
            come = staged.stored.come;
            got = staged.stored.got;
            stop = stop;
            manifest = m;
            manifest_is = prepares.manifest_is;
            manifest_valid = record { rules = prepares.rules; spelled = refl; within = within };
            control = prepares.control;
            list = prepares.list;
            listed = prepares.listed;
            list_valid = subst (IsBackupText prepares.list) spelled prepares.valid;
            now = done_goes;
            whole_now = all_now;
            synced = lasting;
            way = done_way;
            whole_way = at_end;
            copies_now = copied_now;
            copies = copied;
          },
          refl,
        )

        -- the stanza's list may have been saved
        pub makes_part : MakesOf draft o links false b d
        makes_part = (makes false (λ synced (none : false ≡ true). cc) (λ (none : false ≡ true). cc) (λ synced (none : false ≡ true). cc) (λ (none : false ≡ true). cc)).0

        -- it was
        pub makes_whole : (Synced → Ends (AllOf (member_writes (main_of draft) text)) e d) → NowChanges (AllOf (member_writes (main_of draft) text)) e.now d.now → (x : MakesOf draft o links true b d) × (x.stop ≡ stop)
        makes_whole all all_goes = makes true
            (λ synced is. record {
              comes = λ known g leaves. let x = (made_ends own pair main (manifest_text m) text apart.pair_lasts apart.main_lasts apart.pair_two apart.main_two apart.pair_out apart.copy_out apart.main_out apart.main_copy_out apart.apart b b e d none_way (saved synced) staged.sealed (ends synced) (all synced)).comes known g leaves in
                  (x.0, x.1, has_backup known x.0 g x.2);
            })
            (λ is. let x = made_now own pair main (manifest_text m) text apart.pair_lasts apart.main_lasts apart.pair_two apart.main_two apart.pair_out apart.copy_out apart.main_out apart.main_copy_out apart.apart b.now b.now e.now none_goes d.now pair_goes all_goes in
            record { known = x.known; goes = λ f g is_f is_g. has_backup (some_of b.now f is_f) f g (x.goes f g is_f is_g) })
            (λ synced is. copies_end own pair main apart m prepares.list text spelled b e d (saved synced).known (ends synced) (all synced))
            (λ is. copies_held own pair main apart m prepares.list text spelled b.now e.now d.now pair_goes all_goes)
