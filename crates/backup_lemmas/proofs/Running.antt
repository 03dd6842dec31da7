-- A backup of a running server as a command of the log: it is fetched and closed, it waits for steps of others, and
-- then it is listed.
use Rattle.std.proofs.Common.{◌≡◌, ◌⊎◌, ⊎_elim, inl, inr, ℕ, Bool, true, false, List, [], ◌∷◌, ◌++◌, Option, Some, None, Result, Ok, Err, refl, sym, ◌∙◌, ap, subst, arith}
use Rattle.std.specs.FinMap.{get}
use Rattle.std.specs.Prelude.{IfSome, IsSome}
use Rattle.std.specs.Result.{IsErrAnd, is_ok}
use Rattle.base_devices.specs.Content.{Content}
use Rattle.base_devices.specs.Moments.{View}
use Rattle.base_devices.specs.Links.{LinkState}
use Rattle.base_model.specs.declared.labels.Label.{Label}
use Rattle.base_model.specs.declared.wal.WalPart.{WalPart}
use Rattle.base_model.specs.Text.{Text, In}
use Rattle.base_model.specs.Values.{BackupInfo, Manifest}
use Rattle.base_model.specs.Repository.{Backup, File, Stanza, Repository, IsSound, IsSoundStanza, HasItsSegments, id_of}
use Rattle.base_model.specs.Represents.{Represents, HasStanza, IsAncestor, IsListed}
use Rattle.base_model.specs.Steps.{Step, Turn, Command, MakeBackup, ArchivePushAsync, AddBackup, Move, changed, after, all_of, steps_of, turn_moves, IsPartOf}
use Rattle.base_model.specs.Log.{IsDone}
use Rattle.base_model.specs.Now.{NowRepresents}
use Rattle.base_model.specs.Steady.{IsSteady, EachImage}
use Rattle.base_model.proofs.Done.{part_none}
use Rattle.base_model.proofs.PushDone.{after_some}
use Rattle.cmd_types.specs.declared.stages.plan.SyncScope.TheVariants.{Whole}
use Rattle.cmd_types.specs.DisksEffect.{IsPart, DoesPart, DoesWhole, RepoEffect, Reached, to_end, turned_back, stopped}
use Rattle.backup_sink.specs.Way.{IsBeside}
use Rattle.backup_record.specs.Record.{IsListOf}
use Rattle.backup_record.proofs.Left.{OneManifest}
use Rattle.backup_make.specs.declared.draft.Draft.{Draft}
use Rattle.backup_make.specs.declared.fault.MakeFault.{MakeFault}
use Rattle.backup_make.specs.Draft.{stanza_of, pair_of, is_own_of, list_in, IsFree}
use Rattle.backup_make.specs.Made.{LeavesList, ListsIt, MakesOf, MayBeListed, OutcomeOf}
use Rattle.backup_make.specs.Online.{Online, label_path}
use Rattle.backup_make.proofs.Far.{far}
use Rattle.backup_make.proofs.Unlisted.{synced_of, beside_represents, unlisted_moves}
use Rattle.backup_lemmas.specs.Backups.{IsReadOrLeftBeside, IsAnyOnlineBackup, Waits, Archives, HasPart}
use Rattle.repo_stanza.proofs.Settled.{OneList}
use Rattle.backup_lemmas.proofs.Based.{BasedOn}
use Rattle.backup_lemmas.proofs.Reading.{RepresentsBeside, backup_made, online_read, label_there, no_files, no_files_left_beside}
use Rattle.backup_lemmas.proofs.Begun.{BeginsBackup, known_as, at_now, stanza_there, list_there, no_vacant, steady_list}
use Rattle.backup_lemmas.proofs.Following.{moves_steady, moves_on, all_then, part_then, all_part, after_then, one_cluster}
use Rattle.backup_lemmas.proofs.Listed.{sound_with, made_represents, references_stand, two_moves, made_steady}
use Rattle.backup_lemmas.proofs.Unlisted.{unlisted_part}
use Rattle.backup_lemmas.proofs.Waited.{waits_moves, waits_steady, waits_sound, waited, list_waited, backups_waited}

-- ---- the moves

module _ (s : Stanza) (turns : List Turn) (b : Backup) where
  abbrev moves_it : Command
  moves_it = MakeBackup turns b None

  -- all of the steps of others, and then the backup
  pub all_steps : all_of (steps_of (MakeBackup turns b None) (Some s)) ≡ all_of (turn_moves s turns) ++ AddBackup b ∷ []
  all_steps = all_then (turn_moves s turns) (AddBackup b)

  pub with_it : after (Some s) (all_of (turn_moves s turns) ++ AddBackup b ∷ []) ≡ Some (changed (AddBackup b) (waited s turns))
  with_it = after_then s (all_of (turn_moves s turns)) (AddBackup b)

  -- all of the steps of others are a part of the command
  pub waited_part : (stanza : Text) (g : Content) → Represents stanza g (Some (waited s turns)) → IsSoundStanza (waited s turns) → IsPart stanza (MakeBackup turns b None) (Some s) g
  waited_part stanza g x sound =
      let all = sym (after_some s (all_of (turn_moves s turns))) in
      (all_of (turn_moves s turns), part_then (all_of (turn_moves s turns)) (turn_moves s turns) (AddBackup b) (all_part (turn_moves s turns)), subst (λ (r : Repository). Represents stanza g r) all x, subst IsSound all sound)

  pub whole_part : IsPartOf (all_of (turn_moves s turns) ++ AddBackup b ∷ []) (steps_of (MakeBackup turns b None) (Some s))
  whole_part = subst (λ (done : List Step). IsPartOf done (steps_of (MakeBackup turns b None) (Some s))) all_steps (all_part (steps_of (MakeBackup turns b None) (Some s)))

  pub listed_part : (stanza : Text) (g : Content) → Represents stanza g (Some (changed (AddBackup b) (waited s turns))) → IsSoundStanza (changed (AddBackup b) (waited s turns)) → IsPart stanza (MakeBackup turns b None) (Some s) g
  listed_part stanza g x sound = (all_of (turn_moves s turns) ++ AddBackup b ∷ [], whole_part, subst (λ (r : Repository). Represents stanza g r) (sym with_it) x, subst IsSound (sym with_it) sound)

pub done_part : (e : Bool) (done : List Step) (moves : List Move) → IsDone e done moves → IsPartOf done moves
done_part true done moves is = subst (λ (d : List Step). IsPartOf d moves) (sym is) (all_part moves)
done_part false done moves is = is

-- each part of the steps of others is one of the command
abbrev pub Covers : List Turn → Command → Type 0
Covers turns command = (s : Stanza) (done : List Step) → IsPartOf done (turn_moves s turns) → IsPartOf done (steps_of command (Some s))

pub covers_backup : (turns : List Turn) (b : Backup) → Covers turns (MakeBackup turns b None)
covers_backup turns b s done p = part_then done (turn_moves s turns) (AddBackup b) p

pub covers_turns : (turns : List Turn) → Covers turns (ArchivePushAsync turns)
covers_turns turns s done p = p

-- ---- up to the end of the wait

module _ (one_list : OneList) (one_manifest : OneManifest) (draft : Draft) (a c : View) (begins : BeginsBackup draft a) (left : LeavesList draft a c) where
  -- the stanza is still there
  pub still_there : (s : Stanza) → IsListOf s (list_in draft) → (f g : Content) → HasStanza (stanza_of draft) f s → a.now ≡ Some f → c.now ≡ Some g → HasStanza (stanza_of draft) g s
  still_there s list f g h is_f is_g = beside_represents draft s (far one_manifest draft begins.is_draft s list) f g h (left.now.goes f g is_f is_g)

  pub left_moves : (s : Stanza) → IsSome a.now → IsSteady (stanza_of draft) (Some s) a → EachImage (stanza_of draft) (λ g. Represents (stanza_of draft) g (Some s)) a c
  left_moves s some steady = unlisted_moves draft s (far one_manifest draft begins.is_draft s (steady_list one_list draft a begins some s steady)) a c some (left.way (synced_of draft s a steady)) steady

  pub left_represents : (s : Stanza) → IsSome a.now → NowRepresents (stanza_of draft) (Some s) a.now → NowRepresents (stanza_of draft) (Some s) c.now
  left_represents s some represents =
      let f = known_as a.now some in
      let g = known_as c.now (left.now.known some) in
      let h : HasStanza (stanza_of draft) f.0 s = represents.represents f.0 f.1 in
      at_now (stanza_of draft) c.now g.0 g.1 (Some s) (still_there s (list_there one_list draft a begins f.0 f.1 s h) f.0 g.0 h f.1 g.1)

  module _ (turns : List Turn) (ended : Bool) (w : View) (waits : Waits (stanza_of draft) turns ended c w) where
    -- the wait, where each part of the steps of others is one of the command
    module _ (command : Command) (covers : Covers turns command) where
      wait_now : (r : Repository) → IsSome a.now → NowRepresents (stanza_of draft) r a.now → (done : List Step) × IsPartOf done (steps_of command r) × NowRepresents (stanza_of draft) (after r done) w.now
      wait_now r some represents =
          let f = known_as a.now some in
          let x = stanza_there one_list draft a begins f.0 f.1 r (represents.represents f.0 f.1) in
          let here = subst (λ (q : Repository). NowRepresents (stanza_of draft) q a.now) x.1 represents in
          let y = waits.does.does (Some x.0) tt (left.now.known some) (left_represents x.0 some here) in
          subst (λ (q : Repository). (done : List Step) × IsPartOf done (steps_of command q) × NowRepresents (stanza_of draft) (after q done) w.now) (sym x.1)
          (y.0, covers x.0 y.0 (done_part ended y.0 (turn_moves x.0 turns) y.1), y.2)

      wait_moves : (s : Stanza) → IsSome a.now → IsSteady (stanza_of draft) (Some s) a → IsSoundStanza s → EachImage (stanza_of draft) (IsPart (stanza_of draft) command (Some s)) a w
      wait_moves s some steady sound =
          let m = left_moves s some steady in
          moves_on (stanza_of draft) (λ g. Represents (stanza_of draft) g (Some s)) (IsPart (stanza_of draft) (ArchivePushAsync turns) (Some s)) (IsPart (stanza_of draft) command (Some s)) a c w
          (λ g x. ([], part_none (steps_of command (Some s)), x, sound))
          (λ g x. (x.0, covers s x.0 x.1, x.2, x.3))
          m (waits_moves (stanza_of draft) turns ended c w waits (left.now.known some) (Some s) sound (moves_steady (stanza_of draft) (Some s) a c m))

      wait_goes : (r : Repository) → IsSome a.now → IsSteady (stanza_of draft) r a → IsSound r → EachImage (stanza_of draft) (IsPart (stanza_of draft) command r) a w
      wait_goes None some steady sound = absurd (no_vacant one_list draft a begins some steady)
      wait_goes (Some s) some steady sound = wait_moves s some steady sound

      -- it is a part of the command
      pub wait_part : DoesPart Whole (stanza_of draft) command a w
      wait_part = record { part = record { known = λ some. waits.does.known (left.now.known some); does = λ r from. wait_now r }; goes = wait_goes }

    -- ---- where all steps of others succeeded

    module _ (is : ended ≡ true) where
      pub some_then : IsSome a.now → IsSome w.now
      some_then some = waits.does.known (left.now.known some)

      -- the stanza is there with what they pushed
      pub now_waited : (s : Stanza) → IsSome a.now → NowRepresents (stanza_of draft) (Some s) a.now → (g : Content) → w.now ≡ Some g → HasStanza (stanza_of draft) g (waited s turns)
      now_waited s some represents g is_g =
          let y = waits.does.does (Some s) tt (left.now.known some) (left_represents s some represents) in
          let all : y.0 ≡ all_of (turn_moves s turns) = subst (λ (e : Bool). IsDone e y.0 (turn_moves s turns)) is y.1 in
          subst (λ (r : Repository). Represents (stanza_of draft) g r) (ap (after (Some s)) all ∙ after_some s (all_of (turn_moves s turns))) (y.2.represents g is_g)

      pub waited_list : (s : Stanza) → IsListOf s (list_in draft) → IsListOf (waited s turns) (list_in draft)
      waited_list s list = list ∙ sym (list_waited s turns)

      waited_steady : (s : Stanza) → IsSome a.now → IsSteady (stanza_of draft) (Some s) a → IsSoundStanza s → IsSteady (stanza_of draft) (Some (waited s turns)) w × IsSoundStanza (waited s turns)
      waited_steady s some steady sound =
          let m = moves_steady (stanza_of draft) (Some s) a c (left_moves s some steady) in
          let all = after_some s (all_of (turn_moves s turns)) in (
            subst (λ (r : Repository). IsSteady (stanza_of draft) r w) all (waits_steady (stanza_of draft) turns ended c w waits (left.now.known some) (Some s) sound m is),
            subst IsSound all (waits_sound (stanza_of draft) turns ended c w waits (left.now.known some) (Some s) sound m is),
          )

      -- the backup isn't listed then
      module _ (d : View) (leaves : LeavesList draft w d) (command : Command) (covers : Covers turns command) where
        unlisted_now : (r : Repository) → IsSome a.now → NowRepresents (stanza_of draft) r a.now → (done : List Step) × IsPartOf done (steps_of command r) × NowRepresents (stanza_of draft) (after r done) d.now
        unlisted_now r some represents =
            let f = known_as a.now some in
            let x = stanza_there one_list draft a begins f.0 f.1 r (represents.represents f.0 f.1) in
            let here = subst (λ (q : Repository). NowRepresents (stanza_of draft) q a.now) x.1 represents in
            let s = x.0 in
            let g = known_as w.now (some_then some) in
            let k = known_as d.now (leaves.now.known (some_then some)) in
            let list = waited_list s (list_there one_list draft a begins f.0 f.1 s x.2) in
            let represents_d = beside_represents draft (waited s turns) (far one_manifest draft begins.is_draft (waited s turns) list) g.0 k.0 (now_waited s some here g.0 g.1) (leaves.now.goes g.0 k.0 g.1 k.1) in
            subst (λ (q : Repository). (done : List Step) × IsPartOf done (steps_of command q) × NowRepresents (stanza_of draft) (after q done) d.now) (sym x.1) (
              all_of (turn_moves s turns),
              covers s (all_of (turn_moves s turns)) (all_part (turn_moves s turns)),
              subst (λ (q : Repository). NowRepresents (stanza_of draft) q d.now) (sym (after_some s (all_of (turn_moves s turns)))) (at_now (stanza_of draft) d.now k.0 k.1 (Some (waited s turns)) represents_d),
            )

        unlisted_goes : (r : Repository) → IsSome a.now → IsSteady (stanza_of draft) r a → IsSound r → EachImage (stanza_of draft) (IsPart (stanza_of draft) command r) a d
        unlisted_goes None some steady sound = absurd (no_vacant one_list draft a begins some steady)
        unlisted_goes (Some s) some steady sound =
            let y = waited_steady s some steady sound in
            let list = waited_list s (steady_list one_list draft a begins some s steady) in
            let m = unlisted_moves draft (waited s turns) (far one_manifest draft begins.is_draft (waited s turns) list) w d (some_then some) (leaves.way (synced_of draft (waited s turns) w y.0)) y.0 in
            moves_on (stanza_of draft) (IsPart (stanza_of draft) command (Some s)) (λ g. Represents (stanza_of draft) g (Some (waited s turns))) (IsPart (stanza_of draft) command (Some s)) a w d
            (λ g x. x)
            (λ g x. (
            let all = sym (after_some s (all_of (turn_moves s turns))) in
            (all_of (turn_moves s turns), covers s (all_of (turn_moves s turns)) (all_part (turn_moves s turns)), subst (λ (r : Repository). Represents (stanza_of draft) g r) all x, subst IsSound all y.1)
            ))
            (wait_moves command covers s some steady sound) m

        pub unlisted_after : DoesPart Whole (stanza_of draft) command a d
        unlisted_after = record { part = record { known = λ some. leaves.now.known (some_then some); does = λ r from. unlisted_now r }; goes = unlisted_goes }

      -- ---- and where it is, or may be

      module _ (o : Online) (free : IsFree draft) (links : List LinkState) (d : View) (arrived : IfSome w.now (HasPart (stanza_of draft) (id_of draft.cluster) o.part)) (based : BasedOn draft w draft.prior) (whole : Bool) (makes : MakesOf draft (Some o) links whole w d) where
        abbrev b : Backup
        b = backup_made draft (Some o) links whole w d makes

        abbrev makes_it : Command
        makes_it = MakeBackup turns (backup_made draft (Some o) links whole w d makes) None

        module _ (some : IsSome a.now) (s : Stanza) (list : IsListOf s (list_in draft)) where
          abbrev t : Stanza
          t = waited s turns

          after_list : IsListOf (waited s turns) (list_in draft)
          after_list = waited_list s list

          in_history : In draft.cluster (waited s turns).history
          in_history = subst (λ (v : BackupInfo). In draft.cluster v.history) after_list (begins.is_draft.follows 0 (omega arith)).cluster

          its_db : b.entry.db ≡ draft.cluster.id
          its_db = ap (λ (m : Manifest). m.cluster.id) makes.manifest_is

          its_wal : b.wal ≡ Some o.part
          its_wal = ap (λ (m : Manifest). m.wal) makes.manifest_is

          part_at : (g : Content) → w.now ≡ Some g → HasPart (stanza_of draft) (id_of draft.cluster) o.part g
          part_at g is_g = let x : IfSome (Some g) (HasPart (stanza_of draft) (id_of draft.cluster) o.part) = subst (λ (n : Option Content). IfSome n (HasPart (stanza_of draft) (id_of draft.cluster) o.part)) is_g arrived in x

          -- its segments are archived
          segments : (g : Content) → w.now ≡ Some g → HasStanza (stanza_of draft) g (waited s turns) → IsSoundStanza (waited s turns) → HasItsSegments (waited s turns) (backup_made draft (Some o) links whole w d makes)
          segments g is_g h sound = subst (λ (p : Option WalPart). HasItsSegments t (let x : Backup = record { entry = b.entry; wal = p; choices = b.choices; folders = b.folders; files = b.files } in x)) (sym its_wal) (λ segment k at id within. (
              let same : k ≡ draft.cluster = one_cluster 1 t.history k draft.cluster sound.numbers at in_history (id ∙ its_db) in
              let x = part_at g is_g t h segment within in
              (x.0, x.1, x.2 ∙ ap id_of (sym same), x.3)
              ))

          -- the repository is sound with it where it was
          pub waited_sound : NowRepresents (stanza_of draft) (Some s) a.now → IsSoundStanza s → IsSoundStanza (changed (AddBackup (backup_made draft (Some o) links whole w d makes)) (waited s turns))
          waited_sound represents sound =
              let g = known_as w.now (some_then some) in
              let h = now_waited s some represents g.0 g.1 in
              let all = after_some s (all_of (turn_moves s turns)) in
              let there : IsSoundStanza (waited s turns) = subst IsSound all (waits.sound (Some s) (left.now.known some) (left_represents s some represents) sound) in
              sound_with one_list one_manifest draft begins.is_draft (Some o) free links w d based whole makes g.0 g.1 (waited s turns) after_list h (segments g.0 g.1 h there) there

          represents_with : (f g : Content) → w.now ≡ Some f → HasStanza (stanza_of draft) f (waited s turns) → ListsIt draft (Some o) makes.manifest makes.list makes.names makes.kept makes.stop f g → HasStanza (stanza_of draft) g (changed (AddBackup (backup_made draft (Some o) links whole w d makes)) (waited s turns))
          represents_with f g is_f h x = made_represents one_list one_manifest draft begins.is_draft (Some o) free links w d based whole makes f is_f (waited s turns) after_list h g x

          module _ (steady : IsSteady (stanza_of draft) (Some s) a) (sound : IsSoundStanza s) where
            at_w : IsSteady (stanza_of draft) (Some (waited s turns)) w × IsSoundStanza (waited s turns)
            at_w = waited_steady s some steady sound

            sound_now : IsSoundStanza (changed (AddBackup (backup_made draft (Some o) links whole w d makes)) (waited s turns))
            sound_now =
                let g = known_as w.now (some_then some) in
                sound_with one_list one_manifest draft begins.is_draft (Some o) free links w d based whole makes g.0 g.1 (waited s turns) after_list (at_w.0.represents g.0 (inl g.1))
                (segments g.0 g.1 (at_w.0.represents g.0 (inl g.1)) at_w.1) at_w.1

            made_moves : EachImage (stanza_of draft) (IsPart (stanza_of draft) makes_it (Some s)) a d
            made_moves =
                let g = known_as w.now (some_then some) in
                moves_on (stanza_of draft) (IsPart (stanza_of draft) makes_it (Some s)) (λ g. Represents (stanza_of draft) g (Some t) ⊎ Represents (stanza_of draft) g (Some (changed (AddBackup b) t))) (IsPart (stanza_of draft) makes_it (Some s)) a w d
                (λ g x. x)
                (λ g x. ⊎_elim (λ y. waited_part s turns b (stanza_of draft) g y at_w.1) (λ y. listed_part s turns b (stanza_of draft) g y sound_now) x)
                (wait_moves makes_it (covers_backup turns b) s some steady sound)
                (two_moves one_list one_manifest draft begins.is_draft (Some o) free links w d based whole makes g.0 g.1 (waited s turns) after_list (at_w.0.represents g.0 (inl g.1)) at_w.0)

            steady_with : whole ≡ true → IsSteady (stanza_of draft) (Some (changed (AddBackup (backup_made draft (Some o) links whole w d makes)) (waited s turns))) d
            steady_with all =
                let g = known_as w.now (some_then some) in
                made_steady one_list one_manifest draft begins.is_draft (Some o) free links w d based whole makes g.0 g.1 (waited s turns) after_list (at_w.0.represents g.0 (inl g.1)) at_w.0 all

        abbrev Done : Bool → Repository → Type 0
        Done all r = (done : List Step) × IsDone all done (steps_of makes_it r) × NowRepresents (stanza_of draft) (after r done) d.now

        now_part : (r : Repository) → IsSome a.now → NowRepresents (stanza_of draft) r a.now → Done false r
        now_part r some represents =
            let f = known_as a.now some in
            let x = stanza_there one_list draft a begins f.0 f.1 r (represents.represents f.0 f.1) in
            let here = subst (λ (q : Repository). NowRepresents (stanza_of draft) q a.now) x.1 represents in
            let s = x.0 in
            let list = list_there one_list draft a begins f.0 f.1 s x.2 in
            let g = known_as w.now (some_then some) in
            let k = known_as d.now (makes.now.known (some_then some)) in
            let h = now_waited s some here g.0 g.1 in
            let all = sym (after_some s (all_of (turn_moves s turns))) in
            subst (λ (q : Repository). Done false q) (sym x.1) (⊎_elim
            (λ (y : IsBeside (is_own_of draft) (pair_of draft) g.0 k.0). (
              all_of (turn_moves s turns),
              part_then (all_of (turn_moves s turns)) (turn_moves s turns) (AddBackup b) (all_part (turn_moves s turns)),
              subst (λ (q : Repository). NowRepresents (stanza_of draft) q d.now) all (at_now (stanza_of draft) d.now k.0 k.1 (Some (waited s turns)) (beside_represents draft (waited s turns) (far one_manifest draft begins.is_draft (waited s turns) (waited_list s list)) g.0 k.0 h y)),
            ))
            (λ y. (
              all_of (turn_moves s turns) ++ AddBackup b ∷ [],
              whole_part s turns b,
              subst (λ (q : Repository). NowRepresents (stanza_of draft) q d.now) (sym (with_it s turns b)) (at_now (stanza_of draft) d.now k.0 k.1 (Some (changed (AddBackup b) (waited s turns))) (represents_with some s list g.0 k.0 g.1 h y)),
            ))
            (makes.now.goes g.0 k.0 g.1 k.1))

        goes : (r : Repository) → IsSome a.now → IsSteady (stanza_of draft) r a → IsSound r → EachImage (stanza_of draft) (IsPart (stanza_of draft) makes_it r) a d
        goes None some steady sound = absurd (no_vacant one_list draft a begins some steady)
        goes (Some s) some steady sound = made_moves some s (steady_list one_list draft a begins some s steady) steady sound

        pub online_part : DoesPart Whole (stanza_of draft) (MakeBackup turns (backup_made draft (Some o) links whole w d makes) None) a d
        online_part = record { part = record { known = λ some. makes.now.known (some_then some); does = λ r from. now_part r }; goes = goes }

        module _ (all : whole ≡ true) where
          -- the repository has what the steps of others pushed, and the backup
          pub online_listed : (s : Stanza) → IsSome a.now → NowRepresents (stanza_of draft) (Some s) a.now → NowRepresents (stanza_of draft) (Some (changed (AddBackup (backup_made draft (Some o) links whole w d makes)) (waited s turns))) d.now
          online_listed s some represents =
              let f = known_as a.now some in
              let g = known_as w.now (some_then some) in
              let k = known_as d.now (makes.now.known (some_then some)) in
              let list = list_there one_list draft a begins f.0 f.1 s (represents.represents f.0 f.1) in
              at_now (stanza_of draft) d.now k.0 k.1 (Some (changed (AddBackup b) (waited s turns))) (represents_with some s list g.0 k.0 g.1 (now_waited s some represents g.0 g.1) ((makes.whole_now all).goes g.0 k.0 g.1 k.1))

          now_whole : (r : Repository) → IsSome a.now → NowRepresents (stanza_of draft) r a.now → Done true r
          now_whole r some represents =
              let f = known_as a.now some in
              let x = stanza_there one_list draft a begins f.0 f.1 r (represents.represents f.0 f.1) in
              let here = subst (λ (q : Repository). NowRepresents (stanza_of draft) q a.now) x.1 represents in
              subst (λ (q : Repository). Done true q) (sym x.1) (
                all_of (turn_moves x.0 turns) ++ AddBackup b ∷ [],
                sym (all_steps x.0 turns b),
                subst (λ (q : Repository). NowRepresents (stanza_of draft) q d.now) (sym (with_it x.0 turns b)) (online_listed x.0 some here),
              )

          ends : (r : Repository) → IsSome a.now → IsSteady (stanza_of draft) r a → IsSound r → IsSteady (stanza_of draft) (after r (all_of (steps_of makes_it r))) d × IsSound (after r (all_of (steps_of makes_it r)))
          ends None some steady sound = absurd (no_vacant one_list draft a begins some steady)
          ends (Some s) some steady sound =
              let list = steady_list one_list draft a begins some s steady in
              let to : after (Some s) (all_of (steps_of makes_it (Some s))) ≡ Some (changed (AddBackup b) (waited s turns)) = ap (after (Some s)) (all_steps s turns b) ∙ with_it s turns b in (
                subst (λ (q : Repository). IsSteady (stanza_of draft) q d) (sym to) (steady_with some s list steady sound all),
                subst IsSound (sym to) (sound_now some s list steady sound),
              )

          pub online_whole : DoesWhole Whole (stanza_of draft) (MakeBackup turns (backup_made draft (Some o) links whole w d makes) None) a d
          online_whole = record { done = record { known = λ some. makes.now.known (some_then some); does = λ r from. now_whole r }; ends = ends }

-- ---- as a command of the log

module _ (one_list : OneList) (one_manifest : OneManifest) (draft : Draft) (a c : View) (begins : BeginsBackup draft a) (left : LeavesList draft a c) (links : List LinkState) where
  -- a backup that reached no wait
  pub left_does : (reached : Reached) → ¬ (reached ≡ to_end) → RepoEffect Whole (stanza_of draft) (MakeBackup [] no_files None) reached a c
  left_does to_end not = absurd (not refl)
  left_does turned_back not = record { part = unlisted_part one_list one_manifest draft a begins c left (MakeBackup [] no_files None); whole = tt; turned = unlisted_part one_list one_manifest draft a begins c left (ArchivePushAsync []) }
  left_does stopped not = record { part = unlisted_part one_list one_manifest draft a begins c left (MakeBackup [] no_files None); whole = tt; turned = tt }

  module _ (turns : List Turn) (ended : Bool) (w : View) (waits : Waits (stanza_of draft) turns ended c w) where
    -- one that ended in its wait
    pub waited_does : (reached : Reached) → ¬ (reached ≡ to_end) → RepoEffect Whole (stanza_of draft) (MakeBackup turns no_files None) reached a w
    waited_does to_end not = absurd (not refl)
    waited_does turned_back not = record { part = wait_part one_list one_manifest draft a c begins left turns ended w waits (MakeBackup turns no_files None) (covers_backup turns no_files); whole = tt; turned = wait_part one_list one_manifest draft a c begins left turns ended w waits (ArchivePushAsync turns) (covers_turns turns) }
    waited_does stopped not = record { part = wait_part one_list one_manifest draft a c begins left turns ended w waits (MakeBackup turns no_files None) (covers_backup turns no_files); whole = tt; turned = tt }

    module _ (is : ended ≡ true) (o : Online) (free : IsFree draft) (d : View) (arrived : IfSome w.now (HasPart (stanza_of draft) (id_of draft.cluster) o.part)) (based : BasedOn draft w draft.prior) where
      -- the prior backup is besides it as it was there before the steps of others
      beside : (s : Stanza) → IsSome a.now → NowRepresents (stanza_of draft) (Some s) a.now → RepresentsBeside draft w s
      beside s some represents =
          let f = known_as a.now some in
          let g = known_as w.now (some_then one_list one_manifest draft a c begins left turns ended w waits is some) in
          record {
            content = g.0;
            is_content = g.1;
            stanza = waited s turns;
            same = backups_waited s turns;
            has = now_waited one_list one_manifest draft a c begins left turns ended w waits is s some represents g.0 g.1;
            list = waited_list one_list one_manifest draft a c begins left turns ended w waits is s (list_there one_list draft a begins f.0 f.1 s (represents.represents f.0 f.1));
          }

      listed : (reached : Reached) (makes : MakesOf draft (Some o) links true w d) → ¬ (reached ≡ turned_back) → RepoEffect Whole (stanza_of draft) (MakeBackup turns (backup_made draft (Some o) links true w d makes) None) reached a d
      listed to_end makes not = record {
        part = online_part one_list one_manifest draft a c begins left turns ended w waits is o free links d arrived based true makes;
        whole = online_whole one_list one_manifest draft a c begins left turns ended w waits is o free links d arrived based true makes refl;
        turned = tt;
      }
      listed turned_back makes not = absurd (not refl)
      listed stopped makes not = record { part = online_part one_list one_manifest draft a c begins left turns ended w waits is o free links d arrived based true makes; whole = tt; turned = tt }

      may_be_listed : (reached : Reached) (makes : MakesOf draft (Some o) links false w d) → ¬ (reached ≡ to_end) → ¬ (reached ≡ turned_back) → RepoEffect Whole (stanza_of draft) (MakeBackup turns (backup_made draft (Some o) links false w d makes) None) reached a d
      may_be_listed to_end makes not_end not_back = absurd (not_end refl)
      may_be_listed turned_back makes not_end not_back = absurd (not_back refl)
      may_be_listed stopped makes not_end not_back = record { part = online_part one_list one_manifest draft a c begins left turns ended w waits is o free links d arrived based false makes; whole = tt; turned = tt }

      unlisted : (reached : Reached) → LeavesList draft w d → ¬ (reached ≡ to_end) → RepoEffect Whole (stanza_of draft) (MakeBackup turns no_files None) reached a d
      unlisted to_end leaves not = absurd (not refl)
      unlisted turned_back leaves not = record {
        part = unlisted_after one_list one_manifest draft a c begins left turns ended w waits is d leaves (MakeBackup turns no_files None) (covers_backup turns no_files);
        whole = tt;
        turned = unlisted_after one_list one_manifest draft a c begins left turns ended w waits is d leaves (ArchivePushAsync turns) (covers_turns turns);
      }
      unlisted stopped leaves not = record { part = unlisted_after one_list one_manifest draft a c begins left turns ended w waits is d leaves (MakeBackup turns no_files None) (covers_backup turns no_files); whole = tt; turned = tt }

      not_ended : (e : MakeFault) (reached : Reached) → (reached ≡ to_end → is_ok (let r : Result (Unit {0}) MakeFault = Err e in r) ≡ true) → ¬ (reached ≡ to_end)
      not_ended e reached ends at = let u : ◌≡◌ {A = Bool} false true = ends at in cc

      -- the backup that it is in the log
      pub record IsDoneBy (reached : Reached) (b : Backup) : Type 0 where
        pub read : IsReadOrLeftBeside links (Some o.label_file) (stanza_of draft) a.now b
        pub prior : (b.entry.prior ≡ None) ⊎ (b.entry.prior ≡ draft.prior)
        pub does : RepoEffect Whole (stanza_of draft) (MakeBackup turns b None) reached a d

      made : (reached : Reached) (whole : Bool) (makes : MakesOf draft (Some o) links whole w d) → RepoEffect Whole (stanza_of draft) (MakeBackup turns (backup_made draft (Some o) links whole w d makes) None) reached a d → IsDoneBy reached (backup_made draft (Some o) links whole w d makes)
      made reached whole makes does = record {
        read = online_read draft begins.is_draft o free links whole w d makes one_manifest based a.now beside;
        prior = inr (ap (λ (m : Manifest). m.prior) makes.manifest_is);
        does = does;
      }

      -- one that was published
      pub done_by : (r : Result (Unit {0}) MakeFault) (reached : Reached) → OutcomeOf r draft (Some o) links w d → (reached ≡ to_end → is_ok r ≡ true) → (reached ≡ turned_back → IsErrAnd r (λ e. ¬ MayBeListed e)) → (b : Backup) × IsDoneBy reached b
      done_by (Ok x) reached makes ends back = (backup_made draft (Some o) links true w d makes, made reached true makes (listed reached makes back))
      done_by (Err e) reached (inl leaves) ends back = (
        no_files,
        record { read = no_files_left_beside links (Some o.label_file) (stanza_of draft) a.now; prior = inl refl; does = unlisted reached leaves (not_ended e reached ends) },
      )
      done_by (Err e) reached (inr x) ends back = (backup_made draft (Some o) links false w d x.1, made reached false x.1 (may_be_listed reached x.1 (not_ended e reached ends) (λ at. back at x.0)))

      -- it is a backup in the log, of what these links read and of what its prior backup has
      pub does_running : (r : Result (Unit {0}) MakeFault) (reached : Reached) → OutcomeOf r draft (Some o) links w d → (reached ≡ to_end → is_ok r ≡ true) → (reached ≡ turned_back → IsErrAnd r (λ e. ¬ MayBeListed e))
          → (command : Command) × IsAnyOnlineBackup links turns (Some o.label_file) (stanza_of draft) a.now command × RepoEffect Whole (stanza_of draft) command reached a d
      does_running r reached outcome ends back = let x = done_by r reached outcome ends back in (MakeBackup turns x.0 None, (x.0, refl, x.1.read), x.1.does)

      -- ---- at Ok

      -- it has the draft's label and choices, the part of the log, the server's label file and what the links read, it
      -- refers to listed backups before it, and the repository has it after what the steps of others pushed
      pub record IsRunningAdded (b : Backup) : Type 0 where
        pub label : b.entry.label ≡ draft.label
        pub wal : b.wal ≡ Some o.part
        pub prior : b.entry.prior ≡ draft.prior
        pub choices : b.choices ≡ draft.choices
        pub refers : (s : Stanza) → IsSome a.now → NowRepresents (stanza_of draft) (Some s) a.now → (l : Label) → In l b.entry.references → IsAncestor s.backups l b × IsListed s.backups l
        pub read : IsReadOrLeftBeside links (Some o.label_file) (stanza_of draft) a.now b
        pub label_file : get b.files label_path ≡ Some (record { bytes = o.label_file; time = b.entry.stop })
        pub adds : (s : Stanza) → IsSome a.now → NowRepresents (stanza_of draft) (Some s) a.now → NowRepresents (stanza_of draft) (after (Some s) (all_of (steps_of (MakeBackup turns b None) (Some s)))) d.now
        pub sound : (s : Stanza) → IsSome a.now → NowRepresents (stanza_of draft) (Some s) a.now → IsSoundStanza s → IsSound (after (Some s) (all_of (steps_of (MakeBackup turns b None) (Some s))))
        pub db : b.entry.db ≡ draft.cluster.id
        pub archived : (s : Stanza) → IsSome a.now → NowRepresents (stanza_of draft) (Some s) a.now → (t : Stanza) → after (Some s) (all_of (steps_of (MakeBackup turns b None) (Some s))) ≡ Some t → Archives (id_of draft.cluster) o.part t

      pub is_added : (makes : MakesOf draft (Some o) links true w d) → IsRunningAdded (backup_made draft (Some o) links true w d makes)
      is_added makes = record {
        label = ap (λ (m : Manifest). m.label) makes.manifest_is;
        wal = ap (λ (m : Manifest). m.wal) makes.manifest_is;
        prior = ap (λ (m : Manifest). m.prior) makes.manifest_is;
        choices = ap (λ (m : Manifest). m.choices) makes.manifest_is;
        refers = λ s some represents l at. (
            let b = backup_made draft (Some o) links true w d makes in
            let k = beside s some represents in
            subst (λ (bs : List Backup). IsAncestor bs l b × IsListed bs l) k.same
            (references_stand one_list one_manifest draft begins.is_draft (Some o) free links w d based true makes k.content k.is_content k.stanza k.list k.has l at)
            );
        read = online_read draft begins.is_draft o free links true w d makes one_manifest based a.now beside;
        label_file = label_there draft begins.is_draft o free links true w d makes ∙ ap (λ (n : ℕ). (let v : Option File = Some (record { bytes = o.label_file; time = n }) in v)) (sym (ap (λ (m : Manifest). m.stop) makes.manifest_is));
        adds = λ s some represents. (
            let b = backup_made draft (Some o) links true w d makes in
            subst (λ (q : Repository). NowRepresents (stanza_of draft) q d.now) (sym (ap (after (Some s)) (all_steps s turns b) ∙ with_it s turns b))
            (online_listed one_list one_manifest draft a c begins left turns ended w waits is o free links d arrived based true makes refl s some represents)
            );
        sound = λ s some represents sound. (
            let b = backup_made draft (Some o) links true w d makes in
            let f = known_as a.now some in
            subst IsSound (sym (ap (after (Some s)) (all_steps s turns b) ∙ with_it s turns b))
            (waited_sound one_list one_manifest draft a c begins left turns ended w waits is o free links d arrived based true makes some s (list_there one_list draft a begins f.0 f.1 s (represents.represents f.0 f.1)) represents sound)
            );
        db = ap (λ (m : Manifest). m.cluster.id) makes.manifest_is;
        archived = λ s some represents t at segment within. (
            let b = backup_made draft (Some o) links true w d makes in
            let g = known_as w.now (some_then one_list one_manifest draft a c begins left turns ended w waits is some) in
            let h = now_waited one_list one_manifest draft a c begins left turns ended w waits is s some represents g.0 g.1 in
            let part : IfSome (Some g.0) (HasPart (stanza_of draft) (id_of draft.cluster) o.part) = subst (λ (n : Option Content). IfSome n (HasPart (stanza_of draft) (id_of draft.cluster) o.part)) g.1 arrived in
            let x = part (waited s turns) h segment within in
            let e : ◌≡◌ {A = Option Stanza} (Some (changed (AddBackup b) (waited s turns))) (Some t) = sym (ap (after (Some s)) (all_steps s turns b) ∙ with_it s turns b) ∙ at in
            let same : changed (AddBackup b) (waited s turns) ≡ t = cc in
            (x.0, subst (λ (u : Stanza). In x.0 u.archived) same x.1, x.2, x.3)
            );
      }
