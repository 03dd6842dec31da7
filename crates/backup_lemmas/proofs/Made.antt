-- A backup that may be listed is a part of its command, and one that is listed is all of it.
use Rattle.std.proofs.Common.{◌≡◌, ◌⊎◌, ⊎_elim, inl, inr, Bool, true, false, List, [], ◌∷◌, Option, Some, None, refl, sym, ap, subst}
use Rattle.std.specs.Prelude.{IsSome}
use Rattle.base_devices.specs.Content.{Content}
use Rattle.base_devices.specs.Moments.{View}
use Rattle.base_devices.specs.Links.{LinkState}
use Rattle.base_model.specs.declared.labels.Label.{Label}
use Rattle.base_model.specs.declared.wal.WalPart.{WalPart}
use Rattle.base_model.specs.Text.{In}
use Rattle.base_model.specs.Values.{Manifest}
use Rattle.base_model.specs.Repository.{Backup, Stanza, Repository, IsSound, IsSoundStanza, HasItsSegments}
use Rattle.base_model.specs.Represents.{Represents, HasStanza, IsAncestor, IsListed}
use Rattle.base_model.specs.Steps.{Step, Command, MakeBackup, AddBackup, changed, after, all_of, steps_of}
use Rattle.base_model.specs.Log.{IsDone}
use Rattle.base_model.specs.Now.{NowRepresents}
use Rattle.base_model.specs.Steady.{IsSteady, EachImage}
use Rattle.cmd_types.specs.declared.stages.plan.SyncScope.TheVariants.{Whole}
use Rattle.cmd_types.specs.DisksEffect.{IsPart, DoesPart, DoesWhole}
use Rattle.backup_sink.specs.Way.{IsBeside}
use Rattle.backup_record.specs.Record.{IsListOf}
use Rattle.backup_record.proofs.Left.{OneManifest}
use Rattle.backup_make.specs.declared.draft.Draft.{Draft}
use Rattle.backup_make.specs.Draft.{stanza_of, pair_of, is_own_of, list_in}
use Rattle.backup_make.specs.Made.{ListsIt, Makes}
use Rattle.backup_make.proofs.Unlisted.{beside_represents}
use Rattle.repo_stanza.proofs.Settled.{OneList}
use Rattle.backup_lemmas.proofs.Reading.{full_backup}
use Rattle.backup_lemmas.proofs.Begun.{BeginsBackup, known_as, at_now, stanza_there, list_there, no_vacant, steady_list}
use Rattle.backup_lemmas.proofs.Listed.{sound_with, made_represents, references_stand, two_moves, made_steady}
use Rattle.backup_lemmas.proofs.Unlisted.{moves_as, far_from}

module _ (one_list : OneList) (one_manifest : OneManifest) (draft : Draft) (links : List LinkState) (a d : View) (begins : BeginsBackup draft a) (whole : Bool) (makes : Makes draft links whole a d) where
  abbrev b : Backup
  b = full_backup draft links whole a d makes

  -- the command that makes it
  abbrev pub makes_it : Command
  makes_it = MakeBackup [] (full_backup draft links whole a d makes) None

  abbrev Listed : Content → Content → Type 0
  Listed f g = ListsIt draft None makes.manifest makes.list makes.names makes.kept makes.stop f g

  -- ---- in a stanza whose list is the draft's

  module _ (f : Content) (is_f : a.now ≡ Some f) (s : Stanza) (list : IsListOf s (list_in draft)) (has : HasStanza (stanza_of draft) f s) where
    no_wal : makes.manifest.wal ≡ None
    no_wal = ap (λ (m : Manifest). m.wal) makes.manifest_is

    segments : HasItsSegments s (full_backup draft links whole a d makes)
    segments = subst (λ (p : Option WalPart). HasItsSegments s (let x : Backup = record { entry = b.entry; wal = p; choices = b.choices; folders = b.folders; files = b.files } in x)) (sym no_wal) tt

    sound_after : IsSoundStanza s → IsSoundStanza (changed (AddBackup (full_backup draft links whole a d makes)) s)
    sound_after sound = sound_with one_list one_manifest draft begins.is_draft None tt links a d begins.based whole makes f is_f s list has segments sound

    represents_with : (g : Content) → Listed f g → HasStanza (stanza_of draft) g (changed (AddBackup (full_backup draft links whole a d makes)) s)
    represents_with g x = made_represents one_list one_manifest draft begins.is_draft None tt links a d begins.based whole makes f is_f s list has g x

    refers_to : (l : Label) → In l (full_backup draft links whole a d makes).entry.references → IsAncestor s.backups l (full_backup draft links whole a d makes) × IsListed s.backups l
    refers_to l at = references_stand one_list one_manifest draft begins.is_draft None tt links a d begins.based whole makes f is_f s list has l at

    -- the way from a disk that is steady at it
    module _ (steady : IsSteady (stanza_of draft) (Some s) a) where
      part_of : IsSoundStanza s → (g : Content) → Represents (stanza_of draft) g (Some s) ⊎ Represents (stanza_of draft) g (Some (changed (AddBackup b) s)) → IsPart (stanza_of draft) makes_it (Some s) g
      part_of sound g x = ⊎_elim (λ y. ([], inl refl, y, sound)) (λ y. (AddBackup b ∷ [], inr ([], refl, refl), y, sound_after sound)) x

      made_moves : IsSoundStanza s → EachImage (stanza_of draft) (IsPart (stanza_of draft) makes_it (Some s)) a d
      made_moves sound =
          moves_as (stanza_of draft) (λ g. Represents (stanza_of draft) g (Some s) ⊎ Represents (stanza_of draft) g (Some (changed (AddBackup b) s))) (IsPart (stanza_of draft) makes_it (Some s)) a d (part_of sound)
          (two_moves one_list one_manifest draft begins.is_draft None tt links a d begins.based whole makes f is_f s list has steady)

      steady_with : whole ≡ true → IsSteady (stanza_of draft) (Some (changed (AddBackup (full_backup draft links whole a d makes)) s)) d
      steady_with is = made_steady one_list one_manifest draft begins.is_draft None tt links a d begins.based whole makes f is_f s list has steady is

  -- ---- what the disk holds

  abbrev Done : Bool → Repository → Type 0
  Done all r = (done : List Step) × IsDone all done (steps_of makes_it r) × NowRepresents (stanza_of draft) (after r done) d.now

  now_part : (r : Repository) → IsSome a.now → NowRepresents (stanza_of draft) r a.now → Done false r
  now_part r some represents =
      let f = known_as a.now some in
      let g = known_as d.now (makes.now.known some) in
      let x = stanza_there one_list draft a begins f.0 f.1 r (represents.represents f.0 f.1) in
      let list = list_there one_list draft a begins f.0 f.1 x.0 x.2 in
      subst (λ (q : Repository). Done false q) (sym x.1) (⊎_elim
      (λ (y : IsBeside (is_own_of draft) (pair_of draft) f.0 g.0). ([], inl refl, at_now (stanza_of draft) d.now g.0 g.1 (Some x.0) (beside_represents draft x.0 (far_from one_list one_manifest draft a begins x.0 list) f.0 g.0 x.2 y)))
      (λ (y : Listed f.0 g.0). (AddBackup b ∷ [], inr ([], refl, refl), at_now (stanza_of draft) d.now g.0 g.1 (Some (changed (AddBackup b) x.0)) (represents_with f.0 f.1 x.0 list x.2 g.0 y)))
      (makes.now.goes f.0 g.0 f.1 g.1))

  goes : (r : Repository) → IsSome a.now → IsSteady (stanza_of draft) r a → IsSound r → EachImage (stanza_of draft) (IsPart (stanza_of draft) makes_it r) a d
  goes None some steady sound = absurd (no_vacant one_list draft a begins some steady)
  goes (Some s) some steady sound =
      let f = known_as a.now some in
      made_moves f.0 f.1 s (steady_list one_list draft a begins some s steady) (steady.represents f.0 (inl f.1)) steady sound

  pub made_part : DoesPart Whole (stanza_of draft) (MakeBackup [] (full_backup draft links whole a d makes) None) a d
  made_part = record { part = record { known = makes.now.known; does = λ r from. now_part r }; goes = goes }

  -- whatever stanza the disk had, each label that the backup refers to is listed there, and is its prior's or of one
  -- before that
  pub refers : (s : Stanza) → IsSome a.now → NowRepresents (stanza_of draft) (Some s) a.now → (l : Label) → In l (full_backup draft links whole a d makes).entry.references → IsAncestor s.backups l (full_backup draft links whole a d makes) × IsListed s.backups l
  refers s some represents l at =
      let f = known_as a.now some in
      let h : HasStanza (stanza_of draft) f.0 s = represents.represents f.0 f.1 in
      refers_to f.0 f.1 s (list_there one_list draft a begins f.0 f.1 s h) h l at

  -- a sound one is sound with it
  pub now_sound : (s : Stanza) → IsSome a.now → NowRepresents (stanza_of draft) (Some s) a.now → IsSoundStanza s → IsSoundStanza (changed (AddBackup (full_backup draft links whole a d makes)) s)
  now_sound s some represents sound =
      let f = known_as a.now some in
      let h : HasStanza (stanza_of draft) f.0 s = represents.represents f.0 f.1 in
      sound_after f.0 f.1 s (list_there one_list draft a begins f.0 f.1 s h) h sound

  -- ---- where it is listed

  module _ (is : whole ≡ true) where
    pub now_listed : (s : Stanza) → IsSome a.now → NowRepresents (stanza_of draft) (Some s) a.now → NowRepresents (stanza_of draft) (Some (changed (AddBackup (full_backup draft links whole a d makes)) s)) d.now
    now_listed s some represents =
        let f = known_as a.now some in
        let g = known_as d.now (makes.now.known some) in
        let h : HasStanza (stanza_of draft) f.0 s = represents.represents f.0 f.1 in
        at_now (stanza_of draft) d.now g.0 g.1 (Some (changed (AddBackup b) s)) (represents_with f.0 f.1 s (list_there one_list draft a begins f.0 f.1 s h) h g.0 ((makes.whole_now is).goes f.0 g.0 f.1 g.1))

    now_whole : (r : Repository) → IsSome a.now → NowRepresents (stanza_of draft) r a.now → Done true r
    now_whole r some represents =
        let f = known_as a.now some in
        let x = stanza_there one_list draft a begins f.0 f.1 r (represents.represents f.0 f.1) in
        let here = subst (λ (q : Repository). NowRepresents (stanza_of draft) q a.now) x.1 represents in
        subst (λ (q : Repository). Done true q) (sym x.1) (AddBackup b ∷ [], refl, now_listed x.0 some here)

    ends : (r : Repository) → IsSome a.now → IsSteady (stanza_of draft) r a → IsSound r → IsSteady (stanza_of draft) (after r (all_of (steps_of makes_it r))) d × IsSound (after r (all_of (steps_of makes_it r)))
    ends None some steady sound = absurd (no_vacant one_list draft a begins some steady)
    ends (Some s) some steady sound =
        let f = known_as a.now some in
        let list = steady_list one_list draft a begins some s steady in
        let has : HasStanza (stanza_of draft) f.0 s = steady.represents f.0 (inl f.1) in
        (steady_with f.0 f.1 s list has steady is, sound_after f.0 f.1 s list has sound)

    pub made_whole : DoesWhole Whole (stanza_of draft) (MakeBackup [] (full_backup draft links whole a d makes) None) a d
    made_whole = record { done = record { known = makes.now.known; does = λ r from. now_whole r }; ends = ends }
