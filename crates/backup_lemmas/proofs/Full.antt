-- What making a backup does, as a command of the log.
use Rattle.std.proofs.Common.{◌≡◌, ◌⊎◌, ⊎_elim, inl, inr, Bool, true, false, List, [], None, refl, ◌∙◌, ap, Result, Ok, Err}
use Rattle.std.specs.Result.{IsErrAnd, is_ok}
use Rattle.base_devices.specs.Moments.{View}
use Rattle.base_devices.specs.Links.{LinkState}
use Rattle.base_model.specs.Text.{Text}
use Rattle.base_model.specs.Values.{Manifest}
use Rattle.base_model.specs.Repository.{Backup}
use Rattle.base_model.specs.Steps.{Command, MakeBackup}
use Rattle.archive_store.specs.Still.{IsStill}
use Rattle.cmd_types.specs.declared.stages.plan.SyncScope.TheVariants.{Whole}
use Rattle.cmd_types.specs.DisksEffect.{Reached, to_end, turned_back, stopped, turns_of, RepoEffect}
use Rattle.cmd_types.proofs.Doing.{rests_does}
use Rattle.backup_record.proofs.Left.{OneManifest}
use Rattle.backup_make.specs.declared.draft.Draft.{Draft}
use Rattle.backup_make.specs.declared.fault.MakeFault.{MakeFault}
use Rattle.backup_make.specs.Draft.{stanza_of}
use Rattle.backup_make.specs.Made.{LeavesList, Makes, MayBeListed, Outcome}
use Rattle.backup_lemmas.specs.Backups.{IsFullBackup, IsReadOrLeft, IsAnyBackup}
use Rattle.repo_stanza.proofs.Settled.{OneList}
use Rattle.backup_lemmas.proofs.Reading.{full_backup, read_or_left, read_by, no_files, no_files_read, no_files_left}
use Rattle.backup_lemmas.proofs.Begun.{BeginsFull, BeginsBackup, full_begins, list_there}
use Rattle.backup_lemmas.proofs.Unlisted.{unlisted_part}
use Rattle.backup_lemmas.proofs.Made.{made_part, made_whole}

-- a backup that was never listed
pub no_later : (links : List LinkState) (stanza : Text) (reached : Reached) (a d : View) → ¬ (reached ≡ to_end) → IsStill a d → (command : Command) × IsAnyBackup links stanza a.now command × RepoEffect Whole stanza command reached a d
no_later links stanza reached a d not still = (
  MakeBackup [] no_files None,
  (no_files, refl, no_files_left links stanza a.now),
  rests_does Whole stanza (MakeBackup [] no_files None) reached a d not still.time still.now,
)

-- nor was a full one
pub no_backup : (links : List LinkState) (stanza : Text) (reached : Reached) (a d : View) → ¬ (reached ≡ to_end) → IsStill a d → (command : Command) × IsFullBackup links command × RepoEffect Whole stanza command reached a d
no_backup links stanza reached a d not still = (
  MakeBackup [] no_files None,
  (no_files, refl, no_files_read links),
  rests_does Whole stanza (MakeBackup [] no_files None) reached a d not still.time still.now,
)

module _ (one_list : OneList) (one_manifest : OneManifest) (draft : Draft) (links : List LinkState) (a d : View) (begins : BeginsBackup draft a) where
  listed : (reached : Reached) (makes : Makes draft links true a d) → ¬ (reached ≡ turned_back) → RepoEffect Whole (stanza_of draft) (MakeBackup [] (full_backup draft links true a d makes) None) reached a d
  listed to_end makes not = record { part = made_part one_list one_manifest draft links a d begins true makes; whole = made_whole one_list one_manifest draft links a d begins true makes refl; turned = tt }
  listed turned_back makes not = absurd (not refl)
  listed stopped makes not = record { part = made_part one_list one_manifest draft links a d begins true makes; whole = tt; turned = tt }

  may_be_listed : (reached : Reached) (makes : Makes draft links false a d) → ¬ (reached ≡ to_end) → ¬ (reached ≡ turned_back) → RepoEffect Whole (stanza_of draft) (MakeBackup [] (full_backup draft links false a d makes) None) reached a d
  may_be_listed to_end makes not_end not_back = absurd (not_end refl)
  may_be_listed turned_back makes not_end not_back = absurd (not_back refl)
  may_be_listed stopped makes not_end not_back = record { part = made_part one_list one_manifest draft links a d begins false makes; whole = tt; turned = tt }

  unlisted : (command : Command) (reached : Reached) → LeavesList draft a d → ¬ (reached ≡ to_end) → RepoEffect Whole (stanza_of draft) command reached a d
  unlisted command to_end leaves not = absurd (not refl)
  unlisted command turned_back leaves not = record { part = unlisted_part one_list one_manifest draft a begins d leaves command; whole = tt; turned = unlisted_part one_list one_manifest draft a begins d leaves (turns_of command) }
  unlisted command stopped leaves not = record { part = unlisted_part one_list one_manifest draft a begins d leaves command; whole = tt; turned = tt }

  not_ended : (e : MakeFault) (reached : Reached) → (reached ≡ to_end → is_ok (let r : Result (Unit {0}) MakeFault = Err e in r) ≡ true) → ¬ (reached ≡ to_end)
  not_ended e reached ends is = let u : ◌≡◌ {A = Bool} false true = ends is in cc

  -- the backup that it is in the log
  pub record IsDone (reached : Reached) (b : Backup) : Type 0 where
    pub read : IsReadOrLeft links (stanza_of draft) a.now b
    pub prior : (b.entry.prior ≡ None) ⊎ (b.entry.prior ≡ draft.prior)
    pub does : RepoEffect Whole (stanza_of draft) (MakeBackup [] b None) reached a d

  made : (reached : Reached) (whole : Bool) (makes : Makes draft links whole a d) → RepoEffect Whole (stanza_of draft) (MakeBackup [] (full_backup draft links whole a d makes) None) reached a d → IsDone reached (full_backup draft links whole a d makes)
  made reached whole makes does = record {
    read = read_or_left one_manifest draft begins.is_draft links whole a d makes begins.based (λ f is s h. list_there one_list draft a begins f is s h);
    prior = inr (ap (λ (m : Manifest). m.prior) makes.manifest_is);
    does = does;
  }

  done_as : (r : Result (Unit {0}) MakeFault) (reached : Reached) → Outcome r draft links a d → (reached ≡ to_end → is_ok r ≡ true) → (reached ≡ turned_back → IsErrAnd r (λ e. ¬ MayBeListed e)) → (b : Backup) × IsDone reached b
  done_as (Ok x) reached makes ends back = (full_backup draft links true a d makes, made reached true makes (listed reached makes back))
  done_as (Err e) reached (inl leaves) ends back = (
    no_files,
    record {
      read = no_files_left links (stanza_of draft) a.now;
      prior = inl refl;
      does = unlisted (MakeBackup [] no_files None) reached leaves (not_ended e reached ends);
    },
  )
  done_as (Err e) reached (inr x) ends back = (full_backup draft links false a d x.1, made reached false x.1 (may_be_listed reached x.1 (not_ended e reached ends) (λ is. back is x.0)))

  -- it is a backup in the log, of what these links read and of what its prior backup has
  pub does_backup : (r : Result (Unit {0}) MakeFault) (reached : Reached) → Outcome r draft links a d → (reached ≡ to_end → is_ok r ≡ true) → (reached ≡ turned_back → IsErrAnd r (λ e. ¬ MayBeListed e))
      → (command : Command) × IsAnyBackup links (stanza_of draft) a.now command × RepoEffect Whole (stanza_of draft) command reached a d
  does_backup r reached outcome ends back = let x = done_as r reached outcome ends back in (MakeBackup [] x.0 None, (x.0, refl, x.1.read), x.1.does)

-- and a full one, where the draft is that of one
pub does_full : (one_list : OneList) (one_manifest : OneManifest) (draft : Draft) (links : List LinkState) (a d : View) → BeginsFull draft a.now
    → (r : Result (Unit {0}) MakeFault) (reached : Reached) → Outcome r draft links a d → (reached ≡ to_end → is_ok r ≡ true) → (reached ≡ turned_back → IsErrAnd r (λ e. ¬ MayBeListed e))
    → (command : Command) × IsFullBackup links command × RepoEffect Whole (stanza_of draft) command reached a d
does_full one_list one_manifest draft links a d begins r reached outcome ends back =
    let x = done_as one_list one_manifest draft links a d (full_begins draft a begins) r reached outcome ends back in
    let none : x.0.entry.prior ≡ None = ⊎_elim (λ (is : x.0.entry.prior ≡ None). is) (λ (is : x.0.entry.prior ≡ draft.prior). is ∙ begins.no_prior) x.1.prior in
    (MakeBackup [] x.0 None, (x.0, refl, read_by links (stanza_of draft) a.now x.0 x.1.read none), x.1.does)
