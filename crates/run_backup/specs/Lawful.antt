-- What the proof of the stages needs of a backup with the expiry that may follow it: the same for both kinds. Own.
use Rattle.std.specs.Prelude.{◌≡◌, ◌≢◌, ◌≤◌, ℕ, Bool, true, false, List, [], Option, None, Some, refl}
use Rattle.std.proofs.Common.{inl, inr, subst, arith}
use Rattle.base_devices.specs.Content.{Content}
use Rattle.base_devices.specs.Moments.{View}
use Rattle.base_model.specs.Repository.{Backup}
use Rattle.base_model.specs.Steps.{Command, MakeBackup, Turn}
use Rattle.base_model.specs.Text.{Text}
use Rattle.archive_lookup.specs.Turns.{ProcessesState}
use Rattle.archive_store.specs.Still.{IsStill}
use Rattle.backup_lemmas.proofs.Reading.{no_files}
use Rattle.cmd_types.specs.declared.stages.object.Object.{Object}
use Rattle.cmd_types.specs.declared.stages.object.Object.TheVariants.{Repo, Clock as TheClock}
use Rattle.cmd_types.specs.DisksEffect.{On}
use Rattle.expire_rules.specs.declared.rules.Rules.{Rules}
use Rattle.expire_make.specs.Expiry.{retention}
use Rattle.cmd_expire.specs.declared.fault.FollowUpFault.{FollowUpFault}
use Rattle.cmd_expire.specs.declared.fault.FollowUpFault.TheVariants as following
use Rattle.cmd_expire.specs.FollowUp.{FollowUpCause, IsFollowed}
use Rattle.cmd_expire.specs.Texts.{after_status}
use Rattle.cmd_expire.proofs.Moments.{some_moment}
use Rattle.cmd_expire.proofs.Statuses.{after_late}
use Rattle.cmd_trait.specs.KnownWorld.{KnownWorld}
use Rattle.cmd_trait.specs.Meaning.{Place, IsLawful, HasOne, IsEarly, IsOf, IsServerRefusal, EndsTalk, TurnsKnownIf, Unless, apart}
use Rattle.run_backup.specs.declared.fault.BackupCommandFault.{BackupCommandFault}
use Rattle.run_backup.specs.declared.fault.BackupCommandFault.TheVariants.{Backup as OfBackup, FollowUp}
use Rattle.run_backup.specs.Faults.{backup_early, backup_status}
use Rattle.run_backup.specs.Following.{BackupMeaning, CommandCause, CommandCloses, WithExpiry, manner_by, backup_meaning}

-- What is needed of a kind of backup.
pub record IsBackupLawful {F : Type 0} (m : BackupMeaning F) : Type 1 where
  -- where other processes did nothing it may be a backup without files
  pub some : (p : Place) (old new : KnownWorld) → new.others ≡ old.others → TurnsKnownIf m.running p.stanza new
      → m.makes p old new (MakeBackup [] no_files None)
  -- more objects may have failed
  pub closes_more : (p : Place) (old new : KnownWorld) (repo : Option Content) (failed others : Object → Type 0)
      → ((object : Object) → failed object → others object) → (fault : F)
      → m.closes p (record old { repo = repo }) new failed fault → m.closes p old new others fault
  -- after a server's answer that is refused the talk was ended
  pub talk : (p : Place) (old new : KnownWorld) (failed : Object → Type 0) (fault : F)
      → IsServerRefusal (m.status fault) → Unless m.running (new.server ≡ old.server)
      → m.closes p old new failed fault
      → EndsTalk old new failed (m.status fault)
  -- what is only read before it is nothing that it changes
  pub changes_none : (expires : Option Rules) (p : Place) (least : ℕ) (b k : View) → IsStill b k
      → m.changes expires p least b k
  pub changes_on : (expires : Option Rules) (p : Place) (least : ℕ) (b c k : View) → IsStill b c
      → m.changes expires p least c k → m.changes expires p least b k
  -- its statuses are those of refusals
  pub over : (fault : F) → 2 ≤ m.status fault
  pub not_found : (fault : F) → m.status fault ≢ 65
  -- where other processes did nothing they are as they may be
  pub others_none : (p : Place) (others : ProcessesState) → m.others_effect p others others

-- ---- which command it is

-- nothing was done of a backup, with an expiry after it
any_followed : (rules : Option Rules) (first last : ℕ) (turns : List Turn) (b : Backup)
    → (command : Command) × IsFollowed rules first last (MakeBackup turns b None) command
any_followed None first last turns b = (MakeBackup turns b None, refl)
any_followed (Some rules) first last turns b = let m = some_moment rules.full first last in
    (MakeBackup turns b (Some (retention rules m.0)), (turns, b, m.0, m.1, refl, refl))

has_one : (running : Bool) (stanza : Text) (new : KnownWorld) (Is : Command → Type 0)
    → (TurnsKnownIf running stanza new → (command : Command) × Is command) → HasOne (manner_by running stanza new Is)
has_one true stanza new Is some = some
has_one false stanza new Is some = some tt

is_there : (running : Bool) (stanza : Text) (new : KnownWorld) (Is P : Command → Type 0)
    → TurnsKnownIf running stanza new → On (manner_by running stanza new Is) P
    → (command : Command) × IsOf (manner_by running stanza new Is) command × P command
is_there true stanza new Is P turns on = on turns
is_there false stanza new Is P turns on = on

-- ---- why it ends

-- for more reasons, where there are more
pub more_after : (stanza : Text) (repo : Option Content) {P Q R S : Type 0} → (P → R) → (Q → S)
    → (fault : FollowUpFault) → FollowUpCause stanza repo P Q fault → FollowUpCause stanza repo R S fault
more_after stanza repo to other following.PairLost h = h
more_after stanza repo to other (following.HistoryDiffers at) h = h
more_after stanza repo to other following.Repo h = to h
more_after stanza repo to other following.Clock h = other h
more_after stanza repo to other following.NoMemory h = h

more_cause : {F : Type 0} (m : BackupMeaning F) (expires : Option Rules) (p : Place) (old new : KnownWorld)
    (failed others : Object → Type 0) → ((object : Object) → failed object → others object)
    → (fault : BackupCommandFault F)
    → CommandCause m expires p old new failed fault → CommandCause m expires p old new others fault
more_cause m expires p old new failed others to (OfBackup fault) h = h
more_cause m expires p old new failed others to (FollowUp lines fault) (repo, was, why, left) =
    (repo, was, more_after p.stanza repo (to Repo) (to TheClock) fault why, left)

more_closes : {F : Type 0} (m : BackupMeaning F) → IsBackupLawful m → (p : Place) (old new : KnownWorld)
    (repo : Option Content) (failed others : Object → Type 0) → ((object : Object) → failed object → others object)
    → (fault : BackupCommandFault F) → CommandCloses m p (record old { repo = repo }) new failed fault
    → CommandCloses m p old new others fault
more_closes m laws p old new repo failed others to (OfBackup fault) h =
    laws.closes_more p old new repo failed others to fault h
more_closes m laws p old new repo failed others to (FollowUp lines fault) h = tt

-- ---- with which status

over : {F : Type 0} (m : BackupMeaning F) → IsBackupLawful m → (fault : BackupCommandFault F)
    → 2 ≤ backup_status m.status fault
over m laws (OfBackup fault) = laws.over fault
over m laws (FollowUp lines fault) = omega (arith, (after_late fault).0)

not_found : {F : Type 0} (m : BackupMeaning F) → IsBackupLawful m → (fault : BackupCommandFault F)
    → backup_status m.status fault ≢ 65
not_found m laws (OfBackup fault) = laws.not_found fault
not_found m laws (FollowUp lines fault) = λ is. absurd (omega (arith, is, (after_late fault).0))

late : {P : Type 0} (n : ℕ) → 73 ≤ n → n ≤ 90 → n ≢ 83 → IsEarly n → P
late n low high other (inl is) = absurd (omega (arith, low, is.1))
late n low high other (inr (inl is)) = absurd (omega (arith, high, is.0))
late n low high other (inr (inr is)) = absurd (other is)

early : {F : Type 0} (status : F → ℕ) (fault : BackupCommandFault F) → IsEarly (backup_status status fault)
    → backup_early fault ≡ true
early status (OfBackup fault) is = refl
early status (FollowUp lines fault) is = let x = after_late fault in late (after_status fault) x.0 x.1 x.2 is

no_refusal : {P : Type 0} (n : ℕ) → 73 ≤ n → IsServerRefusal n → P
no_refusal n low (inl is) = absurd (omega (arith, low, is.1))
no_refusal n low (inr is) = absurd (omega (arith, low, is.1))

talk : {F : Type 0} (m : BackupMeaning F) → IsBackupLawful m → (p : Place) (old new : KnownWorld)
    (failed : Object → Type 0) (fault : BackupCommandFault F) → IsServerRefusal (backup_status m.status fault)
    → Unless m.running (new.server ≡ old.server) → CommandCloses m p old new failed fault
    → EndsTalk old new failed (backup_status m.status fault)
talk m laws p old new failed (OfBackup fault) is same closes = laws.talk p old new failed fault is same closes
talk m laws p old new failed (FollowUp lines fault) is same closes =
    no_refusal (after_status fault) (after_late fault).0 is

-- ---- all of it

-- the laws of a backup, and of the expiry that may follow it
pub backup_lawful : {F : Type 0} (m : BackupMeaning F) → IsBackupLawful m → (expires : Option Rules)
    → IsLawful (backup_meaning m expires)
backup_lawful m laws expires = record {
  some = λ p old new same. has_one m.running p.stanza new
      (WithExpiry expires old.clock.least new.clock.least (m.makes p old new))
      (λ turns. let x = any_followed expires old.clock.least new.clock.least [] no_files in
      (x.0, (MakeBackup [] no_files None, laws.some p old new same turns, x.1)));
  healed = λ p old new repo heals P h. subst (λ (r : Option Content). On (manner_by m.running p.stanza new
      (WithExpiry expires old.clock.least new.clock.least (m.makes p (record old { repo = r }) new))) P) heals h;
  more = more_cause m expires;
  closes_more = more_closes m laws;
  arguments_closes = λ p old failed fault h. absurd h;
  repo_none = λ p least b k still. laws.changes_none expires p least b k still;
  repo_on = λ p least b c k still h. laws.changes_on expires p least b c k still h;
  folder_none = λ p old. refl;
  folder_on = λ p old repo nodes same h. h;
  others_none = laws.others_none;
  turned_none = λ p old new n nodes same. nodes;
  turned_on = λ p old new repo n same h. h;
  over = over m laws;
  not_found = not_found m laws;
  early = early m.status;
  no_control = λ none. absurd (apart none);
  no_spool = λ none. refl;
  talk = talk m laws;
  there = λ p old new known turns P on.
      is_there m.running p.stanza new (WithExpiry expires old.clock.least new.clock.least (m.makes p old new)) P turns
      on;
  through = λ is p old new. tt;
  opens_only = λ off. absurd (apart off);
  lasts_alone = λ off p nodes repo now_nodes outcome. absurd (apart off);
  acknowledges_on = λ p b c k read h. h;
}
