-- What retention rules are to a repository, and what an expiry does (pgBackRest command reference, "Expire").
use Rattle.std.specs.Prelude.{◌≡◌, ℕ, true, false, List, Option, Some, IsSome}
use Rattle.base_devices.specs.Content.{Name, Content, at}
use Rattle.base_devices.specs.Moments.{View}
use Rattle.base_devices.specs.States.{DiskState}
use Rattle.base_disk.specs.Store.{ChangesOnly}
use Rattle.base_model.specs.declared.labels.Label.{Label}
use Rattle.base_model.specs.Text.{Text, In}
use Rattle.base_model.specs.Values.{ArchiveInfo, BackupInfo, Entry, archive_info_of, backup_info_of}
use Rattle.base_model.specs.Repository.{Archived, Backup, Stanza, Repository, IsSoundStanza, current_number}
use Rattle.base_model.specs.Represents.{Represents, HasStanza}
use Rattle.base_model.specs.Now.{NowRepresents}
use Rattle.base_model.specs.Steady.{IsSteady, EachImage, LeavesOnly}
use Rattle.base_model.specs.Steps.{Step, Condemn, Expire, Retention, IsPartOf, after, all_of, changed, expiry_moves}
use Rattle.archive_store.specs.Still.{IsStill}
use Rattle.cmd_types.specs.declared.stages.plan.SyncScope.TheVariants.{Whole}
use Rattle.cmd_types.specs.DisksEffect.{DoesPart, DoesWhole}
use Rattle.expire_rules.specs.declared.rules.Rules.{Rules}
use Rattle.expire_rules.specs.Condemned.{is_condemned, condemned_labels}
use Rattle.expire_rules.specs.Descent.{listed_in}
use Rattle.expire_rules.specs.Labels.{labels_of}
use Rattle.expire_rules.specs.Needed.{keeping_of, keeps_file}
use Rattle.expire_make.specs.declared.expiry_plan.Planned.{Planned}
use Rattle.expire_make.specs.Losing.{MayTouch}
use Rattle.repo_stanza.specs.Judging.{HasList}
use Rattle.expire_make.specs.Planning.{HoldsPlan, keeps_by, left_of}

-- the stanza's backups as `backup.info` lists them
abbrev pub listed : Stanza → List Entry
listed s = listed_in s.backups

-- the rules, at a moment
abbrev pub retention : Rules → ℕ → Retention
retention rules moment = record {
  condemned = λ s. is_condemned rules moment (listed s);
  needed = λ s a. keeps_file (keeping_of rules (current_number s) (listed s) a.id.number) a.name;
}

-- ---- from one stanza

-- g represents the stanza after a part of its expiry
abbrev pub IsPartOfExpiry : Text → Retention → Stanza → Content → Type 0
IsPartOfExpiry stanza kept s g = (done : List Step) × IsPartOf done (expiry_moves kept s)
    × Represents stanza g (after (Some s) done)

-- what the disk holds, where it is known, represents it
abbrev pub NowPartOfExpiry : Text → Retention → Stanza → Option Content → Type 0
NowPartOfExpiry stanza kept s now = (done : List Step) × IsPartOf done (expiry_moves kept s)
    × NowRepresents stanza (after (Some s) done) now

-- the stanza after all of its expiry
abbrev pub expired_of : Retention → Stanza → Repository
expired_of kept s = after (Some s) (all_of (expiry_moves kept s))

-- What the disk represented, and at each moment all that may be left of it, changes by a part of the stanza's expiry.
pub record PartFrom (stanza : Text) (kept : Retention) (s : Stanza) (old new : View) : Type 0 where
  pub now : NowRepresents stanza (Some s) old.now → NowPartOfExpiry stanza kept s new.now
  pub moves : IsSteady stanza (Some s) old → EachImage stanza (IsPartOfExpiry stanza kept s) old new

-- at its end, by all of it
pub record WholeFrom (stanza : Text) (kept : Retention) (s : Stanza) (old new : View) : Type 0 where
  pub now : NowRepresents stanza (Some s) old.now → NowRepresents stanza (expired_of kept s) new.now
  pub steady : IsSteady stanza (Some s) old → IsSteady stanza (expired_of kept s) new

-- ---- what stays

-- g has the stanza, and in it, with all their bytes, each backup that isn't condemned, and each archived file that the
-- backups left need
pub record HasNeeded (stanza : Text) (kept : Retention) (s : Stanza) (g : Content) : Type 0 where
  pub left : Stanza
  pub has : HasStanza stanza g left
  pub backups : (b : Backup) → In b s.backups → kept.condemned s b.entry.label ≡ false → In b left.backups
  pub files : (a : Archived) → In a s.archived → kept.needed (changed (Condemn (kept.condemned s)) s) a ≡ true
      → In a left.archived

-- what the expiry of a list may change, by the values of the two pairs: the backup pair, folders of labels that aren't
-- listed in the end, and files that aren't needed then
abbrev pub IsTouchedBy : Text → Rules → ℕ → ArchiveInfo → BackupInfo → Text → Type 0
IsTouchedBy stanza rules moment archive list name =
    let left = left_of rules moment list in
    MayTouch stanza (labels_of left.backups) (keeps_by rules archive.current left.backups) name

-- What an expiry changes, whatever else the repository holds.
pub record Touches (stanza : Text) (rules : Rules) (moment : ℕ) (old new : View) : Type 0 where
  -- no more than what the expiry may change of the list that the two pairs have
  pub listed : (f : Content) (archive : ArchiveInfo) (list : BackupInfo) → old.now ≡ Some f
      → HasList stanza f archive list → ChangesOnly (IsTouchedBy stanza rules moment archive list) old new
  -- nothing where they have none
  pub unlisted : (f : Content) → old.now ≡ Some f
      → ((archive : ArchiveInfo) (list : BackupInfo) → ¬ HasList stanza f archive list) → IsStill old new

-- what changes of what the disk holds alone
pub record TouchesNow (stanza : Text) (rules : Rules) (moment : ℕ) (old new : Option Content) : Type 0 where
  pub listed : (f : Content) (archive : ArchiveInfo) (list : BackupInfo) → old ≡ Some f → HasList stanza f archive list
      → (n : Name) → ¬ IsTouchedBy stanza rules moment archive list n → at n new ≡ at n old
  pub unlisted : (f : Content) → old ≡ Some f
      → ((archive : ArchiveInfo) (list : BackupInfo) → ¬ HasList stanza f archive list) → new ≡ old

-- what the expiry of a stanza may change, where the disk represents it
abbrev pub IsTouched : Text → Rules → ℕ → Stanza → Text → Type 0
IsTouched stanza rules moment s name =
    let left = changed (Condemn (is_condemned rules moment (listed s))) s in
    MayTouch stanza (labels_of (listed left)) (keeps_by rules (current_number left) (listed left)) name

-- ---- what a call does to a disk

-- a part of the stanza's expiry, or all of it
abbrev pub ExpiresPart : Text → Rules → ℕ → DiskState → DiskState → Type 0
ExpiresPart stanza rules moment old new = DoesPart Whole stanza (Expire (retention rules moment)) old.view new.view

abbrev pub ExpiresAll : Text → Rules → ℕ → DiskState → DiskState → Type 0
ExpiresAll stanza rules moment old new = DoesWhole Whole stanza (Expire (retention rules moment)) old.view new.view

-- the same from each sound stanza of which this is a plan
abbrev pub CarriesOutPart : Text → Rules → Planned → DiskState → DiskState → Type 0
CarriesOutPart stanza rules plan old new = (moment : ℕ) (s : Stanza) → HoldsPlan stanza rules moment plan old
    → IsSoundStanza s → IsSome old.view.now → PartFrom stanza (retention rules moment) s old.view new.view

abbrev pub CarriesOutAll : Text → Rules → Planned → DiskState → DiskState → Type 0
CarriesOutAll stanza rules plan old new = (moment : ℕ) (s : Stanza) → HoldsPlan stanza rules moment plan old
    → IsSoundStanza s → IsSome old.view.now → WholeFrom stanza (retention rules moment) s old.view new.view

-- at each moment the stanza has what is needed
abbrev pub KeepsNeeded : Text → Rules → ℕ → DiskState → DiskState → Type 0
KeepsNeeded stanza rules moment old new = (s : Stanza) → IsSoundStanza s → IsSome old.view.now
    → IsSteady stanza (Some s) old.view → LeavesOnly (HasNeeded stanza (retention rules moment) s) old.view new.view

-- these are the labels of the disk's stanza that expire
abbrev pub AreCondemned : Text → Rules → ℕ → List Label → DiskState → Type 0
AreCondemned stanza rules moment labels d = (s : Stanza) → IsSome d.view.now → NowRepresents stanza (Some s) d.view.now
    → labels ≡ condemned_labels rules moment (listed s)

-- nothing changes but what the expiry of the disk's list may change
abbrev pub ChangesTouched : Text → Rules → ℕ → DiskState → DiskState → Type 0
ChangesTouched stanza rules moment old new = Touches stanza rules moment old.view new.view

-- nothing changes but what carrying a plan out may change
abbrev pub ChangesPlanned : Text → Rules → Planned → DiskState → DiskState → Type 0
ChangesPlanned stanza rules plan old new = ChangesOnly (MayTouch stanza (labels_of (backup_info_of plan.left).backups)
    (keeps_by rules (archive_info_of plan.archive).current (backup_info_of plan.left).backups)) old.view new.view
