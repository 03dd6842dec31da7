-- Names that are lost.
use Rattle.std.specs.Prelude.{◌≡◌, ◌⊎◌, Bool, true, false, List, Option, None, IsTrue, map, option_map, string_bytes}
use Rattle.base_text.specs.Sum.{sum_text}
use Rattle.base_devices.specs.Content.{Name, Value, Content, Holds, at, is_below}
use Rattle.base_devices.specs.Moments.{View, SyncsFolders, MayKeep, is_unsynced}
use Rattle.base_devices.specs.States.{DiskState, Works}
use Rattle.base_model.specs.declared.labels.Label.{Label}
use Rattle.base_model.specs.declared.labels.Entry as rust_entry
use Rattle.base_model.specs.declared.wal.ArchiveId.{ArchiveId}
use Rattle.base_model.specs.declared.wal.ArchiveName.{ArchiveName}
use Rattle.base_model.specs.declared.wal.ArchiveName.TheVariants.{History}
use Rattle.base_model.specs.Text.{Text}
use Rattle.base_model.specs.Names.{backup_info, label_folder, label_text, archive_name}
use Rattle.base_model.specs.InfoFiles.{IsLabel}
use Rattle.base_model.specs.Values.{entry_of}
use Rattle.base_model.specs.Represents.{IsArchivePlace}
use Rattle.base_devices.specs.declared.disk.Found.{Found}
use Rattle.repo_pair.specs.Member.{IsOfPair}
pub use Rattle.repo_stanza.specs.Unused.{IsInLabel}
use Rattle.expire_rules.specs.Labels.{has_label, labels_of}

-- each of these names is as before or absent, and each other is as before
abbrev pub Loses : (Name → Type 0) → Content → Content → Type 0
Loses these f g = (n : Name) → (g n ≡ f n) ⊎ (these n × (g n ≡ None))

-- these are absent, and each other is as before
pub record LosesAll (these : Name → Type 0) (f g : Content) : Type 0 where
  pub loses : Loses these f g
  pub gone : (n : Name) → these n → g n ≡ None

-- each of these names is as before or absent, and each other is as before, where that is known
abbrev pub Drops : (Name → Type 0) → Option Content → Option Content → Type 0
Drops these old new = (n : Name) → (at n new ≡ at n old) ⊎ (these n × (at n new ≡ option_map (λ _. None) old))

-- a call that removes some of these names, and does nothing else
pub record TakesAway (these : Name → Type 0) (old new : DiskState) : Type 0 where
  pub works : Works (λ n v. these n × (v ≡ None)) (λ _. ⊥) old new
  pub now : Drops these old.view.now new.view.now

-- where a crash left at each of these names that wasn't unsynced what the disk held, it leaves there what the disk now
-- holds
abbrev pub StaysDurable : (Name → Type 0) → View → View → Type 0
StaysDurable these old new = SyncsFolders these old old → (n : Name) (v : Value) → these n → is_unsynced old n ≡ false
    → MayKeep new n v → Holds new.now n v

-- a call that removes names below a folder, and does nothing else
abbrev pub TakesFolder : Text → DiskState → DiskState → Type 0
TakesFolder folder old new = TakesAway (λ n. IsTrue (is_below folder n)) old new

-- what lies below a folder stays durable
abbrev pub FolderStaysDurable : Text → DiskState → DiskState → Type 0
FolderStaysDurable folder old new = StaysDurable (λ n. IsTrue (is_below folder n)) old.view new.view

-- what lies below a folder is durable, except for what was unsynced
abbrev pub FolderBecomesDurable : Text → DiskState → DiskState → Type 0
FolderBecomesDurable folder old new = (n : Name) (v : Value) → IsTrue (is_below folder n)
    → is_unsynced old.view n ≡ false → MayKeep new.view n v → Holds new.view.now n v

-- the labels of the backups that are listed
abbrev pub labels_listed : List rust_entry.Entry → List Label
labels_listed entries = labels_of (map entry_of entries)

-- the name lies in the folder of a label that isn't among these
pub record IsUnlisted (stanza : Text) (labels : List Label) (name : Text) : Type 0 where
  pub label : Label
  pub is_label : IsLabel label
  pub not_listed : has_label labels label ≡ false
  pub below : IsTrue (is_below (label_folder stanza label) name)

-- the name is that of an archive file that isn't kept
pub record IsUnneeded (stanza : Text) (keeps : ArchiveId → ArchiveName → Bool) (name : Text) : Type 0 where
  pub id : ArchiveId
  pub file : ArchiveName
  pub sum : Text
  pub fits : IsArchivePlace id file sum
  pub is : name ≡ archive_name stanza id file (sum_text sum)
  pub not_kept : keeps id file ≡ false

-- the text of a label that isn't among these
pub record IsTextUnlisted (labels : List Label) (text : Text) : Type 0 where
  pub label : Label
  pub is_label : IsLabel label
  pub text_is : text ≡ label_text label
  pub not_listed : has_label labels label ≡ false

-- the names that a listing reports
abbrev pub names_of : List Found → List Name
names_of found = map (λ (x : Found). string_bytes x.name) found

-- ---- what an expiry may change

-- a history of a timeline is never removed
abbrev pub is_passing : ArchiveName → Bool
is_passing (History timeline) = false
is_passing other = true

-- the name is that of an archive file which isn't a history of a timeline
pub record IsPassing (stanza : Text) (name : Text) : Type 0 where
  pub id : ArchiveId
  pub file : ArchiveName
  pub sum : Text
  pub fits : IsArchivePlace id file sum
  pub is : name ≡ archive_name stanza id file (sum_text sum)
  pub passing : is_passing file ≡ true

-- a member of the backup pair or the name at which one is put first, a name in the folder of a label, or an archive
-- file
abbrev pub MayExpire : Text → Text → Type 0
MayExpire stanza name = IsOfPair (backup_info stanza) name ⊎ (IsInLabel stanza name ⊎ IsPassing stanza name)

-- a name of the backup pair, one in the folder of a label that isn't among these, or that of a file that isn't kept
abbrev pub MayTouch : Text → List Label → (ArchiveId → ArchiveName → Bool) → Text → Type 0
MayTouch stanza labels keeps name = IsOfPair (backup_info stanza) name
    ⊎ (IsUnlisted stanza labels name ⊎ IsUnneeded stanza keeps name)
