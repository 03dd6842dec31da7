-- Folders that are emptied, and what an expiry leaves at its end.
use Rattle.std.specs.Prelude.{◌≡◌, ℕ, nat_eq, List, Option, Some, IsSome, IfSome, IsTrue, map, String, string_bytes}
use Rattle.std.specs.List.{starts_with}
use Rattle.std.specs.declared.alloc.Global.{Global}
use Rattle.base_devices.specs.Content.{Name, Content, at, is_below}
use Rattle.base_devices.specs.States.{DiskState}
use Rattle.base_disk.specs.Dropped.{IsAbsent}
use Rattle.base_model.specs.declared.labels.Label.{Label}
use Rattle.base_model.specs.InfoFiles.{IsBackupText}
use Rattle.base_model.specs.Names.{backup_folder, backup_info}
use Rattle.base_model.specs.Pair.{PairIs}
use Rattle.base_model.specs.Text.{Text, In, ◌⫽◌}
use Rattle.base_model.specs.Values.{ArchiveInfo, BackupInfo, archive_info_of, backup_info_of}
use Rattle.expire_rules.specs.declared.rules.Rules.{Rules}
use Rattle.expire_rules.specs.Labels.{labels_of}
use Rattle.expire_make.specs.declared.expiry_plan.Planned.{Planned}
use Rattle.expire_make.specs.Losing.{IsTextUnlisted, IsUnlisted, IsUnneeded, MayTouch}
use Rattle.repo_stanza.specs.Judging.{HasList}
use Rattle.expire_make.specs.Planning.{keeps_by, left_of}
use Rattle.expire_make.specs.Unneeded.{ids_in}

-- ---- folders

-- the name is absent, where it has this in front
abbrev pub IsAbsentAfter : Text → Name → DiskState → Type 0
IsAbsentAfter prefix name new = IsTrue (starts_with nat_eq name prefix) → IsAbsent new.view.now name

-- each of these names is
abbrev pub AreAbsentAfter : Text → List Name → DiskState → Type 0
AreAbsentAfter prefix names new = (n : Name) → In n names → IsAbsentAfter prefix n new

-- nothing lies below the folder
abbrev pub IsEmptied : Text → DiskState → Type 0
IsEmptied folder new = (n : Name) → IsTrue (is_below folder n) → IsAbsent new.view.now n

-- nothing lies below this folder of the stanza's backups, where it is named as a label that isn't among these
abbrev pub IsEmptiedOf : Text → List Label → Text → DiskState → Type 0
IsEmptiedOf stanza labels name new = IsTextUnlisted labels name → IsEmptied (backup_folder stanza ⫽ name) new

-- each of these folders is
abbrev pub AreEmptiedOf : Text → List Label → List (String Global) → DiskState → Type 0
AreEmptiedOf stanza labels names new = (x : Text) → In x (map string_bytes names) → IsEmptiedOf stanza labels x new

-- nothing lies in the folder of a label that isn't among these
abbrev pub HasNoUnlisted : Text → List Label → DiskState → Type 0
HasNoUnlisted stanza labels new = (n : Name) → IsUnlisted stanza labels n → IsAbsent new.view.now n

-- ---- at the end

-- What an expiry leaves at its end: this list, and nothing that goes with what isn't in it. All else is as it was.
pub record LeavesOf (stanza : Text) (rules : Rules) (archive : ArchiveInfo) (left : BackupInfo)
    (old new : Option Content) : Type 0 where
  -- the list is the value of the backup pair
  pub list : IfSome new (λ g. PairIs IsBackupText g (backup_info stanza) left)
  -- nothing lies in the folder of a label that isn't in it
  pub folders : (n : Name) → IsUnlisted stanza (labels_of left.backups) n → IsAbsent new n
  -- of the files under the ids of the archive pair's clusters none is there that its backups don't need
  pub files : (n : Name) → (u : IsUnneeded stanza (keeps_by rules archive.current left.backups) n)
      → In u.id (ids_in archive.history) → IsAbsent new n
  pub others : (n : Name) → ¬ MayTouch stanza (labels_of left.backups) (keeps_by rules archive.current left.backups) n
      → at n new ≡ at n old

-- by a plan
abbrev pub LeavesPlanned : Text → Rules → Planned → DiskState → DiskState → Type 0
LeavesPlanned stanza rules plan old new = IsSome old.view.now
    → LeavesOf stanza rules (archive_info_of plan.archive) (backup_info_of plan.left) old.view.now new.view.now

-- by the list that the two pairs had, whatever else the repository holds
abbrev pub LeavesListed : Text → Rules → ℕ → Option Content → Option Content → Type 0
LeavesListed stanza rules moment old new = (f : Content) (archive : ArchiveInfo) (list : BackupInfo) → old ≡ Some f
    → HasList stanza f archive list → LeavesOf stanza rules archive (left_of rules moment list) old new

-- the same for two states of a disk
abbrev pub EndsListed : Text → Rules → ℕ → DiskState → DiskState → Type 0
EndsListed stanza rules moment old new = LeavesListed stanza rules moment old.view.now new.view.now
