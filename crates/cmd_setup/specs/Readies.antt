-- What the stages hand to a command.
use Rattle.std.specs.Prelude.{◌≤◌, Bool, true, false, length, Option, IfSome, IsTrue, IsSomeAnd}
use Rattle.base_devices.specs.Content.{Content}
use Rattle.base_devices.specs.DataFolder.{Nodes}
use Rattle.base_model.specs.declared.clusters.ArchiveInfo.{ArchiveInfo}
use Rattle.base_model.specs.declared.clusters.BackupInfo.{BackupInfo}
use Rattle.base_model.specs.Text.{Text}
use Rattle.base_model.specs.Names.{backup_info}
use Rattle.base_model.specs.Pair.{PairIs}
use Rattle.base_model.specs.InfoFiles.{IsArchiveInfo, IsBackupInfo, IsBackupText, info_limit}
use Rattle.base_model.specs.Values.{archive_info_of, backup_info_of}
use Rattle.repo_stanza.specs.HealingPair.{backup_text}
use Rattle.cmd_types.specs.declared.stages.plan.Plan.{Plan}
use Rattle.cmd_types.specs.declared.stages.plan.Pairs.{Pairs}
use Rattle.cmd_types.specs.declared.stages.plan.Pairs.TheVariants.{Unread, ReadBoth}
use Rattle.cmd_types.specs.Current.{HasValue}
use Rattle.cmd_setup.specs.declared.ready.Ready.{Ready}
use Rattle.cmd_setup.specs.Folder.{IsKnown}

-- the archive pair is read
abbrev pub has_archive : Pairs → Bool
has_archive Unread = false
has_archive other = true

-- the backup pair is read
abbrev pub has_backup : Pairs → Bool
has_backup ReadBoth = true
has_backup other = false

-- the archive pair has this value
abbrev pub IsArchiveOf : Text → Option Content → ArchiveInfo → Type 0
IsArchiveOf stanza repo v = IfSome repo (λ f. HasValue stanza f (archive_info_of v)) × IsArchiveInfo (archive_info_of v)

-- the backup pair has this value
abbrev pub IsBackupOf : Text → Option Content → BackupInfo → Type 0
IsBackupOf stanza repo v = IfSome repo (λ f. PairIs IsBackupText f (backup_info stanza) (backup_info_of v))
    × IsBackupInfo (backup_info_of v)

-- the list's text isn't longer than it may be
abbrev pub FitsLimit : BackupInfo → Type 0
FitsLimit v = length (backup_text (backup_info_of v)) ≤ info_limit

-- where it is asked for, there is one, and this holds of it
abbrev pub IfAsked : {T : Type 0} → Bool → (T → Type 0) → Option T → Type 0
IfAsked asked P found = IsTrue asked → IsSomeAnd found P

-- What the plan asks for was read: the data folder's cluster, and the values that the pairs have now.
pub record IsReady (plan : Plan) (stanza : Text) (repo : Option Content) (nodes : Option Nodes) (ready : Ready) : Type
    0 where
  pub control : IfAsked plan.control (IsKnown nodes) ready.control
  pub archive : IfAsked (has_archive plan.pairs) (IsArchiveOf stanza repo) ready.archive
  pub backup : IfAsked (has_backup plan.pairs) (IsBackupOf stanza repo) ready.backup
  pub fits : IfAsked (has_backup plan.pairs) FitsLimit ready.backup
