-- The writes by which the members of a stanza's pairs get their values' texts.
use Rattle.std.specs.Prelude.{◌≡◌, List, ◌++◌, Some}
use Rattle.base_devices.specs.Content.{Content}
use Rattle.base_devices.specs.Crash.{Write}
use Rattle.base_model.specs.Text.{Text}
use Rattle.base_model.specs.Names.{archive_info, backup_info, copy_of}
use Rattle.base_model.specs.InfoText.{info_text}
use Rattle.base_model.specs.InfoFiles.{archive_sections, backup_sections}
use Rattle.base_model.specs.Values.{ArchiveInfo, BackupInfo}
use Rattle.base_model.specs.Create.{member_writes}

-- the texts of the two lists
abbrev pub archive_text : ArchiveInfo → Text
archive_text v = info_text (archive_sections v)

abbrev pub backup_text : BackupInfo → Text
backup_text v = info_text (backup_sections v)

-- both members of the archive pair, then both of the backup pair
abbrev pub mending_writes : Text → Text → Text → List Write
mending_writes stanza archive backup =
    member_writes (archive_info stanza) archive ++ member_writes (backup_info stanza) backup

-- both members of the pair have this text
abbrev pub HoldBoth : Text → Text → Content → Type 0
HoldBoth name text f = (f name ≡ Some text) × (f (copy_of name) ≡ Some text)

-- the members of both pairs have these texts
pub record HaveTexts (stanza : Text) (archive backup : Text) (f : Content) : Type 0 where
  pub archive_pair : HoldBoth (archive_info stanza) archive f
  pub backup_pair : HoldBoth (backup_info stanza) backup f
