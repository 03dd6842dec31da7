-- A crash leaves the members of the two pairs unchanged.
use Rattle.std.specs.Prelude.{◌≡◌, false}
use Rattle.base_devices.specs.Moments.{View, is_unsynced}
use Rattle.base_model.specs.Text.{Text}
use Rattle.base_model.specs.Names.{archive_info, backup_info, copy_of}

-- none of the four members is unsynced
pub record AreSynced (stanza : Text) (v : View) : Type 0 where
  pub archive : is_unsynced v (archive_info stanza) ≡ false
  pub archive_copy : is_unsynced v (copy_of (archive_info stanza)) ≡ false
  pub backup : is_unsynced v (backup_info stanza) ≡ false
  pub backup_copy : is_unsynced v (copy_of (backup_info stanza)) ≡ false
