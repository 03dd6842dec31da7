-- What a digest can't distinguish. Own.
use Rattle.std.specs.Prelude.{◌≡◌, length, Some}
use Rattle.std.specs.FinMap.{get}
use Rattle.sha1.specs.Sha1.{sha1}
use Rattle.base_devices.specs.Content.{Content}
use Rattle.base_model.specs.Repository.{Backup, File}
use Rattle.base_model.specs.Text.{Text}

-- no file of these has the number and the digest of the backup's file of its path, and other bytes
abbrev pub HasNoTwin : Backup → Content → Type 0
HasNoTwin b tree = (path bytes : Text) (x : File) → get b.files path ≡ Some x → tree path ≡ Some bytes
    → length bytes ≡ length x.bytes → sha1 bytes ≡ sha1 x.bytes → bytes ≡ x.bytes
