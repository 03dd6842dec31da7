-- What a file and a folder of a manifest are by themselves, whatever else it lists.
use Rattle.std.specs.Prelude.{◌≡◌, ◌≢◌, ◌⊎◌, ◌<◌, ◌≤◌, ◌^◌, [], codes, None, IfSome}
use Rattle.sha1.specs.Sha1.{sha1}
use Rattle.base_text.specs.Sum.{IsSum}
use Rattle.base_devices.specs.Crash.{IsTemporary}
use Rattle.base_model.specs.declared.files.Bundled.{Bundled}
use Rattle.base_model.specs.Text.{Text}
use Rattle.base_model.specs.Values.{FileEntry}
use Rattle.base_model.specs.InfoFiles.{IsLabel}
use Rattle.base_model.specs.Paths.{IsPath}

-- a path that a backup may hold, and that is no temporary name
abbrev pub IsStored : Text → Type 0
IsStored path = IsPath path × (¬ IsTemporary path)

-- a path at the top of a data folder that no backup holds
abbrev pub IsSignal : Text → Type 0
IsSignal path = (path ≡ codes "recovery.signal") ⊎ (path ≡ codes "standby.signal")

-- the place is in a bundle that is numbered from 1 on
abbrev pub IsBundlePlace : Bundled → Type 0
IsBundlePlace b = (1 ≤ b.number) × (b.number < 2 ^ 32) × (b.at < 2 ^ 64)

-- The rules of a file, except that its folders are listed.
pub record IsFile (e : FileEntry) : Type 0 where
  pub path : IsPath e.path
  pub lasting : ¬ IsTemporary e.path
  pub signal : (e.path ≢ codes "recovery.signal") × (e.path ≢ codes "standby.signal")
  pub size : e.size < 2 ^ 64
  pub time : e.time < 2 ^ 64
  pub sum : IsSum e.sum
  pub empty : e.size ≡ 0 → (e.sum ≡ sha1 []) × (e.reference ≡ None) × (e.bundle ≡ None)
  pub reference : IfSome e.reference IsLabel
  pub bundle : IfSome e.bundle IsBundlePlace

-- The rules of a folder, except that its own folders are listed.
pub record IsDirectory (path : Text) : Type 0 where
  pub is_path : IsPath path
  pub lasting : ¬ IsTemporary path
  pub signal : (path ≢ codes "recovery.signal") × (path ≢ codes "standby.signal")
      × (path ≢ codes "postgresql.auto.conf")
