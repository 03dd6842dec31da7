-- When a backup of any kind holds the data folder (pgBackRest command reference, "Backup", options type and delta).
use Rattle.std.specs.Prelude.{◌≡◌, Bool, true, false, length, Option, Some}
use Rattle.std.specs.FinMap.{get}
use Rattle.base_devices.specs.Content.{Content}
use Rattle.base_devices.specs.DataFolder.{Nodes, file}
use Rattle.base_model.specs.declared.labels.Label.{Label}
use Rattle.base_model.specs.Now.{NowRepresents}
use Rattle.base_model.specs.Repository.{Backup, File, Stanza}
use Rattle.base_model.specs.Text.{Text, In}
use Rattle.worker_pool.specs.Twins.{HasNoTwin}
use Rattle.backup_lemmas.specs.Backups.{bytes_in}

-- no file of the folder has the size and the time of that backup's file of its path, and other bytes
abbrev pub HasNoOther : Backup → Nodes → Type 0
HasNoOther p f = (path bytes : Text) (x : File) → get p.files path ≡ Some x → f path ≡ Some (file bytes x.time)
    → length bytes ≡ length x.bytes → bytes ≡ x.bytes

-- what distinguishes the folder's files from those of that backup: with delta their digests, and else their times
abbrev pub ShowsApart : Bool → Backup → Nodes → Type 0
ShowsApart true p f = HasNoTwin p (bytes_in f)
ShowsApart false p f = HasNoOther p f

-- the same for the backup of this label, of a stanza that the disk has
abbrev pub ShowsFrom : Text → Option Content → Bool → Nodes → Label → Type 0
ShowsFrom stanza old delta f l = (s : Stanza) × NowRepresents stanza (Some s) old
    × ((p : Backup) → In p s.backups → p.entry.label ≡ l → ShowsApart delta p f)
