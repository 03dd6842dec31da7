-- What other processes do in a step: they push files of one stanza, and mark in the spool the result of it.
use Rattle.std.specs.Prelude.{◌≡◌, ◌⊎◌, ◌≤◌, ℕ, Bool, List, [], ◌∷◌, ◌++◌, Option, Some, None, Result, OnOk, IsSome, codes, option_map}
use Rattle.sha1.specs.Sha1.{sha1}
use Rattle.base_text.specs.Sum.{sum_text}
use Rattle.base_devices.specs.Content.{Content}
use Rattle.base_devices.specs.Moments.{View}
use Rattle.base_devices.specs.Crash.{Leaves, Write}
use Rattle.base_devices.specs.States.{DiskState}
use Rattle.base_model.specs.declared.clusters.Cluster.{Cluster}
use Rattle.base_model.specs.declared.wal.ArchiveName.{ArchiveName}
use Rattle.base_model.specs.Text.{Text, ◌⫽◌, In}
use Rattle.base_model.specs.Names.{archive_folder, archive_name, receipt_name, wal_text}
use Rattle.base_model.specs.Repository.{Repository, IsSound, id_of}
use Rattle.base_model.specs.Represents.{IsWalName}
use Rattle.base_model.specs.Steps.{Turn, Named, ArchivePushAsync}
use Rattle.base_model.specs.Log.{Done, Keeps, HasReceipt}
use Rattle.base_model.specs.Now.{NowRepresents, NowEffect}
use Rattle.base_model.specs.Steady.{CarriesOn, PassesOnly}
use Rattle.archive_lookup.specs.Stored.{ChangesArchive}

-- ---- what is known

-- a step of others, and the marks that it left in the spool: the name and the bytes of each
pub record Turned : Type 0 where
  pub turn : Turn
  pub marks : List Write

-- the stanza whose files are pushed, and the steps of others so far
pub record Account : Type 0 where
  pub stanza : Text
  pub turns : List Turned

-- what other processes report: their steps, where they are known, and the arguments with which this program was
-- started
pub record ProcessesState : Type 0 where
  pub account : Option Account
  -- how many steps of others succeeded
  pub turns : ℕ
  pub started : Option (List (List Text))
  -- how often a call failed
  pub faults : ℕ

-- the account continues by this step of others
pub record GoesOnBy (t : Turned) (stanza : Text) (old new : Option Account) : Type 0 where
  pub before : List Turned
  pub was : old ≡ Some (record { stanza = stanza; turns = before })
  pub is : new ≡ Some (record { stanza = stanza; turns = before ++ t ∷ [] })

-- where there still is an account, it continued by a step of others that ended so
abbrev pub GoesOn : Bool → Option Account → Option Account → Type 0
GoesOn ended old new = IsSome new → (stanza : Text) × (t : Turned) × GoesOnBy t stanza old new × (t.turn.ended ≡ ended)

-- this holds of the stanza and of the step of others that the account continued by
abbrev pub OnTurn : Option Account → Option Account → (Text → Turned → Type 0) → Type 0
OnTurn old new P = (stanza : Text) (t : Turned) → GoesOnBy t stanza old new → P stanza t

-- the program was started with these arguments, where that is known
abbrev pub IsStarted : List Text → ProcessesState → ProcessesState → Type 0
IsStarted arguments old new = new.started ≡ option_map (λ past. past ++ arguments ∷ []) old.started

-- ---- what it does to the repository

-- it pushed nothing, or under an id of the repository's history
abbrev pub IsUnder : Repository → Turn → Type 0
IsUnder None t = t.pushed ≡ []
IsUnder (Some s) t = (t.pushed ≡ []) ⊎ ((c : Cluster) × In c s.history × (t.id ≡ id_of c))

-- The repository changes as by a command that waits for this step of others alone. It changes by all of the pushes of a
-- step that succeeded, by any of those that a refused one tried, and at each moment by a part. Each push is whole,
-- whatever a crash leaves.
pub record GoesByTurn (stanza : Text) (t : Turn) (old new : View) : Type 0 where
  pub does : NowEffect stanza (ArchivePushAsync (t ∷ [])) t.ended old.now new.now
  pub carries : CarriesOn stanza (ArchivePushAsync (t ∷ [])) t.ended old new
  pub between : PassesOnly stanza (ArchivePushAsync (t ∷ [])) old new
  pub under : (r : Repository) → IsSome old.now → IsSound r → NowRepresents stanza r old.now → IsUnder r t

-- ---- what it does to the spool

-- the step of others stored a file of this name and sum: the disk has it, and all that a crash now leaves
pub record IsStoredBy (stanza : Text) (t : Turn) (name : ArchiveName) (sum : Text) (repo : View) : Type 0 where
  pub file : Named
  pub pushed : In file t.pushed
  pub of_name : file.name ≡ name
  pub of_sum : sha1 file.bytes ≡ sum
  pub stored : (f : Content) → Leaves repo repo.moment f
      → (bytes : Text) × (f (archive_name stanza t.id name (sum_text sum)) ≡ Some bytes) × (sha1 bytes ≡ sum)

-- the spool had the receipt, or a crash would have left it
abbrev pub HadReceipt : Text → View → ArchiveName → Text → Type 0
HadReceipt stanza spool name sum = (f : Content) × Leaves spool spool.moment f × HasReceipt stanza f name sum

-- At each moment of the step of others each receipt that the spool has, or a crash leaves, is an earlier one, or of a
-- file that the step of others stored.
pub record GivesReceipts (stanza : Text) (t : Turn) (repo new_repo spool new_spool : View) : Type 0 where
  pub each : (q : Repository) (log : List Done) → IsSome repo.now → IsSome spool.now → Keeps stanza q log repo spool →
      (m : ℕ) (f : Content) → spool.moment ≤ m → m ≤ new_spool.moment → Leaves new_spool m f →
      (name : ArchiveName) (sum : Text) → IsWalName name → HasReceipt stanza f name sum
      → HadReceipt stanza spool name sum ⊎ IsStoredBy stanza t name sum new_repo

-- the mark in the spool that a file was refused
abbrev pub refusal_name : Text → ArchiveName → Text
refusal_name stanza name = archive_folder stanza ⫽ codes "out" ⫽ (wal_text name ++ codes ".error")

-- the name of a mark
abbrev pub IsMark : Text → Text → Type 0
IsMark stanza name = (file : ArchiveName) × ((name ≡ receipt_name stanza file) ⊎ (name ≡ refusal_name stanza file))

-- these marks are in the spool, and each other one was there before
pub record LeavesMarks (stanza : Text) (marks : List Write) (old new : Option Content) : Type 0 where
  pub stand : (f : Content) → new ≡ Some f → (w : Write) → In w marks → f w.0 ≡ Some w.1
  pub others : (f g : Content) → old ≡ Some f → new ≡ Some g → (name bytes : Text) → IsMark stanza name
      → g name ≡ Some bytes → (f name ≡ Some bytes) ⊎ In (name, bytes) marks

-- ---- the same for the step that the account continued by

-- what it does to the repository
abbrev pub TurnGoes : ProcessesState → ProcessesState → DiskState → DiskState → Type 0
TurnGoes old new repo new_repo = OnTurn old.account new.account
    (λ stanza t. GoesByTurn stanza t.turn repo.view new_repo.view)

-- which marks it leaves in the spool, where it succeeded
abbrev pub TurnMarks : {T E : Type 0} → Result T E → ProcessesState → ProcessesState → DiskState → DiskState → Type 0
TurnMarks result old new spool new_spool = OnOk result
    (OnTurn old.account new.account (λ stanza t. LeavesMarks stanza t.marks spool.view.now new_spool.view.now))

-- of this disk it changes the stanza's folder of the archive alone
abbrev pub TurnChanges : ProcessesState → ProcessesState → DiskState → DiskState → Type 0
TurnChanges old new disk new_disk = OnTurn old.account new.account
    (λ stanza t. ChangesArchive stanza disk.view new_disk.view)

-- which receipts it gives
abbrev pub TurnReceipts : ProcessesState → ProcessesState → DiskState → DiskState → DiskState → DiskState → Type 0
TurnReceipts old new repo new_repo spool new_spool = OnTurn old.account new.account
    (λ stanza t. GivesReceipts stanza t.turn repo.view new_repo.view spool.view new_spool.view)
