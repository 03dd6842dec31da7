-- A file that is queued for other processes: what their steps do, and what these and the spool say of it.
use Rattle.std.specs.Prelude.{◌≡◌, ◌⊎◌, ◌<◌, ◌^◌, ◌++◌, ℕ, Bool, true, List, ◌∷◌, Option, Some, None, IfSome, IsSome, codes, string_bytes}
use Rattle.std.specs.Str.{is_utf8}
use Rattle.base_devices.specs.Content.{Content}
use Rattle.base_devices.specs.Crash.{Leaves, Write}
use Rattle.base_devices.specs.Moments.{View}
use Rattle.base_model.specs.declared.wal.ArchiveName.{ArchiveName}
use Rattle.base_model.specs.Text.{Text, ◌⫽◌, In}
use Rattle.base_model.specs.Names.{archive_folder, receipt_name}
use Rattle.base_model.specs.Repository.{Repository}
use Rattle.base_model.specs.Steps.{ArchivePushAsync}
use Rattle.base_model.specs.Log.{Done as Entry, Keeps, Reaches, HasReceipt, IsDrained}
use Rattle.archive_lookup.specs.Stored.{ChangesArchive}
use Rattle.archive_lookup.specs.Turns.{Turned, Account, GoesOn, OnTurn, GoesByTurn, GivesReceipts, IsStoredBy, LeavesMarks, refusal_name}
use Rattle.archive_spool.specs.declared.spool_query.Asked.{Asked}
use Rattle.archive_spool.specs.declared.spool_query.Asked.TheVariants.{Done, NotYet, Reported}
use Rattle.archive_spool.specs.Marks.{receipt_text, refusal_text}
use Rattle.archive_wait.specs.TurnsDone.{TurnsDone, turns_of}

-- where the marks lie
abbrev pub marks_folder : Text → Text
marks_folder stanza = archive_folder stanza ⫽ codes "out"

-- f has no mark of the file
abbrev pub IsClear : Text → ArchiveName → Content → Type 0
IsClear stanza name f = (f (receipt_name stanza name) ≡ None) × (f (refusal_name stanza name) ≡ None)

-- all that a crash leaves has no receipt of the file
abbrev pub IsBare : Text → ArchiveName → View → Type 0
IsBare stanza name v = (f : Content) → Leaves v v.moment f → f (receipt_name stanza name) ≡ None

-- the marks of a step of others say this of a file with this sum
abbrev pub Shows : Text → ArchiveName → Text → List Write → Asked → Type 0
Shows stanza name sum marks Done = In (receipt_name stanza name, receipt_text sum) marks
Shows stanza name sum marks NotYet = ¬ In (receipt_name stanza name, receipt_text sum) marks
    × ((code : ℕ) (line : Text) → code < 2 ^ 32 → is_utf8 line ≡ true
    → ¬ In (refusal_name stanza name, refusal_text code line) marks)
Shows stanza name sum marks (Reported code text) = ¬ In (receipt_name stanza name, receipt_text sum) marks
    × In (refusal_name stanza name, refusal_text code (string_bytes text)) marks

-- Other processes took a step: it is the next one of their account, and what it states is all that was done.
pub record HadTurn (ended : Bool) (old new : Option Account) (repo new_repo spool new_spool : View) : Type 0 where
  pub account : GoesOn ended old new
  pub repository : OnTurn old new (λ stanza t. GoesByTurn stanza t.turn repo new_repo)
  pub receipts : OnTurn old new (λ stanza t. GivesReceipts stanza t.turn repo new_repo spool new_spool)
  pub marks : ended ≡ true → OnTurn old new (λ stanza t. LeavesMarks stanza t.marks spool.now new_spool.now)
  pub repo_only : OnTurn old new (λ stanza t. ChangesArchive stanza repo new_repo)
  pub spool_only : OnTurn old new (λ stanza t. ChangesArchive stanza spool new_spool)
  pub spool_known : IsSome spool.now → IsSome new_spool.now

-- the steps of others alone, as a command of the log
abbrev pub entry_of : List Turned → Entry
entry_of turned = record { command = ArchivePushAsync (turns_of turned); acknowledged = true }

-- The account continued by steps of others. Where two disks kept a log, the log with these steps of others reaches a
-- repository in which a drain has stored a file of this name and sum. Where the spool didn't have its receipt, one of
-- these steps of others stored such a file: the repository has it, and so has all that a crash leaves.
pub record IsAcknowledged (name : ArchiveName) (sum : Text) (old : Option Account) (new : Account)
    (repo new_repo spool : View) : Type 0 where
  pub before : List Turned
  pub turned : List Turned
  pub was : old ≡ Some (record { stanza = new.stanza; turns = before })
  pub is : new.turns ≡ before ++ turned
  pub drained : (q : Repository) (log : List Entry) → IsSome repo.now → IsSome spool.now
      → Keeps new.stanza q log repo spool
      → (r : Repository) × Reaches q (entry_of turned ∷ log) r × IsDrained r name sum
  pub stored : (q : Repository) (log : List Entry) → IsSome repo.now → IsSome spool.now
      → Keeps new.stanza q log repo spool
      → IfSome spool.now (λ f. HasReceipt new.stanza f name sum)
      ⊎ ((t : Turned) × In t turned × IsStoredBy new.stanza t.turn name sum new_repo)

-- The account continued by steps of others that succeeded, and these are all that was done. Where the spool's contents
-- are known, none of their marks is of the file.
pub record IsSilent (name : ArchiveName) (sum : Text) (old : Option Account) (new : Account)
    (repo new_repo spool new_spool : View) : Type 0 where
  pub went : TurnsDone true old new repo new_repo spool new_spool
  pub each : IsSome spool.now → (t : Turned) → In t went.turned → Shows new.stanza name sum t.marks NotYet
