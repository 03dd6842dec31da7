-- How the making of a backup ends the command, and why. Own.
use Rattle.std.specs.Prelude.{◌≡◌, ◌⊎◌, ◌<◌, ◌^◌, ℕ, List, length, None, Some, Result, Ok, Err, String, string_bytes, slice_get}
use Rattle.std.specs.declared.alloc.Global.{Global}
use Rattle.base_devices.specs.Links.{LinkState}
use Rattle.base_devices.specs.Moments.{View}
use Rattle.base_devices.specs.States.{ClockState, ShowsSecond}
use Rattle.base_model.specs.InfoFiles.{info_limit}
use Rattle.base_model.specs.ManifestText.{manifest_limit}
use Rattle.base_model.specs.Text.{Text, In}
use Rattle.worker_protocol.specs.Frames.{Item, Job}
use Rattle.worker_pool.specs.Reads.{UnreadBy}
use Rattle.worker_pool.specs.declared.dispatch.fault.Lost.{Lost}
use Rattle.worker_pool.specs.Run.{AllLost, begun}
use Rattle.backup_record.specs.Faults.{IsMissing}
use Rattle.backup_make.specs.declared.draft.Draft.{Draft}
use Rattle.backup_make.specs.declared.fault.MakeFault.{MakeFault}
use Rattle.backup_make.specs.Draft.{stanza_of, pair_of, main_of, jobs_in, files_with}
use Rattle.backup_make.specs.Faults.{WhereDone, IsManifestTooLong, IsListTooLong}
use Rattle.backup_make.specs.Made as backup
use Rattle.cmd_types.specs.declared.stages.halt.Halt.{Halt}
use Rattle.cmd_types.specs.declared.stages.outcome.Outcome.{Outcome}
use Rattle.cmd_types.specs.declared.stages.outcome.Outcome.TheVariants.{Finished}
use Rattle.cmd_backup_common.specs.declared.parts.fault.BackupFault.{BackupFault}
use Rattle.cmd_backup_common.specs.declared.parts.fault.BackupFault.TheVariants.{WorkersLost, ControlMissing, Unread, TooLong}
use Rattle.cmd_backup_common.specs.PartsFaults.{IsHaltOf}

-- the command's end by that of the backup's making: with this line, or with its fault
pub data IsEndWith (d : Draft) (line : Text) : Result (Unit {0}) MakeFault → Result Outcome (Halt BackupFault)
    → Type 0 where
  Well : (u : Unit {0}) (lines : String Global) → string_bytes lines ≡ line
      → IsEndWith d line (Ok u) (Ok (Finished lines))
  Ill : (lost : ℕ) (fault : MakeFault) (halt : Halt BackupFault) → IsHaltOf (stanza_of d) d.label lost fault halt
      → IsEndWith d line (Err fault) (Err halt)

-- The draft's backup was made of what these links read, and stopped in a second that the clock showed, and the command
-- ended so; or it wasn't.
pub record Finishes (d : Draft) (line : Text) (links : List LinkState) (old new : View) (clock new_clock : ClockState)
    (result : Result Outcome (Halt BackupFault)) : Type 0 where
  pub made : Result (Unit {0}) MakeFault
  pub outcome : backup.Outcome made d links old new
  pub stopped : backup.StopsBy (λ stop. ShowsSecond stop clock new_clock) made d None links old new outcome
  pub end : IsEndWith d line made result

-- ---- why it isn't made

-- a link couldn't read the file of this path, which a job asks for
pub record CannotRead (d : Draft) (links : List LinkState) (path : String Global) : Type 0 where
  pub link : ℕ
  pub from : LinkState
  pub from_is : slice_get links link ≡ Some from
  pub job : Job
  pub job_is : In job (jobs_in d)
  pub item : Item
  pub item_is : In item job.items
  pub path_is : item.path ≡ string_bytes path
  pub unread : UnreadBy from.known item

-- the manifest, or the list with the backup, would have more bytes than the limit
abbrev pub IsPast : Draft → List LinkState → String Global → ℕ → Type 0
IsPast d links name limit =
    ((string_bytes name ≡ pair_of d) × (limit ≡ manifest_limit)
    × WhereDone d links (λ ends. (n : ℕ) × IsManifestTooLong d ends n))
    ⊎ ((string_bytes name ≡ main_of d) × (limit ≡ info_limit)
    × WhereDone d links (λ ends. (n : ℕ) × IsListTooLong d ends n))

-- each link was lost; with those that were lost before they are this many
pub record LosesAll (d : Draft) (links : List LinkState) (before : List Lost) (lost : ℕ) : Type 0 where
  pub after : List Lost
  pub all : AllLost (jobs_in d) (begun links before) after
  pub count : length after < 2 ^ 32 → lost ≡ length after

-- why the draft's backup isn't made over these links
abbrev pub MakeCause : Draft → List LinkState → List Lost → BackupFault → Type 0
MakeCause d links before (WorkersLost lost) = LosesAll d links before lost
MakeCause d links before (ControlMissing path) =
    WhereDone d links (λ ends. IsMissing (string_bytes path) (files_with d ends))
MakeCause d links before (Unread path) = CannotRead d links path
MakeCause d links before (TooLong name limit) = IsPast d links name limit
MakeCause d links before other = ⊥
