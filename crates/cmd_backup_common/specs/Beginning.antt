-- Why a backup is refused before the repository is looked at. Own.
use Rattle.std.specs.Prelude.{◌≡◌, ◌≢◌, ◌≤◌, ℕ, List, length, codes, Option, Some, None, IfSome, IsSome, slice_get}
use Rattle.base_devices.specs.Links.{LinkState}
use Rattle.base_devices.specs.DataFolder.{Nodes}
use Rattle.base_model.specs.declared.clusters.ClusterId.{ClusterId}
use Rattle.base_model.specs.Text.{Text}
use Rattle.base_model.specs.Values.{ArchiveInfo, BackupInfo}
use Rattle.worker_pool.specs.Reads.{IsSteadyWorker}
use Rattle.repo_stanza.specs.declared.control.Control.{Control}
use Rattle.repo_stanza.specs.Pairs.{identity_kept, identity_known, identities, DifferFirst, HasPending, AreTogether, IsCurrent}
use Rattle.cmd_backup_common.specs.declared.parts.fault.BackupFault.{BackupFault}
use Rattle.cmd_backup_common.specs.declared.parts.fault.BackupFault.TheVariants.{HistoryDiffers, StanzaMismatch, Running, TooMany, WorkersLost}

-- this many backups are listed at most
abbrev pub most_backups : ℕ
most_backups = 10000

-- the file that a running server has in its data folder (PostgreSQL manual, "Database File Layout")
abbrev pub server_path : Text
server_path = codes "postmaster.pid"

-- no server runs in the folder
abbrev pub IsStopped : Nodes → Type 0
IsStopped f = f server_path ≡ None

-- ---- why it is refused

-- the values have histories that differ, or are another cluster's than the one that is given
abbrev pub FitCause : Control → ArchiveInfo → BackupInfo → BackupFault → Type 0
FitCause known a b (HistoryDiffers at) = DifferFirst at a.history (identities b) × ¬ HasPending a b
FitCause known a b (StanzaMismatch kept found) = AreTogether a b × (kept ≢ found) × (found ≡ identity_known known)
    × ((c : ClusterId) × IsCurrent a c × (kept ≡ identity_kept c))
FitCause known a b other = ⊥

-- a server runs in the folder
abbrev pub RunningCause : Option Nodes → BackupFault → Type 0
RunningCause nodes Running = IfSome nodes (λ f. IsSome (f server_path))
RunningCause nodes other = ⊥

-- the list is full
abbrev pub RoomCause : BackupInfo → BackupFault → Type 0
RoomCause b (TooMany limit) = (limit ≡ most_backups) × (most_backups ≤ length b.backups)
RoomCause b other = ⊥

-- this many links there were, and none of them is a steady worker
pub record AreLost (used : List LinkState) (lost : ℕ) : Type 0 where
  pub count : lost ≡ length used
  pub unsteady : (i : ℕ) (from : LinkState) → slice_get used i ≡ Some from → ¬ IsSteadyWorker from.known

abbrev pub LostCause : List LinkState → BackupFault → Type 0
LostCause used (WorkersLost lost) = AreLost used lost
LostCause used other = ⊥

-- the first of these that holds
abbrev pub BeginCause : Control → ArchiveInfo → BackupInfo → Option Nodes → List LinkState → BackupFault → Type 0
BeginCause known a b nodes used (HistoryDiffers at) = FitCause known a b (HistoryDiffers at)
BeginCause known a b nodes used (StanzaMismatch kept found) = FitCause known a b (StanzaMismatch kept found)
BeginCause known a b nodes used Running = RunningCause nodes Running
BeginCause known a b nodes used (TooMany limit) = RoomCause b (TooMany limit)
BeginCause known a b nodes used (WorkersLost lost) = LostCause used (WorkersLost lost)
BeginCause known a b nodes used other = ⊥
