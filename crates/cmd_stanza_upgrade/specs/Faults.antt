-- Which refusal of stanza-upgrade a fault below is, and why it is refused.
use Rattle.std.specs.Prelude.{◌≡◌, ◌⊎◌, ℕ, Bool, true, List, Option, option_map, IfSome}
use Rattle.base_devices.specs.Content.{Content}
use Rattle.base_devices.specs.States.{DiskState, DiskFailed, ConnectionState, ServerFailed}
use Rattle.base_model.specs.Text.{Text}
use Rattle.base_model.specs.Values.{ArchiveInfo, BackupInfo}
use Rattle.server_talk.specs.declared.session.fault.ServerFault.{ServerFault}
use Rattle.repo_stanza.specs.declared.control.Control.{Control}
use Rattle.repo_stanza.specs.declared.fault.StanzaFault.{StanzaFault}
use Rattle.repo_stanza.specs.declared.fault.StanzaFault.TheVariants as stanzas
use Rattle.repo_stanza.specs.declared.upgrade_fault.UpgradeFault.{UpgradeFault}
use Rattle.repo_stanza.specs.declared.upgrade_fault.UpgradeFault.TheVariants as upgrades
use Rattle.repo_stanza.specs.Causes.{HistoriesDiffer}
use Rattle.repo_stanza.specs.Judging.{HasList}
use Rattle.repo_stanza.specs.Pairs.{DifferFirst, HasPending, identities}
use Rattle.repo_stanza.specs.UpgradeCauses.{UpgradeCause}
use Rattle.cmd_types.specs.declared.stages.object.Object.{Object}
use Rattle.cmd_types.specs.declared.stages.object.Object.TheVariants.{Repo as TheRepo}
use Rattle.cmd_types.specs.declared.stages.halt.Halt.{Halt}
use Rattle.cmd_types.specs.declared.stages.halt.Halt.TheVariants.{Refused, Failed, NoMemory}
use Rattle.cmd_types.specs.Halts.{HaltCause, Only}
use Rattle.cmd_types.specs.Risen.{none, rose_in}
use Rattle.cmd_stanza_create.specs.declared.server.Server as code
use Rattle.cmd_stanza_create.specs.Server.{Server, server_view}
use Rattle.cmd_stanza_create.specs.Talking.{Ended, AskCause}
use Rattle.cmd_stanza_upgrade.specs.declared.fault.UpgradeCommandFault.{UpgradeCommandFault}
use Rattle.cmd_stanza_upgrade.specs.declared.fault.UpgradeCommandFault.TheVariants.{HistoryDiffers, Server as Talked, TooMany, TooLong}
use Rattle.cmd_stanza_upgrade.specs.declared.upgrade_command.StanzaValues.{StanzaValues}

-- each refusal comes before the command's first step
abbrev pub upgrade_early : UpgradeCommandFault → Bool
upgrade_early fault = true

-- ---- which one a fault below is

-- of two values that were read: their histories may differ
abbrev pub of_stanza : StanzaFault → Halt UpgradeCommandFault
of_stanza (stanzas.InfoDamaged name main copy) = NoMemory
of_stanza (stanzas.HistoryDiffers at) = Refused (HistoryDiffers at)
of_stanza (stanzas.StanzaMismatch kept found) = NoMemory
of_stanza (stanzas.ArchiveLost label) = NoMemory
of_stanza (stanzas.FilesFound name) = NoMemory
of_stanza stanzas.Disk = NoMemory
of_stanza stanzas.NoMemory = NoMemory

-- of a talk with the server
abbrev pub of_server : Halt ServerFault → Halt UpgradeCommandFault
of_server (Refused fault) = Refused (Talked fault)
of_server (Failed object) = Failed object
of_server NoMemory = NoMemory

-- of an upgrade of values that were read
abbrev pub of_upgrade : UpgradeFault → Halt UpgradeCommandFault
of_upgrade (upgrades.TooMany limit) = Refused (TooMany limit)
of_upgrade (upgrades.TooLong name limit) = Refused (TooLong name limit)
of_upgrade upgrades.Disk = Failed TheRepo
of_upgrade upgrades.NoMemory = NoMemory

-- ---- why it is refused

-- the values state histories that differ
abbrev pub Differs : ArchiveInfo → BackupInfo → UpgradeCommandFault → Type 0
Differs archive backup (HistoryDiffers at) = DifferFirst at archive.history (identities backup)
    × ¬ HasPending archive backup
Differs archive backup other = ⊥

-- the values of the pairs have no room for the cluster
abbrev pub RoomCause : Text → Control → Option Content → UpgradeFault → Type 0
RoomCause stanza known repo fault = (archive : ArchiveInfo) × (list : BackupInfo)
    × IfSome repo (λ f. HasList stanza f archive list) × UpgradeCause stanza known archive list ⊥ fault

-- why the cluster isn't added, from what the repository held
abbrev pub UpgradeListCause : Text → Control → Option Content → UpgradeCommandFault → Type 0
UpgradeListCause stanza known repo (TooMany limit) = RoomCause stanza known repo (upgrades.TooMany limit)
UpgradeListCause stanza known repo (TooLong name limit) = RoomCause stanza known repo (upgrades.TooLong name limit)
UpgradeListCause stanza known repo other = ⊥

-- why stanza-upgrade is refused: for what the repository held, or for what the server that is asked states
abbrev pub UpgradeCommandCause : Text → Control → Option Server → Option Content → Option (List ℕ)
    → UpgradeCommandFault → Type 0
UpgradeCommandCause stanza known server repo pending (HistoryDiffers at) =
    IfSome repo (λ f. HistoriesDiffer stanza f at)
UpgradeCommandCause stanza known server repo pending (Talked fault) = AskCause server known.system pending fault
UpgradeCommandCause stanza known server repo pending other = UpgradeListCause stanza known repo other

-- A talk that the server's answer ended was ended with the last message too, unless the connection failed. What comes
-- after it leaves it ended, or nothing was sent.
abbrev pub UpgradeCloses : Type 0 → Option (List ℕ) → Option (List ℕ) → UpgradeCommandFault → Type 0
UpgradeCloses rose old new (HistoryDiffers at) = new ≡ old
UpgradeCloses rose old new (Talked fault) = Ended new ⊎ rose
UpgradeCloses rose old new other = Ended new ⊎ (new ≡ old)

-- ---- the same for a call's states

-- this holds of what it was refused for
abbrev pub OnRefused : (UpgradeCommandFault → Type 0) → Halt UpgradeCommandFault → Type 0
OnRefused why (Refused fault) = why fault
OnRefused why other = Unit {0}

-- this holds of the object that failed
abbrev pub OnFailed : (Object → Type 0) → Halt UpgradeCommandFault → Type 0
OnFailed failed (Failed object) = failed object
OnFailed failed other = Unit {0}

-- why the cluster isn't added
abbrev pub UpgradeListFails : Text → Control → DiskState → DiskState → Halt UpgradeCommandFault → Type 0
UpgradeListFails stanza known old new =
    HaltCause (UpgradeListCause stanza known old.view.now) (Only TheRepo (DiskFailed old new))

-- how the talk was left
abbrev pub ClosesTalk : ConnectionState → ConnectionState → Halt UpgradeCommandFault → Type 0
ClosesTalk old new (Refused fault) = UpgradeCloses (ServerFailed old new) old.sent new.sent fault
ClosesTalk old new other = Unit {0}

-- why the command is refused, by the states of the repository and the connection as it began
abbrev pub Refuses : Text → StanzaValues → Option code.Server → DiskState → ConnectionState
    → Halt UpgradeCommandFault → Type 0
Refuses stanza values asked repo connection = OnRefused (UpgradeCommandCause stanza values.control
    (option_map server_view asked) repo.view.now connection.pending)

-- an object that failed has counted it
abbrev pub FailedOf : {D V : Type 0} → (D → DiskState) → (V → ConnectionState) → D → D → V → V
    → Halt UpgradeCommandFault → Type 0
FailedOf disk server repo new_repo connection new_connection = OnFailed
    (rose_in (record none {
      repo = DiskFailed (disk repo) (disk new_repo);
      server = ServerFailed (server connection) (server new_connection);
    }))
