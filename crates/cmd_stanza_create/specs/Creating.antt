-- What stanza-create makes, and why it is refused.
use Rattle.std.specs.Prelude.{◌≡◌, ◌⊎◌, ℕ, Bool, true, List, [], Option, Some, option_map, IfSome, IsSome, Result, String, string_bytes}
use Rattle.std.specs.declared.alloc.Global.{Global}
use Rattle.base_devices.specs.Content.{Content}
use Rattle.base_devices.specs.States.{DiskState, DiskFailed, ConnectionState, ServerFailed}
use Rattle.base_model.specs.declared.labels.Label.{Label}
use Rattle.base_model.specs.Text.{Text}
use Rattle.base_model.specs.Names.{label_text}
use Rattle.base_model.specs.Now.{HasNewPairs}
use Rattle.base_model.specs.Steps.{StanzaCreate}
use Rattle.repo_info.specs.declared.fault.MemberFault.{MemberFault}
use Rattle.server_talk.specs.declared.session.fault.ServerFault.{ServerFault}
use Rattle.repo_stanza.specs.declared.control.Control.{Control}
use Rattle.repo_stanza.specs.declared.fault.Identity.{Identity}
use Rattle.repo_stanza.specs.declared.fault.StanzaFault.{StanzaFault}
use Rattle.repo_stanza.specs.declared.fault.StanzaFault.TheVariants.{InfoDamaged as DamagedOf, HistoryDiffers as DiffersOf, StanzaMismatch as MismatchOf, ArchiveLost as LostOf, FilesFound as FoundOf, Disk as DiskOf, NoMemory as MemoryOf}
use Rattle.repo_stanza.specs.Causes.{CreateCause as StanzaCause}
use Rattle.repo_stanza.specs.ControlFile.{first_cluster}
use Rattle.repo_stanza.specs.Pairs.{LacksStanza, HasStanzaOf, PairsAgree}
use Rattle.repo_stanza.specs.Unused.{IsUnused}
use Rattle.archive_store.specs.Still.{IsStill}
use Rattle.cmd_types.specs.declared.stages.object.Object.TheVariants.{Repo as TheRepo}
use Rattle.cmd_types.specs.declared.stages.halt.Halt.{Halt}
use Rattle.cmd_types.specs.declared.stages.halt.Halt.TheVariants.{Refused, Failed, NoMemory}
use Rattle.cmd_types.specs.declared.stages.outcome.Outcome.{Outcome}
use Rattle.cmd_types.specs.declared.stages.plan.SyncScope.TheVariants.{Whole}
use Rattle.cmd_types.specs.Halts.{HaltCause, Only}
use Rattle.cmd_types.specs.Reached.{OnFinished, reached_by}
use Rattle.cmd_types.specs.Risen.{none, rose_in}
use Rattle.cmd_types.specs.DisksEffect.{OnNone, RepoEffect}
use Rattle.cmd_stanza_create.specs.declared.server.Server as code
use Rattle.cmd_stanza_create.specs.declared.fault.CreateFault.{CreateFault}
use Rattle.cmd_stanza_create.specs.declared.fault.CreateFault.TheVariants.{Server as Talked, InfoDamaged, HistoryDiffers, StanzaMismatch, ArchiveLost, FilesFound}
use Rattle.cmd_stanza_create.specs.Server.{Server, server_view}
use Rattle.cmd_stanza_create.specs.Talking.{Ended, AskCause}

-- ---- at its end

-- there was nothing of a stanza, or one of this cluster, and now its pairs agree; those of a new one have its texts
pub record IsCreated (stanza : Text) (known : Control) (old new : Option Content) (outcome : Outcome) : Type 0 where
  pub silent : OnFinished outcome (λ lines. lines ≡ [])
  pub was : IfSome old (IsUnused stanza) ⊎ IfSome old (HasStanzaOf stanza known)
  pub members : IfSome old (LacksStanza stanza) → IsSome old → IfSome new (HasNewPairs stanza (first_cluster known))
  pub agrees : IsSome old → IfSome new (PairsAgree stanza)

-- ---- where it is refused

-- each refusal comes before the command's first step
abbrev pub create_early : CreateFault → Bool
create_early fault = true

-- Why a fault of the stanza ends the command; a label may also find no memory for its text.
pub data IsStanzaFault : StanzaFault → Halt CreateFault → Type 0 where
  Damaged : (name : String Global) (main copy : MemberFault) →
      IsStanzaFault (DamagedOf name main copy) (Refused (InfoDamaged name main copy))
  Differs : (at : ℕ) → IsStanzaFault (DiffersOf at) (Refused (HistoryDiffers at))
  Mismatch : (kept found : Identity) → IsStanzaFault (MismatchOf kept found) (Refused (StanzaMismatch kept found))
  Lost : (label : Label) (text : String Global) → string_bytes text ≡ label_text label →
      IsStanzaFault (LostOf label) (Refused (ArchiveLost text))
  Found : (name : String Global) → IsStanzaFault (FoundOf name) (Refused (FilesFound name))
  Unsaid : (label : Label) → IsStanzaFault (LostOf label) NoMemory
  Broken : IsStanzaFault DiskOf (Failed TheRepo)
  Starved : IsStanzaFault MemoryOf NoMemory

-- how a talk with the server that was refused ends the command
abbrev pub of_server : Halt ServerFault → Halt CreateFault
of_server (Refused fault) = Refused (Talked fault)
of_server (Failed object) = Failed object
of_server NoMemory = NoMemory

-- why the stanza of this cluster isn't made or kept, from what the repository held
abbrev pub MakeCause : Text → Control → Option Content → CreateFault → Type 0
MakeCause stanza known repo (Talked fault) = ⊥
MakeCause stanza known repo (InfoDamaged name main copy) = StanzaCause stanza known repo ⊥ (DamagedOf name main copy)
MakeCause stanza known repo (HistoryDiffers at) = StanzaCause stanza known repo ⊥ (DiffersOf at)
MakeCause stanza known repo (StanzaMismatch kept found) = StanzaCause stanza known repo ⊥ (MismatchOf kept found)
MakeCause stanza known repo (ArchiveLost text) =
    (label : Label) × (string_bytes text ≡ label_text label) × StanzaCause stanza known repo ⊥ (LostOf label)
MakeCause stanza known repo (FilesFound name) = StanzaCause stanza known repo ⊥ (FoundOf name)

-- why stanza-create is refused: for what the server that is asked states, or for what the repository held
abbrev pub CreateCause : Text → Control → Option Server → Option Content → Option (List ℕ) → CreateFault → Type 0
CreateCause stanza known server repo pending (Talked fault) = AskCause server known.system pending fault
CreateCause stanza known server repo pending other = MakeCause stanza known repo other

-- a talk that the server's answer ended was ended with the last message too, unless the connection failed
abbrev pub CreateCloses : Type 0 → Option (List ℕ) → Halt CreateFault → Type 0
CreateCloses rose new (Refused (Talked fault)) = Ended new ⊎ rose
CreateCloses rose new other = Unit {0}

-- ---- what a call does to a disk

-- the repository goes through the command's step, or a part of it
abbrev pub CreatesStanza : Text → Control → DiskState → DiskState → Result Outcome (Halt CreateFault) → Type 0
CreatesStanza stanza known old new result = RepoEffect Whole stanza (StanzaCreate (Some (first_cluster known)))
    (reached_by create_early result) old.view new.view

-- there is one
abbrev pub HasCreated : Text → Control → DiskState → DiskState → Outcome → Type 0
HasCreated stanza known old new outcome = IsCreated stanza known old.view.now new.view.now outcome

-- where it is refused, the disk stays as it was
abbrev pub StaysIfRefused : DiskState → DiskState → Result Outcome (Halt CreateFault) → Type 0
StaysIfRefused old new result = OnNone (reached_by create_early result) (IsStill old.view new.view)

-- why the stanza isn't made or kept
abbrev pub StanzaFails : Text → Control → DiskState → DiskState → Halt CreateFault → Type 0
StanzaFails stanza known old new = HaltCause (MakeCause stanza known old.view.now) (Only TheRepo (DiskFailed old new))

-- where the server's answer ended the talk, it was ended with the last message, or the connection failed
abbrev pub ClosesTalk : ConnectionState → ConnectionState → Halt CreateFault → Type 0
ClosesTalk old new halt = CreateCloses (ServerFailed old new) new.sent halt

-- why the command ends without its result
abbrev pub CreateFails : Text → Control → Option code.Server → DiskState → DiskState → ConnectionState → ConnectionState
    → Halt CreateFault → Type 0
CreateFails stanza known asked repo new_repo connection new_connection = HaltCause
    (CreateCause stanza known (option_map server_view asked) repo.view.now connection.pending)
    (rose_in (record none {
      repo = DiskFailed repo new_repo;
      server = ServerFailed connection new_connection;
    }))
