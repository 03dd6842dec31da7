-- The choice, over the repository's states.
use Rattle.std.specs.Prelude.{◌≡◌, true, List, map, Option, Some, None, option_map, IfSome}
use Rattle.base_devices.specs.Content.{Content}
use Rattle.base_devices.specs.States.{DiskState, DiskFailed}
use Rattle.base_model.specs.declared.labels.Entry as rust_entry
use Rattle.base_model.specs.declared.labels.Label.{Label}
use Rattle.base_model.specs.InfoFiles.{IsLabel}
use Rattle.base_model.specs.ManifestText.{IsManifest}
use Rattle.base_model.specs.Text.{Text, In}
use Rattle.base_model.specs.Values.{BackupInfo, Entry, entry_of, manifest_of}
use Rattle.cmd_types.specs.Halts.{HaltCause, Only}
use Rattle.cmd_types.specs.declared.stages.halt.Halt.{Halt}
use Rattle.cmd_types.specs.declared.stages.halt.Halt.TheVariants.{Refused, Failed, NoMemory}
use Rattle.cmd_types.specs.declared.stages.object.Object.TheVariants.{Repo}
use Rattle.restore_choice.specs.declared.backup_choice.Chosen.{Chosen}
use Rattle.restore_choice.specs.declared.choice.Bounds.{Bounds}
use Rattle.restore_choice.specs.declared.choice.Choice.{Choice}
use Rattle.restore_choice.specs.declared.choice.Deadline.{Deadline}
use Rattle.restore_choice.specs.declared.fault.ChoiceFault.{ChoiceFault}
use Rattle.restore_choice.specs.declared.fault.ChoiceFault.TheVariants.{ManifestDamaged, TargetEarly}
use Rattle.restore_choice.specs.declared.fault.DamagedManifest.{DamagedManifest}
use Rattle.restore_choice.specs.Ancestries.{HasAncestry, AncestryCause}
use Rattle.restore_choice.specs.Choosing.{EndedBefore, needs_log, LogFits, OfManifest, QualifiesOn, IsExcludedOn, IsReached, IsLastOn, IsChosen, ChooseCause}
use Rattle.restore_choice.specs.Loading.{HasManifest, LoadCause}
use Rattle.restore_choice.specs.declared.ancestry.Ancestry as rust_ancestry
use Rattle.restore_choice.specs.Views.{Ancestry, ancestry_of}

-- each of these backups has a label that keeps the rules of labels
abbrev pub HaveLabels : List rust_entry.Entry → Type 0
HaveLabels backups = (e : Entry) → In e (map entry_of backups) → IsLabel e.label

-- what was read with the choice is the manifest of the chosen label
abbrev pub ReadWith : Text → Option Content → Chosen → Type 0
ReadWith stanza repo c = IfSome c.manifest
    (λ m. IsManifest (manifest_of m) × IfSome repo (HasManifest stanza c.label (manifest_of m)))

-- which refusal of the choice it is that a manifest isn't read
abbrev pub of_load : Halt DamagedManifest → Halt ChoiceFault
of_load (Refused fault) = Refused (ManifestDamaged fault)
of_load (Failed object) = Failed object
of_load NoMemory = NoMemory

-- ---- one backup

-- its manifest says that it qualifies, or that it doesn't
abbrev pub JudgedByLog : Text → DiskState → Option Deadline → Option Ancestry → Label → Option Chosen → Type 0
JudgedByLog stanza disk deadline line label (Some c) = (c.label ≡ label) × ReadWith stanza disk.view.now c
    × IfSome disk.view.now (λ f. OfManifest stanza f label (LogFits deadline line))
JudgedByLog stanza disk deadline line label None =
    IfSome disk.view.now (λ f. OfManifest stanza f label (λ log. ¬ LogFits deadline line log))

abbrev pub JudgesLog : Text → DiskState → Option Deadline → Option rust_ancestry.Ancestry → Label → Option Chosen → Type 0
JudgesLog stanza disk deadline line = JudgedByLog stanza disk deadline (option_map ancestry_of line)

-- its manifest isn't read
abbrev pub LogCause : Text → Label → Option Content → ChoiceFault → Type 0
LogCause stanza label repo (ManifestDamaged fault) = LoadCause stanza label repo fault
LogCause stanza label repo other = ⊥

abbrev pub LogHalts : Text → Label → DiskState → DiskState → Halt ChoiceFault → Type 0
LogHalts stanza label old new halt =
    HaltCause (LogCause stanza label old.view.now) (Only Repo (DiskFailed old new)) halt

-- it is chosen, since it qualifies; or it isn't, since a recovery can't begin with it
abbrev pub JudgedAs : Text → Option Content → Option Deadline → Option Ancestry → Entry → Option Chosen → Type 0
JudgedAs stanza repo deadline line e (Some c) = (c.label ≡ e.label) × ReadWith stanza repo c
    × IfSome repo (λ f. QualifiesOn stanza f deadline line e)
JudgedAs stanza repo deadline line e None = IfSome repo (λ f. IsExcludedOn stanza f deadline line e)

abbrev pub Judges : Text → DiskState → Option Deadline → Option rust_ancestry.Ancestry → rust_entry.Entry → Option Chosen
    → Type 0
Judges stanza disk deadline line e = JudgedAs stanza disk.view.now deadline (option_map ancestry_of line) (entry_of e)

-- its manifest is needed, and isn't read
abbrev pub UnreadCause : Text → Option Content → Option Deadline → Option Ancestry → Entry → ChoiceFault → Type 0
UnreadCause stanza repo deadline line e (ManifestDamaged fault) = EndedBefore deadline e.stop
    × (needs_log deadline line ≡ true) × LoadCause stanza e.label repo fault
UnreadCause stanza repo deadline line e other = ⊥

abbrev pub JudgeHalts : Text → Option Deadline → Option Ancestry → Entry → DiskState → DiskState → Halt ChoiceFault
    → Type 0
JudgeHalts stanza deadline line e old new halt =
    HaltCause (UnreadCause stanza old.view.now deadline line e) (Only Repo (DiskFailed old new)) halt

-- ---- a list of them

-- the last one that qualifies is chosen; or none does
abbrev pub SearchedAs : Text → Option Content → Option Deadline → Option Ancestry → List Entry → Option Chosen → Type 0
SearchedAs stanza repo deadline line entries (Some c) = IsLabel c.label × ReadWith stanza repo c
    × IfSome repo (λ f. (e : Entry) × IsLastOn stanza f deadline line entries e × (e.label ≡ c.label))
SearchedAs stanza repo deadline line entries None =
    IfSome repo (λ f. (e : Entry) → In e entries → IsExcludedOn stanza f deadline line e)

abbrev pub Searches : Text → DiskState → Option Deadline → Option rust_ancestry.Ancestry → List rust_entry.Entry
    → Option Chosen → Type 0
Searches stanza disk deadline line entries =
    SearchedAs stanza disk.view.now deadline (option_map ancestry_of line) (map entry_of entries)

-- the manifest of one that is reached isn't read
abbrev pub SearchCause : Text → Content → Option Deadline → Option Ancestry → List Entry → ChoiceFault → Type 0
SearchCause stanza f deadline line entries fault = (e : Entry) × IsReached stanza f deadline line entries e
    × UnreadCause stanza (Some f) deadline line e fault

abbrev pub SearchHalts : Text → Option Deadline → Option Ancestry → List Entry → DiskState → DiskState
    → Halt ChoiceFault → Type 0
SearchHalts stanza deadline line entries old new halt =
    HaltCause (λ fault. IfSome old.view.now (λ f. SearchCause stanza f deadline line entries fault))
    (Only Repo (DiskFailed old new)) halt

-- ---- the last one of a list that qualifies

-- it is chosen, with the manifest that was read
abbrev pub FindsLast : Text → Option Content → Bounds → List Entry → Chosen → Type 0
FindsLast stanza repo bounds entries c = IsLabel c.label × ReadWith stanza repo c
    × IfSome repo (λ f. (line : Option Ancestry) × HasAncestry stanza f bounds.timeline line
    × ((e : Entry) × IsLastOn stanza f bounds.deadline line entries e × (e.label ≡ c.label)))

abbrev pub Finds : Text → DiskState → Bounds → List rust_entry.Entry → Chosen → Type 0
Finds stanza disk bounds entries = FindsLast stanza disk.view.now bounds (map entry_of entries)

-- why none is found
abbrev pub FindCause : Text → Content → Bounds → List Entry → ChoiceFault → Type 0
FindCause stanza f bounds entries (ManifestDamaged fault) = (line : Option Ancestry)
    × HasAncestry stanza f bounds.timeline line
    × SearchCause stanza f bounds.deadline line entries (ManifestDamaged fault)
FindCause stanza f bounds entries TargetEarly = (line : Option Ancestry) × HasAncestry stanza f bounds.timeline line
    × ((e : Entry) → In e entries → IsExcludedOn stanza f bounds.deadline line e)
FindCause stanza f bounds entries other = AncestryCause stanza f bounds.timeline other

abbrev pub FindHalts : Text → Bounds → List rust_entry.Entry → DiskState → DiskState → Halt ChoiceFault → Type 0
FindHalts stanza bounds entries old new halt =
    HaltCause (λ fault. IfSome old.view.now (λ f. FindCause stanza f bounds (map entry_of entries) fault))
    (Only Repo (DiskFailed old new)) halt

-- ---- the choice

-- where the repository is known, this label of the list is chosen
abbrev pub ChoosesOn : Text → Choice → Option Content → BackupInfo → Chosen → Type 0
ChoosesOn stanza choice repo v c = IfSome repo (λ f. IsChosen stanza choice f v c.label)

abbrev pub ChoiceHalts : Text → Choice → BackupInfo → DiskState → DiskState → Halt ChoiceFault → Type 0
ChoiceHalts stanza choice v old new halt =
    HaltCause (λ fault. IfSome old.view.now (λ f. ChooseCause stanza choice f v fault))
    (Only Repo (DiskFailed old new)) halt
