-- Marks that are of no use any more.
use Rattle.std.specs.Prelude.{◌≡◌, ◌≢◌, ◌⊎◌, ◌++◌, List, All, map, Option, Some, None, IsSome, option_map, codes, string_bytes}
use Rattle.base_devices.specs.Content.{Name, Content, at}
use Rattle.base_devices.specs.declared.disk.Found.{Found}
use Rattle.base_devices.specs.States.{DiskState, Works}
use Rattle.base_disk.specs.Dropped.{IsAbsent}
use Rattle.base_model.specs.declared.wal.ArchiveName.{ArchiveName}
use Rattle.base_model.specs.Names.{receipt_name, wal_text}
use Rattle.base_model.specs.Represents.{IsWalName}
use Rattle.base_model.specs.Text.{Text, In}
use Rattle.archive_lookup.specs.Turns.{refusal_name}

-- the name is that of a refusal
abbrev pub IsRefusal : Text → Name → Type 0
IsRefusal stanza n = (file : ArchiveName) × IsWalName file × (n ≡ refusal_name stanza file)

-- the name is that of a receipt
abbrev pub IsReceipt : Text → Name → Type 0
IsReceipt stanza n = (file : ArchiveName) × IsWalName file × (n ≡ receipt_name stanza file)

-- the name is that of a refusal, or of a receipt of none of these files
abbrev pub IsStale : Text → List ArchiveName → Name → Type 0
IsStale stanza ready n = IsRefusal stanza n ⊎ (IsReceipt stanza n × ¬ In n (map (receipt_name stanza) ready))

-- of these names each is as before or absent, and each other is as before
pub record Clears (these : Name → Type 0) (old new : Option Content) : Type 0 where
  pub known : IsSome old → IsSome new
  pub each : (f g : Content) → old ≡ Some f → new ≡ Some g → (n : Name) → (g n ≡ f n) ⊎ (these n × (g n ≡ None))

-- and all of them are absent
pub record IsCleared (these : Name → Type 0) (old new : Option Content) : Type 0 where
  pub clears : Clears these old new
  pub gone : (g : Content) → new ≡ Some g → (n : Name) → these n → g n ≡ None

-- each refusal is gone, and each receipt of none of these files, and nothing else
abbrev pub ClearsStale : Text → List ArchiveName → DiskState → DiskState → Type 0
ClearsStale stanza ready old new = IsCleared (IsStale stanza ready) old.view.now new.view.now

-- ---- by the folder of the marks, with its slash

-- the name is that of a file between these two texts
abbrev pub IsMarkAt : Text → Text → Name → Type 0
IsMarkAt prefix end n = (file : ArchiveName) × IsWalName file × (n ≡ prefix ++ (wal_text file ++ end))

-- no file's name is between the two texts
abbrev pub IsNotBetween : Text → Text → Text → Type 0
IsNotBetween prefix end text = (name : ArchiveName) → IsWalName name → text ≢ prefix ++ (wal_text name ++ end)

-- the name is that of a refusal, or of a receipt that isn't among these
abbrev pub IsStaleAt : Text → List Name → Name → Type 0
IsStaleAt prefix receipts n = IsMarkAt prefix (codes ".error") n ⊎ (IsMarkAt prefix (codes ".ok") n × ¬ In n receipts)

-- each of these names is as before or absent, and each other is as before
abbrev pub Lessens : (Name → Type 0) → Option Content → Option Content → Type 0
Lessens these old new = (q : Name) → (at q new ≡ at q old) ⊎ (these q × (at q new ≡ option_map (λ _. None) old))

-- only stale names change, and they are absent then
abbrev pub LessensStale : Text → List Name → DiskState → DiskState → Type 0
LessensStale prefix receipts old new = Lessens (IsStaleAt prefix receipts) old.view.now new.view.now

-- a crash then leaves no more than before, but that stale names may be absent
abbrev pub RemovesStale : Text → List Name → DiskState → DiskState → Type 0
RemovesStale prefix receipts old new = Works (λ n v. IsStaleAt prefix receipts n × (v ≡ None)) (λ _. ⊥) old new

-- the name is absent where it is stale
abbrev pub IsGoneIfStale : Text → List Name → Name → DiskState → Type 0
IsGoneIfStale prefix receipts name spool = IsStaleAt prefix receipts name → IsAbsent spool.view.now name

-- of these names each stale one is absent
abbrev pub StaleAreGone : Text → List Name → List Found → DiskState → Type 0
StaleAreGone prefix receipts found spool =
    All (λ x. IsGoneIfStale prefix receipts (string_bytes x.name) spool) found
