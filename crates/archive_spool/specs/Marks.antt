-- The marks of the spool: receipts of files that were stored, and refusals.
use Rattle.std.specs.Prelude.{◌≡◌, ◌≢◌, ◌⊎◌, ◌++◌, ◌∷◌, ℕ, [], List, Some, None, codes, decimal, string_bytes}
use Rattle.sha1.specs.Sha1.{sha1}
use Rattle.base_text.specs.Sum.{sum_text}
use Rattle.base_devices.specs.Content.{Name, Value}
use Rattle.base_devices.specs.Crash.{NowChanges, FirstOf, AllOf}
use Rattle.base_devices.specs.Moments.{View, GrowsBy}
use Rattle.base_devices.specs.States.{DiskState, Works}
use Rattle.base_disk.specs.Store.{ChangesOnly}
use Rattle.base_disk.proofs.Images.{Added, Unsynced}
use Rattle.base_model.specs.declared.wal.ArchiveName.{ArchiveName}
use Rattle.base_model.specs.Text.{Text, ◌⫽◌, In}
use Rattle.base_model.specs.Names.{archive_folder, receipt_name}
use Rattle.base_model.specs.Represents.{IsWalName}
use Rattle.base_model.specs.Steps.{Named}
use Rattle.archive_lookup.specs.Turns.{refusal_name}
use Rattle.archive_spool.specs.declared.mark_place.Mark.{Mark}

-- a file of this name with these bytes
abbrev pub named : ArchiveName → Text → Named
named name bytes = record { name = name; bytes = bytes }

-- the text of a receipt: the digits of the sum, and a newline
abbrev pub receipt_text : Text → Text
receipt_text sum = sum_text sum ++ 10 ∷ []

-- the text of a refusal: its status and a newline, and its line
abbrev pub refusal_text : ℕ → Text → Text
refusal_text code line = decimal code ++ 10 ∷ line

-- a name for a mark that is still to be published
abbrev pub mark_temporary : Text → Text
mark_temporary stanza = archive_folder stanza ⫽ codes "out" ⫽ codes ".pgbackrest.tmp"

-- the mark has this name and this text
pub record IsMarkAs (stanza name text : Text) (mark : Mark) : Type 0 where
  pub temporary : string_bytes mark.temporary ≡ mark_temporary stanza
  pub name_is : string_bytes mark.name ≡ name
  pub text_is : string_bytes mark.text ≡ text

-- what is added at the name of a receipt is nothing, or the receipt of one of these files
abbrev pub AddsMarks : Text → List Named → Name → Value → Type 0
AddsMarks stanza files n v = (name : ArchiveName) → IsWalName name → n ≡ receipt_name stanza name
    → (v ≡ None) ⊎ ((m : Named) × In m files × (m.name ≡ name) × (v ≡ Some (receipt_text (sha1 m.bytes))))

-- the name isn't that of a receipt
abbrev pub IsNoReceipt : Text → Name → Type 0
IsNoReceipt stanza n = (name : ArchiveName) → IsWalName name → n ≢ receipt_name stanza name

-- At each moment what a crash leaves at the name of a receipt is what it might have left before, nothing, or the
-- receipt of one of these files. No receipt becomes unsynced.
abbrev pub GivesMarks : Text → List Named → View → View → Type 0
GivesMarks stanza files old new = GrowsBy (AddsMarks stanza files) (IsNoReceipt stanza) old new

-- ---- a mark that is put

-- the name has what it had, or the text
abbrev pub MayPutAt : Name → Text → DiskState → DiskState → Type 0
MayPutAt name text old new = NowChanges (FirstOf ((name, text) ∷ [])) old.view.now new.view.now

-- the name has the text
abbrev pub PutsAt : Name → Text → DiskState → DiskState → Type 0
PutsAt name text old new = NowChanges (AllOf ((name, text) ∷ [])) old.view.now new.view.now

-- no name but these two changes
abbrev pub ChangesTwo : Name → Name → DiskState → DiskState → Type 0
ChangesTwo temporary name old new = ChangesOnly (λ n. (n ≡ temporary) ⊎ (n ≡ name)) old.view new.view

-- a crash may leave the mark's text at its name, and anything at its temporary one
abbrev pub AddsMark : Mark → DiskState → DiskState → Type 0
AddsMark mark old new = Works
    (Added (string_bytes mark.temporary) (string_bytes mark.name) (string_bytes mark.text))
    (Unsynced (string_bytes mark.temporary) (string_bytes mark.name) (string_bytes mark.text)) old new

-- the mark is put or not
abbrev pub MayPlace : Mark → DiskState → DiskState → Type 0
MayPlace mark old new = MayPutAt (string_bytes mark.name) (string_bytes mark.text) old new

-- the mark is put
abbrev pub Places : Mark → DiskState → DiskState → Type 0
Places mark old new = PutsAt (string_bytes mark.name) (string_bytes mark.text) old new

-- no name but the mark's two changes
abbrev pub ChangesPlace : Mark → DiskState → DiskState → Type 0
ChangesPlace mark old new = ChangesTwo (string_bytes mark.temporary) (string_bytes mark.name) old new

-- no name but this one and that of marks still to be published changes
abbrev pub ChangesMark : Text → Name → DiskState → DiskState → Type 0
ChangesMark stanza name old new = ChangesTwo (mark_temporary stanza) name old new

-- the receipt of the file with this sum is put or not
abbrev pub MayConfirm : Text → ArchiveName → Text → DiskState → DiskState → Type 0
MayConfirm stanza name sum old new = MayPutAt (receipt_name stanza name) (receipt_text sum) old new

-- it is put
abbrev pub Confirms : Text → ArchiveName → Text → DiskState → DiskState → Type 0
Confirms stanza name sum old new = PutsAt (receipt_name stanza name) (receipt_text sum) old new

-- at each moment the receipt of the file with this sum is the only one that is new
abbrev pub GivesOneReceipt : Text → ArchiveName → Text → DiskState → DiskState → Type 0
GivesOneReceipt stanza name sum old new = (bytes : Text) → sum ≡ sha1 bytes → IsWalName name
    → GivesMarks stanza (named name bytes ∷ []) old.view new.view

-- the refusal of the file, with its status and line, is put or not
abbrev pub MayReport : Text → ArchiveName → ℕ → Text → DiskState → DiskState → Type 0
MayReport stanza name code line old new = MayPutAt (refusal_name stanza name) (refusal_text code line) old new

-- it is put
abbrev pub Reports : Text → ArchiveName → ℕ → Text → DiskState → DiskState → Type 0
Reports stanza name code line old new = PutsAt (refusal_name stanza name) (refusal_text code line) old new
