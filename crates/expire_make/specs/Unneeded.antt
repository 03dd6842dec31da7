-- Files of the archive that aren't kept under their ids.
use Rattle.std.specs.Prelude.{◌≡◌, ℕ, false, List, [], ◌∷◌, ◌++◌, map, Some, IsSome, IsTrue, String, string_bytes}
use Rattle.std.specs.declared.alloc.Global.{Global}
use Rattle.base_text.specs.Sum.{sum_text}
use Rattle.base_devices.specs.declared.disk.Found.{Found}
use Rattle.base_devices.specs.Content.{Name, Content, IsListing, IsThere, is_below}
use Rattle.base_devices.specs.States.{DiskState}
use Rattle.base_disk.specs.Dropped.{IsAbsent}
use Rattle.base_model.specs.declared.clusters.ClusterId.{ClusterId}
use Rattle.base_model.specs.declared.labels.Entry as rust_entry
use Rattle.base_model.specs.declared.wal.ArchiveId.{ArchiveId}
use Rattle.base_model.specs.declared.wal.ArchiveName.{ArchiveName}
use Rattle.base_model.specs.Text.{Text, In, ◌⫽◌}
use Rattle.base_model.specs.Values.{entry_of}
use Rattle.base_model.specs.Names.{archive_folder, archive_name}
use Rattle.base_model.specs.Represents.{IsArchivePlace}
use Rattle.expire_rules.specs.declared.rules.KeptFiles.{KeptFiles}
use Rattle.expire_rules.specs.declared.rules.Rules.{Rules}
use Rattle.expire_rules.specs.Needed.{keeps_file}
use Rattle.expire_rules.specs.Known.{keeping_known}
use Rattle.expire_make.specs.Losing.{TakesAway, IsUnneeded}
use Rattle.expire_make.specs.Planning.{keeps_by}
use Rattle.expire_make.specs.Removed.{Counted, pair_of}

-- the stanza's folder of the archive, with a slash
abbrev pub prefix_of : Text → Text
prefix_of stanza = archive_folder stanza ++ 47 ∷ []

-- the name is that of a file under the id of what is kept, and the file isn't kept
pub record IsForgotten (stanza : Text) (kept : KeptFiles) (name : Text) : Type 0 where
  pub file : ArchiveName
  pub sum : Text
  pub fits : IsArchivePlace kept.id file sum
  pub is : name ≡ archive_name stanza kept.id file (sum_text sum)
  pub not_kept : keeps_file (keeping_known kept) file ≡ false

-- whichever stanza's folder the prefix is
abbrev pub Forgets : Text → KeptFiles → Text → Type 0
Forgets prefix kept name = (stanza : Text) → prefix ≡ prefix_of stanza → IsForgotten stanza kept name

-- the name isn't that of a file that isn't kept
abbrev pub NeverForgets : Text → KeptFiles → Text → Type 0
NeverForgets prefix kept name = (stanza : Text) → prefix ≡ prefix_of stanza → IsForgotten stanza kept name → ⊥

-- ---- of one cluster: what isn't kept is gone

-- of one name
abbrev pub IsGone : Text → KeptFiles → Name → DiskState → Type 0
IsGone prefix kept name new = (stanza : Text) → prefix ≡ prefix_of stanza → IsForgotten stanza kept name
    → IsAbsent new.view.now name

-- of these names
abbrev pub AreGone : Text → KeptFiles → List Name → DiskState → Type 0
AreGone prefix kept names new = (stanza : Text) → prefix ≡ prefix_of stanza → (n : Name) → In n names
    → IsForgotten stanza kept n → IsAbsent new.view.now n

-- of all names in a place
abbrev pub AreGoneBelow : Text → KeptFiles → Text → DiskState → Type 0
AreGoneBelow prefix kept place new = (stanza : Text) → prefix ≡ prefix_of stanza → (n : Name)
    → IsTrue (is_below place n) → IsForgotten stanza kept n → IsAbsent new.view.now n

-- of all names in these folders of a place
abbrev pub AreGoneWithin : Text → KeptFiles → Text → List (String Global) → DiskState → Type 0
AreGoneWithin prefix kept place folders new = (stanza : Text) → prefix ≡ prefix_of stanza → (n x : Name)
    → In x (map string_bytes folders) → IsTrue (is_below (place ⫽ x) n) → IsForgotten stanza kept n
    → IsAbsent new.view.now n

-- ---- of one cluster: how many are removed

-- k of the files that aren't kept were removed, where the disk is known
abbrev pub CountsIfKnown : Text → KeptFiles → DiskState → DiskState → ℕ → Type 0
CountsIfKnown prefix kept old new k = IsSome old.view.now → Counted (Forgets prefix kept) k old.view.now new.view.now

-- where the disk has a file of this name
abbrev pub CountsIfThere : Text → KeptFiles → Name → DiskState → DiskState → ℕ → Type 0
CountsIfThere prefix kept name old new k = IsThere old.view.now name
    → Counted (Forgets prefix kept) k old.view.now new.view.now

-- where what was found is what the disk has in a place
abbrev pub CountsIfListed : Text → KeptFiles → List Found → DiskState → DiskState → ℕ → Type 0
CountsIfListed prefix kept found old new k = (place : Name) (f : Content) → old.view.now ≡ Some f
    → IsListing place f (map pair_of found) → Counted (Forgets prefix kept) k old.view.now new.view.now

-- the folder of a cluster's files
abbrev pub id_in : ClusterId → ArchiveId
id_in c = record { version = c.version; number = c.id }

abbrev pub ids_in : List ClusterId → List ArchiveId
ids_in history = map id_in history

-- ---- of all clusters, with these backups listed

-- the name is that of a file that isn't kept, whichever stanza's folder the prefix is
abbrev pub IsUnneededUnder : Text → Rules → ℕ → List rust_entry.Entry → Name → Type 0
IsUnneededUnder prefix rules current entries n = (stanza : Text) → prefix ≡ prefix_of stanza
    → IsUnneeded stanza (keeps_by rules current (map entry_of entries)) n

-- a call that removes files of the stanza that aren't kept, and does nothing else
abbrev pub TakesFrom : Text → Rules → ℕ → List rust_entry.Entry → DiskState → DiskState → Type 0
TakesFrom stanza rules current entries old new =
    TakesAway (IsUnneeded stanza (keeps_by rules current (map entry_of entries))) old new

abbrev pub TakesUnder : Text → Rules → ℕ → List rust_entry.Entry → DiskState → DiskState → Type 0
TakesUnder prefix rules current entries old new = TakesAway (IsUnneededUnder prefix rules current entries) old new

-- the disk has none of these clusters' files that aren't kept
abbrev pub GoneFrom : Text → Rules → ℕ → List rust_entry.Entry → List ClusterId → DiskState → Type 0
GoneFrom stanza rules current entries history new = (n : Name)
    → (u : IsUnneeded stanza (keeps_by rules current (map entry_of entries)) n) → In u.id (ids_in history)
    → IsAbsent new.view.now n

abbrev pub GoneUnder : Text → Rules → ℕ → List rust_entry.Entry → List ClusterId → DiskState → Type 0
GoneUnder prefix rules current entries history new = (stanza : Text) → prefix ≡ prefix_of stanza
    → GoneFrom stanza rules current entries history new

-- it has none of those of one id
abbrev pub GoneUnderId : Text → Rules → ℕ → List rust_entry.Entry → ArchiveId → DiskState → Type 0
GoneUnderId prefix rules current entries id new = (stanza : Text) → prefix ≡ prefix_of stanza → (n : Name)
    → (u : IsUnneeded stanza (keeps_by rules current (map entry_of entries)) n) → u.id ≡ id → IsAbsent new.view.now n

-- k files of the stanza that aren't kept were removed, where the disk is known
abbrev pub LostFrom : Text → Rules → ℕ → List rust_entry.Entry → DiskState → DiskState → ℕ → Type 0
LostFrom stanza rules current entries old new k = IsSome old.view.now
    → Counted (IsUnneeded stanza (keeps_by rules current (map entry_of entries))) k old.view.now new.view.now

abbrev pub LostUnder : Text → Rules → ℕ → List rust_entry.Entry → DiskState → DiskState → ℕ → Type 0
LostUnder prefix rules current entries old new k = IsSome old.view.now
    → Counted (IsUnneededUnder prefix rules current entries) k old.view.now new.view.now
