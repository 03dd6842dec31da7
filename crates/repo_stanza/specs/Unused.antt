-- What a repository without info files may still hold of a stanza.
use Rattle.std.specs.Prelude.{◌≡◌, ◌⊎◌, true, List, [], ◌∷◌, ◌++◌, None, IsSome, IsTrue, string_bytes}
use Rattle.base_devices.specs.declared.disk.Found.{Found}
use Rattle.base_devices.specs.Content.{Content, is_below}
use Rattle.base_devices.specs.Order.{is_before}
use Rattle.base_model.specs.declared.labels.Label.{Label}
use Rattle.base_model.specs.Text.{Text, In}
use Rattle.base_model.specs.Names.{archive_folder, backup_folder, label_folder}
use Rattle.base_model.specs.InfoFiles.{IsLabel}
use Rattle.base_model.specs.Represents.{IsArchiveFile, IsVacant}
use Rattle.repo_stanza.specs.Pairs.{LacksStanza}

-- the name lies in the folder of a label
pub record IsInLabel (stanza : Text) (name : Text) : Type 0 where
  pub label : Label
  pub is_label : IsLabel label
  pub below : IsTrue (is_below (label_folder stanza label) name)

-- f has nothing at these names
abbrev pub HasNone : (Text → Type 0) → Content → Type 0
HasNone These f = (name : Text) → These name → f name ≡ None

-- f has no stanza, and nothing in the folder of a label
pub record IsUnused (stanza : Text) (f : Content) : Type 0 where
  pub vacant : IsVacant stanza f
  pub no_backup : HasNone (IsInLabel stanza) f

-- f has this one of these names, as the first in byte order
pub record IsFirst (These : Text → Type 0) (f : Content) (name : Text) : Type 0 where
  pub is : These name
  pub there : IsSome (f name)
  pub first : (other : Text) → These other → IsSome (f other) → (other ≡ name) ⊎ (is_before name other ≡ true)

-- f has no stanza, and has this name: the first archive file, or else the first name in the folder of a label
pub record HasFiles (stanza : Text) (f : Content) (name : Text) : Type 0 where
  pub lacks : LacksStanza stanza f
  pub first : IsFirst (IsArchiveFile stanza) f name
      ⊎ (HasNone (IsArchiveFile stanza) f × IsFirst (IsInLabel stanza) f name)

-- ---- what was found

-- none of these was found
abbrev pub FindsNone : (Text → Type 0) → List Found → Type 0
FindsNone These found = (x : Found) → In x found → ¬ These (string_bytes x.name)

-- x is the first of these that was found
pub record FindsFirst (These : Text → Type 0) (found : List Found) (x : Found) : Type 0 where
  pub earlier : List Found
  pub later : List Found
  pub parts : found ≡ earlier ++ x ∷ later
  pub passed : FindsNone These earlier
  pub is : These (string_bytes x.name)

-- this holds of the stanza whose folder of the archive, or of the backups, is this prefix without its slash
abbrev pub ForArchiveOf : Text → (Text → Type 0) → Type 0
ForArchiveOf prefix Holds = (stanza : Text) → prefix ≡ archive_folder stanza ++ 47 ∷ [] → Holds stanza

abbrev pub ForBackupsOf : Text → (Text → Type 0) → Type 0
ForBackupsOf prefix Holds = (stanza : Text) → prefix ≡ backup_folder stanza ++ 47 ∷ [] → Holds stanza

-- of what was found this is the first archive file, or the first in the folder of a label
abbrev pub IsFirstArchived : Text → List Found → Found → Type 0
IsFirstArchived prefix found x = ForArchiveOf prefix (λ stanza. FindsFirst (IsArchiveFile stanza) found x)

abbrev pub IsFirstInLabel : Text → List Found → Found → Type 0
IsFirstInLabel prefix found x = ForBackupsOf prefix (λ stanza. FindsFirst (IsInLabel stanza) found x)
