-- Which of several backups looks at a file that they share: the one in whose folder it lies.
use Rattle.std.specs.Prelude.{◌≡◌, ◌↔◌, List, map, Some, None}
use Rattle.base_devices.specs.Content.{Content}
use Rattle.base_model.specs.declared.labels.Label.{Label}
use Rattle.base_model.specs.declared.files.FileEntry as rust_file_entry
use Rattle.base_model.specs.Text.{Text, In}
use Rattle.base_model.specs.Names.{manifest_name}
use Rattle.base_model.specs.Log.{Lists}
use Rattle.base_model.specs.ManifestText.{IsManifestText}
use Rattle.base_model.specs.Pair.{PairIs}
use Rattle.base_model.specs.Values.{FileEntry, Manifest, file_entry_of}
use Rattle.cmd_verify.specs.What.{What}
use Rattle.cmd_verify.specs.Adding.{OfSome}
use Rattle.cmd_verify.specs.Findings.{EntryDeviates}

-- these are exactly the labels of the stanza's listed backups
abbrev pub AreListed : Text → List Label → Content → Type 0
AreListed stanza labels f = (l : Label) → In l labels ↔ Lists stanza f l

-- the same file, as the referring backup and as the other have it
pub record IsOwn (r : Label) (e own : FileEntry) : Type 0 where
  pub refers : e.reference ≡ Some r
  pub none : own.reference ≡ None
  pub path : own.path ≡ e.path
  pub size : own.size ≡ e.size
  pub sum : own.sum ≡ e.sum
  pub bundle : own.bundle ≡ e.bundle

-- a file that lies in the backup's own folder deviates so
abbrev pub OwnEntryDeviates : Text → Content → Label → FileEntry → Text → What → Type 0
OwnEntryDeviates stanza f own e name what = (e.reference ≡ None) × EntryDeviates stanza f own e name what

-- one that lies in the folder of this label does
abbrev pub ReferredDeviates : Text → Content → Label → Label → FileEntry → Text → What → Type 0
ReferredDeviates stanza f own r e name what = (e.reference ≡ Some r) × EntryDeviates stanza f own e name what

-- one of the files does that lie in the folder of this label
abbrev pub SharedDeviates : Text → Content → Label → List FileEntry → Label → Text → What → Type 0
SharedDeviates stanza f own files r = OfSome (ReferredDeviates stanza f own r) files

-- one of the backup's own files does
abbrev pub OwnDeviates : Text → Content → Label → Text → What → Type 0
OwnDeviates stanza f own name what = (m : Manifest) × PairIs IsManifestText f (manifest_name stanza own) m
    × OfSome (OwnEntryDeviates stanza f own) m.files name what

-- a listed backup's own file does
abbrev pub IsElsewhere : Text → Content → Text → What → Type 0
IsElsewhere stanza f name what = (r : Label) × Lists stanza f r × OwnDeviates stanza f r name what

-- these are files of a listed backup of the label
abbrev pub AreFilesOf : Text → Content → Label → List FileEntry → Type 0
AreFilesOf stanza f r files = (e : FileEntry) → In e files → Lists stanza f r
    × ((m : Manifest) × PairIs IsManifestText f (manifest_name stanza r) m × In e m.files)

-- one of these is the file, as the backup of the label has it
abbrev pub HasAsOwn : Label → rust_file_entry.FileEntry → List rust_file_entry.FileEntry → Type 0
HasAsOwn r file others = (other : FileEntry) × In other (map file_entry_of others) × IsOwn r (file_entry_of file) other
