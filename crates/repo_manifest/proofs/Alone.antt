-- A file and a folder of a manifest by themselves.
use Rattle.base_model.specs.Text.{Text}
use Rattle.base_model.specs.ManifestText.{IsFileEntry, IsFolder, HasItsFolders}
use Rattle.base_model.specs.Values.{FileEntry}
use Rattle.std.proofs.Common.{List}
use Rattle.repo_manifest.specs.Alone.{IsFile, IsDirectory}

pub file_alone : (folders : List Text) (e : FileEntry) → IsFileEntry folders e → IsFile e
file_alone folders e h = record { path = h.path; lasting = h.lasting; signal = h.signal; size = h.size; time = h.time; sum = h.sum; empty = h.empty; reference = h.reference; bundle = h.bundle }

pub file_placed : (folders : List Text) (e : FileEntry) → IsFile e → HasItsFolders folders e.path → IsFileEntry folders e
file_placed folders e h placed = record { path = h.path; lasting = h.lasting; placed = placed; signal = h.signal; size = h.size; time = h.time; sum = h.sum; empty = h.empty; reference = h.reference; bundle = h.bundle }

pub folder_alone : (folders : List Text) (p : Text) → IsFolder folders p → IsDirectory p
folder_alone folders p h = record { is_path = h.is_path; lasting = h.lasting; signal = h.signal }

pub folder_placed : (folders : List Text) (p : Text) → IsDirectory p → HasItsFolders folders p → IsFolder folders p
folder_placed folders p h placed = record { is_path = h.is_path; lasting = h.lasting; placed = placed; signal = h.signal }
