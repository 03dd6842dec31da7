-- Where the bytes of a manifest's files lie, as items and jobs for workers. Own.
use Rattle.std.specs.Prelude.{ℕ, List, [], ◌∷◌, codes, decimal}
use Rattle.base_model.specs.declared.labels.Label.{Label}
use Rattle.base_model.specs.Text.{Text, ◌⫽◌}
use Rattle.base_model.specs.Values.{FileEntry}
use Rattle.base_model.specs.ManifestText.{IsFileEntry}
use Rattle.base_model.specs.Place.{place}
use Rattle.worker_protocol.specs.declared.frames.frames.Root.TheVariants.{Repo}
use Rattle.worker_protocol.specs.declared.frames.frames.JobKind.TheVariants.{Read}
use Rattle.worker_protocol.specs.Frames.{Item, Job}

-- an entry that a manifest may have
abbrev pub IsEntry : FileEntry → Type 0
IsEntry e = (folders : List Text) × IsFileEntry folders e

-- the name of a file that is stored by itself, in the folder of a label with this text
abbrev pub file_name_by : Text → Text → Text → Text
file_name_by stanza label path = codes "backup" ⫽ stanza ⫽ label ⫽ codes "pg_data" ⫽ path

-- the name of a bundle in that folder
abbrev pub bundle_name_by : Text → Text → ℕ → Text
bundle_name_by stanza label number = codes "backup" ⫽ stanza ⫽ label ⫽ codes "bundle" ⫽ decimal number

-- the entry's bytes, at its place in a backup of this label
abbrev pub source : Text → Label → FileEntry → Item
source stanza own e = record { root = Repo; path = (place stanza own e).0; at = (place stanza own e).1; size = e.size }

-- the job that reads them
abbrev pub reading : Text → Label → FileEntry → Job
reading stanza own e = record { kind = Read; items = source stanza own e ∷ [] }
