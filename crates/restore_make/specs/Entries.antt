-- Which files of a manifest are read by jobs, and the result of that. Own.
use Rattle.std.specs.Prelude.{ℕ, Bool, not, ◌≡◌, ◌≢◌, ◌&&◌, List, [], ◌∷◌, ◌++◌, length, Option, None, IfSome, if◌then◌else◌}
use Rattle.sha1.specs.Sha1.{sha1}
use Rattle.base_devices.specs.Content.{at}
use Rattle.base_devices.specs.Links.{LinkState}
use Rattle.base_devices.specs.DataFolder.{Nodes}
use Rattle.base_model.specs.declared.labels.Label.{Label}
use Rattle.restore_make.specs.Recovered.{Recovery}
use Rattle.base_model.specs.Text.{Text, In}
use Rattle.base_model.specs.Values.{FileEntry}
use Rattle.restore_steps.specs.declared.contents.files.Wanted.{Wanted}
use Rattle.restore_steps.specs.Files.{temporary_path}
use Rattle.restore_steps.specs.Clearing.{HasTimed}
use Rattle.restore_steps.specs.Sources.{source}
use Rattle.restore_make.specs.Options.{is_ordinary}
use Rattle.restore_make.specs.Written.{IsReadOf}

-- the entry is an ordinary one, and isn't marked as one that is kept
abbrev pub is_read : Recovery → FileEntry × Bool → Bool
is_read recovery p = is_ordinary recovery p.0 && not p.1

abbrev pub read_one : Recovery → FileEntry × Bool → List FileEntry
read_one recovery p = if is_read recovery p then p.0 ∷ [] else []

abbrev pub reads_of : Recovery → List (FileEntry × Bool) → List FileEntry
reads_of recovery [] = []
reads_of recovery (p ∷ ps) = read_one recovery p ++ reads_of recovery ps

-- what is requested of a file: its path, the number and the digest of its bytes, and its time
pub record Want : Type 0 where
  pub path : Text
  pub size : ℕ
  pub sum : Text
  pub time : ℕ

abbrev pub want_of : FileEntry → Want
want_of e = record { path = e.path; size = e.size; sum = e.sum; time = e.time }

abbrev pub want_in : Wanted → Want
want_in w = record { path = w.path.now; size = w.size; sum = w.sum.0; time = w.time }

-- the bytes are those that the entry states, by their number and digest
abbrev pub AreOf : FileEntry → Text → Type 0
AreOf e bytes = (length bytes ≡ e.size) × (sha1 bytes ≡ e.sum)

-- The tree has the entry's file, with its time and with bytes that a link read at its place, and nothing under its
-- temporary name.
pub record IsFilled (stanza : Text) (own : Label) (links : List LinkState) (e : FileEntry) (f : Nodes) : Type 0 where
  pub bytes : Text
  pub file : HasTimed e.path bytes e.time f
  pub are : AreOf e bytes
  pub read : IsReadOf links (source stanza own e) bytes
  pub alone : f (temporary_path e.path) ≡ None

-- the path is none of these files', nor the temporary name of one
abbrev pub IsBeside : List FileEntry → Text → Type 0
IsBeside es q = (e : FileEntry) → In e es → (q ≢ e.path) × (q ≢ temporary_path e.path)

-- these files were written, and nothing else but their temporary names has changed
pub record Fills (stanza : Text) (own : Label) (links : List LinkState) (es : List FileEntry)
    (old new : Option Nodes) : Type 0 where
  pub each : (e : FileEntry) → In e es → IfSome new (IsFilled stanza own links e)
  pub others : (q : Text) → IsBeside es q → at q new ≡ at q old
