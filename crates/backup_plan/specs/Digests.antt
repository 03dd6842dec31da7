-- Which digests say whether a file is that of the prior backup (pgBackRest command reference, "Backup", option delta).
use Rattle.std.specs.Prelude.{◌==◌, ◌&&◌, not, ℕ, Bool, false, List, [], ◌∷◌, Option, Some, None, if◌then◌else◌, bytes_eq}
use Rattle.worker_protocol.specs.declared.frames.frames.JobKind.TheVariants.{Digest}
use Rattle.worker_protocol.specs.Frames.{Job}
use Rattle.base_model.specs.Values.{FileEntry}
use Rattle.backup_plan.specs.Listed.{Taken, entry_at, control_path}
use Rattle.backup_plan.specs.Layout.{item_for}

-- whether the prior backup has the file with this size
abbrev pub has_size : Option FileEntry → ℕ → Bool
has_size None size = false
has_size (Some e) size = e.size == size

-- the file has bytes, is not the control file, and has the size of the prior backup's
abbrev pub is_asked : Option FileEntry → Taken → Bool
is_asked old f = not (bytes_eq f.path control_path) && not (f.size == 0) && has_size old f.size

abbrev pub digest_job : Taken → Job
digest_job f = record { kind = Digest; items = item_for f ∷ [] }

-- a job for each file that is asked
abbrev pub digest_jobs : List FileEntry → List Taken → List Job
digest_jobs old [] = []
digest_jobs old (f ∷ fs) = if is_asked (entry_at f.path old) f then digest_job f
    ∷ digest_jobs old fs else digest_jobs old fs
