-- Which backup a further one is based on, and its label (pgBackRest user guide, "Backup"; command reference, "Backup",
-- option type).
use Rattle.std.specs.Prelude.{ℕ, max, Bool, true, false, ◌==◌, ◌&&◌, List, [], ◌∷◌, Option, Some, None, if◌then◌else◌, codes}
use Rattle.std.specs.Option.{option_or}
use Rattle.base_model.specs.declared.labels.BackupKind.{BackupKind}
use Rattle.base_model.specs.declared.labels.BackupKind.TheVariants.{Full, Diff, Incr}
use Rattle.base_model.specs.declared.labels.Label.{Label}
use Rattle.base_model.specs.Text.{Text}
use Rattle.base_model.specs.Values.{Entry}

-- the time of the latest full backup that the labels state
abbrev pub latest_full : List Entry → ℕ
latest_full [] = 0
latest_full (e ∷ es) = max e.label.full (latest_full es)

-- a differential backup is based on a full one, an incremental one on any
abbrev pub bases : BackupKind → BackupKind → Bool
bases Diff Full = true
bases Incr kind = true
bases other kind = false

-- A backup of the kind may be based on it: it is of this cluster, and belongs to the latest full backup, so that the
-- new label comes last.
abbrev pub may_base : BackupKind → ℕ → ℕ → Entry → Bool
may_base kind cluster full e = bases kind e.kind && (e.db == cluster) && (e.label.full == full)

-- the last value that passes the test
abbrev pub last_of : {X : Type 0} → (X → Bool) → List X → Option X
last_of test [] = None
last_of test (x ∷ xs) = option_or (last_of test xs) (if test x then Some x else None)

-- the backup that one of this kind is based on, among those of a list: the last that may be, of the cluster of this
-- number
abbrev pub prior_for : BackupKind → ℕ → List Entry → Option Entry
prior_for kind cluster es = last_of (may_base kind cluster (latest_full es)) es

-- the label of a backup of this second: without a prior it is a full one
abbrev pub made_label : BackupKind → Option Entry → ℕ → Label
made_label kind None second = record { full = second; later = None }
made_label kind (Some e) second = record { full = e.label.full; later = Some (record { time = second; kind = kind }) }

-- what is reported where a backup of another kind was asked for, and has no prior
abbrev pub kind_line : BackupKind → Option Entry → Text
kind_line Diff None = codes "WARN: no prior backup exists, diff backup has been changed to full\n"
kind_line Incr None = codes "WARN: no prior backup exists, incr backup has been changed to full\n"
kind_line kind prior = []
