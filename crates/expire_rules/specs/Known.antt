-- What the program holds of backups, and of what is kept.
use Rattle.std.specs.Prelude.{◌≡◌, ℕ, Bool, List, map, filter}
use Rattle.base_model.specs.declared.labels.BackupKind.TheVariants.{Diff}
use Rattle.base_model.specs.declared.labels.Label.{Label}
use Rattle.base_model.specs.Values.{Entry}
use Rattle.expire_rules.specs.declared.rules.KeptFiles.{KeptFiles}
use Rattle.expire_rules.specs.declared.rules.Rules.{Rules}
use Rattle.expire_rules.specs.declared.counting_rules.Mark.{Mark}
use Rattle.expire_rules.specs.Labels.{is_kind}
use Rattle.expire_rules.specs.Condemned.{is_counted, without_labels}
use Rattle.expire_rules.specs.Needed.{Keeping, keeping, of_cluster}

-- what a cluster's rule of the code represents
abbrev pub keeping_known : KeptFiles → Keeping
keeping_known k = record { all = k.all; from = k.from; spans = k.spans.items }

-- it is what the cluster's backups keep
abbrev pub IsKeeping : Rules → Bool → ℕ → List Entry → KeptFiles → Type 0
IsKeeping rules current number es kept = keeping_known kept ≡ keeping rules current (of_cluster number es)

-- a backup's label and kind
abbrev pub mark_of : Entry → Mark
mark_of e = record { label = e.label; kind = e.kind }

-- the full and differential backups of other labels than these
abbrev pub counted_marks : List Label → List Entry → List Mark
counted_marks gone es = map mark_of (filter is_counted (without_labels gone es))

-- the labels of the differentials among them
abbrev pub diffs_marked : List Mark → List Label
diffs_marked marks = map (λ (m : Mark). m.label) (filter (λ (m : Mark). is_kind m.kind Diff) marks)
