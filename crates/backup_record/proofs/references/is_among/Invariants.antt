use Rattle.std.proofs.Common.{◌≡◌, take}
use Rattle.base_model.specs.Text.{In}
use Rattle.backup_record.proofs.references.is_among.Given as goal

-- none so far is the label
abbrev pub invariant-loop-other : goal.invariant-loop-other
invariant-loop-other l = In l.label (take l.other-index l.labels) → ⊥
