-- The text of a label has no slash.
use Rattle.std.proofs.Common.{◌≡◌, ◌≢◌, ℕ, ◌+◌, ◌∷◌, [], Option, Some, None, arith}
use Rattle.base_model.specs.declared.labels.Label.{Label}
use Rattle.base_model.specs.declared.labels.Later.{Later}
use Rattle.base_model.specs.declared.labels.BackupKind.{BackupKind}
use Rattle.base_model.specs.declared.labels.BackupKind.TheVariants.{Full, Diff, Incr}
use Rattle.base_model.specs.Dates.{stamp}
use Rattle.base_model.specs.Names.{label_text, later_text, letter}
use Rattle.archive_lookup.specs.Paths.{Lacks}
use Rattle.archive_lookup.proofs.Cuts.{lacks_append}

digit : (n : ℕ) → 48 + n ≢ 47
digit n e = omega (arith, e)

stamp_lacks : (t : ℕ) → Lacks 47 (stamp t)
unfolding stamp
stamp_lacks t = (digit _, (digit _, (digit _, (digit _, (digit _, (digit _, (digit _, (digit _, (λ (e : 45 ≡ 47). omega (arith, e), (digit _, (digit _, (digit _, (digit _, (digit _, (digit _, tt)))))))))))))))

letter_apart : (k : BackupKind) → letter k ≢ 47
letter_apart Full e = omega (arith, e)
letter_apart Diff e = omega (arith, e)
letter_apart Incr e = omega (arith, e)

later_lacks : (o : Option Later) → Lacks 47 (later_text o)
later_lacks None = tt
later_lacks (Some l) = (λ (e : 95 ≡ 47). omega (arith, e), lacks_append 47 (stamp l.time) (letter l.kind ∷ []) (stamp_lacks l.time) (letter_apart l.kind, tt))

pub label_lacks : (l : Label) → Lacks 47 (label_text l)
label_lacks l = lacks_append 47 (stamp l.full) (70 ∷ later_text l.later) (stamp_lacks l.full) (λ (e : 70 ≡ 47). omega (arith, e), later_lacks l.later)
