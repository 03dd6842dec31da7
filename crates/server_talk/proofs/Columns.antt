-- Steps over the columns.
use Rattle.std.proofs.Common.{◌≡◌, ℕ, suc, List, Option, Result, Ok, sym, ap, subst, ◌∙◌}
use Rattle.server_talk.specs.declared.session.fault.ServerFault.{ServerFault}
use Rattle.server_talk.specs.Fault.{Fault, ◌>>=◌}
use Rattle.server_talk.specs.Cells.{Left, next_cell, cells_of}
use Rattle.server_talk.specs.Reads.{Fails}
use Rattle.server_talk.proofs.Reading.{fails_bind}

module _ (n k : ℕ) (l : Left) (whole : Result (List (Option (List ℕ))) Fault) (counts : suc n ≡ k) (same : cells_of k l ≡ whole) where
  at_next : cells_of (suc n) l ≡ whole
  at_next = subst (λ j. cells_of j l ≡ whole) (sym counts) same

  pub cell_read : (m : Left) → next_cell l ≡ Ok m → cells_of n m ≡ whole
  cell_read m h = sym (ap (λ r. r >>= λ x. cells_of n x) h) ∙ at_next

  pub cell_fails : (f : ServerFault) → Fails f (next_cell l) → Fails f whole
  cell_fails f h = subst (Fails f) at_next (fails_bind f (next_cell l) (λ x. cells_of n x) h)
