use Rattle.std.proofs.Common.{◌≡◌, ℕ, ◌<◌, map}
use Rattle.std.specs.Prelude.{slice_get}
use Rattle.base_model.specs.Repository.{identity_of}
use Rattle.repo_stanza.proofs.pair_rules.first_difference.Given as goal

-- the histories agree so far
abbrev pub invariant-loop-place : goal.invariant-loop-place
invariant-loop-place l = (n : ℕ) → n < l.place → slice_get l.archive n ≡ slice_get (map identity_of l.backup) n
