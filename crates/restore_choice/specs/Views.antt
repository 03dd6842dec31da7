-- What the code's values represent.
use Rattle.std.specs.Prelude.{ℕ, List}
use Rattle.restore_target.specs.declared.history.Ancestor.{Ancestor}
use Rattle.restore_choice.specs.declared.ancestry.Ancestry as rust

-- a timeline, and those that it goes back to
pub record Ancestry : Type 0 where
  pub timeline : ℕ
  pub ancestors : List Ancestor

abbrev pub ancestry_of : rust.Ancestry → Ancestry
ancestry_of a = record { timeline = a.timeline; ancestors = a.ancestors.items }
