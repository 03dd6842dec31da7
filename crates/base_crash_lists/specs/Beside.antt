-- A call that keeps to its stanza.
use Rattle.std.specs.Prelude.{◌≡◌, ◌≢◌, true, false, List, Contains, IsSome}
use Rattle.base_devices.specs.Content.{Name, at}
use Rattle.base_devices.specs.Moments.{View, GrowsBy}
use Rattle.base_model.specs.Text.{Text}
use Rattle.base_model.specs.Names.{is_of_stanza}
use Rattle.base_model.specs.Repository.{Repository}
use Rattle.base_model.specs.Log.{Done, RepresentsAfter, KeepsRepository}
use Rattle.base_model.specs.Steady.{LeavesOnly}

-- a stanza's name has no slash
abbrev pub IsStanza : Text → Type 0
IsStanza stanza = ¬ Contains stanza 47

-- Besides the stanza's folders the disk holds the same, and a crash leaves no more than before.
pub record StaysBeside (stanza : Text) (old new : View) : Type 0 where
  pub now : (n : Name) → is_of_stanza stanza n ≡ false → at n new.now ≡ at n old.now
  pub time : GrowsBy (λ n _. is_of_stanza stanza n ≡ true) (λ n. is_of_stanza stanza n ≡ true) old new

-- Of every other stanza the disk keeps the log that it kept, and at each moment all that a crash leaves represents it.
pub record KeepsOthers (stanza : Text) (old new : View) : Type 0 where
  pub keeps : (other : Text) → IsStanza other → other ≢ stanza → (q : Repository) (log : List Done) → IsSome old.now
      → KeepsRepository other q log old → KeepsRepository other q log new
  pub between : (other : Text) → IsStanza other → other ≢ stanza → (q : Repository) (log : List Done) → IsSome old.now
      → KeepsRepository other q log old → LeavesOnly (RepresentsAfter other q log) old new
