-- The history of a timeline: the timelines that it goes back to (PostgreSQL manual, "Timelines").
use Rattle.std.specs.Prelude.{◌≡◌, ◌⊎◌, ◌≤◌, ◌<◌, ◌+◌, ◌==◌, ℕ, Bool, true, false, List, [], ◌∷◌, ◌++◌, length}
use Rattle.std.specs.Fmt.{decimal}
use Rattle.base_model.specs.Text.{Text}
use Rattle.repo_names.specs.Lsn.{IsLsn}
use Rattle.restore_target.specs.declared.history.Ancestor.{Ancestor}
use Rattle.restore_target.specs.declared.history.HistoryFault.{HistoryFault}
use Rattle.restore_target.specs.declared.history.HistoryFault.TheVariants.{Form, NoMemory}

-- an empty line, and a comment
abbrev pub is_passed : Text → Bool
is_passed [] = true
is_passed (c ∷ cs) = c == 35

-- the line states that this timeline was left at this position: both, each with a tab after it, and any text
pub record TellsEnd (line : Text) (timeline until : ℕ) : Type 0 where
  pub place : Text
  pub reason : Text
  pub is : line ≡ decimal timeline ++ 9 ∷ (place ++ 9 ∷ reason)
  pub is_place : IsLsn place until

-- the line states this ancestor of a timeline, which is none of those below `least`
pub record IsNext (own least : ℕ) (line : Text) (a : Ancestor) : Type 0 where
  pub later : least ≤ a.timeline
  pub below : a.timeline < own
  pub tells : TellsEnd line a.timeline a.until.0

-- these lines state these ancestors in this order, each later than the one before it, and none below `least`
abbrev pub AreAncestors : ℕ → ℕ → List Text → List Ancestor → Type 0
AreAncestors own least [] xs = xs ≡ []
AreAncestors own least (p ∷ ps) xs = ((is_passed p ≡ true) × AreAncestors own least ps xs)
    ⊎ ((is_passed p ≡ false) × ((a : Ancestor) × (rest : List Ancestor) × IsNext own least p a
    × (xs ≡ a ∷ rest) × AreAncestors own (a.timeline + 1) ps rest))

-- the line of this number, from 1 on, is the first wrong one: those before it state ancestors, with it none
pub record IsWrongAt (own least : ℕ) (lines : List Text) (number : ℕ) : Type 0 where
  pub before : List Text
  pub line : Text
  pub after : List Text
  pub is : lines ≡ before ++ line ∷ after
  pub counted : number ≡ length before + 1
  pub found : List Ancestor
  pub right : AreAncestors own least before found
  pub wrong : (xs : List Ancestor) → ¬ AreAncestors own least (before ++ line ∷ []) xs

-- why the lines state no ancestors
abbrev pub HistoryCause : ℕ → List Text → HistoryFault → Type 0
HistoryCause own lines (Form line) = IsWrongAt own 0 lines line
HistoryCause own lines NoMemory = Unit {0}
