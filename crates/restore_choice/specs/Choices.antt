-- What can be asked for.
use Rattle.std.proofs.Props.{props}
use Rattle.base_model.specs.InfoFiles.{IsLabel}
use Rattle.restore_choice.specs.declared.choice.Choice.{Choice}
use Rattle.restore_choice.specs.declared.choice.Choice.TheVariants.{Labelled, Last}

-- a label that is asked for keeps the rules of labels
abbrev pub IsChoice : Choice → Type 0
IsChoice (Labelled l) = IsLabel l
IsChoice (Last bounds) = Unit {0}

-- and this can be known in one way alone
pub IsChoice-prop : (choice : Choice) → IsProp (IsChoice choice)
IsChoice-prop (Labelled l) = hlevel props
IsChoice-prop (Last bounds) = hlevel props
