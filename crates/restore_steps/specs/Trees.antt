-- What a call leaves of a data folder. Own.
use Rattle.std.specs.Prelude.{◌≡◌, List, Option}
use Rattle.base_devices.specs.Content.{at}
use Rattle.base_devices.specs.DataFolder.{Nodes, IsPlaced}
use Rattle.base_devices.specs.States.{DataFolderState}
use Rattle.base_model.specs.Text.{Text, In}

-- where this holds of the tree, no call is faulty
abbrev pub ProperWhere : (Option Nodes → Type 0) → DataFolderState → DataFolderState → Type 0
ProperWhere P old new = P old.nodes → new.faulty_calls ≡ old.faulty_calls

-- where the folder that holds the path is there, no call is faulty
abbrev pub ProperAt : Text → DataFolderState → DataFolderState → Type 0
ProperAt path old new = IsPlaced old.nodes path → new.faulty_calls ≡ old.faulty_calls

-- each path of which this holds has the node that it had
abbrev pub SameWhere : (Text → Type 0) → DataFolderState → DataFolderState → Type 0
SameWhere P old new = (q : Text) → P q → at q new.nodes ≡ at q old.nodes

-- no other path than these has changed
abbrev pub ChangesAmong : List Text → DataFolderState → DataFolderState → Type 0
ChangesAmong paths old new = (q : Text) → ¬ In q paths → at q new.nodes ≡ at q old.nodes
