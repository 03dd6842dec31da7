-- The second part of a label.
use Rattle.std.specs.Prelude.{◌≢◌, ◌≤◌, [], ◌∷◌, ◌++◌}
use Rattle.base_devices.specs.States.{last_second}
use Rattle.base_model.specs.declared.labels.BackupKind.TheVariants.{Full}
use Rattle.base_model.specs.declared.labels.Later.{Later}
use Rattle.base_model.specs.Text.{Text}
use Rattle.base_model.specs.Dates.{stamp}
use Rattle.base_model.specs.Names.{letter}

-- its second has digits, and it is that of a differential or an incremental backup
abbrev pub IsSecondPart : Later → Type 0
IsSecondPart l = (l.time ≤ last_second) × (l.kind ≢ Full)

-- its text, as `20240103-030405D`
abbrev pub second_part : Later → Text
second_part l = stamp l.time ++ letter l.kind ∷ []
