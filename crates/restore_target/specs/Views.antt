-- What the code's values represent.
use Rattle.restore_target.specs.declared.moments.Offset as rust
use Rattle.restore_target.specs.Moments.{Offset}

-- an offset of the code
abbrev pub offset_of : rust.Offset → Offset
offset_of o = record { east = o.east; hours = o.hours; minutes = o.minutes; short = o.short }
