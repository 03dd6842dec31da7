-- What is reported about a push that succeeded (own).
use Rattle.std.specs.Prelude.{[], ◌++◌, codes}
use Rattle.base_model.specs.Text.{Text}
use Rattle.archive_store.specs.declared.pushing.Pushed.{Pushed}
use Rattle.archive_store.specs.declared.pushing.Pushed.TheVariants.{New, Same}

-- the warning of a push that finds its bytes stored
abbrev pub same_line : Text → Text
same_line name = codes "WARN: " ++ (name ++ codes " is already in the archive with the same checksum\n")

-- the lines of a push of the file of this name
abbrev pub pushed_lines : Pushed → Text → Text
pushed_lines New name = []
pushed_lines Same name = same_line name
