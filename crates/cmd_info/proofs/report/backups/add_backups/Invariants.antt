use Rattle.std.proofs.Common.{◌≡◌, ◌++◌, map, drop, flat_map}
use Rattle.base_model.specs.Values.{entry_of}
use Rattle.cmd_info.specs.Lines.{texts_of}
use Rattle.cmd_info.specs.ReportText.{backup_lines}
use Rattle.cmd_info.proofs.report.backups.add_backups.Given as goal

-- the lines that are there and those to come are the whole
abbrev pub invariant-loop-e : goal.invariant-loop-e
invariant-loop-e l =
    texts_of l.lines ++ flat_map backup_lines (map entry_of (drop l.e-index l.backups)) ≡ texts_of l.initial.lines ++ flat_map backup_lines (map entry_of l.backups)
