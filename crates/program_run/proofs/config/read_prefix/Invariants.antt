use Rattle.std.proofs.Common.{◌≡◌, ◌≤◌, ◌-◌, ◌++◌, option_map, vec_len}
use Rattle.program_run.proofs.config.read_prefix.Given as goal

-- what was read and what is left are what was left
abbrev pub invariant-loop-buf : goal.invariant-loop-buf
invariant-loop-buf g l = record {
  files : (g.I.InputFiles.state l.config).files ≡ (g.I.InputFiles.state l.fn.config).files;
  later : (g.I.InputFiles.state l.fn.config).faults ≤ (g.I.InputFiles.state l.config).faults;
  stream : option_map (λ rest. l.bytes.items ++ rest) (g.I.InputFiles.state l.config).left ≡ (g.I.InputFiles.state l.fn.config).left;
}

abbrev pub decreases-loop-buf : goal.decreases-loop-buf
decreases-loop-buf g l = l.limit - vec_len l.bytes
