use Rattle.std.proofs.Common.{◌≡◌, ◌&&◌, ℕ, List, [], drop, take, bytes_eq}
use Rattle.std.specs.HashSet.{contains_by}
use Rattle.repo_ini.specs.Views.{settings_of}
use Rattle.options_read.specs.Settings.{none_twice, is_set}
use Rattle.options_read.proofs.rules.none_twice.Given as goal

abbrev pub invariant-loop-line : goal.invariant-loop-line
invariant-loop-line l = record {
  read : none_twice l.table (settings_of (take l.line-index l.lines)) (settings_of (drop l.line-index l.lines)) ≡ none_twice l.table [] (settings_of l.lines);
  seen : (section key : List ℕ) → contains_by (λ q. bytes_eq section q.0.now && bytes_eq key q.1.now) l.seen ≡ is_set (settings_of (take l.line-index l.lines)) section key;
}
