use Rattle.std.proofs.Common.{length, rules, tests, arith}
use Rattle.std.specs.Prelude.{◌==◌}
use Rattle.std.proofs.lemmas.Iterator.Search.{any_from_yields_List}
use Rattle.std.proofs.lemmas.Iterator.Splits.{YieldsList-from_str_split}
use Rattle.repo_names.proofs.paths.names.has_empty.Goals as goal

pub returns : goal.returns
returns c = any_from_yields_List (λ e. length e == 0) _ _ _ c.any.ensures.ran (YieldsList-from_str_split 47 c.args.path.now (omega arith) c.split.ensures.text c.split.ensures.has_more c.split.ensures.pattern) (λ x b q k. search (rules, tests))
