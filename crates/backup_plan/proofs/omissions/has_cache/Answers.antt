use Rattle.std.proofs.Common.{rules, tests, arith}
use Rattle.std.proofs.lemmas.Iterator.Search.{any_from_yields_List}
use Rattle.std.proofs.lemmas.Iterator.Splits.{YieldsList-from_str_split}
use Rattle.backup_plan.specs.Omitted.{is_cache}
use Rattle.backup_plan.proofs.omissions.has_cache.Goals as goal

pub returns : goal.returns
returns c = any_from_yields_List is_cache _ _ _ c.any.ensures.ran (YieldsList-from_str_split 47 c.args.path.now (omega arith) c.split.ensures.text c.split.ensures.has_more c.split.ensures.pattern) (λ x b q k. search (rules, tests))
