use Rattle.std.proofs.Common.{map}
use Rattle.std.specs.Prelude.{filter}
use Rattle.base_model.specs.Values.{entry_of}
use Rattle.expire_rules.specs.Condemned.{is_full}
use Rattle.expire_rules.proofs.Firsts.{full_taken}
use Rattle.expire_rules.proofs.counting_rules.full_labels.Goals as goal

pub returns : goal.returns
returns c = full_taken c.args.rule c.args.moment (filter is_full (map entry_of c.args.entries.now)) _ _ _ c.in_ok-labels.ensures c.count_gone-gone.ensures c.truncate.ensures.items
