use Rattle.options_table.proofs.Listed.{listed}
use Rattle.options_table.proofs.laws.table_has_each.Goals as goal

pub returns : goal.returns
returns c = listed
