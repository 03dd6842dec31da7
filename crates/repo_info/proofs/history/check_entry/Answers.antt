use Rattle.std.proofs.Common.{arith}
use Rattle.serde_json.specs.View.{view}
use Rattle.repo_info.proofs.HistoryRules.{strange_key, strange_value}
use Rattle.repo_info.proofs.history.check_entry.Goals as goal

pub returns-in_default : goal.returns-in_default
returns-in_default g c = strange_key g.C.Numbered.IsOne g.C.Numbered.number_of g.C.Numbered.field c.requires.laws c.args.key.now (view c.args.value.now) c.form.result c.form.ensures c.in_default.ensures.none

pub returns-in_default-2 : goal.returns-in_default-2
returns-in_default-2 g c =
    let none = rw c.in_default-2.is at c.in_ok-read.ensures.none in
    strange_value g.C.Numbered.IsOne g.C.Numbered.number_of g.C.Numbered.field c.requires.laws c.args.key.now (view c.args.value.now) c.form-in_default-2.result c.in-Some.id c.form-in_default-2.ensures c.in-Some.ensures.some (omega arith) none
