use Rattle.std.proofs.Common.{map, string_bytes}
use Rattle.std.proofs.lemmas.Result.{IfOk-weaker}
use Rattle.backup_record.proofs.Parts.{named}
use Rattle.backup_record.proofs.names.names_of.Goals as goal

pub returns : goal.returns
returns c = IfOk-weaker c.joined.result _ _
    (λ names is l p. named c.args.folder.now c.args.plan.now l p c.as_slice-jobs.result.now c.as_slice-jobs.ensures.value c.min-singles.result c.saturating_sub-bundles.result c.min-singles.ensures c.saturating_sub-bundles.ensures (map string_bytes names.items) is)
    c.joined.ensures
