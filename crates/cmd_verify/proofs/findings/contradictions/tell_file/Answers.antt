use Rattle.std.specs.Prelude.{string_bytes}
use Rattle.std.proofs.Common.{refl}
use Rattle.cmd_verify.specs.Contradictions.{HasId}
use Rattle.cmd_verify.specs.What.{Contradicts, NoCluster}
use Rattle.cmd_verify.proofs.Contradicted.{at_known, at_none, shown_at}
use Rattle.cmd_verify.proofs.findings.contradictions.tell_file.Goals as goal

pub returns-in_ok-push : goal.returns-in_ok-push
returns-in_ok-push c =
    at_known (string_bytes c.args.file.now.path) (Contradicts NoCluster) (¬ HasId c.args.history.now c.args.file.now.id) c.args.found.now.items c.push.new.self.items c.in_ok-contradiction.field-0 (c.has_id.ensures.no c.if-not-has_id.true)
    (shown_at c.in_ok-contradiction.field-0 c.as_str.result.now (string_bytes c.args.file.now.path) (Contradicts NoCluster) c.as_str.ensures.value (c.in_ok-contradiction.ensures NoCluster refl)) c.in_ok-push.ensures.items

pub returns-else-not-has_id : goal.returns-else-not-has_id
returns-else-not-has_id c =
    at_none (string_bytes c.args.file.now.path) (Contradicts NoCluster) (¬ HasId c.args.history.now c.args.file.now.id) c.args.found.now.items (λ no. no (c.has_id.ensures.yes c.if-not-has_id.false))
