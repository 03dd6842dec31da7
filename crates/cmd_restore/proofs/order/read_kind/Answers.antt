use Rattle.std.proofs.Common.{sym, subst}
use Rattle.base_model.specs.Text.{Text}
use Rattle.repo_names.specs.Lsn.{IsLsn}
use Rattle.cmd_restore.specs.declared.order.TargetKind.{TargetKind}
use Rattle.cmd_restore.specs.Words.{IsNoKind}
use Rattle.cmd_restore.proofs.order.read_kind.Goals as goal

pub returns-in-None-read_lsn-clause-none : goal.returns-in-None-read_lsn-clause-none
returns-in-None-read_lsn-clause-none c =
    subst (λ (k : TargetKind). IsNoKind k c.args.text.now) (sym c.in-Position.is)
    (λ at h. c.in-None-read_lsn.ensures.none at (subst (λ (t : Text). IsLsn t at) (sym c.as_bytes.ensures.value) h))
