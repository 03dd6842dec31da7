use Rattle.std.proofs.Common.{arith}
use Rattle.repo_names.proofs.Compared.{text_cmp-segment_text}
use Rattle.repo_names.proofs.wal.order.compare.Goals as goal

pub returns : goal.returns
returns c =
    let names = text_cmp-segment_text c.args.a.now c.args.b.now (omega arith) (omega arith) (omega arith) (omega arith) (omega arith) (omega arith) in
    cc c.cmp.ensures
