use Rattle.std.proofs.Common.{length, ap, arith}
use Rattle.repo_ini.specs.Reading.{rest_pieces}
use Rattle.repo_ini.proofs.FirstPiece.{length-pieces}
use Rattle.repo_ini.proofs.config.read_config.Goals as goal

pub overflow_add-line : goal.overflow_add-line
overflow_add-line c =
    let most = length-pieces c.args.bytes.now in
    let some = ap length c.next_piece.ensures in
    let left = ap (λ r. length (rest_pieces r)) c.in-Some.is in
    omega arith
