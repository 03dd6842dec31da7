use Rattle.repo_ini.proofs.FirstPiece.{cut_some, cut_none}
use Rattle.repo_ini.proofs.cuts.next_piece.Goals as goal

pub returns-in-Some : goal.returns-in-Some
returns-in-Some c = cut_some c.args.bytes.now c.in-Some.piece.now c.in-Some.rest.now c.in-Some.ensures

pub returns-in-None : goal.returns-in-None
returns-in-None c = cut_none c.args.bytes.now c.in-None.ensures
