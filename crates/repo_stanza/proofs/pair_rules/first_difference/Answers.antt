use Rattle.std.proofs.Common.{map, arith}
use Rattle.std.proofs.lemmas.List.{length-map}
use Rattle.base_model.specs.Repository.{identity_of}
use Rattle.repo_stanza.proofs.Judged.{same_lists}
use Rattle.repo_stanza.proofs.pair_rules.first_difference.Goals as goal

pub returns-clause-none : goal.returns-clause-none
returns-clause-none c = same_lists c.args.archive.now (map identity_of c.args.backup.now) c.loop-place.place (omega arith) (omega (arith, length-map c.args.backup.now identity_of)) c.loop-place.invariant
