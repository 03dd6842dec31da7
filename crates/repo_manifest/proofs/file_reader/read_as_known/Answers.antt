use Rattle.std.proofs.Common.{sym, subst, arith}
use Rattle.base_model.specs.Json.{IsValue}
use Rattle.repo_manifest.proofs.FileRules.{known_value}
use Rattle.repo_manifest.proofs.file_reader.read_as_known.Goals as goal

pub are_same-requires-clause-second : goal.are_same-requires-clause-second
are_same-requires-clause-second c =
    let reference = rw c.in-Some.is at c.known_in.ensures.reference in
    let bundle = rw c.in-Some.is at c.known_in.ensures.bundle in
    subst IsValue (sym c.in_ok-expected.ensures) (known_value c.in-Some.known reference (omega arith) (omega arith) bundle)
