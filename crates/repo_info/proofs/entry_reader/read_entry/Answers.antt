use Rattle.std.proofs.Common.{sym, subst, arith}
use Rattle.base_model.specs.Json.{IsValue}
use Rattle.base_model.specs.InfoFiles.{entry_field}
use Rattle.base_model.specs.Values.{entry_of}
use Rattle.repo_ini.proofs.Built.{IsValue-built}
use Rattle.repo_info.proofs.EntryRules.{built_entry, entry_depth}
use Rattle.repo_info.proofs.entry_reader.read_entry.Goals as goal

pub are_same-requires-clause-second : goal.are_same-requires-clause-second
are_same-requires-clause-second c =
    let e = entry_of c.in-Some.entry in
    let rules = (rw c.in-Some.is at c.in_ok-entry.ensures.rules).0 in
    let start = rules.start in
    let stop = rules.stop in
    let db = rules.db.1 in
    subst IsValue (sym c.in_ok-expected.ensures) (IsValue-built (entry_field e).1 (built_entry e rules.labels rules.stored rules.size (omega (arith, start)) (omega (arith, stop)) (omega (arith, db))) (entry_depth e))
