use Rattle.std.proofs.Common.{◌≡◌, map, take, string_bytes}
use Rattle.base_model.specs.Names.{receipt_name}
use Rattle.archive_spool.proofs.stale_marks.receipts_of.Given as goal

abbrev pub invariant-loop-each : goal.invariant-loop-each
invariant-loop-each l = map string_bytes l.names.items ≡ map (receipt_name l.stanza) (take l.each-index l.ready)
