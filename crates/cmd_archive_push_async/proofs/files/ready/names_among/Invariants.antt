use Rattle.std.proofs.Common.{take}
use Rattle.archive_lookup.specs.Listing.{Picks}
use Rattle.cmd_archive_push_async.specs.Ready.{ShowsReady, PassesReady}
use Rattle.cmd_archive_push_async.proofs.files.ready.names_among.Given as goal

abbrev pub invariant-loop-each : goal.invariant-loop-each
invariant-loop-each l = Picks ShowsReady PassesReady (take l.each-index l.seen) l.names.items
