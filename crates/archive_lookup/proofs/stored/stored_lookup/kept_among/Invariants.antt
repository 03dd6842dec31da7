use Rattle.std.proofs.Common.{take}
use Rattle.archive_lookup.specs.Listing.{Picks, ShowsSum, PassesSum}
use Rattle.archive_lookup.proofs.stored.stored_lookup.kept_among.Given as goal

abbrev pub invariant-loop-name : goal.invariant-loop-name
invariant-loop-name l = Picks (ShowsSum l.prefix) (PassesSum l.prefix) (take l.name-index l.found) l.kept.items
