use Rattle.std.proofs.Common.{take}
use Rattle.archive_lookup.specs.Listing.{Picks}
use Rattle.archive_lookup.specs.Ends.{ShowsWhole, PassesWhole}
use Rattle.archive_lookup.proofs.stored.bounds.whole_among.Given as goal

abbrev pub invariant-loop-name : goal.invariant-loop-name
invariant-loop-name l = Picks (ShowsWhole l.prefix l.id) (PassesWhole l.prefix l.id) (take l.name-index l.found) l.segments.items
