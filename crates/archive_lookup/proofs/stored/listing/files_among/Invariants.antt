use Rattle.std.proofs.Common.{take}
use Rattle.archive_lookup.specs.Listing.{Picks, ShowsFile, PassesFile}
use Rattle.archive_lookup.proofs.stored.listing.files_among.Given as goal

abbrev pub invariant-loop-name : goal.invariant-loop-name
invariant-loop-name l = Picks (ShowsFile l.folder) (PassesFile l.folder) (take l.name-index l.found) l.files.items
