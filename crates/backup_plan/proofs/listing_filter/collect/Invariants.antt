use Rattle.std.proofs.Common.{◌≡◌, map, take, string_bytes}
use Rattle.backup_plan.specs.Filter.{kept, files_of, folders_of, AreFine, AreTimed}
use Rattle.backup_plan.specs.Views.{taken_of, seen_of}
use Rattle.backup_plan.proofs.listing_filter.collect.Given as goal

-- what is taken of the nodes so far, which are fine
abbrev pub invariant-loop-node : goal.invariant-loop-node
invariant-loop-node l = record {
  fine : AreFine (kept l.online (map seen_of (take l.node-index l.seen)));
  files : map taken_of l.listing.files.items ≡ files_of (kept l.online (map seen_of (take l.node-index l.seen)));
  folders : map string_bytes l.listing.folders.items ≡ folders_of (kept l.online (map seen_of (take l.node-index l.seen)));
  timed : AreTimed (kept l.online (map seen_of (take l.node-index l.seen)));
}
