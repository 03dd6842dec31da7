use Rattle.std.proofs.Common.{rules, ◌≡◌, Some, slice_get, string_bytes}
use Rattle.base_sample.proofs.Holding.{first_taken}
use Rattle.base_sample.proofs.folder.sample_cluster.check_empty.Goals as goal

pub returns-clause-cause : goal.returns-clause-cause
returns-clause-cause g c =
    let head : slice_get c.in_ok-seen.seen.items 0 ≡ Some c.in-Some.first.now = search rules in
    let path : string_bytes c.in_ok-path.path ≡ string_bytes c.in-Some.first.now.path = search rules in
    first_taken c.in_ok-seen.seen.items c.in-Some.first.now (string_bytes c.in_ok-path.path) (g.T.DataFolder.state c.args.tree.now).nodes head path c.in_ok-seen.ensures.listing
