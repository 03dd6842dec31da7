use Rattle.std.proofs.Common.{rules, ◌≡◌, ◌∙◌, inr, sym, Bool, map, Some, slice_get, true, false, string_bytes}
use Rattle.restore_steps.specs.Clearing.{seen_of}
use Rattle.cmd_restore.specs.Looking.{version_path, IsListed}
use Rattle.cmd_restore.proofs.Listings.{path_in, path_not_in, first_shown}
use Rattle.cmd_restore.proofs.folder_listing.check_holding.Goals.{else-delta-via-then-delta+else-has_cluster, else-delta-via-else-delta}
use Rattle.cmd_restore.proofs.folder_listing.check_holding.Goals as goal

pub returns-then-has_cluster-clause-open : goal.returns-then-has_cluster-clause-open
returns-then-has_cluster-clause-open c = inr (c.if-delta.true, path_in version_path c.args.seen.now (sym c.has_cluster.ensures ∙ c.if-has_cluster.true))

pub returns-clause-cause : goal.returns-clause-cause
returns-clause-cause c =
    let seen = c.args.seen.now in
    let head : slice_get seen 0 ≡ Some c.in-Some.first.now = search rules in
    let path : string_bytes c.in_ok-path.path ≡ string_bytes c.in-Some.first.now.path = search rules in
    let off : c.args.delta ≡ true → ¬ IsListed (map seen_of seen) version_path = elim c.else-delta.branch [ else-delta-via-then-delta+else-has_cluster w ↦ λ on. path_not_in version_path seen (sym w.has_cluster.ensures ∙ w.if-has_cluster.false) | else-delta-via-else-delta w ↦ λ on. (let h : ◌≡◌ {A = Bool} true false = sym on ∙ w.if-delta.false in cc) ] in
    (first_shown seen c.in-Some.first.now head (string_bytes c.in_ok-path.path) path, off)
