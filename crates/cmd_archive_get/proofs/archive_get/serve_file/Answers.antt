use Rattle.std.proofs.Common.{rules, subst, IfErr, List}
use Rattle.base_devices.specs.Cause.{Rises}
use Rattle.base_model.specs.declared.clusters.ClusterId.{ClusterId}
use Rattle.base_model.specs.Values.{archive_info_of}
use Rattle.cmd_types.specs.Halts.{HaltCause}
use Rattle.cmd_archive_get.specs.Getting.{HasSame, FetchCause}
use Rattle.cmd_archive_get.specs.Serving.{RoseIn, Puts, AreFoundIn, IsAbsentIn, SearchCause}
use Rattle.cmd_archive_get.proofs.Left.{puts_sought}
use Rattle.cmd_archive_get.proofs.Stops.{err_as}
use Rattle.cmd_archive_get.proofs.Fetches.{foreign, sought}
use Rattle.cmd_archive_get.proofs.archive_get.serve_file.Goals as goal

pub returns-then-not-has_cluster-clause-cause : goal.returns-then-not-has_cluster-clause-cause
returns-then-not-has_cluster-clause-cause g c =
    let known = c.args.known.now in
    let none : ¬ HasSame c.deref.result.now known = search rules in
    foreign c.args.stanza.now known c.args.order.now.name (g.D.Disk.state c.args.repo.now).view.now (archive_info_of c.args.info.now) c.requires.pair _ _ c.mismatch.result
    (subst (λ (h : List ClusterId). ¬ HasSame h known) c.deref.ensures.value none) c.mismatch.ensures

pub returns-clause-cause : goal.returns-clause-cause
returns-clause-cause g c =
    let stanza = c.args.stanza.now in
    let known = c.args.known.now in
    let name = c.args.order.now.name in
    let now = (g.D.Disk.state c.args.repo.now).view.now in
    let disk_rose = Rises (g.D.Disk.state c.args.repo.now).faults (g.D.Disk.state c.search.new.repo).faults in
    let tree_rose = Rises (g.T.DataFolder.state c.args.tree.now).faults (g.T.DataFolder.state c.search.new.tree).faults in
    let info = archive_info_of c.args.info.now in
    err_as (SearchCause info.history stanza known name now) (FetchCause stanza known name now) disk_rose tree_rose _ _
    (sought stanza known name now info c.requires.pair) (λ r. r) (λ r. r) c.search.result
    (subst (λ (h : List ClusterId). IfErr c.search.result (HaltCause (SearchCause h stanza known name now) (RoseIn disk_rose tree_rose))) c.deref-2.ensures.value c.search.ensures.cause)

pub returns-clause-puts : goal.returns-clause-puts
returns-clause-puts g c = λ f left pair.
    let stanza = c.args.stanza.now in
    let known = c.args.known.now in
    let name = c.args.order.now.name in
    let info = archive_info_of c.args.info.now in
    let has : HasSame c.deref.result.now known = search rules in
    puts_sought stanza known name info (subst (λ (h : List ClusterId). HasSame h known) c.deref.ensures.value has) f pair c.search.result c.args.order.now.inside.now _ _
    (subst (λ (h : List ClusterId). Puts c.search.result (AreFoundIn h stanza known name f) (IsAbsentIn h stanza known name f) c.args.order.now.inside.now (g.T.DataFolder.state c.args.tree.now).nodes (g.T.DataFolder.state c.search.new.tree).nodes) c.deref-2.ensures.value (c.search.ensures.puts f left))
