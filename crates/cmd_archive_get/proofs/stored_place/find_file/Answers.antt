use Rattle.std.proofs.Common.{rules, subst, List, Option}
use Rattle.std.specs.Prelude.{IfErr, IfOk, IfSome}
use Rattle.base_devices.specs.Cause.{Rises}
use Rattle.base_devices.specs.Content.{Content}
use Rattle.base_model.specs.declared.clusters.ClusterId.{ClusterId}
use Rattle.base_model.specs.Values.{archive_info_of}
use Rattle.cmd_types.specs.Halts.{HaltCause}
use Rattle.cmd_archive_get.specs.Getting.{HasSame, FetchCause}
use Rattle.cmd_archive_get.specs.Looking.{FindsIn}
use Rattle.cmd_archive_get.specs.Serving.{IsLeft, RoseIn, SearchCause}
use Rattle.cmd_archive_get.proofs.LookedFor.{looks_up}
use Rattle.cmd_archive_get.proofs.Stops.{err_as}
use Rattle.cmd_archive_get.proofs.Fetches.{foreign, sought}
use Rattle.cmd_archive_get.proofs.stored_place.find_file.Goals as goal

pub returns-then-not-has_cluster-clause-cause : goal.returns-then-not-has_cluster-clause-cause
returns-then-not-has_cluster-clause-cause g c =
    let known = c.args.known.now in
    let none : ¬ HasSame c.deref.result.now known = search rules in
    foreign c.args.stanza.now known c.args.name.now (g.D.Disk.state c.args.repo.now).view.now (archive_info_of c.args.info.now) c.requires.pair _ _ c.mismatch.result
    (subst (λ (h : List ClusterId). ¬ HasSame h known) c.deref.ensures.value none) c.mismatch.ensures

pub returns-clause-cause : goal.returns-clause-cause
returns-clause-cause g c =
    let stanza = c.args.stanza.now in
    let known = c.args.known.now in
    let name = c.args.name.now in
    let now = (g.D.Disk.state c.args.repo.now).view.now in
    let rose = Rises (g.D.Disk.state c.args.repo.now).faults (g.D.Disk.state c.look_in.new.repo).faults in
    let info = archive_info_of c.args.info.now in
    err_as (SearchCause info.history stanza known name now) (FetchCause stanza known name now) rose ⊥ _ _
    (sought stanza known name now info c.requires.pair) (λ r. r) (λ r. r) c.look_in.result
    (subst (λ (h : List ClusterId). IfErr c.look_in.result (HaltCause (SearchCause h stanza known name now) (RoseIn rose ⊥))) c.deref-2.ensures.value c.look_in.ensures.cause)

pub returns-clause-finds : goal.returns-clause-finds
returns-clause-finds g c =
    let stanza = c.args.stanza.now in
    let known = c.args.known.now in
    let name = c.args.name.now in
    let a = (g.D.Disk.state c.args.repo.now).view in
    let d = (g.D.Disk.state c.look_in.new.repo).view in
    let info = archive_info_of c.args.info.now in
    let has : HasSame c.deref.result.now known = search rules in
    looks_up stanza known name info (subst (λ (h : List ClusterId). HasSame h known) c.deref.ensures.value has) a d c.look_in.result
    (subst (λ (h : List ClusterId). IfOk c.look_in.result (λ r. (f : Option Content) → IsLeft stanza a d f → IfSome f (FindsIn h stanza known name r))) c.deref-2.ensures.value c.look_in.ensures.finds)
