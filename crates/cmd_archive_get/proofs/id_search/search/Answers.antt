use Rattle.std.proofs.Common.{rules, arith, inl, refl, ◌≡◌, ◌++◌, ◌∷◌, ◌∙◌, [], Bool, true, false, Option, Ok, subst}
use Rattle.std.specs.Prelude.{IfSome}
use Rattle.base_devices.specs.Content.{Content}
use Rattle.base_devices.specs.Cause.{Rises}
use Rattle.archive_lookup.specs.Stored.{StoresNone}
use Rattle.cmd_types.specs.Current.{id_kept}
use Rattle.cmd_archive_get.specs.Getting.{IsSame, FoundIn}
use Rattle.cmd_archive_get.specs.Serving.{RoseIn, AreBytes, AreBytesUnder, IsUnstoredUnder, Puts, UnderCause, SearchCause, IsLeft}
use Rattle.base_devices.proofs.States.{looks_on}
use Rattle.cmd_types.specs.Halts.{HaltCause}
use Rattle.cmd_archive_get.proofs.Stops.{handed_on}
use Rattle.cmd_archive_get.proofs.Left.{left_prefix, left_back, puts_handed}
use Rattle.cmd_archive_get.proofs.Passes.{goes_as}
use Rattle.cmd_archive_get.proofs.Searches.{parts_on, more_absent, found_in, cause_in}
use Rattle.cmd_archive_get.proofs.id_search.search.Goals as goal

pub returns-in_err-serve_under-clause-puts : goal.returns-in_err-serve_under-clause-puts
returns-in_err-serve_under-clause-puts g c = λ f left.
    let i = c.loop-cluster.invariant in
    puts_handed c.from_residual.result c.in_err-serve_under.field-0.0 c.from_residual.ensures.1 _ _ c.args.order.now.inside.now _ _ _ i.nodes
    (c.in_err-serve_under.ensures.puts f (left_back c.args.stanza.now (g.D.Disk.state c.args.repo.now).view (g.D.Disk.state c.loop-cluster.repo).view (g.D.Disk.state c.serve_under.new.repo).view i.looks.time i.looks.now f left))

pub returns-in_err-serve_under-clause-changes : goal.returns-in_err-serve_under-clause-changes
returns-in_err-serve_under-clause-changes g c =
    let i = c.loop-cluster.invariant in
    let stanza = c.args.stanza.now in
    let known = c.args.known.now in
    let name = c.args.order.now.name in
    let cluster = c.in-Some.cluster.now in
    let last : c.loop-cluster.rest.now ≡ c.in-Some.earlier.now ++ cluster ∷ [] = search rules in
    let is = parts_on c.args.history.now c.loop-cluster.rest.now c.in-Some.earlier.now cluster i.parts.0 i.parts.1 last in
    let now = (g.D.Disk.state c.args.repo.now).view.now in
    goes_as (λ b. IsSame known cluster × AreBytes stanza (id_kept cluster) name (g.D.Disk.state c.loop-cluster.repo).view.now b) (λ b. IfSome now (FoundIn c.args.history.now stanza known name b)) c.args.order.now.inside.now _ _ _ i.nodes
    (λ b h. found_in stanza known name c.args.history.now c.in-Some.earlier.now cluster i.parts.0 is c.requires.numbers h.0 now b (i.parts.2 now (inl refl)) (subst (λ (o : Option Content). AreBytes stanza (id_kept cluster) name o b) i.looks.now h.1))
    c.in_err-serve_under.ensures.changes

pub returns-in_err-serve_under-clause-cause : goal.returns-in_err-serve_under-clause-cause
returns-in_err-serve_under-clause-cause g c =
    let i = c.loop-cluster.invariant in
    let stanza = c.args.stanza.now in
    let known = c.args.known.now in
    let name = c.args.order.now.name in
    let cluster = c.in-Some.cluster.now in
    let last : c.loop-cluster.rest.now ≡ c.in-Some.earlier.now ++ cluster ∷ [] = search rules in
    let is = parts_on c.args.history.now c.loop-cluster.rest.now c.in-Some.earlier.now cluster i.parts.0 i.parts.1 last in
    let now = (g.D.Disk.state c.args.repo.now).view.now in
    let disk_rose = Rises (g.D.Disk.state c.loop-cluster.repo).faults (g.D.Disk.state c.serve_under.new.repo).faults in
    let tree_rose = Rises (g.T.DataFolder.state c.loop-cluster.tree).faults (g.T.DataFolder.state c.serve_under.new.tree).faults in
    let e = c.in_err-serve_under.field-0.0 in
    let under = subst (λ (o : Option Content). HaltCause (UnderCause cluster stanza known name o) (RoseIn disk_rose tree_rose) e) i.looks.now c.in_err-serve_under.ensures.cause in
    handed_on (UnderCause cluster stanza known name now) (SearchCause c.args.history.now stanza known name now) disk_rose tree_rose _ _
    (cause_in stanza known name c.args.history.now c.in-Some.earlier.now cluster i.parts.0 is c.requires.numbers now (i.parts.2 now (inl refl)))
    (λ r. omega (arith, r, i.looks.later)) (λ r. omega (arith, r, i.tree_later)) c.from_residual.result e c.from_residual.ensures.1 under

pub returns-then-branch-clause-puts : goal.returns-then-branch-clause-puts
returns-then-branch-clause-puts g c = λ f left.
    let i = c.loop-cluster.invariant in
    let stanza = c.args.stanza.now in
    let known = c.args.known.now in
    let name = c.args.order.now.name in
    let cluster = c.in-Some.cluster.now in
    let last : c.loop-cluster.rest.now ≡ c.in-Some.earlier.now ++ cluster ∷ [] = search rules in
    let is = parts_on c.args.history.now c.loop-cluster.rest.now c.in-Some.earlier.now cluster i.parts.0 i.parts.1 last in
    let served : c.in_ok-serve_under.field-0 ≡ true = search rules in
    let looks = c.serve_under.ensures.looks in
    let before = left_prefix stanza (g.D.Disk.state c.args.repo.now).view (g.D.Disk.state c.loop-cluster.repo).view (g.D.Disk.state c.serve_under.new.repo).view looks.time looks.now f left in
    let following = left_back stanza (g.D.Disk.state c.args.repo.now).view (g.D.Disk.state c.loop-cluster.repo).view (g.D.Disk.state c.serve_under.new.repo).view i.looks.time i.looks.now f left in
    let h = subst (λ (b : Bool). Puts (Ok b) (AreBytesUnder cluster stanza known name f) (IsUnstoredUnder cluster stanza known name f) c.args.order.now.inside.now (g.T.DataFolder.state c.loop-cluster.tree).nodes (g.T.DataFolder.state c.serve_under.new.tree).nodes) served (c.in_ok-serve_under.ensures.puts f following) in (
      h.0,
      found_in stanza known name c.args.history.now c.in-Some.earlier.now cluster i.parts.0 is c.requires.numbers h.1.0 f h.0 (i.parts.2 f before) h.1.1,
      h.2,
    )

pub returns-then-branch-clause-changes : goal.returns-then-branch-clause-changes
returns-then-branch-clause-changes g c =
    let i = c.loop-cluster.invariant in
    let stanza = c.args.stanza.now in
    let known = c.args.known.now in
    let name = c.args.order.now.name in
    let cluster = c.in-Some.cluster.now in
    let last : c.loop-cluster.rest.now ≡ c.in-Some.earlier.now ++ cluster ∷ [] = search rules in
    let is = parts_on c.args.history.now c.loop-cluster.rest.now c.in-Some.earlier.now cluster i.parts.0 i.parts.1 last in
    let now = (g.D.Disk.state c.args.repo.now).view.now in
    goes_as (λ b. IsSame known cluster × AreBytes stanza (id_kept cluster) name (g.D.Disk.state c.loop-cluster.repo).view.now b) (λ b. IfSome now (FoundIn c.args.history.now stanza known name b)) c.args.order.now.inside.now _ _ _ i.nodes
    (λ b h. found_in stanza known name c.args.history.now c.in-Some.earlier.now cluster i.parts.0 is c.requires.numbers h.0 now b (i.parts.2 now (inl refl)) (subst (λ (o : Option Content). AreBytes stanza (id_kept cluster) name o b) i.looks.now h.1))
    c.in_ok-serve_under.ensures.changes

pub loop-cluster-preserved : goal.loop-cluster-preserved
loop-cluster-preserved g c =
    let i = c.loop-cluster.invariant in
    let stanza = c.args.stanza.now in
    let known = c.args.known.now in
    let name = c.args.order.now.name in
    let cluster = c.in-Some.cluster.now in
    let last : c.loop-cluster.rest.now ≡ c.in-Some.earlier.now ++ cluster ∷ [] = search rules in
    let is = parts_on c.args.history.now c.loop-cluster.rest.now c.in-Some.earlier.now cluster i.parts.0 i.parts.1 last in
    let none : c.in_ok-serve_under.field-0 ≡ false = search rules in
    let looks = c.serve_under.ensures.looks in
    let was = (g.D.Disk.state c.args.repo.now).view in
    let mid = (g.D.Disk.state c.loop-cluster.repo).view in
    let end = (g.D.Disk.state c.serve_under.new.repo).view in
    let missed = λ (f : Option Content) (left : IsLeft stanza was end f).
    subst (λ (b : Bool). Puts (Ok b) (AreBytesUnder cluster stanza known name f) (IsUnstoredUnder cluster stanza known name f) c.args.order.now.inside.now (g.T.DataFolder.state c.loop-cluster.tree).nodes (g.T.DataFolder.state c.serve_under.new.tree).nodes) none
    (c.in_ok-serve_under.ensures.puts f (left_back stanza was mid end i.looks.time i.looks.now f left)) in
    record {
      parts = (cluster ∷ i.parts.0, is, λ f left. more_absent stanza known name f cluster i.parts.0 (missed f left).0 (i.parts.2 f (left_prefix stanza was mid end looks.time looks.now f left)));
      nodes = (missed was.now (inl refl)).1 ∙ i.nodes;
      looks = looks_on _ _ _ i.looks looks;
      tree_place = c.serve_under.ensures.tree_place ∙ i.tree_place;
      tree_later = omega (arith, i.tree_later, c.serve_under.ensures.tree_later);
    }
