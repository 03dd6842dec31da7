use Rattle.std.proofs.Common.{rules, arith, inl, refl, ◌≡◌, ◌++◌, ◌∷◌, ◌∙◌, [], Option, Some, None, subst}
use Rattle.std.specs.Prelude.{IfSome}
use Rattle.base_devices.specs.Content.{Content}
use Rattle.base_devices.specs.Cause.{Rises}
use Rattle.base_devices.proofs.States.{looks_on}
use Rattle.cmd_types.specs.Halts.{HaltCause}
use Rattle.archive_lookup.specs.declared.stored.files.Stored.{Stored}
use Rattle.cmd_archive_get.specs.Looking.{FindsUnder}
use Rattle.cmd_archive_get.specs.Serving.{RoseIn, UnderCause, SearchCause, IsLeft}
use Rattle.cmd_archive_get.proofs.Stops.{stops_as}
use Rattle.cmd_archive_get.proofs.Left.{left_prefix, left_back}
use Rattle.cmd_archive_get.proofs.Searches.{parts_on, more_absent, cause_in}
use Rattle.cmd_archive_get.proofs.LookedFor.{kept_in}
use Rattle.cmd_archive_get.proofs.stored_place.look_in.Goals as goal

pub returns-in-Ok-Some-clause-finds : goal.returns-in-Ok-Some-clause-finds
returns-in-Ok-Some-clause-finds g c = λ f left.
    let i = c.loop-cluster.invariant in
    let stanza = c.args.stanza.now in
    let known = c.args.known.now in
    let name = c.args.name.now in
    let cluster = c.in-Some.cluster.now in
    let last : c.loop-cluster.rest.now ≡ c.in-Some.earlier.now ++ cluster ∷ [] = search rules in
    let is = parts_on c.args.history.now c.loop-cluster.rest.now c.in-Some.earlier.now cluster i.parts.0 i.parts.1 last in
    let looks = c.look_under.ensures.looks in
    let was = (g.D.Disk.state c.args.repo.now).view in
    let mid = (g.D.Disk.state c.loop-cluster.repo).view in
    let end = (g.D.Disk.state c.look_under.new.repo).view in
    kept_in stanza known name c.args.history.now c.in-Some.earlier.now cluster i.parts.0 is c.requires.numbers c.in-Ok-Some.stored f
    (subst (λ (r : Option Stored). FindsUnder cluster stanza known name r f) c.in-Ok-Some.field-0-is (c.in-Ok-Some.ensures.finds f (left_back stanza was mid end i.looks.time i.looks.now f left)))
    (i.parts.2 f (left_prefix stanza was mid end looks.time looks.now f left))

pub returns-in-Err-clause-cause : goal.returns-in-Err-clause-cause
returns-in-Err-clause-cause g c =
    let i = c.loop-cluster.invariant in
    let stanza = c.args.stanza.now in
    let known = c.args.known.now in
    let name = c.args.name.now in
    let cluster = c.in-Some.cluster.now in
    let last : c.loop-cluster.rest.now ≡ c.in-Some.earlier.now ++ cluster ∷ [] = search rules in
    let is = parts_on c.args.history.now c.loop-cluster.rest.now c.in-Some.earlier.now cluster i.parts.0 i.parts.1 last in
    let now = (g.D.Disk.state c.args.repo.now).view.now in
    let rose = Rises (g.D.Disk.state c.loop-cluster.repo).faults (g.D.Disk.state c.look_under.new.repo).faults in
    let under = subst (λ (o : Option Content). HaltCause (UnderCause cluster stanza known name o) (RoseIn rose ⊥) c.in-Err.halt) i.looks.now c.in-Err.ensures.cause in
    stops_as (UnderCause cluster stanza known name now) (SearchCause c.args.history.now stanza known name now) rose ⊥ _ ⊥
    (cause_in stanza known name c.args.history.now c.in-Some.earlier.now cluster i.parts.0 is c.requires.numbers now (i.parts.2 now (inl refl)))
    (λ r. omega (arith, r, i.looks.later)) (λ r. r) c.in-Err.halt under

pub loop-cluster-preserved : goal.loop-cluster-preserved
loop-cluster-preserved g c =
    let i = c.loop-cluster.invariant in
    let stanza = c.args.stanza.now in
    let known = c.args.known.now in
    let name = c.args.name.now in
    let cluster = c.in-Some.cluster.now in
    let last : c.loop-cluster.rest.now ≡ c.in-Some.earlier.now ++ cluster ∷ [] = search rules in
    let is = parts_on c.args.history.now c.loop-cluster.rest.now c.in-Some.earlier.now cluster i.parts.0 i.parts.1 last in
    let looks = c.look_under.ensures.looks in
    let was = (g.D.Disk.state c.args.repo.now).view in
    let mid = (g.D.Disk.state c.loop-cluster.repo).view in
    let end = (g.D.Disk.state c.look_under.new.repo).view in
    let missed = λ (f : Option Content) (left : IsLeft stanza was end f).
    subst (λ (r : Option Stored). FindsUnder cluster stanza known name r f) c.in-Ok-None.field-0-is (c.in-Ok-None.ensures.finds f (left_back stanza was mid end i.looks.time i.looks.now f left)) in
    record {
      parts = (cluster ∷ i.parts.0, is, λ f left. more_absent stanza known name f cluster i.parts.0 (missed f left) (i.parts.2 f (left_prefix stanza was mid end looks.time looks.now f left)));
      looks = looks_on _ _ _ i.looks looks;
    }
