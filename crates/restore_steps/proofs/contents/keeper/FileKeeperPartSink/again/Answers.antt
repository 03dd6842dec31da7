use Rattle.std.proofs.Common.{refl, rules, inl, ◌≡◌, ◌<◌, length, None, arith}
use Rattle.std.proofs.Math.Nat.{le_refl}
use Rattle.std.proofs.lemmas.List.{length-map}
use Rattle.worker_protocol.specs.PartSinkState.{Clears}
use Rattle.restore_steps.specs.declared.contents.files.Filed.{Filed}
use Rattle.restore_steps.specs.Files.{kept_of}
use Rattle.restore_steps.proofs.Filing.{open_tidy, cleared}
use Rattle.restore_steps.proofs.Listing.{changes_at, apart_still, order_still}
use Rattle.restore_steps.proofs.Stepping.{later_at}
use Rattle.restore_steps.proofs.contents.keeper.FileKeeperPartSink.again.Goals as goal

pub invariant_of-self : goal.invariant_of-self
invariant_of-self g c =
    let nodes = (g.T.DataFolder.state c.args._on.now).nodes in
    let files = c.args.self.now.files.items in
    let x = c.index_mut-file.result.now in
    let y : Filed = (record { wanted = x.wanted; count = 0; end = None }) in
    let lt : c.args.job < length files = omega (arith, c.requires.job, length-map files (kept_of nodes)) in
    record {
      apart = apart_still nodes nodes files c.args.job x y lt c.index_mut-file.ensures.value c.args.self.now.apart refl;
      one = c.args.self.now.one;
    }

pub returns-clause-later : goal.returns-clause-later
returns-clause-later g c =
    let u = g.T.DataFolder.state c.args._on.now in
    let files = c.args.self.now.files.items in
    let x = c.index_mut-file.result.now in
    let y : Filed = (record { wanted = x.wanted; count = 0; end = None }) in
    let lt : c.args.job < length files = omega (arith, c.requires.job, length-map files (kept_of u.nodes)) in
    later_at c.args.self.now u u c.args.job x y lt c.index_mut-file.ensures.value refl (λ q _ _. refl) refl (λ placed. refl) (le_refl u.faults) _ refl refl (λ some. inl some)

pub returns-clause-agrees : goal.returns-clause-agrees
returns-clause-agrees g c =
    let nodes = (g.T.DataFolder.state c.args._on.now).nodes in
    let files = c.args.self.now.files.items in
    let x = c.index_mut-file.result.now in
    let y : Filed = (record { wanted = x.wanted; count = 0; end = None }) in
    let lt : c.args.job < length files = omega (arith, c.requires.job, length-map files (kept_of nodes)) in
    order_still nodes nodes files c.args.job x y lt c.index_mut-file.ensures.value c.args.self.now.apart (λ q _ _. refl) (open_tidy y nodes refl) (λ open_end some. absurd (omega (arith, some))) c.requires.agrees

pub returns-clause-kept : goal.returns-clause-kept
returns-clause-kept g c =
    let u = (g.T.DataFolder.state c.args._on.now).nodes in
    let files = c.args.self.now.files.items in
    let x = c.index_mut-file.result.now in
    let y : Filed = (record { wanted = x.wanted; count = 0; end = None }) in
    let lt : c.args.job < length files = omega (arith, c.requires.job, length-map files (kept_of u)) in (
      refl,
      refl,
      changes_at u u files c.args.job x y lt c.index_mut-file.ensures.value c.args.self.now.apart Clears (cleared y u refl refl) (λ q _ _. refl),
    )
