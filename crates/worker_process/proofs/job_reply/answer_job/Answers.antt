use Rattle.std.proofs.Common.{◌≡◌, ◌+◌, Bool, List, Ok, Err, length, take, drop, sym, ap, subst, ◌∙◌, arith, refl}
use Rattle.std.proofs.lemmas.List.{take_all}
use Rattle.worker_protocol.specs.declared.frames.frames.Item as rust_item
use Rattle.worker_protocol.specs.Frames.{Item}
use Rattle.worker_protocol.specs.Views.{item_of, items_of}
use Rattle.worker_process.specs.Opening.{FailedRoot}
use Rattle.worker_process.specs.Answers.{KnownItem, KnownJob, value_of}
use Rattle.worker_process.proofs.JobKnown.{AreAnswered, item_failed, item_stops, item_goes, items_answered, cut_at, one_more, known_for, failed_from, any_job_fault, none_answered}
use Rattle.worker_process.proofs.job_reply.answer_job.Goals as goal

pub loop-item-init : goal.loop-item-init
loop-item-init g c = record {
  long = refl;
  tree = refl;
  repo = refl;
  tree_place = refl;
  repo_place = refl;
  tree_failed = omega arith;
  repo_failed = omega arith;
  later = omega arith;
  so_far = λ ft fr tree repo. none_answered c.args.job.now.kind ft fr (g.O.OutputStream.state c.args.out.now).written;
}

pub returns-in_err-answer_of_root-clause-known : goal.returns-in_err-answer_of_root-clause-known
returns-in_err-answer_of_root-clause-known g c = λ ft fr tree repo.
    let i = c.loop-item.invariant in
    let items = c.args.job.now.items.items in
    let k = c.loop-item.item-index in
    let kind = c.args.job.now.kind in
    let item = item_of c.item-item.result in
    let old = (g.O.OutputStream.state c.args.out.now).written in
    let now = (g.O.OutputStream.state c.loop-item.out).written in
    let new = (g.O.OutputStream.state c.answer_of_root.new.out).written in
    let Failed = FailedRoot c.args.opened (g.F.Files.faults c.args.tree.now) (g.G.Files.faults c.args.repo.now) (g.F.Files.faults c.answer_of_root.new.tree) (g.G.Files.faults c.answer_of_root.new.repo) in
    subst (λ (is : List Item). KnownJob (record { kind = kind; items = is }) ft fr Failed c.from_residual.result old new) (sym (cut_at items k c.item-item.result (omega (arith, ap length c.deref-item-items.ensures.value)) (rw c.deref-item-items.ensures.value at c.item-item.is)))
    (any_job_fault _ ft fr Failed c.from_residual.result old new c.from_residual.ensures.0 (λ e.
    item_failed kind ft fr Failed (items_of (take k items)) (items_of (drop (k + 1) items)) item old now (i.so_far ft fr tree repo) e new
    (known_for kind item (value_of ft fr item) _ (Failed item.root) (Err e) now new (failed_from c.args.opened _ _ _ _ _ _ item.root i.tree_failed i.repo_failed) (c.in_err-answer_of_root.ensures.known ft fr (i.tree ∙ tree) (i.repo ∙ repo)))))

pub returns-then-not-branch-clause-known : goal.returns-then-not-branch-clause-known
returns-then-not-branch-clause-known g c = λ ft fr tree repo.
    let i = c.loop-item.invariant in
    let items = c.args.job.now.items.items in
    let k = c.loop-item.item-index in
    let kind = c.args.job.now.kind in
    let item = item_of c.item-item.result in
    let old = (g.O.OutputStream.state c.args.out.now).written in
    let now = (g.O.OutputStream.state c.loop-item.out).written in
    let new = (g.O.OutputStream.state c.answer_of_root.new.out).written in
    let Failed = FailedRoot c.args.opened (g.F.Files.faults c.args.tree.now) (g.G.Files.faults c.args.repo.now) (g.F.Files.faults c.answer_of_root.new.tree) (g.G.Files.faults c.answer_of_root.new.repo) in
    let known = known_for kind item (value_of ft fr item) _ (Failed item.root) (Ok c.in_ok-answer_of_root.field-0) now new (failed_from c.args.opened _ _ _ _ _ _ item.root i.tree_failed i.repo_failed) (c.in_ok-answer_of_root.ensures.known ft fr (i.tree ∙ tree) (i.repo ∙ repo)) in
    subst (λ (is : List Item). KnownJob (record { kind = kind; items = is }) ft fr Failed (Ok tt) old new) (sym (cut_at items k c.item-item.result (omega (arith, ap length c.deref-item-items.ensures.value)) (rw c.deref-item-items.ensures.value at c.item-item.is)))
    (item_stops kind ft fr Failed (items_of (take k items)) (items_of (drop (k + 1) items)) item old now (i.so_far ft fr tree repo) new
    (subst (λ (b : Bool). KnownItem kind item (value_of ft fr item) (Failed item.root) (Ok b) now new) c.if-not-branch.true known))

pub loop-item-preserved : goal.loop-item-preserved
loop-item-preserved g c =
    let i = c.loop-item.invariant in
    let r = c.in_ok-answer_of_root.ensures in
    let items = c.args.job.now.items.items in
    let k = c.loop-item.item-index in
    let kind = c.args.job.now.kind in
    let item = item_of c.item-item.result in
    let old = (g.O.OutputStream.state c.args.out.now).written in
    let now = (g.O.OutputStream.state c.loop-item.out).written in
    let new = (g.O.OutputStream.state c.answer_of_root.new.out).written in
    let Failed = FailedRoot c.args.opened (g.F.Files.faults c.loop-item.tree) (g.G.Files.faults c.loop-item.repo) (g.F.Files.faults c.answer_of_root.new.tree) (g.G.Files.faults c.answer_of_root.new.repo) in
    record {
      long = r.room ∙ i.long;
      tree = r.tree ∙ i.tree;
      repo = r.repo ∙ i.repo;
      tree_place = r.tree_place ∙ i.tree_place;
      repo_place = r.repo_place ∙ i.repo_place;
      tree_failed = omega (arith, i.tree_failed, r.tree_failed);
      repo_failed = omega (arith, i.repo_failed, r.repo_failed);
      later = omega (arith, i.later, r.later);
      so_far = λ ft fr tree repo.
          subst (λ (is : List Item). AreAnswered kind ft fr is old new) (sym (one_more items k c.item-item.result (omega (arith, ap length c.deref-item-items.ensures.value)) (rw c.deref-item-items.ensures.value at c.item-item.is)))
          (item_goes kind ft fr Failed (items_of (take k items)) (items_of (drop (k + 1) items)) item old now (i.so_far ft fr tree repo) new
          (subst (λ (b : Bool). KnownItem kind item (value_of ft fr item) (Failed item.root) (Ok b) now new) c.if-not-branch.false (r.known ft fr (i.tree ∙ tree) (i.repo ∙ repo))));
    }

pub returns-clause-known : goal.returns-clause-known
returns-clause-known g c = λ ft fr tree repo.
    let i = c.loop-item.invariant in
    let items = c.args.job.now.items.items in
    let all : take c.loop-item.item-index items ≡ items = take_all c.loop-item.item-index items (omega (arith, ap length c.deref-item-items.ensures.value)) in
    items_answered c.args.job.now.kind ft fr _ (items_of items) (g.O.OutputStream.state c.args.out.now).written (g.O.OutputStream.state c.loop-item.out).written
    (subst (λ (is : List rust_item.Item). AreAnswered c.args.job.now.kind ft fr (items_of is) (g.O.OutputStream.state c.args.out.now).written (g.O.OutputStream.state c.loop-item.out).written) all (i.so_far ft fr tree repo))
