use Rattle.std.proofs.Common.{◌≡◌, ◌≢◌, map, refl, sym, ◌∙◌, subst, true, false}
use Rattle.std.specs.Prelude.{Bool}
use Rattle.std.proofs.lemmas.Slice.Eq.{bytes_eq-Decides}
use Rattle.base_model.specs.Text.{Text, In}
use Rattle.backup_plan.specs.Listed.{Taken}
use Rattle.backup_plan.specs.Filter.{paths_of}
use Rattle.backup_plan.specs.Views.{taken_of}
use Rattle.backup_plan.proofs.Lists.{no_truth, in_map, of_map, there, all_next, all_end}
use Rattle.backup_plan.proofs.file_limits.has_file.Goals as goal

path_of : Taken → Text
path_of f = f.path

pub returns-then-eq : goal.returns-then-eq
returns-then-eq c =
    let files = c.args.files.now in
    let file = c.file-item.result in
    let here = in_map (λ (f : Taken). f.path) (map taken_of files) (taken_of file) (there taken_of files c.loop-file.file-index file c.loop-file-test.true c.file-item.is) in
    let same = sym c.as_str.ensures.value ∙ (bytes_eq-Decides c.as_str.result.now c.args.path.now).0 (sym c.eq.ensures ∙ c.if-eq.true) in
    (λ t. subst (λ (p : Text). In p (paths_of (map taken_of files))) same here, λ h. refl)

pub loop-file-preserved : goal.loop-file-preserved
loop-file-preserved c =
    let files = c.args.files.now in
    let file = c.file-item.result in
    let path = c.args.path.now in
    let other : (taken_of file).path ≢ path = λ e. (let same : ◌≡◌ {A = Bool} false true = sym c.if-eq.false ∙ c.eq.ensures ∙ (bytes_eq-Decides c.as_str.result.now path).1 (c.as_str.ensures.value ∙ e) in cc same) in
    all_next taken_of files c.loop-file.file-index file c.loop-file-test.true c.file-item.is (λ (f : Taken). f.path ≢ path) c.loop-file.invariant other

pub returns : goal.returns
returns c =
    let files = c.args.files.now in
    let path = c.args.path.now in (
      λ t. no_truth t,
      λ here. let r = of_map (λ (f : Taken). f.path) (map taken_of files) path here in
          absurd (all_end taken_of files c.loop-file.file-index (λ (f : Taken). f.path ≢ path) c.loop-file-test.false c.loop-file.invariant r.0 r.1 r.2),
    )
