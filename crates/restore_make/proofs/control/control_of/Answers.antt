use Rattle.std.proofs.Common.{◌≡◌, ◌∙◌, ◌+◌, sym, ap, subst, ⊎_elim, map, take, List, ◌++◌, ◌∷◌, [], length, Bool, true, false, bytes_eq, arith, refl}
use Rattle.std.proofs.lemmas.List.{map-append}
use Rattle.std.proofs.lemmas.Slice.Eq.{bytes_eq-Decides}
use Rattle.base_model.specs.Text.{In}
use Rattle.base_model.specs.Values.{FileEntry, file_entry_of}
use Rattle.restore_steps.specs.Clearing.{control_path}
use Rattle.restore_steps.proofs.Bare.{in_at, in_split}
use Rattle.restore_steps.proofs.Paths.{take_more, take_whole}
use Rattle.restore_make.proofs.control.control_of.Goals as goal

pub returns-then-is_control-clause-some : goal.returns-then-is_control-clause-some
returns-then-is_control-clause-some c = (
  in_at file_entry_of c.args.files.now c.loop-file.file-index c.file-item.result c.loop-file-test.true c.file-item.is,
  sym c.deref.ensures ∙ (bytes_eq-Decides c.deref.result.now control_path).0 (sym c.is_control.ensures ∙ c.if-is_control.true),
)

pub loop-file-preserved : goal.loop-file-preserved
loop-file-preserved c = λ e i.
    let n = c.loop-file.file-index in
    let fs = c.args.files.now in
    let f = c.file-item.result in
    let list : map file_entry_of (take (n + 1) fs) ≡ map file_entry_of (take n fs) ++ file_entry_of f ∷ [] = ap (map file_entry_of) (take_more fs n f c.loop-file-test.true c.file-item.is) ∙ map-append file_entry_of (take n fs) (f ∷ []) in
    ⊎_elim
    (λ was. c.loop-file.invariant e was)
    (λ (same : e ≡ file_entry_of f). λ (at_control : e.path ≡ control_path).
    let h : ◌≡◌ {A = Bool} true false = sym ((bytes_eq-Decides c.deref.result.now control_path).1 (c.deref.ensures ∙ sym (ap (λ (x : FileEntry). x.path) same) ∙ at_control)) ∙ sym c.is_control.ensures ∙ c.if-is_control.false in cc)
    (in_split e (file_entry_of f) (map file_entry_of (take n fs)) (subst (λ (l : List FileEntry). In e l) list i))

pub returns-clause-none : goal.returns-clause-none
returns-clause-none c = λ e i. c.loop-file.invariant e (subst (λ l. In e (map file_entry_of l)) (sym (take_whole c.args.files.now c.loop-file.file-index (omega (arith, c.loop-file-test.false, c.loop-file.auto.file-index-end)))) i)
