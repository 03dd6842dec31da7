use Rattle.std.proofs.Common.{rules, Option, Some, nat_cmp, sym, ap, ◌∙◌}
use Rattle.std.specs.Cmp.Lexicographic.{slice_cmp}
use Rattle.std.proofs.lemmas.Fn.{always_returns_same}
use Rattle.base_model.specs.declared.files.FileEntry as rust
use Rattle.base_model.specs.Values.{FileEntry, file_entry_of}
use Rattle.backup_plan.proofs.Searched.{rises}
use Rattle.backup_plan.proofs.Sought.{name_of, entry_found, entry_absent, ordered_names}
use Rattle.backup_plan.proofs.prior_entry.find_entry.Goals as goal

pub returns-in-Ok : goal.returns-in-Ok
returns-in-Ok c =
    let key = c.args.path.now in
    let facts = c.in-Ok.ensures.position (λ e. slice_cmp nat_cmp (name_of e) key) (always_returns_same _ _ _ (λ a r g called. (search rules, search rules))) in
    let item = c.index-old-i.result in
    ap (λ (e : rust.FileEntry). let o : Option FileEntry = Some (file_entry_of e) in o) c.index-old-i.is ∙ sym (entry_found c.args.old.now c.requires key c.in-Ok.i item facts c.in-Ok.ensures.bound)

pub returns-in-Err : goal.returns-in-Err
returns-in-Err c =
    let key = c.args.path.now in
    let old = c.args.old.now in
    let facts = c.in-Err.ensures.position (λ e. slice_cmp nat_cmp (name_of e) key) (always_returns_same _ _ _ (λ a r g called. (search rules, search rules))) in
    sym (entry_absent old c.requires key c.in-Err.field-0 (facts (rises name_of key old (ordered_names old c.requires key c.in-Err.field-0))))
