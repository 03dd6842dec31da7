use Rattle.std.proofs.Common.{rules, nat_cmp}
use Rattle.std.specs.Cmp.Lexicographic.{slice_cmp}
use Rattle.std.proofs.lemmas.Fn.{always_returns_same}
use Rattle.backup_plan.proofs.Searched.{rises}
use Rattle.backup_plan.proofs.Sought.{name_of, ordered_names}
use Rattle.restore_make.proofs.Shows.{place_found, place_absent}
use Rattle.restore_make.proofs.candidates.place_of.Goals as goal

pub returns-in-Ok-clause-some : goal.returns-in-Ok-clause-some
returns-in-Ok-clause-some c =
    let key = c.args.path.now in
    let facts = c.in-Ok.ensures.position (λ e. slice_cmp nat_cmp (name_of e) key) (always_returns_same _ _ _ (λ a r g called. (search rules, search rules))) in
    place_found c.args.files.now key c.in-Ok.i facts c.in-Ok.ensures.bound

pub returns-in-Err-clause-none : goal.returns-in-Err-clause-none
returns-in-Err-clause-none c =
    let key = c.args.path.now in
    let files = c.args.files.now in
    let facts = c.in-Err.ensures.position (λ e. slice_cmp nat_cmp (name_of e) key) (always_returns_same _ _ _ (λ a r g called. (search rules, search rules))) in
    place_absent files key c.in-Err.field-0 (facts (rises name_of key files (ordered_names files c.requires key c.in-Err.field-0)))
