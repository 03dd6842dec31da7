use Rattle.std.proofs.Common.{◌≡◌, ◌∙◌, sym, rules, Bool, true, false}
use Rattle.archive_lookup.proofs.OnePath.{below_cut, below_of, elsewhere, options_same}
use Rattle.archive_lookup.proofs.stored.paths.read_below.Goals as goal

pub returns-in_err-name-clause-none : goal.returns-in_err-name-clause-none
returns-in_err-name-clause-none c =
    rw c.from_residual.ensures (λ name sum fits is e. c.in_err-name.ensures.none name sum fits is (below_cut name sum c.args.text.now _ _ e c.split_folder.ensures).1)

pub returns-then-eq-clause-value : goal.returns-then-eq-clause-value
returns-then-eq-clause-value c =
    let x = c.in_ok-name.ensures.value in
    let same = (options_same _ _ c.eq.result c.eq.ensures).0 c.if-eq.true in
    (x.0, x.1, below_of c.in_ok-name.name x.0 c.args.text.now _ _ c.split_folder.ensures (sym (c.folder_of.ensures x.0 x.2) ∙ same) x.2, x.3)

pub returns-else-eq-clause-none : goal.returns-else-eq-clause-none
returns-else-eq-clause-none c = λ name sum fits is e.
    let x = c.in_ok-name.ensures.value in
    elsewhere c.in_ok-name.name name x.0 sum c.args.text.now _ _ c.split_folder.ensures x.2 e (search rules) fits
    (λ same. let on = (options_same _ _ c.eq.result c.eq.ensures).1 (c.folder_of.ensures x.0 x.2 ∙ same) in let off : ◌≡◌ {A = Bool} true false = sym on ∙ c.if-eq.false in cc)
