use Rattle.std.proofs.Common.{◌≡◌, true, false, not, ◌∙◌, sym, subst, Bool}
use Rattle.std.proofs.lemmas.Bool.{false≢true, not-true}
use Rattle.expire_make.specs.Unneeded.{IsForgotten}
use Rattle.expire_make.proofs.Tellings.{known_apart, known_forgets}
use Rattle.expire_make.proofs.unneeded.is_unneeded.Goals as goal

not_false : (b : Bool) → not b ≡ false → b ≡ true
not_false true e = cc
not_false false e = cc e

pub returns-then-is_id-clause-no : goal.returns-then-is_id-clause-no
returns-then-is_id-clause-no c = λ off stanza prefix_is h.
    let x = known_apart stanza _ _ _ _ _ c.args.kept.now (c.as_bytes-2.ensures.value ∙ prefix_is) c.in-Some.ensures.value c.in-Some.ensures.fits (subst (IsForgotten stanza c.args.kept.now) (sym c.as_bytes.ensures.value) h) in
    false≢true (sym x.1 ∙ sym c.keeps.ensures ∙ not_false c.keeps.result off)

pub returns-else-is_id-clause-no : goal.returns-else-is_id-clause-no
returns-else-is_id-clause-no c = λ off stanza prefix_is h.
    let x = known_apart stanza _ _ _ _ _ c.args.kept.now (c.as_bytes-2.ensures.value ∙ prefix_is) c.in-Some.ensures.value c.in-Some.ensures.fits (subst (IsForgotten stanza c.args.kept.now) (sym c.as_bytes.ensures.value) h) in
    c.is_id.ensures.other c.if-is_id.false x.0

pub returns-then-is_id-clause-yes : goal.returns-then-is_id-clause-yes
returns-then-is_id-clause-yes c = λ on stanza prefix_is.
    subst (IsForgotten stanza c.args.kept.now) c.as_bytes.ensures.value
    (known_forgets _ _ _ _ _ c.args.kept.now c.in-Some.ensures.value c.in-Some.ensures.fits (c.is_id.ensures.same c.if-is_id.true) (sym c.keeps.ensures ∙ not-true c.keeps.result on) stanza (c.as_bytes-2.ensures.value ∙ prefix_is))

pub returns-else-is_id-clause-yes : goal.returns-else-is_id-clause-yes
returns-else-is_id-clause-yes c = λ on. absurd (false≢true (sym c.if-is_id.false ∙ on))
