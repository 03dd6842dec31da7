use Rattle.std.proofs.Common.{◌∙◌, subst, sym}
use Rattle.base_model.specs.Represents.{IsArchiveFile}
use Rattle.repo_stanza.proofs.Leftovers.{none_first, none_more, none_end, first_here}
use Rattle.repo_stanza.proofs.unused.first_archived.Goals as goal

pub loop-each-init : goal.loop-each-init
loop-each-init c = λ stanza is. none_first (IsArchiveFile stanza) c.args.found.now

pub loop-each-preserved : goal.loop-each-preserved
loop-each-preserved c = λ stanza is.
    none_more c.args.found.now c.loop-each.each-index c.each-item.result c.loop-each-test.true c.each-item.is (IsArchiveFile stanza) (c.loop-each.invariant stanza is)
    (λ file. c.is_archived.ensures.other c.if-is_archived.false stanza (c.as_bytes-in-loop-each.ensures.value ∙ is) (subst (IsArchiveFile stanza) (sym c.as_bytes.ensures.value) file))

pub returns-then-is_archived-clause-some : goal.returns-then-is_archived-clause-some
returns-then-is_archived-clause-some c = λ stanza is.
    first_here c.args.found.now c.loop-each.each-index c.each-item.result c.loop-each-test.true c.each-item.is (IsArchiveFile stanza) (c.loop-each.invariant stanza is)
    (subst (IsArchiveFile stanza) c.as_bytes.ensures.value (c.is_archived.ensures.archived c.if-is_archived.true stanza (c.as_bytes-in-loop-each.ensures.value ∙ is)))

pub returns-clause-none : goal.returns-clause-none
returns-clause-none c = λ stanza is. none_end (IsArchiveFile stanza) c.args.found.now c.loop-each.each-index c.loop-each-test.false (c.loop-each.invariant stanza is)
