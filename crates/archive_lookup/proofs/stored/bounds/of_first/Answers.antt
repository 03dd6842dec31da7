use Rattle.std.proofs.Common.{◌≡◌, ◌∙◌, ◌==◌, ℕ, ap, length, vec_len}
use Rattle.std.proofs.lemmas.Bool.{false≢true}
use Rattle.archive_lookup.proofs.Bounding.{first_found}
use Rattle.archive_lookup.proofs.stored.bounds.of_first.Goals as goal

pub returns-then-not-is_empty-clause-first : goal.returns-then-not-is_empty-clause-first
returns-then-not-is_empty-clause-first g c =
    first_found c.args.stanza.now c.args.id _ _ c.args.folders.now c.loop-folder.folder-index c.folder-item.result c.as_str.result.now c.in_ok-segments.segments.items c.loop-folder.invariant.now
    c.loop-folder-test.true c.folder-item.is c.as_str.ensures.value c.loop-folder.invariant.none c.in_ok-segments.ensures.whole
    (λ e. let long : vec_len c.in_ok-segments.segments ≡ length c.in_ok-segments.segments.items = c.in_ok-segments.segments.ok.0 in
    let none : vec_len c.in_ok-segments.segments ≡ 0 = long ∙ ap length e in false≢true (c.if-not-is_empty.ensures ∙ ap (λ (n : ℕ). n == 0) none))
