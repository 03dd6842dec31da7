use Rattle.std.proofs.Common.{◌≡◌, ◌-◌, ◌∙◌, ap, List, ℕ, length, take, drop, arith, refl, length-drop}
use Rattle.std.proofs.lemmas.List.{take_all}
use Rattle.cmd_trait.proofs.Written.{more, more_written}
use Rattle.cmd_trait.proofs.output.write_all.Goals as goal

pub loop-at-preserved : goal.loop-at-preserved
loop-at-preserved g c =
    let i = c.loop-at.invariant in
    let bytes = c.args.bytes.now in
    let at = c.loop-at.at in
    let rest : take (length bytes - at) (drop at bytes) ≡ drop at bytes = take_all (length bytes - at) (drop at bytes) (omega (arith, length-drop at bytes)) in
    record {
      within = omega (arith, i.within, c.in_ok-taken.ensures.room, ap length rest, length-drop at bytes);
      written = more_written _ _ _ bytes at c.in_ok-taken.taken _ i.written (c.in_ok-taken.ensures.written ∙ ap (λ (t : List ℕ). more (take c.in_ok-taken.taken t) (g.O.OutputStream.state c.loop-at.out).written) rest) refl;
      later = omega (arith, i.later, c.write.ensures.cause.later);
    }
