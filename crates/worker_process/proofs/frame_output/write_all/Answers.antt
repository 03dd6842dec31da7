use Rattle.std.proofs.Common.{◌≡◌, ◌-◌, ◌∙◌, ap, List, ℕ, length, take, drop, arith, refl, length-drop}
use Rattle.std.proofs.lemmas.List.{take_all}
use Rattle.worker_process.proofs.Written.{more, more_written}
use Rattle.worker_process.proofs.frame_output.write_all.Goals as goal

pub loop-at-preserved : goal.loop-at-preserved
loop-at-preserved g c =
    let i = c.loop-at.invariant in
    let bytes = c.args.bytes.now in
    let at = c.loop-at.at in
    let rest : take (length bytes - at) (drop at bytes) ≡ drop at bytes = take_all (length bytes - at) (drop at bytes) (omega (arith, length-drop at bytes)) in
    record {
      within = omega (arith, i.within, c.in-Ok.ensures.room, ap length rest, length-drop at bytes);
      written = more_written _ _ _ bytes at c.in-Ok.taken _ i.written (c.in-Ok.ensures.written ∙ ap (λ (t : List ℕ). more (take c.in-Ok.taken t) (g.O.OutputStream.state c.loop-at.out).written) rest) refl;
      later = omega (arith, i.later, c.write.ensures.cause.later);
    }
