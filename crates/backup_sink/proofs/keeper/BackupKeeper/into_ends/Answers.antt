use Rattle.std.proofs.Common.{◌≡◌, List, [], ◌∷◌, map, refl, ap, sym, ◌∙◌, arith}
use Rattle.std.proofs.lemmas.Simd.{map-map}
use Rattle.std.proofs.lemmas.Iterator.Adapters.{YieldsList-from_vec}
use Rattle.std.proofs.lemmas.Iterator.Consumers.{YieldsList-end}
use Rattle.backup_sink.specs.declared.keeper.Stored.{Stored}
use Rattle.backup_sink.specs.Keeping.{Progress, progress_of}
use Rattle.backup_sink.proofs.keeper.BackupKeeper.into_ends.Goals as goal

same : (xs : List Stored) → map (λ (s : Stored). s) xs ≡ xs
same [] = refl
same (x ∷ xs) = ap (λ (l : List Stored). x ∷ l) (same xs)

pub returns : goal.returns
returns c =
    let gives = c.into_iter-state-iterator.ensures.into_iter_gives in
    let whole = YieldsList-from_vec {s = c.into_iter-state-iterator.result} c.args.self.states.items gives.0 (omega (arith, gives.1, c.args.self.states.ok)) in
    let all = YieldsList-end whole c.loop-state.yielded c.loop-state.state-iterator c.loop-state.yielded_by c.next.result c.next.new.self c.in-None.is c.next.ensures.steps in
    c.loop-state.invariant
    ∙ ap (map (λ s. s.ended.items)) (sym (same c.loop-state.yielded) ∙ all.0)
    ∙ sym (map-map (λ (p : Progress). p.ended) progress_of c.args.self.states.items)
