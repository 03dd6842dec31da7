use Rattle.std.proofs.Common.{◌≡◌, ◌≤◌, ◌+◌, ◌-◌, ◌++◌, List, ℕ, length, length-drop, take, drop, Some, sym, ◌∙◌, ap, subst, arith}
use Rattle.std.proofs.lemmas.List.{length-take-le, drop-drop, take-append-drop}
use Rattle.std.proofs.Math.Seq.{take-append_seam}
use Rattle.memory_devices.proofs.connection.MemConnectionServerConnection.receive.Goals as goal

-- a piece of what is left
piece : (x rest xs : List ℕ) (n at : ℕ) → at + n ≤ length xs → x ≡ take n (drop at xs) → take n (x ++ rest) ++ drop (at + n) xs ≡ drop at xs
piece x rest xs n at h e =
    let len : length x ≡ n = ap length e ∙ length-take-le n (drop at xs) (simp length-drop (omega arith)) in
    let seam : take n (x ++ rest) ≡ x = subst (λ k. take k (x ++ rest) ≡ x) len (take-append_seam x rest) in
    ap (λ t. t ++ drop (at + n) xs) seam ∙ ap (λ t. x ++ t) (sym (drop-drop n at xs)) ∙ ap (λ t. t ++ drop n (drop at xs)) e ∙ take-append-drop n (drop at xs)

pub returns-then-self-len-clause-gives : goal.returns-then-self-len-clause-gives
returns-then-self-len-clause-gives c =
    let at = c.args.self.now.at in
    let n = c.min-count.result in
    let xs = c.args.self.now.input.items in
    let e : (at + n) - at ≡ n = omega arith in
    let src = subst (λ (ys : List ℕ). c.copy_from_slice.new.self ≡ take ((at + n) - at) (drop at ys)) c.deref.ensures.value c.copy_from_slice.ensures.after in
    ap Some (piece c.copy_from_slice.new.self (drop n c.args.buf.now) xs n at (omega arith) (subst (λ (k : ℕ). c.copy_from_slice.new.self ≡ take k (drop at xs)) e src))

pub returns-else-self-len-clause-gives : goal.returns-else-self-len-clause-gives
returns-else-self-len-clause-gives c =
    let at = c.args.self.now.at in
    let n = c.min-count.result in
    let xs = c.args.self.now.input.items in
    let e : (at + n) - at ≡ n = omega arith in
    let src = subst (λ (ys : List ℕ). c.copy_from_slice.new.self ≡ take ((at + n) - at) (drop at ys)) c.deref.ensures.value c.copy_from_slice.ensures.after in
    ap Some (piece c.copy_from_slice.new.self (drop n c.args.buf.now) xs n at (omega arith) (subst (λ (k : ℕ). c.copy_from_slice.new.self ≡ take k (drop at xs)) e src))
