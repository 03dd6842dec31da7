use Rattle.std.proofs.Common.{◌≡◌, ◌/◌, ◌%◌, ◌^◌, List, ℕ, [], ◌∷◌, ◌++◌, Option, Some, String, Global, ap, ◌∙◌, string_bytes, arith}
use Rattle.std.specs.Prelude.{IfOk, IfSome, Result, Ok, Err}
use Rattle.std.specs.Fmt.{digits_output, ◌++?◌}
use Rattle.repo_manifest.proofs.Halves.{half, written}
use Rattle.repo_manifest.proofs.positions.lsn_text.Goals as goal

said : {E : Type 0} (r : Result (String Global) E) (x y : Option (List ℕ)) (a b : List ℕ) → x ≡ Some a → y ≡ Some b → IfOk r (λ s. IfSome (x ++? Some (47 ∷ []) ++? y) (λ bs. string_bytes s ≡ bs)) → IfOk r (λ s. string_bytes s ≡ a ++ 47 ∷ b)
said (Ok s) x y a b p q h = rw (p, q) at h
said (Err e) x y a b p q h = tt

pub returns : goal.returns
returns c =
    let at = c.args.at.0 in
    let high = c.in_radix.ensures ∙ ap (λ (t : List ℕ). Some t) (written (at / 2 ^ 32) (omega arith)) in
    let low = c.in_radix-2.ensures ∙ ap (λ (t : List ℕ). Some t) (written (at % 2 ^ 32) (omega arith)) in
    said c.format.result (digits_output c.in_radix.result) (digits_output c.in_radix-2.result) (half (at / 2 ^ 32)) (half (at % 2 ^ 32)) high low c.format.ensures.ok
