-- One read more.
use Rattle.std.proofs.Common.{◌≡◌, ◌⊎◌, ⊎_elim, ℕ, ◌+◌, ◌≤◌, List, [], ◌∷◌, ◌++◌, length, take, drop, Option, Some, None, refl, sym, ◌∙◌, ap, arith}
use Rattle.std.specs.Prelude.{IfSome, IsSomeAnd}
use Rattle.std.proofs.Math.Seq.{take-add}
use Rattle.base_devices.specs.Content.{Value, Reads}

-- these are the first bytes, this many
abbrev pub IsPrefixOf : Value → List ℕ → ℕ → Type 0
IsPrefixOf v items len = IsSomeAnd v (λ b. (len ≤ length b) × (items ≡ take len b))

none : (items : List ℕ) → length items ≡ 0 → items ≡ []
none [] e = refl
none (x ∷ items) e = absurd (omega arith)

prefix_at : (v : Value) (items new next : List ℕ) (at n room len : ℕ) → Reads v at room new (Some n) → (at ≡ 0) ⊎ IsPrefixOf v items at → length items ≡ at → next ≡ items ++ take n new → len ≡ at + n → IsPrefixOf v next len
prefix_at None items new next at n room len reads prefix long is more = cc
prefix_at (Some b) items new next at n room len reads prefix long is more =
    let start : (at ≤ length b) × (items ≡ take at b) = ⊎_elim
    (λ (zero : at ≡ 0). (omega arith, none items (long ∙ zero) ∙ ap (λ (k : ℕ). take k b) (sym zero)))
    (λ (h : (at ≤ length b) × (items ≡ take at b)). h) prefix in (
      omega (arith, reads.within, start.0),
      is ∙ ap (λ (l : List ℕ). items ++ l) reads.part ∙ ap (λ (l : List ℕ). l ++ take n (drop at b)) start.1 ∙ sym (take-add at n b) ∙ ap (λ (k : ℕ). take k b) (sym more),
    )

pub prefix_more : {X : Type 0} (o : Option X) (held : X → Value) (items new next : List ℕ) (at n room len : ℕ) → IfSome o (λ x. Reads (held x) at room new (Some n)) → (at ≡ 0) ⊎ IfSome o (λ x. IsPrefixOf (held x) items at)
    → length items ≡ at → next ≡ items ++ take n new → len ≡ at + n → IfSome o (λ x. IsPrefixOf (held x) next len)
prefix_more None held items new next at n room len reads prefix long is more = tt
prefix_more (Some x) held items new next at n room len reads prefix long is more = prefix_at (held x) items new next at n room len reads prefix long is more
