-- Filling a buffer.
use Rattle.std.proofs.Common.{◌≡◌, ◌⊎◌, inl, inr, ⊎_elim, ℕ, ◌+◌, ◌-◌, ◌≤◌, List, ◌++◌, length, take, drop, Option, Some, None, sym, ◌∙◌, ap, arith}
use Rattle.std.specs.Prelude.{IfSome, IsSomeAnd}
use Rattle.std.proofs.Math.Seq.{take-add}
use Rattle.std.proofs.lemmas.List.{drop-drop}
use Rattle.base_devices.specs.Content.{Value, Content, ReadsPart}

-- this many bytes from a place on are in the buffer; where the last reading gave none, it is full or the file is over
pub record IsFilled (bytes : List ℕ) (at have last : ℕ) (buf : List ℕ) : Type 0 where
  pub part : take have buf ≡ take have (drop at bytes)
  pub within : have ≤ length bytes - at
  pub ends : last ≡ 0 → (length buf ≤ have) ⊎ (length bytes ≤ at + have)

abbrev pub Filled : Option Content → List ℕ → ℕ → ℕ → ℕ → List ℕ → Type 0
Filled files name at have last buf = IfSome files (λ f. IsSomeAnd (f name) (λ bytes. IsFilled bytes at have last buf))

filled_more : (bytes : List ℕ) (at have n room : ℕ) (old new : List ℕ) (last : ℕ) → IsFilled bytes at have last old → take have new ≡ take have old → ReadsPart bytes (at + have) room (drop have new) n → length new ≡ have + room → IsFilled bytes at (have + n) n new
filled_more bytes at have n room old new last so prefix reads long = record {
  part = take-add have n new
      ∙ ap (λ (t : List ℕ). t ++ take n (drop have new)) (prefix ∙ so.part)
      ∙ ap (λ (t : List ℕ). take have (drop at bytes) ++ t) (reads.part ∙ ap (take n) (sym (drop-drop have at bytes)))
      ∙ sym (take-add have n (drop at bytes));
  within = omega (arith, so.within, reads.within);
  ends = λ none. ⊎_elim (λ (e : room ≡ 0). inl (omega (arith, e, long))) (λ (e : length bytes ≤ at + have). inr (omega (arith, e))) (reads.ends none);
}

pub filled_on : (files : Option Content) (name : List ℕ) (at have n room : ℕ) (old new : List ℕ) (last : ℕ) → Filled files name at have last old → take have new ≡ take have old
    → IfSome files (λ f. IfSome (f name) (λ b. ReadsPart b (at + have) room (drop have new) n)) → length new ≡ have + room → Filled files name at (have + n) n new
filled_on None name at have n room old new last so prefix reads long = tt
filled_on (Some f) name at have n room old new last so prefix reads long = at_value (f name) so reads
  where
    at_value : (v : Value) → IsSomeAnd v (λ b. IsFilled b at have last old) → IfSome v (λ b. ReadsPart b (at + have) room (drop have new) n) → IsSomeAnd v (λ b. IsFilled b at (have + n) n new)
    at_value None so reads = so
    at_value (Some b) so reads = filled_more b at have n room old new last so prefix reads long
