-- How many bytes a name holds at which bytes are being put.
use Rattle.std.specs.Prelude.{◌≡◌, ℕ, ◌+◌, List, ◌++◌, Option, Some, None, length, option_map, IsSomeAnd}
use Rattle.std.proofs.Common.{sym, ◌∙◌, ap, subst, length-append}
use Rattle.base_devices.specs.Content.{Name, Value, Content, lengthened}
use Rattle.base_disk.specs.Staged.{HasLength}
use Rattle.base_disk.proofs.Images.{put_same}

more_bytes : (v : Value) (n : ℕ) (bytes : List ℕ) → IsSomeAnd v (λ b. length b ≡ n) → IsSomeAnd (option_map (λ (old : List ℕ). old ++ bytes) v) (λ b. length b ≡ n + length bytes)
more_bytes None n bytes has = has
more_bytes (Some b) n bytes has = length-append b bytes ∙ ap (λ m. m + length bytes) has

has_more_at : (name : Name) (n : ℕ) (bytes : List ℕ) (old new : Option Content) → new ≡ option_map (lengthened name bytes) old → HasLength old name n → HasLength new name (n + length bytes)
has_more_at name n bytes None new is has = subst (λ (o : Option Content). HasLength o name (n + length bytes)) (sym is) tt
has_more_at name n bytes (Some f) new is has = subst (λ (o : Option Content). HasLength o name (n + length bytes)) (sym is)
    (subst (λ (v : Value). IsSomeAnd v (λ b. length b ≡ n + length bytes)) (sym (put_same name (option_map (λ (old : List ℕ). old ++ bytes) (f name)) f)) (more_bytes (f name) n bytes has))

-- bytes were added at a name that is known otherwise
pub has_more : (name model : Name) (n : ℕ) (bytes : List ℕ) (old new : Option Content) → model ≡ name → new ≡ option_map (lengthened model bytes) old → HasLength old name n → HasLength new name (n + length bytes)
has_more name model n bytes old new same is has = subst (λ (m : Name). HasLength new m (n + length bytes)) same (has_more_at model n bytes old new is (subst (λ (m : Name). HasLength old m n) (sym same) has))
