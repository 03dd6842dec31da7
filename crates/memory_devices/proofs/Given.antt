-- The names that a disk starts with, one after another.
use Rattle.std.proofs.Common.{◌≡◌, ℕ, ◌+◌, ◌<◌, List, length, take, get_or, String, Vec, Some, string_bytes, sym, ◌∙◌, ap}
use Rattle.std.specs.declared.alloc.Global.{Global}
use Rattle.std.proofs.lemmas.List.Sums.{fold_more}
use Rattle.base_devices.specs.Content.{Name, Content, put}
use Rattle.memory_devices.specs.State.{given_at}

abbrev pub Given : Type 0
Given = String Global × Vec ℕ Global

-- the next of them is put where the earlier ones are
pub given_more : (given : List Given) (i : ℕ) (x : Given) (old new : Content) (name : Name) (bytes : List ℕ) → i < length given → x ≡ get_or given i x → name ≡ string_bytes x.0 → bytes ≡ x.1.items
    → new ≡ put name (Some bytes) old → old ≡ given_at (take i given) → new ≡ given_at (take (i + 1) given)
given_more given i x old new name bytes within is called value puts so_far =
    puts
    ∙ ap (λ (n : Name). put n (Some bytes) old) called
    ∙ ap (λ (b : List ℕ). put (string_bytes x.0) (Some b) old) value
    ∙ ap (λ (f : Content). put (string_bytes x.0) (Some x.1.items) f) so_far
    ∙ ap (λ (y : Given). put (string_bytes y.0) (Some y.1.items) (given_at (take i given))) is
    ∙ sym (fold_more (λ (f : Content) (y : Given). put (string_bytes y.0) (Some y.1.items) f) _ given i x within)
