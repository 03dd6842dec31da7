-- One write more.
use Rattle.std.proofs.Common.{◌≡◌, ℕ, ◌+◌, ◌++◌, take, drop, Option, Some, None, option_map, refl, sym, ap, ◌∙◌, append_assoc}
use Rattle.std.proofs.Math.Seq.{take-add}
use Rattle.base_model.specs.Text.{Text}

abbrev pub more : Text → Option Text → Option Text
more added = option_map (λ (text : Text). text ++ added)

twice : (old : Option Text) (a b : Text) → more b (more a old) ≡ more (a ++ b) old
twice None a b = refl
twice (Some t) a b = ap (λ (x : Text). Some x) (append_assoc t a b)

pub more_written : (old mid new : Option Text) (bytes : Text) (at n next : ℕ) → mid ≡ more (take at bytes) old → new ≡ more (take n (drop at bytes)) mid → next ≡ at + n → new ≡ more (take next bytes) old
more_written old mid new bytes at n next first then is =
    then ∙ ap (more (take n (drop at bytes))) first ∙ twice old (take at bytes) (take n (drop at bytes)) ∙ ap (λ (t : Text). more t old) (sym (take-add at n bytes)) ∙ ap (λ (k : ℕ). more (take k bytes) old) (sym is)
