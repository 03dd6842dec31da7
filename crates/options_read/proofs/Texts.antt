-- What std's cuts of a text give, as functions of the text.
use Rattle.std.proofs.Common.{◌≡◌, ℕ, true, false, List, Option, Some, None, option_map, refl, sym, subst}
use Rattle.std.specs.Borrow.{Bor}
use Rattle.std.specs.Option.{MatchOption}
use Rattle.std.specs.Str.{IsCharBoundary}
use Rattle.std.specs.Str.Pattern.{FindsTextPrefix, StripsPrefix}
use Rattle.std.proofs.lemmas.Str.Pattern.{starts_text}
use Rattle.options_read.specs.Words.{after_prefix}

pub after_of : (n s : List ℕ) (r : Option (Bor (List ℕ))) → MatchOption r (FindsTextPrefix n s None) (λ x. StripsPrefix (FindsTextPrefix n) s x.now) → option_map (λ x. x.now) r ≡ after_prefix n s
after_of n s None h = let e = starts_text false n s h in rw (← e) refl
after_of n s (Some x) (k, found, cut, len) =
    let at : IsCharBoundary s k = subst (λ m. IsCharBoundary s m) (sym found.0) found.2 in
    let e = starts_text true n s (k, found, at) in
    rw (← e, cut, found.0) refl
