-- A keeper that has nothing agrees with every disk, and holds nothing.
use Rattle.std.proofs.Common.{◌≡◌, ◌<◌, ℕ, zero, suc, List, [], ◌∷◌, Option, Some, sym, ◌∙◌, subst, slice_get, length, arith}
use Rattle.std.specs.Prelude.{All, IsSomeAnd}
use Rattle.std.proofs.lemmas.List.Elements.{All-head, All-tail}
use Rattle.base_devices.specs.Content.{Name, Content, at}
use Rattle.worker_protocol.specs.PartSinkState.{IsFresh}
use Rattle.backup_sink.specs.Keeping.{Progress, keeps, kept_of, Agrees, IsKept, nothing}
use Rattle.backup_sink.proofs.JobItems.{again_kept, again_here}

nothing_at : (ps : List Progress) (j : ℕ) (p : Progress) → All (λ q. q ≡ nothing) ps → slice_get ps j ≡ Some p → nothing ≡ p
nothing_at [] j p all e = cc
nothing_at (q ∷ ps) zero p all e =
    let same : ◌≡◌ {A = Option Progress} (Some q) (Some p) = e in
    let one : q ≡ p = cc in
    sym (All-head (λ (q : Progress). q ≡ nothing) q ps all) ∙ one
nothing_at (q ∷ ps) (suc j) p all e = nothing_at ps j p (All-tail (λ (q : Progress). q ≡ nothing) q ps all) e

pub fresh_agrees : (names : List Name) (ps : List Progress) (now : Option Content) → All (λ p. p ≡ nothing) ps → Agrees names ps now
fresh_agrees names ps now all j n p is was = subst (λ (q : Progress). IsKept q (at n now)) (nothing_at ps j p all was) (again_kept (at n now))

pub fresh_keeps : (names : List Name) (ps : List Progress) (now : Option Content) (j : ℕ) → All (λ p. p ≡ nothing) ps → length ps ≡ length names → j < length names
    → IsSomeAnd (slice_get (keeps names ps now) j) IsFresh
fresh_keeps [] ps now j all e lt = absurd (omega (arith, lt))
fresh_keeps (n ∷ names) [] now j all e lt = absurd (omega (arith, e))
fresh_keeps (n ∷ names) (p ∷ ps) now zero all e lt = subst (λ (q : Progress). IsFresh (kept_of q (at n now))) (sym (All-head (λ (q : Progress). q ≡ nothing) p ps all)) (again_here (at n now))
fresh_keeps (n ∷ names) (p ∷ ps) now (suc j) all e lt = fresh_keeps names ps now j (All-tail (λ (q : Progress). q ≡ nothing) p ps all) (omega (arith, e)) (omega (arith, lt))
