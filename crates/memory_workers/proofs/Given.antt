-- The bytes that were given.
use Rattle.std.proofs.Common.{ℕ, ◌≡◌, ◌+◌, List, ◌++◌, take, drop, ap, sym, ◌∙◌}
use Rattle.std.proofs.Math.Seq.{take-add}
use Rattle.std.proofs.lemmas.List.{drop-drop}
use Rattle.base_devices.specs.Links.{last_five}
use Rattle.worker_protocol.proofs.Prefixes.{five_joins}
use Rattle.memory_workers.specs.Tapes.{Given, tape_of, given_more}

pub tape_more : (bytes : List ℕ) (at n : ℕ) → tape_of bytes (at + n) ≡ given_more n (tape_of bytes at)
tape_more bytes at n = ap (λ g. given_as g (drop (at + n) bytes)) (take-add at n bytes) ∙ ap (given_as (take at bytes ++ take n (drop at bytes))) (sym (drop-drop n at bytes))
  where
    given_as : List ℕ → List ℕ → Given
    given_as g r = record { given = g; rest = r }

pub five_more : (old new : Given) (got : List ℕ) (n : ℕ) → got ≡ take n old.rest → new ≡ given_more n old → last_five new.given ≡ last_five (last_five old.given ++ got)
five_more old new got n e is = ap (λ g. last_five g.given) is ∙ ap (λ g. last_five (old.given ++ g)) (sym e) ∙ sym (five_joins old.given got)
