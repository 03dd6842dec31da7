-- What the first bytes of a segment say about all of them.
use Rattle.std.proofs.Common.{◌≡◌, ◌⊎◌, inl, inr, ℕ, ◌+◌, ◌-◌, ◌<◌, ◌≤◌, length, take, drop, refl, sym, ap, ◌∙◌, subst, arith}
use Rattle.std.specs.Int.{IsBitSet}
use Rattle.std.proofs.lemmas.Bool.{cases_lt}
use Rattle.std.proofs.lemmas.Bool.Decides.{nat_tests}
use Rattle.std.proofs.lemmas.List.{take-take, drop-take}
use Rattle.base_model.specs.Text.{Text, little_endian}
use Rattle.repo_names.specs.Header.{BeginsWith, HasLongHeader, number_at, page_info, known_file_size}

-- what lies within the prefix is given by it
part_same : (prefix bytes : Text) (place count : ℕ) → take (length prefix) bytes ≡ prefix → place + count ≤ length prefix → take count (drop place bytes) ≡ take count (drop place prefix)
part_same prefix bytes place count is within =
    let more = length prefix - place in
    let ends : place + more ≡ length prefix = omega (arith, within) in
    sym (take-take count more (drop place bytes) (omega (arith, within)))
    ∙ ap (take count) (sym (drop-take place more bytes) ∙ ap (λ n. drop place (take n bytes)) ends ∙ ap (drop place) is)

pub number_same : (prefix bytes : Text) (count : ℕ) → BeginsWith prefix count bytes → (place size : ℕ) → place + size ≤ length prefix → number_at place size bytes ≡ number_at place size prefix
number_same prefix bytes count begins place size within = ap little_endian (part_same prefix bytes place size begins.prefix within)

-- the flags too, where the prefix is long or all
pub info_same : (prefix bytes : Text) (count : ℕ) → BeginsWith prefix count bytes → (40 ≤ length prefix) ⊎ (length prefix ≡ count) → length prefix ≤ count → page_info bytes ≡ page_info prefix
info_same prefix bytes count begins long within = elim (cases_lt (length prefix) 4) [
  | inl few ↦ let short : length bytes < 4 = grind (arith, begins.whole, few, long) in grind (arith, nat_tests)
  | inr enough ↦ let same = number_same prefix bytes count begins 2 2 enough in let long' : 4 ≤ length bytes = omega (arith, begins.whole, enough, within) in grind (arith, nat_tests, same)
]

-- a long header, and the size that it states
pub header_same : (prefix bytes : Text) (count : ℕ) → (40 ≤ length prefix) ⊎ (length prefix ≡ count) → length prefix ≤ count → BeginsWith prefix count bytes
    → (info known : ℕ) → info ≡ page_info prefix → known ≡ number_at 32 4 prefix → 40 ≤ count → IsBitSet info 1 → HasLongHeader bytes × (known ≡ known_file_size bytes)
header_same prefix bytes count long within begins info known info_is known_fact_is enough set = (
  (omega (arith, begins.whole, enough), subst (λ n. IsBitSet n 1) (info_is ∙ sym (info_same prefix bytes count begins long within)) set),
  known_fact_is ∙ sym (number_same prefix bytes count begins 32 4 (omega (arith, long, enough))),
)
