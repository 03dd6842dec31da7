-- The order of findings.
use Rattle.std.proofs.Common.{◌≡◌, ap, sym, subst, refl, ◌∙◌, nat_cmp, ℕ, zero, suc, List, [], ◌∷◌, Ordering, Less, Equal, Greater}
use Rattle.std.specs.Prelude.{true, string_bytes}
use Rattle.std.specs.Ordering.{ordering_then, is_eq}
use Rattle.std.proofs.lemmas.Map.Lookups.{exact_unsigned}
use Rattle.std.proofs.lemmas.Map.Text.{is_eq-slice_cmp}
use Rattle.std.proofs.lemmas.Slice.Eq.{bytes_eq-Decides}
use Rattle.std.specs.List.{AllByRecursion, dedup, Contains}
use Rattle.std.specs.List.Sorted.{IsStrictlySortedBy, IsSorted, IsPermutation}
use Rattle.std.proofs.lemmas.List.Kept.{IsStrictlySortedBy-dedup, Any-dedup, Contains-from_dedup}
use Rattle.std.proofs.lemmas.List.Sorted.{Contains-permutation, IsPermutation-sym}
use Rattle.base_model.specs.Text.{Text, In, text_cmp}
use Rattle.archive_lookup.proofs.Orders.{in_of, contains_of}
use Rattle.cmd_verify.specs.declared.findings.finding.Finding.{Finding}
use Rattle.cmd_verify.specs.declared.findings.finding.FindingKind.{FindingKind}
use Rattle.cmd_verify.specs.declared.findings.finding.FindingKind.TheVariants.{MemberAbsent, MemberBad, MembersDiffer, Absent, Short, Digest, Second, Gap, Reference, Unlike, Contradiction}
use Rattle.cmd_verify.specs.Exact.{finding_cmp, rank, AreAlike}
use Rattle.cmd_verify.specs.contracts.findings.finding.FindingOrd.TheImpl as order
use Rattle.cmd_verify.specs.contracts.findings.finding.FindingOrd.TheImpl.Laws as laws
use Rattle.cmd_verify.specs.contracts.findings.finding.FindingEq.TheImpl.Laws as equal
use Rattle.cmd_verify.specs.contracts.findings.finding.FindingPartialEq.TheImpl as equality
use Rattle.cmd_verify.specs.contracts.findings.finding.FindingKindOrd.TheImpl as kinds

-- the derived order is the one that the definition gives
kind_is : (a b : FindingKind) → kinds.ghosts.cmp a b ≡ nat_cmp (rank a) (rank b)
kind_is MemberAbsent MemberAbsent = refl
kind_is MemberAbsent MemberBad = refl
kind_is MemberAbsent MembersDiffer = refl
kind_is MemberAbsent Absent = refl
kind_is MemberAbsent Short = refl
kind_is MemberAbsent Digest = refl
kind_is MemberAbsent Second = refl
kind_is MemberAbsent Gap = refl
kind_is MemberAbsent Reference = refl
kind_is MemberAbsent Unlike = refl
kind_is MemberAbsent Contradiction = refl
kind_is MemberBad MemberAbsent = refl
kind_is MemberBad MemberBad = refl
kind_is MemberBad MembersDiffer = refl
kind_is MemberBad Absent = refl
kind_is MemberBad Short = refl
kind_is MemberBad Digest = refl
kind_is MemberBad Second = refl
kind_is MemberBad Gap = refl
kind_is MemberBad Reference = refl
kind_is MemberBad Unlike = refl
kind_is MemberBad Contradiction = refl
kind_is MembersDiffer MemberAbsent = refl
kind_is MembersDiffer MemberBad = refl
kind_is MembersDiffer MembersDiffer = refl
kind_is MembersDiffer Absent = refl
kind_is MembersDiffer Short = refl
kind_is MembersDiffer Digest = refl
kind_is MembersDiffer Second = refl
kind_is MembersDiffer Gap = refl
kind_is MembersDiffer Reference = refl
kind_is MembersDiffer Unlike = refl
kind_is MembersDiffer Contradiction = refl
kind_is Absent MemberAbsent = refl
kind_is Absent MemberBad = refl
kind_is Absent MembersDiffer = refl
kind_is Absent Absent = refl
kind_is Absent Short = refl
kind_is Absent Digest = refl
kind_is Absent Second = refl
kind_is Absent Gap = refl
kind_is Absent Reference = refl
kind_is Absent Unlike = refl
kind_is Absent Contradiction = refl
kind_is Short MemberAbsent = refl
kind_is Short MemberBad = refl
kind_is Short MembersDiffer = refl
kind_is Short Absent = refl
kind_is Short Short = refl
kind_is Short Digest = refl
kind_is Short Second = refl
kind_is Short Gap = refl
kind_is Short Reference = refl
kind_is Short Unlike = refl
kind_is Short Contradiction = refl
kind_is Digest MemberAbsent = refl
kind_is Digest MemberBad = refl
kind_is Digest MembersDiffer = refl
kind_is Digest Absent = refl
kind_is Digest Short = refl
kind_is Digest Digest = refl
kind_is Digest Second = refl
kind_is Digest Gap = refl
kind_is Digest Reference = refl
kind_is Digest Unlike = refl
kind_is Digest Contradiction = refl
kind_is Second MemberAbsent = refl
kind_is Second MemberBad = refl
kind_is Second MembersDiffer = refl
kind_is Second Absent = refl
kind_is Second Short = refl
kind_is Second Digest = refl
kind_is Second Second = refl
kind_is Second Gap = refl
kind_is Second Reference = refl
kind_is Second Unlike = refl
kind_is Second Contradiction = refl
kind_is Gap MemberAbsent = refl
kind_is Gap MemberBad = refl
kind_is Gap MembersDiffer = refl
kind_is Gap Absent = refl
kind_is Gap Short = refl
kind_is Gap Digest = refl
kind_is Gap Second = refl
kind_is Gap Gap = refl
kind_is Gap Reference = refl
kind_is Gap Unlike = refl
kind_is Gap Contradiction = refl
kind_is Reference MemberAbsent = refl
kind_is Reference MemberBad = refl
kind_is Reference MembersDiffer = refl
kind_is Reference Absent = refl
kind_is Reference Short = refl
kind_is Reference Digest = refl
kind_is Reference Second = refl
kind_is Reference Gap = refl
kind_is Reference Reference = refl
kind_is Reference Unlike = refl
kind_is Reference Contradiction = refl
kind_is Unlike MemberAbsent = refl
kind_is Unlike MemberBad = refl
kind_is Unlike MembersDiffer = refl
kind_is Unlike Absent = refl
kind_is Unlike Short = refl
kind_is Unlike Digest = refl
kind_is Unlike Second = refl
kind_is Unlike Gap = refl
kind_is Unlike Reference = refl
kind_is Unlike Unlike = refl
kind_is Unlike Contradiction = refl
kind_is Contradiction MemberAbsent = refl
kind_is Contradiction MemberBad = refl
kind_is Contradiction MembersDiffer = refl
kind_is Contradiction Absent = refl
kind_is Contradiction Short = refl
kind_is Contradiction Digest = refl
kind_is Contradiction Second = refl
kind_is Contradiction Gap = refl
kind_is Contradiction Reference = refl
kind_is Contradiction Unlike = refl
kind_is Contradiction Contradiction = refl

finding_is : (x y : Finding) → order.ghosts.cmp x y ≡ finding_cmp x y
finding_is x y = ap (λ o. ordering_then (text_cmp (string_bytes x.name) (string_bytes y.name)) (ordering_then o (text_cmp (string_bytes x.line) (string_bytes y.line)))) (kind_is x.kind y.kind)

all_by : (x : Finding) (ys : List Finding) → AllByRecursion (λ y. order.ghosts.cmp x y ≡ Less) ys → AllByRecursion (λ y. finding_cmp x y ≡ Less) ys
all_by x [] h = h
all_by x (y ∷ ys) h = (sym (finding_is x y) ∙ h.0, all_by x ys h.1)

sorted_by : (xs : List Finding) → IsStrictlySortedBy order.ghosts.cmp xs → IsStrictlySortedBy finding_cmp xs
unfolding IsStrictlySortedBy
sorted_by [] h = h
sorted_by (x ∷ xs) h = (all_by x xs h.0, sorted_by xs h.1)

-- ---- findings that are equal state the same

then_equal : (a b : Ordering) → ordering_then a b ≡ Equal → (a ≡ Equal) × (b ≡ Equal)
then_equal Less b e = cc e
then_equal Equal b e = (refl, e)
then_equal Greater b e = cc e

from : ℕ → FindingKind
from zero = MemberAbsent
from (suc zero) = MemberBad
from (suc (suc zero)) = MembersDiffer
from (suc (suc (suc zero))) = Absent
from (suc (suc (suc (suc zero)))) = Short
from (suc (suc (suc (suc (suc zero))))) = Digest
from (suc (suc (suc (suc (suc (suc zero)))))) = Second
from (suc (suc (suc (suc (suc (suc (suc zero))))))) = Gap
from (suc (suc (suc (suc (suc (suc (suc (suc zero)))))))) = Reference
from (suc (suc (suc (suc (suc (suc (suc (suc (suc zero))))))))) = Unlike
from (suc (suc (suc (suc (suc (suc (suc (suc (suc (suc n)))))))))) = Contradiction

from_rank : (k : FindingKind) → from (rank k) ≡ k
unfolding from
from_rank MemberAbsent = refl
from_rank MemberBad = refl
from_rank MembersDiffer = refl
from_rank Absent = refl
from_rank Short = refl
from_rank Digest = refl
from_rank Second = refl
from_rank Gap = refl
from_rank Reference = refl
from_rank Unlike = refl
from_rank Contradiction = refl

same_text : (a b : Text) → text_cmp a b ≡ Equal → a ≡ b
same_text a b e = (bytes_eq-Decides a b).0 (sym (is_eq-slice_cmp a b) ∙ ap is_eq e)

alike_by : (x y : Finding) → finding_cmp x y ≡ Equal → AreAlike x y
alike_by x y e =
    let outer = then_equal (text_cmp (string_bytes x.name) (string_bytes y.name)) (ordering_then (nat_cmp (rank x.kind) (rank y.kind)) (text_cmp (string_bytes x.line) (string_bytes y.line))) e in
    let inner = then_equal (nat_cmp (rank x.kind) (rank y.kind)) (text_cmp (string_bytes x.line) (string_bytes y.line)) outer.1 in
    record {
      name = same_text (string_bytes x.name) (string_bytes y.name) outer.0;
      kind = sym (from_rank x.kind) ∙ ap from (exact_unsigned (rank x.kind) (rank y.kind) inner.0) ∙ from_rank y.kind;
      line = same_text (string_bytes x.line) (string_bytes y.line) inner.1;
    }

equal_by : (o : Ordering) → is_eq o ≡ true → o ≡ Equal
equal_by Less e = cc e
equal_by Equal e = refl
equal_by Greater e = cc e

alike : (x y : Finding) → equality.ghosts.eq x y ≡ true → AreAlike x y
alike x y e = alike_by x y (sym (finding_is x y) ∙ equal_by (order.ghosts.cmp x y) (sym (laws.matches_eq-law x y) ∙ e))

-- ---- a list that was sorted and rid of the equal ones

module _ (old sorted new : List Finding) (moved : IsPermutation old sorted) (order_is : IsSorted order.ghosts.cmp sorted) (new_is : new ≡ dedup equality.ghosts.eq sorted) where
  pub strict : IsStrictlySortedBy finding_cmp new
  strict = sorted_by new (subst (λ (xs : List Finding). IsStrictlySortedBy order.ghosts.cmp xs) (sym new_is) (IsStrictlySortedBy-dedup laws.total-law laws.matches_eq-law sorted order_is))

  pub each_was : (x : Finding) → In x new → In x old
  each_was x at =
      let here : Contains (dedup equality.ghosts.eq sorted) x = contains_of (dedup equality.ghosts.eq sorted) x (subst (λ (xs : List Finding). In x xs) new_is at) in
      in_of old x (Contains-permutation sorted old x (IsPermutation-sym old sorted moved) (Contains-from_dedup equality.ghosts.eq sorted x here))

  pub all_are : (x : Finding) → In x old → (y : Finding) × In y new × AreAlike x y
  all_are x at =
      let there : Contains sorted x = Contains-permutation old sorted x moved (contains_of old x at) in
      let k = Any-dedup {E = equality.ghosts.eq} equal.laws-law sorted x there in
      (k.1, subst (λ (xs : List Finding). In k.1 xs) (sym new_is) (in_of (dedup equality.ghosts.eq sorted) k.1 (k.0, k.2, k.3)), alike x k.1 k.4)
