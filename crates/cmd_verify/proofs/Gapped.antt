-- The segments that a span needs, one after the other.
use Rattle.std.proofs.Common.{◌≡◌, ◌≢◌, ◌↔◌, ◌⊎◌, ⊎_elim, inl, inr, ℕ, ◌+◌, ◌<◌, ◌≤◌, List, [], ◌∷◌, ◌++◌, length, take, get_or, refl, sym, ap, ◌∙◌, subst, arith}
use Rattle.std.proofs.lemmas.Bool.{cases_lt}
use Rattle.std.proofs.lemmas.List.{take_more}
use Rattle.base_model.specs.declared.wal.Segment.{Segment}
use Rattle.base_model.specs.declared.wal.Span.{Span}
use Rattle.base_model.specs.declared.wal.ArchiveId.{ArchiveId}
use Rattle.base_model.specs.declared.wal.ArchiveName.{ArchiveName}
use Rattle.base_model.specs.declared.wal.ArchiveName.TheVariants.{Segment as Whole}
use Rattle.archive_lookup.specs.declared.stored.files.Stored.{Stored}
use Rattle.base_model.specs.Text.{Text, In}
use Rattle.base_model.specs.ManifestText.{position}
use Rattle.base_model.specs.Repository.{IsWithinSpan}
use Rattle.base_model.proofs.Pushed.{in_left, in_either}
use Rattle.repo_names.specs.Next.{IsOfLog}
use Rattle.repo_names.proofs.Follows.{same_place}
use Rattle.cmd_verify.specs.declared.findings.finding.Finding.{Finding}
use Rattle.cmd_verify.specs.What.{What, Shows, MemberAbsent, MemberBad, MembersDiffer, Absent, Short, Digest, Second, Gap, Reference, Unlike, Contradicts}
use Rattle.cmd_verify.specs.Adding.{Adds}
use Rattle.cmd_verify.specs.Gaps.{IsNear, IsWhole, HasWhole, IsGap, GapsBelow, Gaps}
use Rattle.cmd_verify.proofs.Adding.{in_right, Either, adds_one, adds_none, adds_as, adds_on}

module _ (at : Text) (stored : List Segment) where
  only : (s : Segment) (n : Text) (w : What) → IsGap at stored s n w → (n ≡ at) × (w ≡ Gap s) × ¬ In s stored
  only s n (Gap t) d = (d.0, ap Gap d.1, d.2)
  only s n MemberAbsent d = absurd d
  only s n MemberBad d = absurd d
  only s n MembersDiffer d = absurd d
  only s n Absent d = absurd d
  only s n (Short t k) d = absurd d
  only s n (Digest t k) d = absurd d
  only s n (Second t) d = absurd d
  only s n (Reference l) d = absurd d
  only s n Unlike d = absurd d
  only s n (Contradicts t) d = absurd d

  pub gap_known : (s : Segment) (a b : List Finding) (x : Finding) → ¬ In s stored → Shows x at (Gap s) → b ≡ a ++ x ∷ [] → Adds (IsGap at stored s) a b
  gap_known s a b x none shows grown = subst (λ (c : List Finding). Adds (IsGap at stored s) a c) (sym grown)
      (adds_one (IsGap at stored s) a x at (Gap s) (refl, refl, none) shows (λ n w d. let o = only s n w d in (o.0, o.1)))

  pub gap_none : (s : Segment) (a : List Finding) → In s stored → Adds (IsGap at stored s) a a
  gap_none s a there = adds_none (IsGap at stored s) a (λ n w d. (only s n w d).2 there)

  module _ (size : ℕ) (span : Span) where
    below : (k : ℕ) (n : Text) (w : What) → GapsBelow at stored size span k n w → (s : Segment) × (w ≡ Gap s) × (n ≡ at) × IsWithinSpan size span s × (position size s < k) × ¬ In s stored
    below k n (Gap s) d = (s, refl, d.0, d.1, d.2, d.3)
    below k n MemberAbsent d = absurd d
    below k n MemberBad d = absurd d
    below k n MembersDiffer d = absurd d
    below k n Absent d = absurd d
    below k n (Short t j) d = absurd d
    below k n (Digest t j) d = absurd d
    below k n (Second t) d = absurd d
    below k n (Reference l) d = absurd d
    below k n Unlike d = absurd d
    below k n (Contradicts t) d = absurd d

    whole : (n : Text) (w : What) → Gaps at stored size span n w → (s : Segment) × (w ≡ Gap s) × (n ≡ at) × IsWithinSpan size span s × ¬ In s stored
    whole n (Gap s) d = (s, refl, d.0, d.1, d.2)
    whole n MemberAbsent d = absurd d
    whole n MemberBad d = absurd d
    whole n MembersDiffer d = absurd d
    whole n Absent d = absurd d
    whole n (Short t j) d = absurd d
    whole n (Digest t j) d = absurd d
    whole n (Second t) d = absurd d
    whole n (Reference l) d = absurd d
    whole n Unlike d = absurd d
    whole n (Contradicts t) d = absurd d

    pub below_none : (a : List Finding) → Adds (GapsBelow at stored size span (position size span.start)) a a
    below_none a = adds_none (GapsBelow at stored size span (position size span.start)) a (λ n w d. let g = below (position size span.start) n w d in let lt = g.4 in let le = g.3.2 in omega (arith, lt, le))

    -- a segment of the span at the place of another is the other
    one : (s t : Segment) → IsOfLog size s → s.timeline ≡ span.start.timeline → IsWithinSpan size span t → position size t ≡ position size s → t ≡ s
    one s t of_log timeline within place = same_place size t s within.1 of_log (within.0 ∙ sym timeline) place

    module _ (s : Segment) (of_log : IsOfLog size s) (timeline : s.timeline ≡ span.start.timeline) (low : position size span.start ≤ position size s) (high : position size s ≤ position size span.stop) where
      here : IsWithinSpan size span s
      here = (timeline, of_log, low, high)

      to : (k : ℕ) → k ≡ position size s + 1 → (n : Text) (w : What) → Either (GapsBelow at stored size span (position size s)) (IsGap at stored s) n w → GapsBelow at stored size span k n w
      to k is n w (inl d) = let g = below (position size s) n w d in let lt = g.4 in subst (λ (u : What). GapsBelow at stored size span k n u) (sym g.1) (g.2, g.3, (let r : position size g.0 < k = omega (arith, is, lt) in r), g.5)
      to k is n w (inr d) = let o = only s n w d in subst (λ (u : What). GapsBelow at stored size span k n u) (sym o.1) (o.0, here, (let r : position size s < k = omega (arith, is) in r), o.2)

      back : (k : ℕ) → k ≡ position size s + 1 → (n : Text) (w : What) → GapsBelow at stored size span k n w → Either (GapsBelow at stored size span (position size s)) (IsGap at stored s) n w
      back k is n w d =
          let g = below k n w d in
          let lt = g.4 in
          ⊎_elim (λ (less : position size g.0 < position size s). inl (subst (λ (u : What). GapsBelow at stored size span (position size s) n u) (sym g.1) (g.2, g.3, less, g.5)))
          (λ (not_less : position size s ≤ position size g.0).
          let place : position size g.0 ≡ position size s = omega (arith, is, lt, not_less) in
          let same = one s g.0 of_log timeline g.3 place in
          inr (subst (λ (u : What). IsGap at stored s n u) (sym g.1) (g.2, same, subst (λ (t : Segment). ¬ In t stored) same g.5)))
          (cases_lt (position size g.0) (position size s))

      pub below_next : (k : ℕ) → k ≡ position size s + 1 → (a b c : List Finding) → Adds (GapsBelow at stored size span (position size s)) a b → Adds (IsGap at stored s) b c → Adds (GapsBelow at stored size span k) a c
      below_next k is a b c p q = adds_as _ (GapsBelow at stored size span k) a c (to k is) (back k is) (adds_on (GapsBelow at stored size span (position size s)) (IsGap at stored s) a b c p q)

      -- before the last there is a next
      pub lower : IsOfLog size span.stop → span.start.timeline ≡ span.stop.timeline → s ≢ span.stop → position size s < position size span.stop
      lower stop_log same apart = ⊎_elim (λ (less : position size s < position size span.stop). less)
          (λ (le : position size span.stop ≤ position size s). absurd (apart (same_place size s span.stop of_log stop_log (timeline ∙ same) (omega (arith, high, le)))))
          (cases_lt (position size s) (position size span.stop))

    pub below_all : (k : ℕ) → k ≡ position size span.stop + 1 → (a b : List Finding) → Adds (GapsBelow at stored size span k) a b → Adds (Gaps at stored size span) a b
    below_all k is a b p = adds_as (GapsBelow at stored size span k) (Gaps at stored size span) a b
        (λ n w d. let g = below k n w d in subst (λ (u : What). Gaps at stored size span n u) (sym g.1) (g.2, g.3, g.5))
        (λ n w d. let g = whole n w d in let le = g.3.3 in subst (λ (u : What). GapsBelow at stored size span k n u) (sym g.1) (g.2, g.3, (let r : position size g.0 < k = omega (arith, is, le) in r), g.4)) p

same_whole : (s x : Segment) → ◌≡◌ {A = ArchiveName} (Whole s) (Whole x) → s ≡ x
same_whole s x e = cc e

pub segment_more : (old new : List Segment) (x : Segment) (file : Stored) (id : ArchiveId) (span : Span) → new ≡ old ++ x ∷ [] → file.name ≡ Whole x → file.id ≡ id → IsNear span x
    → (s : Segment) → In s new ↔ (In s old ⊎ IsWhole id span file s)
segment_more old new x file id span grown name same near s = (
  λ at. ⊎_elim (λ k. inl k) (λ e. inr (same, name ∙ ap (λ (t : Segment). Whole t) (sym e), subst (IsNear span) (sym e) near)) (in_either s x old (subst (λ (ys : List Segment). In s ys) grown at)),
  λ h. subst (λ (ys : List Segment). In s ys) (sym grown) (⊎_elim (in_left s old (x ∷ [])) (λ k. in_right s old (x ∷ []) (inl (same_whole s x (sym k.1 ∙ name)))) h),
)

pub file_more : (id : ArchiveId) (span : Span) (xs : List Stored) (i : ℕ) (x : Stored) (old new : List Segment) → i < length xs → x ≡ get_or xs i x → ((s : Segment) → In s old ↔ HasWhole id span (take i xs) s)
    → ((s : Segment) → In s new ↔ (In s old ⊎ IsWhole id span x s)) → (s : Segment) → In s new ↔ HasWhole id span (take (i + 1) xs) s
file_more id span xs i x old new lt is p q s =
    let more : take i xs ++ x ∷ [] ≡ take (i + 1) xs = ap (λ (z : Stored). take i xs ++ z ∷ []) is ∙ sym (take_more xs i x lt) in
    subst (λ (fs : List Stored). In s new ↔ HasWhole id span fs s) more (
      λ at. ⊎_elim (λ k. let r = (p s).0 k in (r.0, in_left r.0 (take i xs) (x ∷ []) r.1, r.2)) (λ e. (x, in_right x (take i xs) (x ∷ []) (inl refl), e)) ((q s).0 at),
      λ r. (q s).1 (⊎_elim (λ k. inl ((p s).1 (r.0, k, r.2))) (λ e. inr (subst (λ (z : Stored). IsWhole id span z s) e r.2)) (in_either r.0 x (take i xs) r.1)),
    )
