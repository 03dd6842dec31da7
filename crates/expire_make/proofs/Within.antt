-- The segments of a backup that is left are needed.
use Rattle.std.proofs.Common.{◌≡◌, ◌⊎◌, inl, inr, ℕ, ◌+◌, ◌*◌, ◌<◌, ◌≤◌, Bool, true, false, List, [], ◌∷◌, Ordering, Option, Some, refl, ap, ◌∙◌, sym, subst, arith}
use Rattle.std.specs.Prelude.{nat_eq, not, ◌||◌}
use Rattle.std.specs.Option.{option_map_or}
use Rattle.std.specs.Ordering.{nat_cmp, match_ordering, ordering_then}
use Rattle.std.proofs.lemmas.Bool.{cases_lt, or_right, and_from, eq-eqb, or_left}
use Rattle.std.proofs.lemmas.Bool.Decides.{nat_tests}
use Rattle.std.proofs.lemmas.Nat.{mul-le}
use Rattle.base_devices.specs.Order.{is_before}
use Rattle.base_model.specs.declared.wal.Segment.{Segment}
use Rattle.base_model.specs.declared.wal.Span.{Span}
use Rattle.base_model.specs.declared.wal.WalPart.{WalPart}
use Rattle.base_model.specs.declared.wal.ArchiveName.TheVariants.{Segment as Whole}
use Rattle.base_model.specs.Text.{In}
use Rattle.base_model.specs.Names.{segment_text}
use Rattle.base_model.specs.InfoFiles.{IsSegment}
use Rattle.base_model.specs.ManifestText.{position, segments_per_log, IsWalPart}
use Rattle.base_model.specs.Repository.{IsWithinSpan}
use Rattle.base_model.specs.Values.{Entry}
use Rattle.repo_names.proofs.Compared.{text_cmp-segment_text}
use Rattle.expire_rules.specs.declared.rules.Rules.{Rules}
use Rattle.expire_rules.specs.Condemned.{has_some}
use Rattle.expire_rules.specs.Needed.{of_cluster, spans_of, span_list, keeping_of, keeps_file, is_at_or_after, is_within}
use Rattle.expire_rules.proofs.Lists.{filter_in, in_left, in_right}

-- a position states the order, on one timeline
by_position : (size : ℕ) (a b : Segment) → a.seg < segments_per_log size → b.seg < segments_per_log size → position size a ≤ position size b → (a.log < b.log) ⊎ ((a.log ≡ b.log) × (a.seg ≤ b.seg))
by_position size a b low high le = elim (cases_lt a.log b.log) [
  | inl less ↦ inl less
  | inr not_less ↦ elim (cases_lt b.log a.log) [
    | inl more ↦
        let per = segments_per_log size in
        let grown = mul-le (b.log + 1) per a.log per (omega (arith, more)) (omega arith) in
        let step : (b.log + 1) * per ≡ b.log * per + per = omega arith in
        absurd (omega (arith, grown, step, le, low, high))
    | inr not_more ↦
        let same : a.log ≡ b.log = omega (arith, not_less, not_more) in
        let product : a.log * segments_per_log size ≡ b.log * segments_per_log size = ap (λ n. n * segments_per_log size) same in
        inr (same, omega (arith, le, product))
  ]
]

in_order : (t l m x y : ℕ) → (l < m) ⊎ ((l ≡ m) × (x ≤ y)) → match_ordering (ordering_then (ordering_then (nat_cmp t t) (nat_cmp m l)) (nat_cmp y x)) true false false ≡ false
in_order t l m x y (inl less) = grind (arith, nat_tests)
in_order t l m x y (inr h) = let same = h.0 in let le = h.1 in grind (arith, nat_tests)

-- the order of the texts
at_or_after : (a b : Segment) → IsSegment a → IsSegment b → a.timeline ≡ b.timeline → (a.log < b.log) ⊎ ((a.log ≡ b.log) × (a.seg ≤ b.seg)) → is_at_or_after a b ≡ true
at_or_after a b p q same order =
    let texts = text_cmp-segment_text b a q.timeline p.timeline q.log p.log q.seg p.seg in
    let before : is_before (segment_text b) (segment_text a) ≡ false =
    ap (λ (o : Ordering). match_ordering o true false false) texts
    ∙ ap (λ (t : ℕ). match_ordering (ordering_then (ordering_then (nat_cmp b.timeline t) (nat_cmp b.log a.log)) (nat_cmp b.seg a.seg)) true false false) same
    ∙ in_order b.timeline a.log b.log a.seg b.seg order in
    ap not before

pub within_span : (w : WalPart) (s : Segment) → IsWalPart w → IsSegment s → IsWithinSpan w.size.0 w.span s → is_within s w.span ≡ true
within_span w s part fits within =
    let (timeline, low, from, to) = within in
    and_from (is_at_or_after w.span.start s) (is_at_or_after s w.span.stop)
    (at_or_after w.span.start s part.start.0 fits (sym timeline) (by_position w.size.0 w.span.start s part.start.1 low from))
    (at_or_after s w.span.stop fits part.stop.0 (timeline ∙ part.timeline) (by_position w.size.0 s w.span.stop low part.stop.1 to))

-- ---- the spans of listed backups

span_in : (e : Entry) (w : Span) (es : List Entry) → In e es → e.span ≡ Some w → In w (spans_of es)
span_in e w [] at is = absurd at
span_in e w (x ∷ es) (inl same) is = in_left w (span_list x.span) (spans_of es) (subst (λ (o : Option Span). In w (span_list o)) (sym is ∙ ap (λ (y : Entry). y.span) same) (inl refl))
span_in e w (x ∷ es) (inr i) is = in_right w (span_list x.span) (spans_of es) (span_in e w es i is)

some_in : {X : Type 0} (passes : X → Bool) (x : X) (xs : List X) → In x xs → passes x ≡ true → has_some passes xs ≡ true
some_in passes x [] at h = absurd at
some_in passes x (y ∷ ys) (inl same) h = or_left (passes y) (has_some passes ys) (ap passes (sym same) ∙ h)
some_in passes x (y ∷ ys) (inr i) h = or_right (passes y) (has_some passes ys) (some_in passes x ys i h)

-- a segment within the span of a listed backup of the cluster is kept
pub span_kept : (rules : Rules) (current : ℕ) (es : List Entry) (e : Entry) (w : Span) (s : Segment) → In e es → e.span ≡ Some w → is_within s w ≡ true → keeps_file (keeping_of rules current es e.db) (Whole s) ≡ true
span_kept rules current es e w s at is within =
    let k = keeping_of rules current es e.db in
    let own : In e (of_cluster e.db es) = filter_in (λ (x : Entry). nat_eq x.db e.db) e es at (eq-eqb e.db e.db refl) in
    let some : has_some (is_within s) k.spans ≡ true = some_in (is_within s) w k.spans (span_in e w (of_cluster e.db es) own is) within in
    or_right k.all (option_map_or (λ (f : Segment). is_at_or_after f s) k.from false || has_some (is_within s) k.spans) (or_right (option_map_or (λ (f : Segment). is_at_or_after f s) k.from false) (has_some (is_within s) k.spans) some)
