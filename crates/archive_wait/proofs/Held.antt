-- From what a look shows to segments that are held, and from one look to the next.
use Rattle.std.proofs.Common.{◌≡◌, ◌⊎◌, ⊎_elim, ℕ, ◌+◌, ◌*◌, ◌^◌, ◌<◌, Option, Some, None, refl, sym, subst, ◌∙◌, arith}
use Rattle.std.specs.Prelude.{IfSome, IsSome}
use Rattle.std.proofs.lemmas.Nat.{mul-add-lt}
use Rattle.base_text.specs.Sum.{IsSum}
use Rattle.base_devices.specs.Content.{Content}
use Rattle.base_devices.specs.Crash.{IsAlikeAt}
use Rattle.base_devices.specs.Moments.{View, LeavesNoMore}
use Rattle.base_devices.proofs.Nows.{known_as}
use Rattle.base_model.specs.declared.wal.ArchiveId.{ArchiveId}
use Rattle.base_model.specs.declared.wal.ArchiveName.TheVariants.{Segment as Whole}
use Rattle.base_model.specs.declared.wal.Segment.{Segment}
use Rattle.base_model.specs.declared.wal.WalPart.{WalPart}
use Rattle.base_model.specs.ManifestText.{position}
use Rattle.base_model.specs.Repository.{Archived, Stanza, IsWithinSpan}
use Rattle.base_model.specs.Represents.{HasStanza, IsArchivePlace}
use Rattle.base_model.specs.Text.{Text, In}
use Rattle.base_model.specs.Walks.{IsSynced}
use Rattle.base_model.proofs.Begun.{old_leaves}
use Rattle.base_model.proofs.Pushed.{at_known}
use Rattle.base_model.proofs.Walking.{rests_synced}
use Rattle.archive_lookup.specs.declared.stored.files.Stored.{Stored}
use Rattle.archive_lookup.specs.Stored.{archive_path, StoresNone, StoresOnly, Finds}
use Rattle.archive_store.specs.Pushes.{IsPathOf}
use Rattle.archive_store.proofs.AlikeFiles.{alike_only}
use Rattle.archive_store.proofs.Got.{same_place}
use Rattle.repo_names.proofs.Follows.{same_place as same_segment}
use Rattle.archive_wait.specs.Stored.{HoldsSegment, HoldsBefore, HoldsPart, IsFirstMissing, Lasts}

-- ---- one segment

some_text : (o : Option Text) → IsSome o → (x : Text) × (o ≡ Some x)
some_text None some = cc
some_text (Some x) some = (x, refl)

module _ (stanza : Text) (id : ArchiveId) (segment : Segment)
    (place : (sum : Text) → IsSum sum → IsArchivePlace id (Whole segment) sum) where
  holds : (f : Content) (sum : Text) → StoresOnly stanza id (Whole segment) f sum → HoldsSegment stanza id f segment
  holds f sum only = record { sum = sum; stored = only; archived = archived }
    where
      archived : (s : Stanza) → HasStanza stanza f s →
          (a : Archived) × In a s.archived × (a.id ≡ id) × (a.name ≡ Whole segment)
      archived s h =
          let path = archive_path stanza id (Whole segment) sum in
          let text = some_text (f path) only.stored.1 in
          let x = (h.archived path text.0 (record { id = id; file = Whole segment; sum = sum; fits = place sum only.stored.0; is = refl })).0 text.1 in
          let same = same_place stanza id (Whole segment) place x.0 sum only.stored.0 (h.named x.0 x.1) x.2 in
          (x.0, x.1, same.0, same.1)

  -- it was found, and all that is left is alike there
  pub found_lasts : (old new : View) (file : Stored) → new.now ≡ old.now →
      IfSome old.now (λ f. Finds stanza id (Whole segment) f (Some file)) →
      (IsSynced stanza old → IsSome old.now → IsAlikeAt (IsPathOf stanza id (Whole segment)) new) →
      Lasts stanza (λ f. HoldsSegment stanza id f segment) old new
  found_lasts old new file same finds alike = record {
    now = subst (λ (o : Option Content). IfSome o (λ f. HoldsSegment stanza id f segment)) (sym same) (by old.now finds);
    left = λ synced known f leaves.
        let f0 = known_as old.now known in
        let found = at_known (λ f. Finds stanza id (Whole segment) f (Some file)) old.now f0.0 f0.1 finds in
        holds f found.3.0 (alike_only stanza id (Whole segment) f0.0 f (alike synced known f0.0 f (same ∙ f0.1) leaves)
        found.3.0 found.3.1);
  }
    where
      by : (o : Option Content) → IfSome o (λ f. Finds stanza id (Whole segment) f (Some file)) →
          IfSome o (λ f. HoldsSegment stanza id f segment)
      by None finds = tt
      by (Some f) finds = holds f finds.3.0 finds.3.1

-- ---- one look after another

if_both : (P Q R : Content → Type 0) → ((f : Content) → P f → Q f → R f) → (o : Option Content) →
    IfSome o P → IfSome o Q → IfSome o R
if_both P Q R both None p q = tt
if_both P Q R both (Some f) p q = both f p q

pub lasts_on : (stanza : Text) (P Q R : Content → Type 0) → ((f : Content) → P f → Q f → R f) → (a b c : View) →
    LeavesNoMore a b → b.now ≡ a.now → LeavesNoMore b c → c.now ≡ b.now → Lasts stanza P a b → Lasts stanza Q b c → Lasts stanza R a c
lasts_on stanza P Q R both a b c first first_same second same p q = record {
  now = if_both P Q R both c.now (subst (λ (o : Option Content). IfSome o P) (sym same) p.now) q.now;
  left = λ synced known f leaves. both f (p.left synced known f (old_leaves b c second f same leaves))
      (q.left (rests_synced stanza a b first first_same synced)
      (subst (λ (o : Option Content). IsSome o) (sym first_same) known) f leaves);
}

-- ---- the segments of a part

module _ (stanza : Text) (id : ArchiveId) (w : WalPart) where
  pub none_before : (old : View) → Lasts stanza (HoldsBefore stanza id w (position w.size.0 w.span.start)) old old
  none_before old = record { now = by old.now; left = λ synced known f leaves. none f }
    where
      none : (f : Content) → HoldsBefore stanza id w (position w.size.0 w.span.start) f
      none f s within before = absurd (omega (arith, within.2, before))

      by : (o : Option Content) → IfSome o (HoldsBefore stanza id w (position w.size.0 w.span.start))
      by None = tt
      by (Some f) = none f

  module _ (segment : Segment) (within : IsWithinSpan w.size.0 w.span segment) where
    -- a segment at the same position
    at_place : (f : Content) (s : Segment) → IsWithinSpan w.size.0 w.span s →
        position w.size.0 s ≡ position w.size.0 segment → HoldsSegment stanza id f segment → HoldsSegment stanza id f s
    at_place f s inside e h = subst (λ (x : Segment). HoldsSegment stanza id f x)
        (same_segment w.size.0 segment s within.1 inside.1 (within.0 ∙ sym inside.0) (sym e)) h

    before_or_at : (p q : ℕ) → p < q + 1 → (p < q) ⊎ (p ≡ q)
    before_or_at p q h = grind arith

    one_more : (place : ℕ) → place ≡ position w.size.0 segment + 1 → (f : Content) →
        HoldsBefore stanza id w (position w.size.0 segment) f → HoldsSegment stanza id f segment →
        HoldsBefore stanza id w place f
    one_more place is f before here s inside lower = ⊎_elim (λ (h : position w.size.0 s < position w.size.0 segment). before s inside h)
        (λ (h : position w.size.0 s ≡ position w.size.0 segment). at_place f s inside h here)
        (before_or_at (position w.size.0 s) (position w.size.0 segment) (subst (λ (n : ℕ). position w.size.0 s < n) is lower))

    -- this segment was found too
    pub more_lasts : (place : ℕ) → place ≡ position w.size.0 segment + 1 → (a b c : View) →
        LeavesNoMore a b → b.now ≡ a.now → LeavesNoMore b c → c.now ≡ b.now →
        Lasts stanza (HoldsBefore stanza id w (position w.size.0 segment)) a b →
        Lasts stanza (λ f. HoldsSegment stanza id f segment) b c → Lasts stanza (HoldsBefore stanza id w place) a c
    more_lasts place is = lasts_on stanza (HoldsBefore stanza id w (position w.size.0 segment))
        (λ f. HoldsSegment stanza id f segment) (HoldsBefore stanza id w place) (one_more place is)

    all_of_it : position w.size.0 segment ≡ position w.size.0 w.span.stop → (f : Content) →
        HoldsBefore stanza id w (position w.size.0 segment) f → HoldsSegment stanza id f segment → HoldsPart stanza id w f
    all_of_it last f before here s inside = one_more (position w.size.0 segment + 1) refl f before here s inside
        (omega (arith, last, inside.3))

    -- .. which is the last
    pub part_lasts : position w.size.0 segment ≡ position w.size.0 w.span.stop → (a b c : View) →
        LeavesNoMore a b → b.now ≡ a.now → LeavesNoMore b c → c.now ≡ b.now →
        Lasts stanza (HoldsBefore stanza id w (position w.size.0 segment)) a b →
        Lasts stanza (λ f. HoldsSegment stanza id f segment) b c → Lasts stanza (HoldsPart stanza id w) a c
    part_lasts last = lasts_on stanza (HoldsBefore stanza id w (position w.size.0 segment))
        (λ f. HoldsSegment stanza id f segment) (HoldsPart stanza id w) (all_of_it last)

    -- this segment is missing
    pub first_here : (a b c : View) → c.now ≡ b.now →
        Lasts stanza (HoldsBefore stanza id w (position w.size.0 segment)) a b →
        IfSome c.now (StoresNone stanza id (Whole segment)) → IfSome c.now (IsFirstMissing stanza id w segment)
    first_here a b c same before missing = if_both (HoldsBefore stanza id w (position w.size.0 segment))
        (StoresNone stanza id (Whole segment)) (IsFirstMissing stanza id w segment)
        (λ f p q. record { missing = q; before = p }) c.now
        (subst (λ (o : Option Content). IfSome o (HoldsBefore stanza id w (position w.size.0 segment))) (sym same) before.now)
        missing

-- a segment before the last isn't the last of all logs
pub not_last : (per_log : ℕ) (segment stop : Segment) → stop.log < 2 ^ 32 → stop.seg < per_log →
    segment.log * per_log + segment.seg < stop.log * per_log + stop.seg →
    segment.log * per_log + segment.seg + 1 < 2 ^ 32 * per_log
not_last per_log segment stop log seg before =
    omega (arith, mul-add-lt stop.log per_log stop.seg (2 ^ 32) log seg)
