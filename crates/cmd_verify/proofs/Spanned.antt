-- The stored segments are those that are needed, or not.
use Rattle.std.proofs.Common.{◌≡◌, ◌↔◌, ⊎_elim, ℕ, ◌+◌, ◌*◌, ◌<◌, ◌≤◌, arith, List, [], ◌∷◌, ◌++◌, Option, Some, None, refl, sym, ap₂, ◌∙◌, subst, append_assoc, length}
use Rattle.std.specs.Prelude.{IsSomeAnd, string_bytes}
use Rattle.std.proofs.Math.Nat.{mul-le-mul_right}
use Rattle.std.proofs.lemmas.Bool.{cases_lt}
use Rattle.base_devices.specs.Content.{Content}
use Rattle.base_model.specs.declared.labels.Label.{Label}
use Rattle.base_model.specs.declared.wal.Segment.{Segment}
use Rattle.base_model.specs.declared.wal.Span.{Span}
use Rattle.base_model.specs.declared.wal.WalPart.{WalPart}
use Rattle.base_model.specs.declared.wal.ArchiveId.{ArchiveId}
use Rattle.base_model.specs.declared.wal.ArchiveName.{ArchiveName}
use Rattle.base_model.specs.declared.wal.ArchiveName.TheVariants.{Segment as Whole}
use Rattle.base_model.specs.Text.{Text, In}
use Rattle.base_model.specs.Names.{archive_folder, label_folder}
use Rattle.base_model.specs.ManifestText.{segments_per_log, IsWalPart}
use Rattle.base_model.specs.Values.{Manifest}
use Rattle.base_model.specs.Repository.{IsWithinSpan, id_of}
use Rattle.base_model.specs.Represents.{IsArchivePlace}
use Rattle.archive_lookup.specs.declared.stored.files.Stored.{Stored}
use Rattle.archive_lookup.specs.Stored.{archive_path, AreStored}
use Rattle.archive_lookup.proofs.OnePath.{one_path}
use Rattle.cmd_verify.specs.declared.findings.finding.Finding.{Finding}
use Rattle.cmd_verify.specs.What.{What, MemberAbsent, MemberBad, MembersDiffer, Absent, Short, Digest, Second, Gap, Reference, Unlike, Contradicts}
use Rattle.cmd_verify.specs.Findings.{IsStored, SpanDeviates}
use Rattle.cmd_verify.specs.Adding.{Adds}
use Rattle.cmd_verify.specs.Gaps.{IsNear, HasWhole, Gaps}
use Rattle.cmd_verify.proofs.Values.{value_of, some_at, is_some, not_none}
use Rattle.cmd_verify.proofs.Adding.{adds_none, adds_as}

-- the log of a place that isn't before another isn't before its log
logs_low : (w a b x y : ℕ) → y < w → a * w + x ≤ b * w + y → a ≤ b
logs_low w a b x y lt le =
    ⊎_elim (λ (l : b < a). absurd (let m : (b + 1) * w ≤ a * w = mul-le-mul_right w (omega (arith, l)) in omega (arith, m, le, lt))) (λ (l : a ≤ b). l) (cases_lt b a)

-- each segment within a span is near it
within_near : (w : WalPart) → IsWalPart w → (s : Segment) → IsWithinSpan w.size.0 w.span s → IsNear w.span s
within_near w rules s within =
    let k = segments_per_log w.size.0 in
    (within.0, logs_low k w.span.start.log s.log w.span.start.seg s.seg within.1 within.2, logs_low k s.log w.span.stop.log s.seg w.span.stop.seg rules.stop.1 within.3)

module _ (stanza : Text) (f : Content) (own : Label) (m : Manifest) (files : List Stored) (are : AreStored stanza f files) where
  abbrev id : ArchiveId
  id = id_of m.cluster

  stored_of : (span : Span) (s : Segment) → HasWhole id span files s → IsStored stanza f m.cluster s
  stored_of span s h =
      let file = h.0 in
      let e = are.each file h.1 in
      let same = h.2 in
      let there = value_of (λ bytes. length bytes ≡ file.size) (f (string_bytes file.path)) e.size in (
        e.sum,
        string_bytes file.path,
        record {
          fits = subst (λ (i : ArchiveId). IsArchivePlace i (Whole s) e.sum) same.0 (subst (λ (n : ArchiveName). IsArchivePlace file.id n e.sum) same.1 e.fits);
          whole_or_part = refl;
          is = e.path ∙ ap₂ (λ (i : ArchiveId) (n : ArchiveName). archive_path stanza i n e.sum) same.0 same.1;
        },
        is_some (f (string_bytes file.path)) there.0 there.1,
      )

  has_of : (span : Span) (s : Segment) → IsNear span s → IsStored stanza f m.cluster s → HasWhole id span files s
  has_of span s near k =
      let st = k.2 in
      let x = are.all k.1 (record { id = id; file = Whole s; sum = k.0; fits = st.fits; is = st.is }) k.3 in
      let e = are.each x.0 x.1 in
      let path : archive_path stanza x.0.id x.0.name e.sum ≡ archive_path stanza id (Whole s) k.0 = sym e.path ∙ x.2 ∙ st.is in
      let same = one_path (archive_folder stanza ++ 47 ∷ []) x.0.id id x.0.name (Whole s) e.sum k.0 e.fits st.fits
      (append_assoc (archive_folder stanza) (47 ∷ []) _ ∙ path ∙ sym (append_assoc (archive_folder stanza) (47 ∷ []) _)) in
      (x.0, x.1, (same.0, same.1, near))

  pub spans_none : m.wal ≡ None → (a : List Finding) → Adds (SpanDeviates stanza f own m) a a
  spans_none none a = adds_none (SpanDeviates stanza f own m) a by
    where
      by : (n : Text) (w : What) → ¬ SpanDeviates stanza f own m n w
      by n (Gap s) d = let v = value_of (λ w. IsWithinSpan w.size.0 w.span s) m.wal d.1 in not_none m.wal v.0 v.1 none
      by n MemberAbsent d = d
      by n MemberBad d = d
      by n MembersDiffer d = d
      by n Absent d = d
      by n (Short t k) d = d
      by n (Digest t k) d = d
      by n (Second t) d = d
      by n (Reference l) d = d
      by n Unlike d = d
      by n (Contradicts t) d = d

  pub spans_known : (w : WalPart) → IsWalPart w → m.wal ≡ Some w → (at : Text) → at ≡ label_folder stanza own → (stored : List Segment) → ((s : Segment) → In s stored ↔ HasWhole id w.span files s)
      → (a b : List Finding) → Adds (Gaps at stored w.size.0 w.span) a b → Adds (SpanDeviates stanza f own m) a b
  spans_known w rules some at at_is stored model a b p = adds_as (Gaps at stored w.size.0 w.span) (SpanDeviates stanza f own m) a b to back p
    where
      to : (n : Text) (u : What) → Gaps at stored w.size.0 w.span n u → SpanDeviates stanza f own m n u
      to n (Gap s) d = (d.0 ∙ at_is, subst (λ (o : Option WalPart). IsSomeAnd o (λ w. IsWithinSpan w.size.0 w.span s)) (sym some) d.1, λ k. d.2 ((model s).1 (has_of w.span s (within_near w rules s d.1) k)))
      to n MemberAbsent d = d
      to n MemberBad d = d
      to n MembersDiffer d = d
      to n Absent d = d
      to n (Short t k) d = d
      to n (Digest t k) d = d
      to n (Second t) d = d
      to n (Reference l) d = d
      to n Unlike d = d
      to n (Contradicts t) d = d

      back : (n : Text) (u : What) → SpanDeviates stanza f own m n u → Gaps at stored w.size.0 w.span n u
      back n (Gap s) d = (d.0 ∙ sym at_is, some_at (λ w. IsWithinSpan w.size.0 w.span s) m.wal w some d.1, λ k. d.2 (stored_of w.span s ((model s).0 k)))
      back n MemberAbsent d = d
      back n MemberBad d = d
      back n MembersDiffer d = d
      back n Absent d = d
      back n (Short t k) d = d
      back n (Digest t k) d = d
      back n (Second t) d = d
      back n (Reference l) d = d
      back n Unlike d = d
      back n (Contradicts t) d = d
