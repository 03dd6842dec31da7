-- A section `backup` that is no manifest's.
use Rattle.std.proofs.Common.{◌≡◌, ◌⊎◌, ℕ, inl, inr, Bool, true, false, List, [], ◌∷◌, bytes_eq, Option, Some, None, refl, sym, ap, ◌∙◌, subst}
use Rattle.std.specs.Prelude.{codes, option_map, IfSome}
use Rattle.std.specs.List.{AllByRecursion}
use Rattle.std.proofs.lemmas.Slice.Eq.{bytes_eq-Decides}
use Rattle.serde_json.specs.Data.{Data}
use Rattle.base_model.specs.declared.labels.Label.{Label}
use Rattle.base_model.specs.declared.wal.Segment.{Segment}
use Rattle.base_model.specs.declared.wal.Span.{Span}
use Rattle.base_model.specs.declared.wal.WalPart.{WalPart}
use Rattle.base_model.specs.Text.{Text, In}
use Rattle.base_model.specs.Names.{segment_text}
use Rattle.base_model.specs.InfoText.{Section, IsInfo}
use Rattle.base_model.specs.InfoFiles.{IsSegment, segment_value}
use Rattle.base_model.specs.Fields.{Field, whole}
use Rattle.base_model.specs.ManifestText.{backup_fields, manifest_sections, IsManifest, IsWalPart}
use Rattle.base_model.specs.Values.{Manifest}
use Rattle.repo_keys.specs.Agree.{AgreeAt, IsKeysOf, IsFirstDifference, IsOrdered}
use Rattle.repo_keys.proofs.Scalars.{same_number}
use Rattle.repo_info.proofs.EntryParts.{same_segment}
use Rattle.repo_manifest.specs.declared.head.Head.{Head}
use Rattle.repo_manifest.specs.Head.{head_fields}
use Rattle.repo_names.specs.Spans.{IsSpanOf}
use Rattle.repo_manifest.specs.Read.{IsLogRead, IsHeadRead}
use Rattle.repo_manifest.specs.Tied.{IsTied, backup, label_keys, log_keys}
use Rattle.repo_manifest.specs.Wrong.{At, IsWrongAt}
use Rattle.repo_manifest.proofs.Agreements.{agree_keys}
use Rattle.repo_manifest.proofs.ManifestRules.{manifest_is_info, backup_order}
use Rattle.repo_manifest.proofs.Named.{fields_with, backup_at}
use Rattle.repo_manifest.proofs.Valued.{none_data, some_data, value_at, agree_values, wrong_value, start_at, stop_at, size_at}
use Rattle.repo_manifest.proofs.Headed.{of_head, IsSame, HasThere, first_read, last_read, label_read, type_read, prior_read, start_read, stop_read, from_read, to_read, size_read}

abbrev head_keys : List Text
head_keys = codes "backup-archive-start" ∷ codes "backup-archive-stop" ∷ codes "backup-label" ∷ codes "backup-lsn-start" ∷ codes "backup-lsn-stop"
    ∷ codes "backup-prior" ∷ codes "backup-timestamp-start" ∷ codes "backup-timestamp-stop" ∷ codes "backup-type" ∷ codes "backup-wal-segment-size" ∷ []

-- the key is none of these
abbrev IsNone : Text → List Text → Type 0
IsNone key names = AllByRecursion (λ n. bytes_eq key n ≡ false) names

decide : (key : Text) (names : List Text) → In key names ⊎ IsNone key names
decide key [] = inr tt
decide key (n ∷ ns) = by (bytes_eq key n) refl (decide key ns)
  where
    by : (b : Bool) → bytes_eq key n ≡ b → In key ns ⊎ IsNone key ns → In key (n ∷ ns) ⊎ IsNone key (n ∷ ns)
    by true e more = inl (inl ((bytes_eq-Decides key n).0 e))
    by false e (inl i) = inl (inr i)
    by false e (inr off) = inr (e, off)

nothing_at : (key : Text) (ks : List Field) → AllByRecursion (λ (k : Field). bytes_eq key k.0 ≡ false) ks → value_at key ks ≡ None
nothing_at key [] h = refl
nothing_at key (k ∷ ks) h = rw h.0 (nothing_at key ks h.1)

-- no manifest has a key that is none of the ten
foreign_at : (key : Text) → IsNone key head_keys → (w : Option WalPart) (p : Option Label) (m : Manifest) → value_at key (fields_with w p m) ≡ None
foreign_at key (start, (stop, (label, (from, (to, (prior, (first, (last, (type, (size, none)))))))))) None None m = nothing_at key (fields_with None None m) (label, (first, (last, (type, tt))))
foreign_at key (start, (stop, (label, (from, (to, (prior, (first, (last, (type, (size, none)))))))))) None (Some l) m = nothing_at key (fields_with None (Some l) m) (label, (prior, (first, (last, (type, tt)))))
foreign_at key (start, (stop, (label, (from, (to, (prior, (first, (last, (type, (size, none)))))))))) (Some w) None m = nothing_at key (fields_with (Some w) None m) (start, (stop, (label, (from, (to, (first, (last, (type, (size, tt)))))))))
foreign_at key (start, (stop, (label, (from, (to, (prior, (first, (last, (type, (size, none)))))))))) (Some w) (Some l) m = nothing_at key (fields_with (Some w) (Some l) m) (start, (stop, (label, (from, (to, (prior, (first, (last, (type, (size, tt))))))))))

tied_label : (key : Text) → In key label_keys → (a : At) → In a ((backup, codes "backup-label") ∷ []) → IsTied (backup, key) a
tied_label key i a (inl e) = inr (inl (refl, ap (λ (x : At). x.0) e, i, inl (ap (λ (x : At). x.1) e)))
tied_label key i a (inr j) = absurd j

tied_log : (key : Text) → In key log_keys → (a : At) → In a ((backup, codes "backup-archive-start") ∷ []) → IsTied (backup, key) a
tied_log key i a (inl e) = inr (inr (inl (refl, ap (λ (x : At). x.0) e, i, inl (ap (λ (x : At). x.1) e))))
tied_log key i a (inr j) = absurd j

module _ (ss : List Section) (info : IsInfo ss) (ks : List Field) (of : IsKeysOf ss backup ks) (order : IsOrdered ks) (h : Head) where
  there_at : (m : Manifest) → IsManifest m → (key : Text) → AgreeAt (manifest_sections m) ss backup key → HasThere m ks key
  there_at m rules key agree = agree_values (backup_fields m) ks (backup_order m.wal m.prior m) order key (agree_keys (manifest_sections m) ss (manifest_is_info m rules) info backup (backup_fields m) ks (backup_at m) of key agree)

  module _ (read : IsHeadRead ks h) (key : Text) (differ : IsFirstDifference (head_fields h) ks key) where
    -- another key, with which the manifests that have it are sure to have what was read
    beside_key : (k other : Text) → key ≡ k → ((a : At) → In a ((backup, other) ∷ []) → IsTied (backup, k) a) → ((m : Manifest) → IsManifest m → HasThere m ks other → HasThere m ks k → IsSame h m k) → IsWrongAt IsManifest manifest_sections IsTied ss backup key
    beside_key k other e tied reads = wrong_value ss info backup ks of order backup_fields backup_at (λ m. backup_order m.wal m.prior m) (head_fields h) (backup_order h.wal h.prior (of_head h)) key differ
        ((backup, other) ∷ [])
        (subst (λ (n : Text). (a : At) → In a ((backup, other) ∷ []) → IsTied (backup, n) a) (sym e) tied)
        (λ m rules beside at. subst (IsSame h m) (sym e) (reads m rules (there_at m rules other (beside (backup, other) (inl refl))) (subst (HasThere m ks) e at)))

    alone_key : (k : Text) → key ≡ k → ((m : Manifest) → IsManifest m → HasThere m ks k → IsSame h m k) → IsWrongAt IsManifest manifest_sections IsTied ss backup key
    alone_key k e reads = wrong_value ss info backup ks of order backup_fields backup_at (λ m. backup_order m.wal m.prior m) (head_fields h) (backup_order h.wal h.prior (of_head h)) key differ
        [] (λ a i. absurd i)
        (λ m rules beside at. subst (IsSame h m) (sym e) (reads m rules (subst (HasThere m ks) e at)))

    label_key : (k : Text) → key ≡ k → In k label_keys → ((m : Manifest) → IsManifest m → HasThere m ks (codes "backup-label") → HasThere m ks k → IsSame h m k) → IsWrongAt IsManifest manifest_sections IsTied ss backup key
    label_key k e i reads = beside_key k (codes "backup-label") e (tied_label k i) reads

    log_key : (k : Text) → key ≡ k → In k log_keys → ((m : Manifest) → IsManifest m → HasThere m ks (codes "backup-archive-start") → HasThere m ks k → IsSame h m k) → IsWrongAt IsManifest manifest_sections IsTied ss backup key
    log_key k e i reads = beside_key k (codes "backup-archive-start") e (tied_log k i) reads

    by_key : In key head_keys ⊎ IsNone key head_keys → IsWrongAt IsManifest manifest_sections IsTied ss backup key
    by_key (inl (inl e)) = log_key (codes "backup-archive-start") e (inl refl) (λ m rules there at. start_read ks h read m rules order there)
    by_key (inl (inr (inl e))) = log_key (codes "backup-archive-stop") e (inr (inl refl)) (λ m rules there at. stop_read ks h read m rules order there at)
    by_key (inl (inr (inr (inl e)))) = label_key (codes "backup-label") e (inl refl) (λ m rules there at. label_read ks h read m rules there)
    by_key (inl (inr (inr (inr (inl e))))) = log_key (codes "backup-lsn-start") e (inr (inr (inl refl))) (λ m rules there at. from_read ks h read m rules order there at)
    by_key (inl (inr (inr (inr (inr (inl e)))))) = log_key (codes "backup-lsn-stop") e (inr (inr (inr (inl refl)))) (λ m rules there at. to_read ks h read m rules order there at)
    by_key (inl (inr (inr (inr (inr (inr (inl e))))))) = label_key (codes "backup-prior") e (inr (inl refl)) (λ m rules there at. prior_read ks h read m rules there at)
    by_key (inl (inr (inr (inr (inr (inr (inr (inl e)))))))) = alone_key (codes "backup-timestamp-start") e (λ m rules at. first_read ks h read m rules at)
    by_key (inl (inr (inr (inr (inr (inr (inr (inr (inl e))))))))) = alone_key (codes "backup-timestamp-stop") e (λ m rules at. last_read ks h read m rules at)
    by_key (inl (inr (inr (inr (inr (inr (inr (inr (inr (inl e)))))))))) = label_key (codes "backup-type") e (inr (inr (inl refl))) (λ m rules there at. type_read ks h read m rules there)
    by_key (inl (inr (inr (inr (inr (inr (inr (inr (inr (inr (inl e))))))))))) = log_key (codes "backup-wal-segment-size") e (inr (inr (inr (inr (inl refl))))) (λ m rules there at. size_read ks h read m rules order there at)
    by_key (inl (inr (inr (inr (inr (inr (inr (inr (inr (inr (inr none))))))))))) = absurd none
    by_key (inr off) = alone_key key refl (λ m rules at. foreign_at key off h.wal h.prior (of_head h) ∙ sym (foreign_at key off m.wal m.prior m))

    -- at the first key where what was read differs from the text, no manifest has what the text has
    pub wrong_head : IsWrongAt IsManifest manifest_sections IsTied ss backup key
    wrong_head = by_key (decide key head_keys)

-- ---- segments that don't fit together

one_segment : (s t : Segment) → IsSegment s → IsSegment t → ◌≡◌ {A = Option Data} (Some (segment_value s)) (Some (segment_value t)) → s ≡ t
one_segment s t h g e = same_segment s t h g (let x : segment_text s ≡ segment_text t = cc in x)

-- the rules of a span are about its two segments
span_as : (n k : ℕ) (s t : Span) → n ≡ k → s.start ≡ t.start → s.stop ≡ t.stop → IsSpanOf n s → IsSpanOf k t
span_as n k s t size start stop h =
    let at = subst (λ (x : ℕ). IsSpanOf x s) size h in
    let first = subst (λ (x : Segment). IsSpanOf k (record { start = x; stop = s.stop })) start (record { start = at.start; stop = at.stop; timeline = at.timeline; order = at.order; short = at.short }) in
    let last = subst (λ (x : Segment). IsSpanOf k (record { start = t.start; stop = x })) stop first in
    record { start = last.start; stop = last.stop; timeline = last.timeline; order = last.order; short = last.short }

no_part : (w : WalPart) → IsSegment w.span.start → IsSegment w.span.stop → ¬ IsSpanOf w.size.0 w.span → (q : Option WalPart) → IfSome q IsWalPart
    → option_map (λ (x : WalPart). whole x.size.0) q ≡ Some (whole w.size.0) → option_map (λ (x : WalPart). segment_value x.span.start) q ≡ Some (segment_value w.span.start)
    → option_map (λ (x : WalPart). segment_value x.span.stop) q ≡ Some (segment_value w.span.stop) → ⊥
no_part w first last off None part size start stop = none_data (whole w.size.0) size
no_part w first last off (Some v) part size start stop =
    let own : IsSpanOf v.size.0 v.span = record { start = part.start.1; stop = part.stop.1; timeline = part.timeline; order = part.order; short = part.short } in
    off (span_as v.size.0 w.size.0 v.span w.span (same_number v.size.0 w.size.0 (some_data (whole v.size.0) (whole w.size.0) size)) (one_segment v.span.start w.span.start part.start.0 first start) (one_segment v.span.stop w.span.stop part.stop.0 last stop) own)

pub wrong_log : (ss : List Section) → IsInfo ss → (ks : List Field) → IsKeysOf ss backup ks → IsOrdered ks → (h : Head) → head_fields h ≡ ks → (w : WalPart) → h.wal ≡ Some w → IsLogRead ks w → ¬ IsSpanOf w.size.0 w.span
    → IsWrongAt IsManifest manifest_sections IsTied ss backup (codes "backup-wal-segment-size")
wrong_log ss info ks of order h same w is log off = record {
  others = (backup, codes "backup-archive-start") ∷ (backup, codes "backup-archive-stop") ∷ [];
  tied = tied;
  wrong = λ m rules beside agree.
      let size = own m rules (codes "backup-wal-segment-size") agree in
      let start = own m rules (codes "backup-archive-start") (beside (backup, codes "backup-archive-start") (inl refl)) in
      let stop = own m rules (codes "backup-archive-stop") (beside (backup, codes "backup-archive-stop") (inr (inl refl))) in
      no_part w log.start.0 log.stop.0 off m.wal rules.wal
      (sym (size_at m m.wal m.prior) ∙ size ∙ size_at (of_head h) h.wal h.prior ∙ ap (option_map (λ (x : WalPart). whole x.size.0)) is)
      (sym (start_at m m.wal m.prior) ∙ start ∙ start_at (of_head h) h.wal h.prior ∙ ap (option_map (λ (x : WalPart). segment_value x.span.start)) is)
      (sym (stop_at m m.wal m.prior) ∙ stop ∙ stop_at (of_head h) h.wal h.prior ∙ ap (option_map (λ (x : WalPart). segment_value x.span.stop)) is);
}
  where
    own : (m : Manifest) → IsManifest m → (key : Text) → AgreeAt (manifest_sections m) ss backup key → value_at key (backup_fields m) ≡ value_at key (head_fields h)
    own m rules key agree = there_at ss info ks of order h m rules key agree ∙ ap (value_at key) (sym same)

    size_in : In (codes "backup-wal-segment-size") log_keys
    size_in = inr (inr (inr (inr (inl refl))))

    tied : (a : At) → In a ((backup, codes "backup-archive-start") ∷ (backup, codes "backup-archive-stop") ∷ []) → IsTied (backup, codes "backup-wal-segment-size") a
    tied a (inl e) = inr (inr (inl (refl, ap (λ (x : At). x.0) e, size_in, inl (ap (λ (x : At). x.1) e))))
    tied a (inr (inl e)) = inr (inr (inl (refl, ap (λ (x : At). x.0) e, size_in, inr (inl (ap (λ (x : At). x.1) e)))))
    tied a (inr (inr none)) = absurd none
