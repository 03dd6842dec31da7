-- A value is of one label, one segment or one list of labels.
use Rattle.std.proofs.Common.{◌≡◌, ℕ, suc, ◌+◌, ◌<◌, ◌≤◌, ◌^◌, List, [], ◌∷◌, ◌++◌, map, drop, get_or, length, Option, Some, None, Bool, true, false, Equal, nat_cmp, refl, sym, ap, ap₂, ◌∙◌, arith, append_assoc}
use Rattle.std.specs.Prelude.{IfSome, option_map, ◌&&◌}
use Rattle.std.specs.List.{AllByRecursion}
use Rattle.std.proofs.Math.Seq.{drop-cons}
use Rattle.std.proofs.Math.ListN.{drop_of_length-le}
use Rattle.std.proofs.lemmas.Cmp.{nat_list_cmp_total, tied_itself}
use Rattle.std.proofs.lemmas.Bool.Decides.{nat_tests}
use Rattle.serde_json.specs.Data.{Data, null, string, Items}
use Rattle.serde_json.specs.View.{items_of}
use Rattle.serde_json.specs.Find.{as_str, as_array}
use Rattle.base_devices.specs.Order.{is_before, are_after, are_in_order}
use Rattle.base_model.specs.declared.labels.Label.{Label}
use Rattle.base_model.specs.declared.wal.Segment.{Segment}
use Rattle.base_model.specs.declared.wal.Span.{Span}
use Rattle.base_model.specs.Text.{Text, hex_upper, text_cmp}
use Rattle.base_model.specs.Fields.{items_from, list_of, or_null}
use Rattle.base_model.specs.Names.{label_text, segment_text}
use Rattle.base_model.specs.InfoFiles.{IsLabel, IsSegment, label_value, segment_value}
use Rattle.repo_names.proofs.Compared.{text_cmp-hex_upper}
use Rattle.repo_names.proofs.Digits.{same_prefix}
use Rattle.repo_info.specs.Entries.{between}
use Rattle.repo_keys.proofs.ByKey.{after_nothing}
use Rattle.repo_names.proofs.LabelTexts.{label_text-injective}
use Rattle.repo_info.proofs.PlainTexts.{label_some}

-- ---- segments

same_number : (v w : ℕ) → v < 2 ^ 32 → w < 2 ^ 32 → hex_upper 8 v ≡ hex_upper 8 w → v ≡ w
same_number v w small fits e = by (sym (text_cmp-hex_upper 8 v w (omega arith) (omega arith)) ∙ ap (λ (t : Text). text_cmp t (hex_upper 8 w)) e ∙ tied_itself nat_list_cmp_total (hex_upper 8 w))
  where
    by : nat_cmp v w ≡ Equal → v ≡ w
    by tied = grind (arith, nat_tests)

pub same_segment : (s t : Segment) → IsSegment s → IsSegment t → segment_text s ≡ segment_text t → s ≡ t
same_segment s t p q e =
    let prefix = same_prefix s.timeline t.timeline (hex_upper 8 s.log ++ hex_upper 8 s.seg) (hex_upper 8 t.log ++ hex_upper 8 t.seg) (sym (append_assoc (hex_upper 8 s.timeline) (hex_upper 8 s.log) (hex_upper 8 s.seg)) ∙ e ∙ append_assoc (hex_upper 8 t.timeline) (hex_upper 8 t.log) (hex_upper 8 t.seg)) in
    let back = same_prefix s.log t.log (hex_upper 8 s.seg) (hex_upper 8 t.seg) prefix.1 in
    let timeline = same_number s.timeline t.timeline p.timeline q.timeline prefix.0 in
    let log = same_number s.log t.log p.log q.log back.0 in
    let seg = same_number s.seg t.seg p.seg q.seg back.1 in
    let parts : ◌≡◌ {A = Segment} (record { timeline = s.timeline; log = s.log; seg = s.seg }) (record { timeline = t.timeline; log = t.log; seg = t.seg }) = rw (timeline, log, seg) refl in
    parts

no_text : (text : Text) → ◌≡◌ {A = Option Text} (Some text) None → ⊥
no_text text e = cc

same_text : (s t : Text) → ◌≡◌ {A = Option Text} (Some s) (Some t) → s ≡ t
same_text s t e = cc

-- a segment's text is of this segment
pub end_only : (d : Data) (text : Text) (s : Segment) → IsSegment s → Some text ≡ as_str d → text ≡ segment_text s → (o : Option Segment) → IfSome o IsSegment → d ≡ or_null segment_value o → ◌≡◌ {A = Option (Option Segment)} (Some (Some s)) (Some o)
end_only d text s h at is None rules e = absurd (no_text text (at ∙ ap as_str e))
end_only d text s h at is (Some t) rules e = ap (λ (x : Segment). Some (Some x)) (same_segment s t h rules (sym is ∙ same_text text (segment_text t) (at ∙ ap as_str e)))

same_string : (s t : Text) → ◌≡◌ {A = Data} (string s) (string t) → s ≡ t
same_string s t e = cc

not_null : (s : Text) → ◌≡◌ {A = Data} (string s) null → ⊥
not_null s e = cc

pub same_label : (l m : Label) → IsLabel l → IsLabel m → label_value l ≡ label_value m → l ≡ m
same_label l m h g e = label_text-injective l m h g (same_string (label_text l) (label_text m) e)

pub prior_only : (d : Data) (l : Label) → IsLabel l → d ≡ label_value l → (o : Option Label) → IfSome o IsLabel → d ≡ or_null label_value o → ◌≡◌ {A = Option (Option Label)} (Some (Some l)) (Some o)
prior_only d l h is None rules e = absurd (not_null (label_text l) (sym is ∙ e))
prior_only d l h is (Some m) rules e = ap (λ (x : Label). Some (Some x)) (same_label l m h rules (sym is ∙ e))

-- ---- spans

abbrev pub first_of : Option Span → Option Segment
first_of o = option_map (λ (s : Span). s.start) o

abbrev pub last_of : Option Span → Option Segment
last_of o = option_map (λ (s : Span). s.stop) o

pub first_rules : (o : Option Span) → IfSome o (λ s. IsSegment s.start × IsSegment s.stop) → IfSome (first_of o) IsSegment
first_rules None h = tt
first_rules (Some s) h = h.0

pub last_rules : (o : Option Span) → IfSome o (λ s. IsSegment s.start × IsSegment s.stop) → IfSome (last_of o) IsSegment
last_rules None h = tt
last_rules (Some s) h = h.1

pub first_value : (o : Option Span) → or_null (λ (s : Span). segment_value s.start) o ≡ or_null segment_value (first_of o)
first_value None = refl
first_value (Some s) = refl

pub last_value : (o : Option Span) → or_null (λ (s : Span). segment_value s.stop) o ≡ or_null segment_value (last_of o)
last_value None = refl
last_value (Some s) = refl

pub no_end : (o : Option Segment) → ◌≡◌ {A = Option (Option Segment)} None (Some o) → ⊥
no_end o e = cc

some_end : (a o : Option Segment) → ◌≡◌ {A = Option (Option Segment)} (Some a) (Some o) → a ≡ o
some_end a o e = cc

both_ends : (o : Option Span) → between (first_of o) (last_of o) ≡ Some o
both_ends None = refl
both_ends (Some s) = refl

pub span_only : (a b : Option Segment) (o : Option Span) → ◌≡◌ {A = Option (Option Segment)} (Some a) (Some (first_of o)) → ◌≡◌ {A = Option (Option Segment)} (Some b) (Some (last_of o)) → between a b ≡ Some o
span_only a b o e f = ap₂ between (some_end a (first_of o) e) (some_end b (last_of o) f) ∙ both_ends o

-- ---- lists of labels

same_items : (xs ys : List Data) → items_of xs ≡ items_from ys → xs ≡ ys
same_items [] [] e = refl
same_items [] (y ∷ ys) e = cc
same_items (x ∷ xs) [] e = cc
same_items (x ∷ xs) (y ∷ ys) e =
    let head : x ≡ y = cc in
    let rest : items_of xs ≡ items_from ys = cc in
    ap₂ (λ (z : Data) (zs : List Data). z ∷ zs) head (same_items xs ys rest)

some_items : (xs ys : Items) → ◌≡◌ {A = Option Items} (Some xs) (Some ys) → xs ≡ ys
some_items xs ys e = cc

-- the items of the value of these labels
pub items_are : (d : Data) (xs ys : List Data) → Some (items_of xs) ≡ as_array d → d ≡ list_of ys → xs ≡ ys
items_are d xs ys at is = same_items xs ys (some_items (items_of xs) (items_from ys) (at ∙ ap as_array is))

pub same_labels : (ls ms : List Label) → AllByRecursion IsLabel ls → AllByRecursion IsLabel ms → map label_value ls ≡ map label_value ms → ls ≡ ms
same_labels [] [] h g e = refl
same_labels [] (m ∷ ms) h g e = cc
same_labels (l ∷ ls) [] h g e = cc
same_labels (l ∷ ls) (m ∷ ms) h g e =
    let head : label_value l ≡ label_value m = cc in
    let rest : map label_value ls ≡ map label_value ms = cc in
    ap₂ (λ (z : Label) (zs : List Label). z ∷ zs) (same_label l m h.0 g.0 head) (same_labels ls ms h.1 g.1 rest)

-- ---- their order

pub order_start : (ls : List Label) → are_in_order (map label_text ls) ≡ are_after [] (map label_text ls)
order_start [] = refl
order_start (l ∷ ls) = ap (λ (b : Bool). b && are_after (label_text l) (map label_text ls)) (sym (after_nothing (label_text l) (label_some l)))

module _ (labels : List Label) (i : ℕ) (d : Label) (h : i < length labels) (last text : Text) (is : text ≡ label_text (get_or labels i d)) (so : are_in_order (map label_text labels) ≡ are_after last (map label_text (drop i labels))) where
  split : are_in_order (map label_text labels) ≡ (is_before last text && are_after text (map label_text (drop (i + 1) labels)))
  split =
      let next : suc i ≡ i + 1 = omega arith in
      so ∙ ap (λ (ls : List Label). are_after last (map label_text ls)) (drop-cons labels i d h ∙ ap (λ (k : ℕ). get_or labels i d ∷ drop k labels) next)
      ∙ ap (λ (t : Text). is_before last t && are_after t (map label_text (drop (i + 1) labels))) (sym is)

  pub order_next : is_before last text ≡ true → are_in_order (map label_text labels) ≡ are_after text (map label_text (drop (i + 1) labels))
  order_next b = split ∙ ap (λ (x : Bool). x && are_after text (map label_text (drop (i + 1) labels))) b

  pub order_broken : is_before last text ≡ false → false ≡ are_in_order (map label_text labels)
  order_broken b = sym (split ∙ ap (λ (x : Bool). x && are_after text (map label_text (drop (i + 1) labels))) b)

pub order_end : (labels : List Label) (i : ℕ) (last : Text) → length labels ≤ i → are_in_order (map label_text labels) ≡ are_after last (map label_text (drop i labels)) → true ≡ are_in_order (map label_text labels)
order_end labels i last h so = sym (so ∙ ap (λ (ls : List Label). are_after last (map label_text ls)) (drop_of_length-le labels h))

pub some_labels : (ls ms : List Label) → ls ≡ ms → ◌≡◌ {A = Option (List Label)} (Some ls) (Some ms)
some_labels ls ms e = ap (λ (xs : List Label). Some xs) e
