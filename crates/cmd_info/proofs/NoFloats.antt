-- A report has no float.
use Rattle.std.proofs.Common.{◌≡◌, ◌||◌, Bool, false, List, [], ◌∷◌, map, length, take, Option, Some, None, codes, refl, ap₂}
use Rattle.std.proofs.lemmas.Bool.{or_parts}
use Rattle.std.specs.declared.cmp.Ordering.{Ordering}
use Rattle.std.specs.declared.cmp.Ordering.TheVariants.{Less, Equal, Greater}
use Rattle.std.specs.Ordering.{nat_cmp, match_ordering}
use Rattle.std.specs.Cmp.Lexicographic.{slice_cmp}
use Rattle.serde_json.specs.Data.{Data, null, boolean, number, string, array, object, Members, no_members, member, put}
use Rattle.serde_json.specs.Written.{has_float, items_have_float, members_have_float}
use Rattle.base_model.specs.declared.clusters.Cluster.{Cluster}
use Rattle.base_model.specs.declared.clusters.ClusterId.{ClusterId}
use Rattle.base_model.specs.declared.wal.Span.{Span}
use Rattle.base_model.specs.Fields.{whole, items_from, list_of, or_null}
use Rattle.base_model.specs.InfoFiles.{label_value, entry_field, cluster_field}
use Rattle.base_model.specs.Names.{label_text, segment_text}
use Rattle.base_model.specs.Text.{Text}
use Rattle.base_model.specs.Values.{ArchiveInfo, BackupInfo, Entry}
use Rattle.cmd_info.specs.declared.report.report.ArchivedName.{ArchivedName}
use Rattle.cmd_info.specs.Archived.{id_of, segments_under, least, greatest}
use Rattle.cmd_info.specs.ReportData.{with_key, archive_data, backup_data, cluster_data, report_data}

both : (a b : Bool) → a ≡ false → b ≡ false → (a || b) ≡ false
both a b h g = ap₂ (λ x y. x || y) h g

plain_put : (k : Text) (d : Data) (ms : Members) → has_float d ≡ false → members_have_float ms ≡ false → members_have_float (put k d ms) ≡ false
plain_put k d no_members h g = both (has_float d) false h refl
plain_put k d (member l e ms) h g =
    let parts = or_parts (has_float e) (members_have_float ms) g in
    by_order (slice_cmp nat_cmp k l) parts.0 parts.1 (plain_put k d ms h parts.1)
  where
    by_order : (o : Ordering) → has_float e ≡ false → members_have_float ms ≡ false → members_have_float (put k d ms) ≡ false
        → members_have_float (match_ordering o (member k d (member l e ms)) (member l d ms) (member l e (put k d ms))) ≡ false
    by_order Less first rest more = both (has_float d) (has_float e || members_have_float ms) h (both (has_float e) (members_have_float ms) first rest)
    by_order Equal first rest more = both (has_float d) (members_have_float ms) h rest
    by_order Greater first rest more = both (has_float e) (members_have_float (put k d ms)) first more

plain_with_key : (k : Text) (v d : Data) → has_float v ≡ false → has_float d ≡ false → has_float (with_key k v d) ≡ false
plain_with_key k v null h g = refl
plain_with_key k v (boolean b) h g = refl
plain_with_key k v (number n) h g = g
plain_with_key k v (string s) h g = refl
plain_with_key k v (array ds) h g = g
plain_with_key k v (object ms) h g = plain_put k v ms h g

plain_list : {X : Type 0} (f : X → Data) (xs : List X) → ((x : X) → has_float (f x) ≡ false) → has_float (list_of (map f xs)) ≡ false
plain_list f [] h = refl
plain_list f (x ∷ xs) h = both (has_float (f x)) (items_have_float (items_from (map f xs))) (h x) (plain_list f xs h)

plain_or_null : {X : Type 0} (f : X → Text) (o : Option X) → has_float (or_null (λ x. string (f x)) o) ≡ false
plain_or_null f None = refl
plain_or_null f (Some x) = refl

plain_archive : (archived : List ArchivedName) (c : ClusterId) → has_float (archive_data archived c) ≡ false
plain_archive archived c =
    let names = segments_under (id_of c) archived in
    rw (plain_or_null (λ (t : Text). t) (greatest names), plain_or_null (λ (t : Text). t) (least names)) refl

plain_entry : (e : Entry) → has_float (entry_field e).1 ≡ false
plain_entry e =
    rw (
      plain_or_null (λ (s : Span). segment_text s.start) e.span,
      plain_or_null (λ (s : Span). segment_text s.stop) e.span,
      plain_or_null label_text e.prior,
      plain_list label_value e.references (λ _. refl),
    ) refl

pub report_plain : (stanza : Text) (archive : ArchiveInfo) (info : BackupInfo) (archived : List ArchivedName) → has_float (report_data stanza archive info archived) ≡ false
report_plain stanza archive info archived =
    rw (
      plain_list (archive_data archived) archive.history (plain_archive archived),
      plain_list backup_data info.backups (λ e. plain_with_key (codes "label") (label_value e.label) (entry_field e).1 refl (plain_entry e)),
      plain_list cluster_data (take (length archive.history) info.history) (λ (c : Cluster). plain_with_key (codes "id") (whole c.id) (cluster_field c).1 refl refl),
    ) refl
