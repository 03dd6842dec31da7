-- What info reports of a disk is the report on the repository that it represents.
use Rattle.std.proofs.Common.{◌≡◌, List, [], ◌∷◌, ◌++◌, map, flat_map, take, length, codes, Bool, true, false, Option, Some, None, refl, sym, ap, ap₂, ◌∙◌, subst}
use Rattle.std.specs.Prelude.{IsSome}
use Rattle.serde_json.specs.Data.{Data, string}
use Rattle.serde_json.specs.Written.{compact_text}
use Rattle.std.specs.declared.cmp.Ordering.{Ordering}
use Rattle.std.specs.declared.cmp.Ordering.TheVariants.{Less, Equal, Greater}
use Rattle.std.specs.Ordering.{is_gt, ordering_reverse, match_ordering}
use Rattle.std.proofs.lemmas.Cmp.{nat_list_cmp_total}
use Rattle.sha1.specs.Sha1.{sha1}
use Rattle.base_text.proofs.Digests.{IsSum-sha1}
use Rattle.base_devices.specs.Content.{Content}
use Rattle.base_devices.specs.Order.{is_before}
use Rattle.base_model.specs.declared.clusters.Cluster.{Cluster}
use Rattle.base_model.specs.declared.clusters.ClusterId.{ClusterId}
use Rattle.base_model.specs.declared.wal.ArchiveId.{ArchiveId}
use Rattle.base_model.specs.declared.wal.ArchiveName.{ArchiveName}
use Rattle.base_model.specs.declared.wal.ArchiveName.TheVariants.{Segment as Whole}
use Rattle.base_model.specs.declared.wal.Segment.{Segment}
use Rattle.base_model.specs.Text.{Text, In, text_cmp}
use Rattle.base_model.specs.Names.{archive_info, backup_info, segment_text}
use Rattle.base_model.specs.Fields.{fields, list_of}
use Rattle.base_model.specs.InfoFiles.{entry_field}
use Rattle.base_model.specs.Values.{ArchiveInfo, BackupInfo, Entry}
use Rattle.base_model.specs.Repository.{Stanza, identity_of, id_of}
use Rattle.base_model.specs.Represents.{HasStanza, IsWalName, stored_name, archive_value, backup_value}
use Rattle.base_model.specs.Now.{NowRepresents}
use Rattle.base_model.proofs.Pushed.{file_of}
use Rattle.repo_keys.proofs.Numbers.{in_map, map_in}
use Rattle.repo_info.proofs.OneArchive.{one_archive_pair}
use Rattle.options_read.specs.declared.options.OutputWord.{OutputWord}
use Rattle.options_read.specs.declared.options.OutputWord.TheVariants.{Text as AsText, Json as AsJson}
use Rattle.repo_stanza.proofs.OneBackup.{Agree, pair_agrees}
use Rattle.archive_lookup.specs.Stored.{archive_path}
use Rattle.archive_lookup.specs.Ends.{StoresWhole}
use Rattle.archive_store.proofs.Got.{same_place}
use Rattle.cmd_info.specs.declared.report.report.ArchivedName.{ArchivedName}
use Rattle.cmd_info.specs.Archived.{segments_under}
use Rattle.cmd_info.specs.Lines.{text_of_lines}
use Rattle.cmd_info.specs.ReportText.{cluster_lines, shown_clusters, report_text_of}
use Rattle.cmd_info.specs.ReportData.{archive_data, backup_data, cluster_data, status_data, report_json_of}
use Rattle.cmd_info.specs.Labelled.{labelled_data}
use Rattle.cmd_info.proofs.Sections.{labelled_entries}
use Rattle.cmd_types.specs.Current.{id_kept}
use Rattle.cmd_info.specs.Reporting.{report_by, named, AreRound, HaveEnds, IsReported, archived_as, ReportsStanza}
use Rattle.cmd_types.proofs.Places.{place_of}
use Rattle.cmd_info.proofs.EntryLines.{same_backup_lines, same_status_text, same_status_data}
use Rattle.cmd_info.proofs.Ends.{Le, le_itself, AtOrBefore, AtOrAfter, same_least, same_greatest}
use Rattle.cmd_info.proofs.ReportNames.{segment_in, in_segments, SameEnds, same_names}

-- ---- the names

-- what isn't before another is at it or after it
not_before : (a b : Text) → is_before a b ≡ false → Le b a
not_before a b clear = go (text_cmp a b) refl
  where
    go : (o : Ordering) → text_cmp a b ≡ o → Le b a
    go Less is = let yes : is_before a b ≡ true = ap (λ (o : Ordering). match_ordering o true false false) is in let both : ◌≡◌ {A = Bool} true false = sym yes ∙ clear in cc
    go Equal is = ap is_gt (nat_list_cmp_total.antisymm b a ∙ ap ordering_reverse is)
    go Greater is = ap is_gt (nat_list_cmp_total.antisymm b a ∙ ap ordering_reverse is)

abbrev name_made : ArchiveId → ArchiveName → ArchivedName
name_made id name = record { id = id; name = name }

module _ (stanza : Text) (f : Content) (s : Stanza) (now : NowRepresents stanza (Some s) (Some f)) where
  has : HasStanza stanza f s
  has = now.represents f refl

  abbrev all_names : List ArchivedName
  all_names = map archived_as s.archived

  some_held : (o : Option Text) → IsSome o → (bytes : Text) × (o ≡ Some bytes)
  some_held None some = cc
  some_held (Some bytes) some = (bytes, refl)

  -- a stored whole segment is an archived one
  segment_archived : (c : ClusterId) (t : Segment) → In c (map identity_of s.history) → StoresWhole stanza (id_kept c) f t → In (named (id_kept c) t) all_names
  segment_archived c t listed stored =
      let (d, at, is) = map_in identity_of s.history c listed in
      let whole = subst (λ (x : ClusterId). StoresWhole stanza (id_kept x) f t) is stored in
      let fits = whole.0 in
      let sum = whole.1.0 in
      let is_sum = whole.1.1.0 in
      let some = whole.1.1.1 in
      let place = place_of stanza f s now (Whole t) fits d at in
      let (bytes, there) = some_held (f (archive_path stanza (id_of d) (Whole t) sum)) some in
      let (a, archived, lies, so) = (has.archived (archive_path stanza (id_of d) (Whole t) sum) bytes (record { id = id_of d; file = Whole t; sum = sum; fits = place sum is_sum; is = refl })).0 there in
      let same = same_place stanza (id_of d) (Whole t) place a sum is_sum (has.named a archived) lies in
      let name : archived_as a ≡ named (id_of d) t = ap₂ name_made same.0 same.1 in
      subst (λ (x : ClusterId). In (named (id_kept x) t) all_names) (sym is) (subst (λ (n : ArchivedName). In n all_names) name (in_map archived_as s.archived a archived))

  -- and an archived one is stored
  segment_stored : (id : ArchiveId) (t : Segment) → In (named id t) all_names → StoresWhole stanza id f t
  segment_stored id t at =
      let (a, archived, is) = map_in archived_as s.archived (named id t) at in
      let same_id : a.id ≡ id = ap (λ (n : ArchivedName). n.id) (sym is) in
      let same_name : a.name ≡ Whole t = ap (λ (n : ArchivedName). n.name) (sym is) in
      let held = (has.archived (stored_name stanza a) a.bytes (file_of stanza a (has.named a archived))).1 (a, archived, refl, refl) in
      let some : IsSome (f (archive_path stanza a.id a.name (sha1 a.bytes))) = subst (λ (o : Option Text). IsSome o) (sym held) refl in
      let there : IsSome (f (archive_path stanza id (Whole t) (sha1 a.bytes))) =
      subst (λ (n : ArchiveName). IsSome (f (archive_path stanza id n (sha1 a.bytes)))) same_name (subst (λ (i : ArchiveId). IsSome (f (archive_path stanza i a.name (sha1 a.bytes)))) same_id some) in
      (subst IsWalName same_name (has.named a archived).fits, (sha1 a.bytes, (IsSum-sha1 a.bytes, there)))

  module _ (names : List ArchivedName) (ends : HaveEnds stanza (map identity_of s.history) f names) (c : ClusterId) (listed : In c (map identity_of s.history)) where
    abbrev known : List Text
    known = segments_under (id_kept c) names

    abbrev archived : List Text
    archived = segments_under (id_kept c) all_names

    -- what is reported is archived
    known_archived : (x : Text) → In x known → In x archived
    known_archived x at =
        let (t, there, is) = segment_in (id_kept c) names x at in
        let (d, u, of, same, stored) = ends.each (named (id_kept c) t) there in
        let model = subst (λ (n : ArchivedName). In n all_names) (sym same) (segment_archived d u of stored) in
        subst (λ (y : Text). In y archived) (sym is) (in_segments (id_kept c) all_names t model)

    -- and lies round all that is
    round_of : (y : Text) → In y archived → (t : Segment) × AreRound (id_kept c) t names × (y ≡ segment_text t)
    round_of y at =
        let (t, there, is) = segment_in (id_kept c) all_names y at in
        (t, ends.round c listed t (segment_stored (id_kept c) t there), is)

    before : AtOrBefore known archived
    before y at =
        let (t, round, is) = round_of y at in
        let (u, there, clear) = round.first in
        (segment_text u, in_segments (id_kept c) names u there, subst (Le (segment_text u)) (sym is) (not_before (segment_text t) (segment_text u) clear))

    following : AtOrAfter known archived
    following y at =
        let (t, round, is) = round_of y at in
        let (u, there, clear) = round.last in
        (segment_text u, in_segments (id_kept c) names u there, subst (λ (z : Text). Le z (segment_text u)) (sym is) (not_before (segment_text u) (segment_text t) clear))

    same_ends : SameEnds (id_kept c) names all_names
    same_ends = record {
      first = same_least known archived before (λ x at. (x, known_archived x at, le_itself x));
      last = same_greatest known archived following (λ x at. (x, known_archived x at, le_itself x));
    }

-- ---- the backups

same_data : (xs ys : List Entry) → map entry_field xs ≡ map entry_field ys → map backup_data xs ≡ map backup_data ys
same_data xs ys e = sym (labelled_entries xs) ∙ ap (map labelled_data) e ∙ labelled_entries ys

-- the report by what it says of the backups
abbrev text_from : Text → ArchiveInfo → List ArchivedName → Text → List Text → Text
text_from stanza a names status lines = text_of_lines (((codes "stanza: " ++ stanza) ∷ (codes "    status: " ++ status) ∷ codes "    cipher: none" ∷ []) ++ flat_map (cluster_lines a.current names) (shown_clusters a.current a.history) ++ lines)

abbrev json_from : Text → ArchiveInfo → List ArchivedName → List Data → List Cluster → Data → Text
json_from stanza a names backups history status =
    compact_text (list_of (fields ((codes "archive", list_of (map (archive_data names) a.history)) ∷ (codes "backup", list_of backups) ∷ (codes "cipher", string (codes "none"))
    ∷ (codes "db", list_of (map cluster_data (take (length a.history) history))) ∷ (codes "name", string stanza) ∷ (codes "status", status) ∷ []) ∷ [])) ++ 10 ∷ []

-- values that agree are reported alike
same_report : (form : OutputWord) (stanza : Text) (a : ArchiveInfo) (v w : BackupInfo) (names : List ArchivedName) → Agree v w → report_by form stanza a v names ≡ report_by form stanza a w names
unfolding report_text_of report_json_of
same_report AsText stanza a v w names agree = ap₂ (text_from stanza a names) (same_status_text v.backups w.backups agree.entries) (same_backup_lines v.backups w.backups agree.entries)
same_report AsJson stanza a v w names agree =
    ap₂ (λ (b : List Data) (s : Data). json_from stanza a names b v.history s) (same_data v.backups w.backups agree.entries) (same_status_data v.backups w.backups agree.entries)
    ∙ ap (λ (h : List Cluster). json_from stanza a names (map backup_data w.backups) h (status_data w.backups)) agree.history

take_prefix : {X Y : Type 0} (f : X → Y) (xs ys : List X) → take (length (map f xs)) (xs ++ ys) ≡ take (length (map f xs)) xs
take_prefix f [] ys = refl
take_prefix {X} f (x ∷ xs) ys = ap (λ (zs : List X). x ∷ zs) (take_prefix f xs ys)

-- a cluster that is still to come isn't reported
no_pending : (form : OutputWord) (stanza : Text) (s : Stanza) (pending : Option Cluster) (names : List ArchivedName) →
    report_by form stanza (archive_value s) (backup_value s pending) names ≡ report_by form stanza (archive_value s) (backup_value s None) names
unfolding report_text_of report_json_of
no_pending form stanza s None names = refl
no_pending AsText stanza s (Some c) names = refl
no_pending AsJson stanza s (Some c) names = let prefix = take_prefix identity_of s.history (c ∷ []) in rw prefix refl

-- ---- the whole

pub reports : (form : OutputWord) (stanza : Text) (repo : Option Content) (lines : Text) (s : Stanza) → IsSome repo → NowRepresents stanza (Some s) repo → IsReported stanza form repo lines → ReportsStanza form stanza s lines
reports form stanza None lines s some now r = cc
reports form stanza (Some f) lines s some now r =
    let has = now.represents f refl in
    let names = r.names in
    let archive : r.archive ≡ archive_value s = one_archive_pair f (archive_info stanza) r.archive (archive_value s) r.pairs.archive has.archive_pair in
    let agree = pair_agrees f (backup_info stanza) r.backup (backup_value s has.pending) r.pairs.backup has.backup_pair in
    let ends = subst (λ (a : ArchiveInfo). HaveEnds stanza a.history f names) archive r.ends in
    r.is ∙ ap (λ (a : ArchiveInfo). report_by form stanza a r.backup names) archive ∙ same_report form stanza (archive_value s) r.backup (backup_value s has.pending) names agree ∙ no_pending form stanza s has.pending names
    ∙ same_names form stanza (archive_value s) (backup_value s None) names (map archived_as s.archived) (same_ends stanza f s now names ends)
