-- A report looks at no more of the names than the first and the last segment of each cluster.
use Rattle.std.proofs.Common.{◌≡◌, inl, inr, List, [], ◌∷◌, ◌++◌, map, flat_map, filter, Bool, true, false, not, Option, Some, None, refl, sym, ap, ap₂, ◌∙◌, subst, arith}
use Rattle.std.specs.Prelude.{◌==◌, ℕ, cond, if◌then◌else◌}
use Rattle.std.specs.List.{filter_map}
use Rattle.std.proofs.lemmas.Bool.{and_parts}
use Rattle.base_model.specs.declared.clusters.ClusterId.{ClusterId}
use Rattle.base_model.specs.declared.wal.ArchiveId.{ArchiveId}
use Rattle.base_model.specs.declared.wal.ArchiveName.{ArchiveName}
use Rattle.base_model.specs.declared.wal.ArchiveName.TheVariants.{Segment as Whole, Partial, History, Backup}
use Rattle.base_model.specs.declared.wal.Segment.{Segment}
use Rattle.base_model.specs.Names.{segment_text}
use Rattle.base_model.specs.Text.{Text, In}
use Rattle.base_model.specs.Values.{ArchiveInfo, BackupInfo}
use Rattle.options_read.specs.declared.options.OutputWord.{OutputWord}
use Rattle.options_read.specs.declared.options.OutputWord.TheVariants.{Text as AsText, Json as AsJson}
use Rattle.repo_keys.proofs.Numbers.{in_map, map_in}
use Rattle.cmd_info.specs.declared.report.report.ArchivedName.{ArchivedName}
use Rattle.cmd_info.specs.Archived.{id_of, is_same_id, whole_segment, segment_under, segments_under, least, greatest}
use Rattle.cmd_info.specs.ReportText.{is_current, shown_clusters, archive_bounds, bounds_text, cluster_lines, report_text_of}
use Rattle.cmd_info.specs.ReportData.{archive_data, report_json_of}
use Rattle.cmd_info.specs.Reporting.{report_by, named}

-- ---- the segments under an id

abbrev cons_as : {X : Type 0} → Option X → List X → List X
cons_as None xs = xs
cons_as (Some x) xs = x ∷ xs

picked : {X Y : Type 0} (h : X → Option Y) (xs : List X) (y : Y) → In y (filter_map h xs) → (x : X) × In x xs × (h x ≡ Some y)
picked h [] y at = absurd at
picked {X} {Y} h (x ∷ xs) y at = go (h x) refl (λ i. picked h xs y i) at
  where
    go : (o : Option Y) → h x ≡ o → (In y (filter_map h xs) → (z : X) × In z xs × (h z ≡ Some y)) → In y (cons_as o (filter_map h xs)) → (z : X) × In z (x ∷ xs) × (h z ≡ Some y)
    go None is rest i = let (z, there, so) = rest i in (z, inr there, so)
    go (Some w) is rest (inl e) = (x, inl refl, is ∙ ap (λ (v : Y). Some v) (sym e))
    go (Some w) is rest (inr i) = let (z, there, so) = rest i in (z, inr there, so)

cons_in : {Y : Type 0} (o : Option Y) (y : Y) (ys : List Y) → In y ys → In y (cons_as o ys)
cons_in None y ys at = at
cons_in (Some w) y ys at = inr at

picks : {X Y : Type 0} (h : X → Option Y) (xs : List X) (x : X) (y : Y) → In x xs → h x ≡ Some y → In y (filter_map h xs)
picks h [] x y at is = absurd at
picks {X} {Y} h (z ∷ zs) x y (inl e) is = subst (λ (o : Option Y). In y (cons_as o (filter_map h zs))) (sym (ap h (sym e) ∙ is)) (inl refl)
picks {X} {Y} h (z ∷ zs) x y (inr i) is = cons_in (h z) y (filter_map h zs) (picks h zs x y i is)

abbrev made : ArchiveId → ArchiveName → ArchivedName
made id name = record { id = id; name = name }

abbrev id_made : ℕ → ℕ → ArchiveId
id_made version number = record { version = version; number = number }

same_number : (n m : ℕ) → (n == m) ≡ true → n ≡ m
same_number n m is = grind arith

own_number : (n : ℕ) → (n == n) ≡ true
own_number n = grind arith

same_id : (a b : ArchiveId) → is_same_id a b ≡ true → a ≡ b
same_id a b is =
    let parts = and_parts (a.version == b.version) (a.number == b.number) is in
    ap₂ id_made (same_number a.version b.version parts.0) (same_number a.number b.number parts.1)

own_id : (a : ArchiveId) → is_same_id a a ≡ true
own_id a = let version = own_number a.version in let number = own_number a.number in rw (version, number) refl

under : (id : ArchiveId) (n : ArchivedName) (s : Segment) → segment_under id n ≡ Some s → n ≡ named id s
under id n s is = go (is_same_id n.id id) refl n.name refl is
  where
    go : (b : Bool) → is_same_id n.id id ≡ b → (name : ArchiveName) → n.name ≡ name → (if b then whole_segment name else None) ≡ Some s → n ≡ named id s
    go true same (Whole t) is so =
        let e : t ≡ s = cc in
        ap₂ made (same_id n.id id same) (is ∙ ap (λ (x : Segment). Whole x) e)
    go true same (Partial t) is so = cc
    go true same (History t) is so = cc
    go true same (Backup t o) is so = cc
    go false same name is so = cc

pub segment_in : (id : ArchiveId) (names : List ArchivedName) (t : Text) → In t (segments_under id names) → (s : Segment) × In (named id s) names × (t ≡ segment_text s)
segment_in id names t at =
    let (s, there, is) = map_in segment_text (filter_map (segment_under id) names) t at in
    let (n, here, so) = picked (segment_under id) names s there in
    (s, subst (λ (x : ArchivedName). In x names) (under id n s so) here, is)

pub in_segments : (id : ArchiveId) (names : List ArchivedName) (s : Segment) → In (named id s) names → In (segment_text s) (segments_under id names)
in_segments id names s at =
    in_map segment_text (filter_map (segment_under id) names) s
    (picks (segment_under id) names (named id s) s at (subst (λ (b : Bool). (if b then Some s else None) ≡ Some s) (sym (own_id id)) refl))

-- ---- the report

-- the first and the last segment under the id are the same for both
pub record SameEnds (id : ArchiveId) (names others : List ArchivedName) : Type 0 where
  pub first : least (segments_under id names) ≡ least (segments_under id others)
  pub last : greatest (segments_under id names) ≡ greatest (segments_under id others)

abbrev pub AllEnds : List ClusterId → List ArchivedName → List ArchivedName → Type 0
AllEnds history names others = (c : ClusterId) → In c history → SameEnds (id_of c) names others

same_bounds : (names others : List ArchivedName) (c : ClusterId) → SameEnds (id_of c) names others → archive_bounds names c ≡ archive_bounds others c
same_bounds names others c same = ap₂ bounds_text same.first same.last

same_lines : (current : ℕ) (names others : List ArchivedName) (c : ClusterId) → SameEnds (id_of c) names others → cluster_lines current names c ≡ cluster_lines current others c
unfolding cluster_lines
same_lines current names others c same = let bounds = same_bounds names others c same in rw bounds refl

same_data : (names others : List ArchivedName) (c : ClusterId) → SameEnds (id_of c) names others → archive_data names c ≡ archive_data others c
same_data names others c same = let first = same.first in let last = same.last in rw (first, last) refl

flat_same : {X Y : Type 0} (f g : X → List Y) (xs : List X) → ((x : X) → In x xs → f x ≡ g x) → flat_map f xs ≡ flat_map g xs
flat_same f g [] same = refl
flat_same f g (x ∷ xs) same = ap₂ (λ ys zs. ys ++ zs) (same x (inl refl)) (flat_same f g xs (λ z i. same z (inr i)))

map_same : {X Y : Type 0} (f g : X → Y) (xs : List X) → ((x : X) → In x xs → f x ≡ g x) → map f xs ≡ map g xs
map_same f g [] same = refl
map_same f g (x ∷ xs) same = ap₂ (λ y ys. y ∷ ys) (same x (inl refl)) (map_same f g xs (λ z i. same z (inr i)))

of_filter : {X : Type 0} (test : X → Bool) (xs : List X) (x : X) → In x (filter test xs) → In x xs
of_filter test [] x at = absurd at
of_filter {X} test (y ∷ ys) x at = go (test y) (λ i. of_filter test ys x i) at
  where
    go : (b : Bool) → (In x (filter test ys) → In x ys) → In x (cond b (y ∷ filter test ys) (filter test ys)) → In x (y ∷ ys)
    go true rest (inl e) = inl e
    go true rest (inr i) = inr (rest i)
    go false rest i = inr (rest i)

pub of_append : {X : Type 0} (xs ys : List X) (P : X → Type 0) (x : X) → In x (xs ++ ys) → (In x xs → P x) → (In x ys → P x) → P x
of_append [] ys P x at left right = right at
of_append (z ∷ zs) ys P x (inl e) left right = left (inl e)
of_append (z ∷ zs) ys P x (inr i) left right = of_append zs ys P x i (λ j. left (inr j)) right

shown_listed : (current : ℕ) (history : List ClusterId) (c : ClusterId) → In c (shown_clusters current history) → In c history
shown_listed current history c at = of_append (filter (λ d. not (is_current current d)) history) (filter (is_current current) history) (λ d. In d history) c at
    (of_filter (λ d. not (is_current current d)) history c) (of_filter (is_current current) history c)

pub same_names : (form : OutputWord) (stanza : Text) (a : ArchiveInfo) (b : BackupInfo) (names others : List ArchivedName) → AllEnds a.history names others → report_by form stanza a b names ≡ report_by form stanza a b others
unfolding report_text_of report_json_of
same_names AsText stanza a b names others same =
    let lines = flat_same (cluster_lines a.current names) (cluster_lines a.current others) (shown_clusters a.current a.history) (λ c at. same_lines a.current names others c (same c (shown_listed a.current a.history c at))) in
    rw lines refl
same_names AsJson stanza a b names others same =
    let parts = map_same (archive_data names) (archive_data others) a.history (λ c at. same_data names others c (same c at)) in
    rw parts refl
