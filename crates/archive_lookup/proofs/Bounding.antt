-- The first folder of the log that has a whole segment, and the last one.
use Rattle.std.proofs.Common.{Ordering, Less, Equal, Greater, ◌≡◌, ◌≢◌, ◌⊎◌, ⊎_elim, inl, inr, ℕ, zero, suc, ◌+◌, ◌-◌, ◌<◌, ◌^◌, Bool, true, false, ◌&&◌, not, List, [], ◌∷◌, ◌++◌, length, length-append, map, drop, get_or, Option, Some, None, refl, ap, ap₂, ◌∙◌, sym, subst, arith, append_assoc}
use Rattle.std.specs.Prelude.{String, IfSome, IsSome, Contains, EachIndex, IsTrue, ◌↔◌, string_bytes, slice_index, bytes_eq, nat_eq}
use Rattle.std.specs.declared.alloc.Global.{Global}
use Rattle.std.specs.List.{ReversedBelow}
use Rattle.std.specs.List.Sorted.{IsPermutation, IsSorted}
use Rattle.std.specs.Ordering.{is_lt, match_ordering}
use Rattle.std.specs.String.{string_cmp}
use Rattle.std.proofs.Math.ListN.{get_or-append}
use Rattle.std.proofs.Math.Seq.{get_or-append-add}
use Rattle.std.proofs.lemmas.Bool.{false≢true, cases_lt}
use Rattle.std.proofs.lemmas.Bool.Decides.{Decides-eqb, nat_tests}
use Rattle.std.proofs.lemmas.List.{get_or_default, append_cancel_left}
use Rattle.std.proofs.lemmas.List.Sorted.{Contains-permutation, IsPermutation-map, IsPermutation-sym}
use Rattle.std.proofs.lemmas.Slice.Eq.{starts_is, bytes_eq-Decides}
use Rattle.base_text.specs.Sum.{sum_text}
use Rattle.base_devices.specs.declared.disk.Found.{Found}
use Rattle.base_devices.specs.Content.{Name, Content, IsListing, is_below, IsFolderName, AreFolders}
use Rattle.base_devices.specs.Order.{is_before}
use Rattle.base_disk.proofs.Below.{below_prefix}
use Rattle.base_model.specs.declared.wal.ArchiveId.{ArchiveId}
use Rattle.base_model.specs.declared.wal.ArchiveName.{ArchiveName}
use Rattle.base_model.specs.declared.wal.ArchiveName.TheVariants.{Segment as Whole, Partial, History, Backup}
use Rattle.base_model.specs.declared.wal.Segment.{Segment}
use Rattle.base_model.specs.Text.{Text, In, ◌⫽◌, hex_digit, hex_upper}
use Rattle.base_model.specs.Names.{archive_folder, id_text, wal_text, segment_text, segment_folder}
use Rattle.base_model.specs.Represents.{IsArchivePlace}
use Rattle.base_model.proofs.Pushed.{in_left}
use Rattle.repo_names.proofs.Digits.{length-hex_upper, hex_upper-at, seam}
use Rattle.archive_lookup.specs.Stored.{archive_path}
use Rattle.archive_lookup.specs.Paths.{Lacks, below_folder, below_id}
use Rattle.archive_lookup.specs.Listing.{Picks}
use Rattle.archive_lookup.specs.Ends.{StoresWhole, AreEnds, IsUpperDigit, id_place, IsPathOf, ShowsWhole, PassesWhole, AreWholeIn, RepresentsAt, IsAhead, AreOfFirst}
use Rattle.archive_lookup.proofs.Orders.{in_of, contains_of, in_map, from_map, not_before_on, before_of, not_both, not_itself, before_prefix}
use Rattle.archive_lookup.proofs.OnePath.{one_path, folder_length, folder_lacks}
use Rattle.archive_lookup.proofs.Picked.{picked, met}
use Rattle.archive_lookup.proofs.Looked.{pair_of, found_at, held_at, in_place}

-- ---- one path

-- a path that is given as some file's is no other's
pub same_path : (prefix path : Text) (i j : ArchiveId) (n : ArchiveName) (sum : Text) → path ≡ below_folder prefix i n sum → IsArchivePlace i n sum → j.version < 2 ^ 32 → j.number < 2 ^ 32
    → (s : Segment) → IsPathOf prefix j path s → (i ≡ j) × (n ≡ Whole s)
same_path prefix path i j n sum is fits v m s p =
    one_path prefix i j n (Whole s) sum p.1.0 fits (record { version = v; number = m; fits = p.0; digest = p.1.1 }) (sym is ∙ p.1.2)

pub ids_apart : (i j : ArchiveId) → i ≡ j → true ≡ not (nat_eq i.version j.version && nat_eq i.number j.number) → ⊥
ids_apart i j e h =
    let v : nat_eq i.version j.version ≡ true = (Decides-eqb i.version j.version).1 (ap (λ (k : ArchiveId). k.version) e) in
    let n : nat_eq i.number j.number ≡ true = (Decides-eqb i.number j.number).1 (ap (λ (k : ArchiveId). k.number) e) in
    false≢true (sym (h ∙ ap₂ (λ (a b : Bool). not (a && b)) v n))

pub not_whole : (n : ArchiveName) (s : Segment) → (((k : Segment) × (n ≡ Partial k)) ⊎ (((t : ℕ) × (n ≡ History t)) ⊎ ((k : Segment) × (o : ℕ) × (n ≡ Backup k o)))) → n ≡ Whole s → ⊥
not_whole n s (inl x) e = let h : Whole s ≡ Partial x.0 = sym e ∙ x.1 in cc h
not_whole n s (inr (inl x)) e = let h : Whole s ≡ History x.0 = sym e ∙ x.1 in cc h
not_whole n s (inr (inr x)) e = let h : Whole s ≡ Backup x.0 x.1 = sym e ∙ x.2 in cc h

pub path_as : (prefix from path name : Text) (id : ArchiveId) (s : Segment) → IsPathOf from id path s → from ≡ prefix → path ≡ name → IsPathOf prefix id name s
path_as prefix from path name id s p e at = (p.0, (p.1.0, p.1.1, sym at ∙ p.1.2 ∙ ap (λ (t : Text). below_folder t id (Whole s) p.1.0) e))

-- ---- the folder of a segment

low_digit : (n : ℕ) → n < 10 → hex_digit n ≡ 48 + n
low_digit n h = grind (arith, nat_tests)

high_digit : (n k : ℕ) → n ≡ 10 + k → hex_digit n ≡ 65 + k
high_digit n k h = grind (arith, nat_tests)

digit_is : (n : ℕ) → n < 16 → IsUpperDigit (hex_digit n)
digit_is n h = elim (cases_lt n 10) [
  | inl low ↦ let e = low_digit n low in inl (omega arith, omega arith)
  | inr high ↦ let e = high_digit n (n - 10) (omega arith) in inr (omega arith, omega arith)
]

upper_at : (v i : ℕ) → i < 8 → IsUpperDigit (get_or (hex_upper 8 v) i 0)
upper_at v i h = let w = hex_upper-at 8 v i h in subst IsUpperDigit (sym w.2) (digit_is w.0 w.1)

pub folder_digits : (s : Segment) → EachIndex (segment_folder s) (λ k. IsUpperDigit (slice_index (segment_folder s) k))
folder_digits s k lt =
    let a = hex_upper 8 s.timeline in
    let b = hex_upper 8 s.log in
    let long = length-hex_upper 8 s.timeline in
    let whole = folder_length s in
    elim (cases_lt k 8) [
      | inl prefix ↦ subst IsUpperDigit (sym (get_or-append a b 0 k (omega arith))) (upper_at s.timeline k prefix)
      | inr rear ↦
          let place : length a + (k - 8) ≡ k = omega arith in
          subst IsUpperDigit (sym (sym (ap (λ (n : ℕ). get_or (a ++ b) n 0) place) ∙ get_or-append-add a b (k - 8) 0)) (upper_at s.log (k - 8) (omega arith))
    ]

lacks_slash : (text : Text) → Lacks 47 text → Contains text 47 → ⊥
lacks_slash [] lacks has = absurd (omega (arith, has.1))
lacks_slash (c ∷ text) lacks (zero, lt, is) = lacks.0 is
lacks_slash (c ∷ text) lacks (suc k, lt, is) = lacks_slash text lacks.1 (k, omega arith, is)

pub folder_named : (s : Segment) → IsFolderName (segment_folder s)
folder_named s = (λ e. let long = folder_length s in let none = ap length e in omega arith, lacks_slash (segment_folder s) (folder_lacks 47 s (omega arith)))

-- a folder that can't be one of the log has no segment
pub none_outside : (stanza : Text) (id : ArchiveId) (o : Option Content) (folder name : Text) (log : Bool) (found : List Segment) → name ≡ folder → log ≡ false
    → IsTrue log ↔ ((length name ≡ 16) × EachIndex name (λ k. IsUpperDigit (slice_index name k))) → found ≡ [] → IfSome o (λ f. AreWholeIn stanza id f folder found)
none_outside stanza id None folder name log found same off is none = tt
none_outside stanza id (Some f) folder name log found same off is none = record {
  each = λ s at. absurd (subst (λ (l : List Segment). In s l) none at);
  all = λ s stored e.
      let at : segment_folder s ≡ name = e ∙ sym same in
      absurd (false≢true (sym off ∙ is.1 (subst (λ (t : Text). (length t ≡ 16) × EachIndex t (λ k. IsUpperDigit (slice_index t k))) at (folder_length s, folder_digits s))));
}

-- ---- the segments of a folder

below_is : (folder path : Name) → is_below folder path ≡ true → (rest : Name) × (path ≡ folder ++ 47 ∷ rest)
below_is folder path below =
    let prefix = folder ++ 47 ∷ [] in
    (drop (length prefix) path, (starts_is Decides-eqb path prefix (is_below folder path) refl).0 below ∙ append_assoc folder (47 ∷ []) (drop (length prefix) path))

module _ (stanza : Text) (id : ArchiveId) (version : id.version < 2 ^ 32) (number : id.number < 2 ^ 32) (f : Content) (folder place prefix : Text) (found : List Found) (segments : List Segment)
    (long : length folder ≡ 16) (place_is : place ≡ archive_folder stanza ⫽ id_text id ⫽ folder) (prefix_is : prefix ≡ archive_folder stanza ++ 47 ∷ [])
    (listing : IsListing place f (map pair_of found)) (picks : Picks (ShowsWhole prefix id) (PassesWhole prefix id) found segments) where
  path_is : (s : Segment) (sum : Text) → below_folder prefix id (Whole s) sum ≡ archive_path stanza id (Whole s) sum
  path_is s sum = ap (λ (t : Text). t ++ (id_text id ⫽ below_id (Whole s) sum)) prefix_is ∙ append_assoc (archive_folder stanza) (47 ∷ []) (id_text id ⫽ below_id (Whole s) sum)

  in_folder : (s : Segment) (sum rest name : Text) → name ≡ archive_path stanza id (Whole s) sum → name ≡ place ++ 47 ∷ rest → segment_folder s ≡ folder
  in_folder s sum rest name is at =
      let A = archive_folder stanza in
      let I = id_text id in
      let own = A ⫽ I ⫽ segment_folder s in
      let there = A ⫽ I ⫽ folder in
      let tail = wal_text (Whole s) ++ (45 ∷ sum_text sum) in
      let whole : own ++ 47 ∷ tail ≡ there ++ 47 ∷ rest = sym (in_place stanza id (Whole s) sum) ∙ sym is ∙ at ∙ ap (λ (t : Text). t ++ 47 ∷ rest) place_is in
      let size : length own ≡ length there = omega (arith, length-append A (47 ∷ (I ⫽ segment_folder s)), length-append A (47 ∷ (I ⫽ folder)), length-append I (47 ∷ segment_folder s), length-append I (47 ∷ folder), folder_length s, long) in
      let same = (seam own there (47 ∷ tail) (47 ∷ rest) size whole).0 in
      let following : 47 ∷ (I ⫽ segment_folder s) ≡ 47 ∷ (I ⫽ folder) = append_cancel_left A (47 ∷ (I ⫽ segment_folder s)) (47 ∷ (I ⫽ folder)) same in
      let inner : I ++ 47 ∷ segment_folder s ≡ I ++ 47 ∷ folder = ap (drop 1) following in
      ap (drop 1) (append_cancel_left I (47 ∷ segment_folder s) (47 ∷ folder) inner)

  pub whole_in : AreWholeIn stanza id f folder segments
  whole_in = record {
    each = λ s at.
        let x = picked (ShowsWhole prefix id) (PassesWhole prefix id) found segments picks s at in
        let path : string_bytes x.0.name ≡ archive_path stanza id (Whole s) x.2.1.0 = x.2.1.2 ∙ path_is s x.2.1.0 in
        let held = held_at place f found listing x.0 x.1 in
        let below = (listing.each (string_bytes x.0.name) x.0.size (contains_of (map pair_of found) (pair_of x.0) (in_map pair_of found x.0 x.1))).0 in
        let rest = below_is place (string_bytes x.0.name) below in
        let some : IsSome (f (archive_path stanza id (Whole s) x.2.1.0)) = subst (λ (t : Text). IsSome (f t)) path (subst (λ (o : Option Text). IsSome o) (sym held.1) refl) in
        ((x.2.0, (x.2.1.0, (x.2.1.1, some))), in_folder s x.2.1.0 rest.0 (string_bytes x.0.name) path rest.1);
    all = λ s stored e.
        let sum = stored.1.0 in
        let path = archive_path stanza id (Whole s) sum in
        let tail = wal_text (Whole s) ++ (45 ∷ sum_text sum) in
        let lies : path ≡ place ++ 47 ∷ tail = in_place stanza id (Whole s) sum ∙ ap (λ (t : Text). (archive_folder stanza ⫽ id_text id ⫽ t) ++ 47 ∷ tail) e ∙ ap (λ (t : Text). t ++ 47 ∷ tail) (sym place_is) in
        let x = found_at place f found listing path (below_prefix place tail path lies) stored.1.1.1 in
        let known : IsPathOf prefix id (string_bytes x.0.name) s = (stored.0, (sum, stored.1.1.0, x.2 ∙ sym (path_is s sum))) in
        ⊎_elim (λ (passes : PassesWhole prefix id x.0). absurd (passes s known))
        (λ (y : (t : Segment) × In t segments × ShowsWhole prefix id x.0 t).
        let fits : IsArchivePlace id (Whole y.0) y.2.1.0 = record { version = version; number = number; fits = y.2.0; digest = y.2.1.1 } in
        let same = (same_path prefix (string_bytes x.0.name) id id (Whole y.0) y.2.1.0 y.2.1.2 fits version number s known).1 in
        let one : y.0 ≡ s = cc same in
        subst (λ (t : Segment). In t segments) one y.1)
        (met (ShowsWhole prefix id) (PassesWhole prefix id) found segments picks x.0 x.1);
  }

-- ---- the first folder that has any

-- no whole segment is stored in the folders before this place
abbrev pub HasNoneBefore : Text → ArchiveId → Content → List (String Global) → ℕ → Type 0
HasNoneBefore stanza id f folders i = (s : Segment) (k : ℕ) (name : String Global) → StoresWhole stanza id f s → RepresentsAt folders k name → k < i → string_bytes name ≢ segment_folder s

pub one_place : {X : Type 0} (xs : List X) (k : ℕ) (x y : X) → RepresentsAt xs k x → RepresentsAt xs k y → x ≡ y
one_place xs k x y p q = sym p.1 ∙ get_or_default xs k x y p.0 ∙ q.1

head_of : {X : Type 0} (xs : List X) → (xs ≡ [] → ⊥) → (x : X) × In x xs
head_of [] some = absurd (some refl)
head_of (x ∷ xs) some = (x, inl refl)

module _ (stanza : Text) (id : ArchiveId) (f : Content) (folders : List (String Global)) (i : ℕ) (y : String Global) (name : Text) (found : List Segment)
    (lt : i < length folders) (item : y ≡ get_or folders i y) (named : name ≡ string_bytes y) (none : HasNoneBefore stanza id f folders i) (whole : AreWholeIn stanza id f name found) where
  represents_here : RepresentsAt folders i y
  represents_here = (lt, sym item)

  here : (k : ℕ) (x : String Global) → RepresentsAt folders k x → k ≡ i → string_bytes x ≡ name
  here k x represents e = ap (λ (z : String Global). string_bytes z) (one_place folders i x y (subst (λ (n : ℕ). RepresentsAt folders n x) e represents) represents_here) ∙ sym named

  are_of_first : (found ≡ [] → ⊥) → AreOfFirst stanza id f folders found
  are_of_first some = record {
    each = λ s at. (whole.each s at).0;
    all = λ s k x stored represents is.
        elim (cases_lt k i) [
          | inl before ↦ absurd (none s k x stored represents before is)
          | inr not_before ↦ elim (cases_lt i k) [
            | inl following ↦ by_name s k following stored (bytes_eq (segment_folder s) name) refl
            | inr not_after ↦ inl (whole.all s stored (sym is ∙ here k x represents (omega arith)))
          ]
        ];
  }
    where
      by_name : (s : Segment) (k : ℕ) → i < k → StoresWhole stanza id f s → (b : Bool) → bytes_eq (segment_folder s) name ≡ b → In s found ⊎ IsAhead folders k (segment_folder s) found
      by_name s k following stored true test = inl (whole.all s stored ((bytes_eq-Decides (segment_folder s) name).0 test))
      by_name s k following stored false test =
          let t = head_of found some in
          let of_name = (whole.each t.0 t.1).1 in
          inr (record {
            segment = t.0;
            among = t.1;
            place = i;
            before = following;
            name = y;
            represents = represents_here;
            is = sym named ∙ sym of_name;
            other = λ e. false≢true (sym test ∙ (bytes_eq-Decides (segment_folder s) name).1 (sym e ∙ of_name));
          })

pub first_found : (stanza : Text) (id : ArchiveId) (o now : Option Content) (folders : List (String Global)) (i : ℕ) (y : String Global) (name : Text) (found : List Segment) → now ≡ o
    → i < length folders → y ≡ get_or folders i y → name ≡ string_bytes y → IfSome o (λ f. HasNoneBefore stanza id f folders i) → IfSome now (λ f. AreWholeIn stanza id f name found) → (found ≡ [] → ⊥)
    → IfSome o (λ f. AreOfFirst stanza id f folders found)
first_found stanza id None now folders i y name found same lt item named none whole some = tt
first_found stanza id (Some f) now folders i y name found same lt item named none whole some =
    are_of_first stanza id f folders i y name found lt item named none (subst (λ (o : Option Content). IfSome o (λ f. AreWholeIn stanza id f name found)) same whole) some

-- ---- what is known

pub known_whole : (stanza : Text) (id : ArchiveId) → id.version < 2 ^ 32 → id.number < 2 ^ 32 → (o : Option Content) (folder place listed prefix : Text) (found seen : List Found) (segments : List Segment) → length folder ≡ 16
    → place ≡ id_place stanza id ⫽ folder → listed ≡ place → prefix ≡ archive_folder stanza ++ 47 ∷ [] → seen ≡ found → IfSome o (λ f. IsListing listed f (map (λ x. (string_bytes x.name, x.size)) found))
    → Picks (ShowsWhole prefix id) (PassesWhole prefix id) seen segments → IfSome o (λ f. AreWholeIn stanza id f folder segments)
known_whole stanza id version number None folder place listed prefix found seen segments long place_is same prefix_is alike listing picks = tt
known_whole stanza id version number (Some f) folder place listed prefix found seen segments long place_is same prefix_is alike listing picks =
    whole_in stanza id version number f folder place prefix found segments long (place_is ∙ append_assoc (archive_folder stanza) (47 ∷ id_text id) (47 ∷ folder)) prefix_is
    (subst (λ (t : Text). IsListing t f (map pair_of found)) same listing) (subst (λ (l : List Found). Picks (ShowsWhole prefix id) (PassesWhole prefix id) l segments) alike picks)

-- ---- the first and the last folder

lt_as : (o : Ordering) → is_lt o ≡ false → match_ordering o true false false ≡ false
lt_as Less e = cc e
lt_as Equal e = refl
lt_as Greater e = refl

not_self : (a : Text) → is_before a a ≡ false
not_self a = by (is_before a a) refl
  where
    by : (b : Bool) → is_before a a ≡ b → is_before a a ≡ false
    by true e = absurd (not_itself a e)
    by false e = e

in_right : {X : Type 0} (x : X) (xs ys : List X) → In x ys → In x (xs ++ ys)
in_right x [] ys at = at
in_right x (z ∷ xs) ys at = inr (in_right x xs ys at)

in_sides : {X : Type 0} (x : X) (xs ys : List X) → In x (xs ++ ys) → In x xs ⊎ In x ys
in_sides x [] ys at = inr at
in_sides x (z ∷ xs) ys (inl e) = inl (inl e)
in_sides x (z ∷ xs) ys (inr at) = ⊎_elim (λ h. inl (inr h)) (λ h. inr h) (in_sides x xs ys at)

-- a folder before another has the names that come before
folders_decide : (s t : Segment) → is_before (segment_folder t) (segment_folder s) ≡ false → segment_folder s ≢ segment_folder t → is_before (segment_text t) (segment_text s) ≡ false
folders_decide s t off apart =
    not_both (segment_text s) (segment_text t)
    (before_prefix (segment_folder s) (segment_folder t) (hex_upper 8 s.seg) (hex_upper 8 t.seg) (folder_length s ∙ sym (folder_length t)) (before_of (segment_folder s) (segment_folder t) off apart))

module _ (stanza : Text) (id : ArchiveId) (f : Content) (place : Text) (known sorted reversed : List (String Global)) (first last : List Segment)
    (place_is : place ≡ id_place stanza id) (folders : AreFolders place f (map string_bytes known)) (moved : IsPermutation known sorted) (order : IsSorted string_cmp sorted)
    (back : ReversedBelow sorted reversed (length sorted)) (many : length reversed ≡ length sorted)
    (first_is : AreOfFirst stanza id f sorted first) (last_is : AreOfFirst stanza id f reversed last) where
  -- the folder of each stored segment is among them
  placed : (s : Segment) → StoresWhole stanza id f s → (k : ℕ) × (x : String Global) × RepresentsAt sorted k x × (string_bytes x ≡ segment_folder s)
  placed s stored =
      let sum = stored.1.0 in
      let A = archive_folder stanza in
      let I = id_text id in
      let tail = wal_text (Whole s) ++ (45 ∷ sum_text sum) in
      let lies : archive_path stanza id (Whole s) sum ≡ place ++ 47 ∷ segment_folder s ++ 47 ∷ tail =
      in_place stanza id (Whole s) sum ∙ ap (λ (t : Text). t ++ 47 ∷ tail) (sym (append_assoc A (47 ∷ I) (47 ∷ segment_folder s)) ∙ ap (λ (t : Text). t ++ 47 ∷ segment_folder s) (sym place_is)) in
      let has = folders.all (segment_folder s) tail (folder_named s) (subst (λ (t : Text). IsSome (f t)) lies stored.1.1.1) in
      let x = from_map string_bytes known (segment_folder s) (in_of (map string_bytes known) (segment_folder s) has) in
      let at = Contains-permutation known sorted x.0 moved (contains_of known x.0 x.1) in
      (at.0, x.0, (at.1, at.2), sym x.2)

  ordered_by : (n j k : ℕ) (x y : String Global) → j + n ≡ k → RepresentsAt sorted j x → RepresentsAt sorted k y → is_before (string_bytes y) (string_bytes x) ≡ false
  ordered_by zero j k x y e p q =
      let same : x ≡ y = one_place sorted k x y (subst (λ (i : ℕ). RepresentsAt sorted i x) (let here : j ≡ k = omega arith in here) p) q in
      subst (λ (z : String Global). is_before (string_bytes z) (string_bytes x) ≡ false) same (not_self (string_bytes x))
  ordered_by (suc n) j k x y e p q =
      let i = j + n in
      let lt = q.0 in
      let next : i + 1 ≡ k = omega arith in
      let z = get_or sorted i x in
      let represents : RepresentsAt sorted i z = (omega arith, get_or_default sorted i z x (omega arith)) in
      let there : get_or sorted (i + 1) z ≡ y = ap (λ (m : ℕ). get_or sorted m z) next ∙ get_or_default sorted k z y lt ∙ q.1 in
      let step : is_before (string_bytes (get_or sorted (i + 1) z)) (string_bytes (get_or sorted i z)) ≡ false = lt_as (string_cmp (get_or sorted (i + 1) z) (get_or sorted i z)) (order i z (omega arith) (omega arith)) in
      let step_on : is_before (string_bytes y) (string_bytes z) ≡ false =
      subst (λ (w : String Global). is_before (string_bytes y) (string_bytes w) ≡ false) represents.1 (subst (λ (w : String Global). is_before (string_bytes w) (string_bytes (get_or sorted i z)) ≡ false) there step) in
      not_before_on (string_bytes x) (string_bytes z) (string_bytes y) (ordered_by n j i x z refl p represents) step_on

  ordered : (j k : ℕ) (x y : String Global) → j < k → RepresentsAt sorted j x → RepresentsAt sorted k y → is_before (string_bytes y) (string_bytes x) ≡ false
  ordered j k x y lt p q = ordered_by (k - j) j k x y (omega arith) p q

  turned : (k : ℕ) (x : String Global) → RepresentsAt reversed k x → RepresentsAt sorted (length sorted - 1 - k) x
  turned k x p = let lt = p.0 in (omega arith, sym (back k x (omega arith)) ∙ p.1)

  turned_back : (k : ℕ) (x : String Global) → RepresentsAt sorted k x → RepresentsAt reversed (length sorted - 1 - k) x
  turned_back k x p =
      let lt = p.0 in
      let same : length sorted - 1 - (length sorted - 1 - k) ≡ k = omega arith in
      (omega arith, back (length sorted - 1 - k) x (omega arith) ∙ ap (λ (n : ℕ). get_or sorted n x) same ∙ p.1)

  first_end : (s : Segment) → StoresWhole stanza id f s → (t : Segment) × In t (first ++ last) × (is_before (segment_text s) (segment_text t) ≡ false)
  first_end s stored =
      let p = placed s stored in
      ⊎_elim (λ (at : In s first). (s, in_left s first last at, not_self (segment_text s)))
      (λ (h : IsAhead sorted p.0 (segment_folder s) first).
      let off : is_before (string_bytes p.1) (string_bytes h.name) ≡ false = ordered h.place p.0 h.name p.1 h.before h.represents p.2 in
      let off_on : is_before (segment_folder s) (segment_folder h.segment) ≡ false = sym (ap₂ is_before p.3 h.is) ∙ off in
      (h.segment, in_left h.segment first last h.among, folders_decide h.segment s off_on h.other))
      (first_is.all s p.0 p.1 stored p.2 p.3)

  last_end : (s : Segment) → StoresWhole stanza id f s → (t : Segment) × In t (first ++ last) × (is_before (segment_text t) (segment_text s) ≡ false)
  last_end s stored =
      let p = placed s stored in
      let k = length sorted - 1 - p.0 in
      ⊎_elim (λ (at : In s last). (s, in_right s first last at, not_self (segment_text s)))
      (λ (h : IsAhead reversed k (segment_folder s) last).
      let lt = h.before in
      let within = p.2.0 in
      let off : is_before (string_bytes h.name) (string_bytes p.1) ≡ false = ordered p.0 (length sorted - 1 - h.place) p.1 h.name (omega arith) p.2 (turned h.place h.name h.represents) in
      let off_on : is_before (segment_folder h.segment) (segment_folder s) ≡ false = sym (ap₂ is_before h.is p.3) ∙ off in
      (h.segment, in_right h.segment first last h.among, folders_decide s h.segment off_on (λ e. h.other (sym e))))
      (last_is.all s k p.1 stored (turned_back p.0 p.1 p.2) p.3)

  are_ends : AreEnds stanza id f (first ++ last)
  are_ends = record { each = λ s at. ⊎_elim (first_is.each s) (last_is.each s) (in_sides s first last at); first = first_end; last = last_end }

-- folders are listed in any order
pub sorted_are_folders : (place listed : Text) (o : Option Content) (known sorted : List (String Global)) → listed ≡ place → IfSome o (λ f. AreFolders listed f (map string_bytes known)) → IsPermutation known sorted → IfSome o (λ f. AreFolders place f (map string_bytes sorted))
sorted_are_folders place listed None known sorted e are moved = tt
sorted_are_folders place listed (Some f) known sorted e are moved =
    let there = IsPermutation-map string_bytes known sorted moved in
    let back = IsPermutation-sym (map string_bytes known) (map string_bytes sorted) there in
    subst (λ (p : Text). AreFolders p f (map string_bytes sorted)) e (record {
      each = λ x at. are.each x (Contains-permutation (map string_bytes sorted) (map string_bytes known) x back at);
      all = λ x rest named some. Contains-permutation (map string_bytes known) (map string_bytes sorted) x there (are.all x rest named some);
    })

pub known_ends : (stanza : Text) (id : ArchiveId) (o now next : Option Content) (place listed : Text) (known sorted one reversed two : List (String Global)) (first last following found : List Segment)
    → now ≡ o → next ≡ o → place ≡ id_place stanza id → listed ≡ place → IfSome o (λ f. AreFolders listed f (map string_bytes known)) → IsPermutation known sorted → IsSorted string_cmp sorted
    → ReversedBelow sorted reversed (length sorted) → length reversed ≡ length sorted → one ≡ sorted → two ≡ reversed
    → IfSome now (λ f. AreOfFirst stanza id f one first) → IfSome next (λ f. AreOfFirst stanza id f two last) → following ≡ last → found ≡ first ++ following → IfSome o (λ f. AreEnds stanza id f found)
known_ends stanza id None now next place listed known sorted one reversed two first last following found e e2 is at folders moved order back many s r a b l grown = tt
known_ends stanza id (Some f) now next place listed known sorted one reversed two first last following found e e2 is at folders moved order back many s r a b l grown =
    let prefix : AreOfFirst stanza id f sorted first = subst (λ (x : List (String Global)). AreOfFirst stanza id f x first) s (subst (λ (o : Option Content). IfSome o (λ f. AreOfFirst stanza id f one first)) e a) in
    let rear : AreOfFirst stanza id f reversed last = subst (λ (x : List (String Global)). AreOfFirst stanza id f x last) r (subst (λ (o : Option Content). IfSome o (λ f. AreOfFirst stanza id f two last)) e2 b) in
    subst (λ (x : List Segment). AreEnds stanza id f x) (sym (grown ∙ ap (λ (x : List Segment). first ++ x) l))
    (are_ends stanza id f listed known sorted reversed first last (at ∙ is) folders moved order back many prefix rear)
