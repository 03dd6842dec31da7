-- What a listing shows of a file, and what its one path does.
use Rattle.std.proofs.Common.{◌≡◌, ⊎_elim, inl, inr, ℕ, ◌<◌, Bool, true, false, List, [], ◌∷◌, ◌++◌, length, take, drop, map, Option, Some, None, refl, ap, ap₂, ◌∙◌, sym, subst, append_assoc}
use Rattle.std.specs.Prelude.{IfSome, IsSome, IsSomeAnd, bytes_eq, string_bytes, if◌then◌else◌}
use Rattle.std.proofs.lemmas.Bool.{and_parts}
use Rattle.std.proofs.lemmas.List.{take_at, take-append-drop, append-nil}
use Rattle.std.proofs.lemmas.List.Prefix.{front_rest}
use Rattle.std.proofs.lemmas.Slice.Eq.{bytes_eq-Decides}
use Rattle.sha1.specs.Sha1.{sha1}
use Rattle.base_text.specs.Sum.{IsSum, sum_text, read_sum}
use Rattle.base_text.proofs.Sums.{read-sum_text, read_sum-is}
use Rattle.base_devices.specs.declared.disk.Found.{Found}
use Rattle.base_devices.specs.Content.{Name, Content, is_below, IsListing}
use Rattle.base_devices.specs.Order.{is_before, are_after, are_in_order}
use Rattle.base_disk.proofs.Below.{below_prefix}
use Rattle.base_model.specs.declared.wal.ArchiveId.{ArchiveId}
use Rattle.base_model.specs.declared.wal.ArchiveName.{ArchiveName}
use Rattle.base_model.specs.declared.wal.ArchiveName.TheVariants.{Segment as Whole, Partial, History, Backup}
use Rattle.base_model.specs.Text.{Text, ◌⫽◌, In}
use Rattle.base_model.specs.Names.{archive_folder, id_text, segment_folder, wal_text}
use Rattle.archive_lookup.specs.declared.stored.stored_lookup.StoredFile.{StoredFile}
use Rattle.archive_lookup.specs.declared.stored.stored_lookup.Look.{Look}
use Rattle.archive_lookup.specs.declared.stored.stored_lookup.Look.TheVariants.{Free, One, Two}
use Rattle.archive_lookup.specs.declared.stored.names.FileNames.{FileNames}
use Rattle.archive_lookup.specs.Stored.{archive_path, HasSum, Stores, StoresNone, StoresOnly, StoresTwo}
use Rattle.archive_lookup.specs.Paths.{has_sum, file_text, folder_text}
use Rattle.archive_lookup.specs.Listing.{Picks, ShowsSum, PassesSum, sum_after}
use Rattle.archive_lookup.specs.OnlyReads.{file_place, file_prefix, dash, sum_digits, AreNamesOf, IsAlike, LooksLike, Shows, ShowsOne}
use Rattle.archive_lookup.specs.Causes.{StoresLong}
use Rattle.archive_lookup.proofs.Orders.{in_of, contains_of, in_map, from_map, before_on, not_itself}
use Rattle.archive_lookup.proofs.Owns.{summed_has, has_summed, unsummed_has, has_own}
use Rattle.archive_lookup.proofs.OnePath.{joined, below_is}
use Rattle.archive_lookup.proofs.Picked.{picked, met, picked_order, each_after}

-- ---- the paths of a file

file_is : (name : ArchiveName) (sum : Text) → file_text name sum ≡ wal_text name ++ (dash (has_sum name) ++ sum_digits (has_sum name) sum)
file_is (Whole s) sum = refl
file_is (Partial s) sum = refl
file_is (History t) sum = sym (append-nil (wal_text (History t)))
file_is (Backup s n) sum = sym (append-nil (wal_text (Backup s n)))

module _ (stanza : Text) (id : ArchiveId) where
  in_id : (rest : Text) → archive_folder stanza ⫽ id_text id ⫽ rest ≡ (archive_folder stanza ⫽ id_text id) ⫽ rest
  in_id rest = sym (append_assoc (archive_folder stanza) (47 ∷ id_text id) (47 ∷ rest))

  in_folder : (folder rest : Text) → archive_folder stanza ⫽ id_text id ⫽ folder ⫽ rest ≡ (archive_folder stanza ⫽ id_text id ⫽ folder) ⫽ rest
  in_folder folder rest = sym (append_assoc (archive_folder stanza) (47 ∷ (id_text id ⫽ folder)) (47 ∷ rest)
      ∙ ap (λ (t : Text). archive_folder stanza ++ 47 ∷ t) (append_assoc (id_text id) (47 ∷ folder) (47 ∷ rest)))

  pub place_is : (name : ArchiveName) (rest : Text) → archive_folder stanza ⫽ id_text id ⫽ joined (folder_text name) rest ≡ file_place stanza id name ⫽ rest
  place_is (Whole s) rest = in_folder (segment_folder s) rest
  place_is (Partial s) rest = in_folder (segment_folder s) rest
  place_is (History t) rest = in_id rest
  place_is (Backup s n) rest = in_folder (segment_folder s) rest

module _ (stanza : Text) (id : ArchiveId) (name : ArchiveName) where
  abbrev tail : Text → Text
  tail sum = wal_text name ++ (dash (has_sum name) ++ sum_digits (has_sum name) sum)

  -- a path lies in the file's folder
  pub in_place : (sum : Text) → archive_path stanza id name sum ≡ file_place stanza id name ⫽ (wal_text name ++ (dash (has_sum name) ++ sum_digits (has_sum name) sum))
  in_place sum = ap (λ (t : Text). archive_folder stanza ⫽ id_text id ⫽ t) (below_is name sum ∙ ap (λ (t : Text). joined (folder_text name) t) (file_is name sum)) ∙ place_is stanza id name (tail sum)

  -- it is the prefix with the digits of the sum
  pub with_prefix : (sum : Text) → archive_path stanza id name sum ≡ file_prefix stanza id name ++ sum_digits (has_sum name) sum
  with_prefix sum = in_place sum ∙ sym (append_assoc (file_place stanza id name) (47 ∷ (wal_text name ++ dash (has_sum name))) (sum_digits (has_sum name) sum)
      ∙ ap (λ (t : Text). file_place stanza id name ++ 47 ∷ t) (append_assoc (wal_text name) (dash (has_sum name)) (sum_digits (has_sum name) sum)))

-- ---- the sum after a prefix

pub sum_at : (prefix sum path : Text) → IsSum sum → path ≡ prefix ++ sum_text sum → sum_after prefix path ≡ Some sum
sum_at prefix sum path is e =
    let test : bytes_eq (take (length prefix) path) prefix ≡ true = (bytes_eq-Decides (take (length prefix) path) prefix).1 (ap (take (length prefix)) e ∙ take_at prefix (sum_text sum) (length prefix) refl) in
    ap (λ (b : Bool). if b then read_sum (drop (length prefix) path) else None) test
    ∙ ap read_sum (front_rest path prefix (sum_text sum) e) ∙ read-sum_text sum is

pub sum_is : (prefix sum path : Text) → sum_after prefix path ≡ Some sum → IsSum sum × (path ≡ prefix ++ sum_text sum)
sum_is prefix sum path e = by_test (bytes_eq (take (length prefix) path) prefix) refl e
  where
    by_test : (b : Bool) → bytes_eq (take (length prefix) path) prefix ≡ b → (if b then read_sum (drop (length prefix) path) else None) ≡ Some sum → IsSum sum × (path ≡ prefix ++ sum_text sum)
    by_test true test is =
        let read = read_sum-is (drop (length prefix) path) sum is in
        (read.1, sym (take-append-drop (length prefix) path) ∙ ap (λ (t : Text). t ++ drop (length prefix) path) ((bytes_eq-Decides (take (length prefix) path) prefix).0 test) ∙ ap (λ (t : Text). prefix ++ t) read.0)
    by_test false test is = cc is

-- ---- a listing

abbrev pub pair_of : Found → Name × ℕ
pair_of x = (string_bytes x.name, x.size)

map_twice : (found : List Found) → map (λ (p : Name × ℕ). p.0) (map pair_of found) ≡ map (λ (x : Found). string_bytes x.name) found
map_twice [] = refl
map_twice (x ∷ xs) = ap (λ (l : List Name). string_bytes x.name ∷ l) (map_twice xs)

value_at : (v : Option Text) → IsSome v → (bytes : Text) × (v ≡ Some bytes)
value_at None some = cc
value_at (Some bytes) some = (bytes, refl)

module _ (folder : Name) (f : Content) (found : List Found) (listing : IsListing folder f (map pair_of found)) where
  -- what f has below the folder was found
  pub found_at : (name : Name) → is_below folder name ≡ true → IsSome (f name) → (x : Found) × In x found × (string_bytes x.name ≡ name)
  found_at name below some =
      let value = value_at (f name) some in
      let x = from_map pair_of found (name, length value.0) (in_of (map pair_of found) (name, length value.0) (listing.all name value.0 below value.1)) in
      (x.0, x.1, sym (ap (λ (p : Name × ℕ). p.0) x.2))

  -- and f has what was found
  pub held_at : (x : Found) → In x found → (bytes : Text) × (f (string_bytes x.name) ≡ Some bytes) × (length bytes ≡ x.size)
  held_at x at = (listing.each (string_bytes x.name) x.size (contains_of (map pair_of found) (pair_of x) (in_map pair_of found x at))).1

  pub found_order : are_in_order (map (λ (x : Found). string_bytes x.name) found) ≡ true
  found_order = ap are_in_order (sym (map_twice found)) ∙ listing.order

-- a value of this length
pub long_as : (v : Option Text) (bytes : Text) (n : ℕ) → v ≡ Some bytes → length bytes ≡ n → IsSomeAnd v (λ b. length b ≡ n)
long_as v bytes n e l = subst (λ (o : Option Text). IsSomeAnd o (λ b. length b ≡ n)) (sym e) l

-- ---- what a listing shows of a segment

pub shows_sum : (prefix from path : Text) (x : Found) (y : StoredFile) → Some y.sum.0 ≡ sum_after from path → from ≡ prefix → path ≡ string_bytes x.name → string_bytes y.path ≡ string_bytes x.name → y.size ≡ x.size → ShowsSum prefix x y
shows_sum prefix from path x y read e at named size = record { named = named; length = size; read = ap₂ sum_after (sym e) (sym at) ∙ sym read }

pub passes_sum : (prefix from path : Text) (x : Found) → None ≡ sum_after from path → from ≡ prefix → path ≡ string_bytes x.name → PassesSum prefix x
passes_sum prefix from path x read e at = ap₂ sum_after (sym e) (sym at) ∙ sym read

module _ (stanza : Text) (id : ArchiveId) (name : ArchiveName) (summed : has_sum name ≡ true) (f : Content) (folder prefix : Text) (found : List Found) (kept : List StoredFile)
    (folder_is : folder ≡ file_place stanza id name) (prefix_is : prefix ≡ file_prefix stanza id name) (listing : IsListing folder f (map pair_of found)) (picks : Picks (ShowsSum prefix) (PassesSum prefix) found kept) where
  path_is : (sum : Text) → archive_path stanza id name sum ≡ prefix ++ sum_text sum
  path_is sum = with_prefix stanza id name sum ∙ ap₂ (λ (t : Text) (b : Bool). t ++ sum_digits b sum) (sym prefix_is) summed

  below : (sum : Text) → is_below folder (archive_path stanza id name sum) ≡ true
  below sum = below_prefix folder (tail stanza id name sum) (archive_path stanza id name sum) (in_place stanza id name sum ∙ ap (λ (t : Text). t ⫽ tail stanza id name sum) (sym folder_is))

  -- what is stored is kept
  stored_kept : (sum : Text) → Stores stanza id name f sum → (k : StoredFile) × In k kept × (k.sum.0 ≡ sum) × (string_bytes k.path ≡ archive_path stanza id name sum)
  stored_kept sum stores =
      let path = archive_path stanza id name sum in
      let has = summed_has name summed (f path) sum stores in
      let x = found_at folder f found listing path (below sum) has.1 in
      let read : sum_after prefix (string_bytes x.0.name) ≡ Some sum = ap (sum_after prefix) x.2 ∙ sum_at prefix sum path has.0 (path_is sum) in
      ⊎_elim (λ (none : sum_after prefix (string_bytes x.0.name) ≡ None). absurd (let e : ◌≡◌ {A = Option Text} None (Some sum) = sym none ∙ read in cc))
      (λ (k : (y : StoredFile) × In y kept × ShowsSum prefix x.0 y). (k.0, k.1, (let e : ◌≡◌ {A = Option Text} (Some k.0.sum.0) (Some sum) = sym k.2.read ∙ read in cc), k.2.named ∙ x.2))
      (met (ShowsSum prefix) (PassesSum prefix) found kept picks x.0 x.1)

  -- what is kept is stored
  kept_stored : (k : StoredFile) → In k kept → Stores stanza id name f k.sum.0 × (string_bytes k.path ≡ archive_path stanza id name k.sum.0) × IsSomeAnd (f (string_bytes k.path)) (λ bytes. length bytes ≡ k.size)
  kept_stored k at =
      let x = picked (ShowsSum prefix) (PassesSum prefix) found kept picks k at in
      let is = sum_is prefix k.sum.0 (string_bytes x.0.name) x.2.read in
      let path : string_bytes x.0.name ≡ archive_path stanza id name k.sum.0 = is.1 ∙ sym (path_is k.sum.0) in
      let held = held_at folder f found listing x.0 x.1 in
      let some : IsSome (f (archive_path stanza id name k.sum.0)) = subst (λ (o : Option Text). IsSome o) (sym (sym (ap f path) ∙ held.1)) refl in
      (has_summed name summed (f (archive_path stanza id name k.sum.0)) k.sum.0 is.0 some, x.2.named ∙ path, long_as (f (string_bytes k.path)) held.0 k.size (ap f x.2.named ∙ held.1) (held.2 ∙ sym x.2.length))

  abbrev path_of : StoredFile → Text
  path_of k = string_bytes k.path

  none_stored : kept ≡ [] → StoresNone stanza id name f
  none_stored e sum stores = let k = stored_kept sum stores in subst (λ (l : List StoredFile). In k.0 l) e k.1

  one_stored : (k : StoredFile) → kept ≡ k ∷ [] → ShowsOne stanza id name f k
  one_stored k e =
      let here = kept_stored k (subst (λ (l : List StoredFile). In k l) (sym e) (inl refl)) in
      record {
        only = record {
          stored = here.0;
          only = λ other stores. (let m = stored_kept other stores in sym m.2 ∙ ⊎_elim (λ (i : m.0 ≡ k). ap (λ (y : StoredFile). y.sum.0) i) (λ none. absurd none) (subst (λ (l : List StoredFile). In m.0 l) e m.1));
        };
        path = here.1;
        size = here.2;
      }

  two_stored : (p q : StoredFile) (ps : List StoredFile) → kept ≡ p ∷ q ∷ ps → StoresTwo stanza id name f (string_bytes p.path) (string_bytes q.path)
  two_stored p q ps e =
      let first = kept_stored p (subst (λ (l : List StoredFile). In p l) (sym e) (inl refl)) in
      let second = kept_stored q (subst (λ (l : List StoredFile). In q l) (sym e) (inr (inl refl))) in
      let order : are_in_order (map path_of kept) ≡ true = picked_order (ShowsSum prefix) (PassesSum prefix) (λ (x : Found). string_bytes x.name) path_of (λ x y h. h.named) found kept picks (found_order folder f found listing) in
      let sorted : are_in_order (map path_of (p ∷ q ∷ ps)) ≡ true = subst (λ (l : List StoredFile). are_in_order (map path_of l) ≡ true) e order in
      record {
        first_sum = p.sum.0;
        second_sum = q.sum.0;
        first_stored = first.0;
        second_stored = second.0;
        first_is = first.1;
        second_is = second.1;
        order = each_after path_of (path_of p) (q ∷ ps) sorted q (inl refl);
        before = λ sum stores earlier. (let m = stored_kept sum stores in sym m.2 ∙ by_place m.0 (subst (λ (n : Text). is_before n (path_of q) ≡ true) (sym m.3) earlier) sorted (subst (λ (l : List StoredFile). In m.0 l) e m.1));
      }
    where
      by_place : (m : StoredFile) → is_before (path_of m) (path_of q) ≡ true → are_in_order (map path_of (p ∷ q ∷ ps)) ≡ true → In m (p ∷ q ∷ ps) → m.sum.0 ≡ p.sum.0
      by_place m earlier sorted (inl h) = ap (λ (k : StoredFile). k.sum.0) h
      by_place m earlier sorted (inr (inl h)) = absurd (not_itself (path_of q) (subst (λ (k : StoredFile). is_before (path_of k) (path_of q) ≡ true) h earlier))
      by_place m earlier sorted (inr (inr h)) = absurd (not_itself (path_of q) (before_on (path_of q) (path_of m) (path_of q) (each_after path_of (path_of q) ps (and_last sorted) m h) earlier))
        where
          and_last : are_in_order (map path_of (p ∷ q ∷ ps)) ≡ true → are_after (path_of q) (map path_of ps) ≡ true
          and_last e = (and_parts (is_before (path_of p) (path_of q)) (are_after (path_of q) (map path_of ps)) e).1

  alike_one : (one k : StoredFile) → IsAlike one k → ShowsOne stanza id name f k → ShowsOne stanza id name f one
  alike_one one k same h = record {
    only = subst (λ (s : Text). StoresOnly stanza id name f s) (sym (ap (λ s. s.0) same.sum)) h.only;
    path = same.path ∙ h.path ∙ ap (archive_path stanza id name) (sym (ap (λ s. s.0) same.sum));
    size = subst (λ (n : ℕ). IsSomeAnd (f (string_bytes one.path)) (λ bytes. length bytes ≡ n)) (sym same.size) (subst (λ (t : Text). IsSomeAnd (f t) (λ bytes. length bytes ≡ k.size)) (sym same.path) h.size);
  }

  pub shown : (ks : List StoredFile) (look : Look) → ks ≡ kept → LooksLike ks look → Shows stanza id name f look
  shown [] look e is = subst (λ (l : Look). Shows stanza id name f l) (sym is) (none_stored (sym e))
  shown (k ∷ []) Free e is = absurd is
  shown (k ∷ []) (One one) e is = alike_one one k is (one_stored k (sym e))
  shown (k ∷ []) (Two first second) e is = absurd is
  shown (p ∷ q ∷ ps) Free e is = absurd is
  shown (p ∷ q ∷ ps) (One one) e is = absurd is
  shown (p ∷ q ∷ ps) (Two first second) e is =
      subst (λ (a : Text). StoresTwo stanza id name f a (string_bytes second)) (sym is.0) (subst (λ (b : Text). StoresTwo stanza id name f (string_bytes p.path) b) (sym is.1) (two_stored p q ps (sym e)))

-- the same for what the disk holds, where it is known
pub look_shows : (o : Option Content) (names : FileNames) (folder prefix : Text) (found seen : List Found) (kept ks : List StoredFile) (look : Look)
    → folder ≡ string_bytes names.folder → prefix ≡ string_bytes names.prefix → seen ≡ found → IfSome o (λ f. IsListing folder f (map (λ x. (string_bytes x.name, x.size)) found))
    → Picks (ShowsSum prefix) (PassesSum prefix) seen kept → ks ≡ kept → LooksLike ks look
    → IfSome o (λ f. (stanza : Text) (id : ArchiveId) (name : ArchiveName) → AreNamesOf stanza id name names → has_sum name ≡ true → Shows stanza id name f look)
look_shows None names folder prefix found seen kept ks look folder_is prefix_is same listing picks alike is = tt
look_shows (Some f) names folder prefix found seen kept ks look folder_is prefix_is same listing picks alike is =
    λ stanza id name of summed. shown stanza id name summed f folder prefix found kept (folder_is ∙ of.folder) (prefix_is ∙ of.prefix) listing
    (subst (λ (l : List Found). Picks (ShowsSum prefix) (PassesSum prefix) l kept) same picks) ks look alike is

-- ---- what its one path shows of another file

module _ (stanza : Text) (id : ArchiveId) (name : ArchiveName) (unsummed : has_sum name ≡ false) (f : Content) (prefix : Text) (prefix_is : prefix ≡ file_prefix stanza id name) where
  pub one_path_is : (sum : Text) → archive_path stanza id name sum ≡ prefix
  one_path_is sum = with_prefix stanza id name sum ∙ ap₂ (λ (t : Text) (b : Bool). t ++ sum_digits b sum) (sym prefix_is) unsummed ∙ append-nil prefix

  of_value : (v : Option Text) (sum bytes : Text) → IsSomeAnd v (λ b. sha1 b ≡ sum) → v ≡ Some bytes → sum ≡ sha1 bytes
  of_value None sum bytes h e = absurd h
  of_value (Some b) sum bytes h e = sym h ∙ ap sha1 (let k : b ≡ bytes = cc in k)

  of_none : (v : Option Text) (sum : Text) → IsSomeAnd v (λ b. sha1 b ≡ sum) → v ≡ None → ⊥
  of_none None sum h e = h
  of_none (Some b) sum h e = cc e

  pub path_none : f prefix ≡ None → StoresNone stanza id name f
  path_none none sum stores = of_none (f (archive_path stanza id name sum)) sum (unsummed_has name unsummed (f (archive_path stanza id name sum)) sum stores) (ap f (one_path_is sum) ∙ none)

  pub path_only : (bytes : Text) → f prefix ≡ Some bytes → StoresOnly stanza id name f (sha1 bytes)
  path_only bytes some = record {
    stored = subst (λ (o : Option Text). HasSum name o (sha1 bytes)) (sym (ap f (one_path_is (sha1 bytes)) ∙ some)) (has_own name bytes);
    only = λ other stores. of_value (f (archive_path stanza id name other)) other bytes (unsummed_has name unsummed (f (archive_path stanza id name other)) other stores) (ap f (one_path_is other) ∙ some);
  }

  pub path_one : (kept : StoredFile) (bytes : Text) → f prefix ≡ Some bytes → string_bytes kept.path ≡ prefix → kept.sum.0 ≡ sha1 bytes → kept.size ≡ length bytes → ShowsOne stanza id name f kept
  path_one kept bytes some path sum size = record {
    only = subst (λ (s : Text). StoresOnly stanza id name f s) (sym sum) (path_only bytes some);
    path = path ∙ sym (one_path_is kept.sum.0);
    size = long_as (f (string_bytes kept.path)) bytes kept.size (ap f path ∙ some) (sym size);
  }

  pub path_long : (limit : ℕ) → IsSomeAnd (f prefix) (λ bytes. limit < length bytes) → StoresLong stanza id name f prefix limit
  path_long limit long = by (f prefix) refl long
    where
      by : (v : Option Text) → f prefix ≡ v → IsSomeAnd v (λ bytes. limit < length bytes) → StoresLong stanza id name f prefix limit
      by None e h = absurd h
      by (Some bytes) e h = (sha1 bytes, path_only bytes e, sym (one_path_is (sha1 bytes)), subst (λ (o : Option Text). IsSomeAnd o (λ b. limit < length b)) (sym e) h)
