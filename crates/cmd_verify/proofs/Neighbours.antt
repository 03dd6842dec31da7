-- Stored files that are neighbours in byte order of their names.
use Rattle.std.proofs.Common.{◌≡◌, ◌⊎◌, ⊎_elim, inl, inr, ℕ, zero, suc, ◌+◌, ◌<◌, ◌≤◌, true, false, List, [], ◌∷◌, ◌++◌, length, map, drop, Ordering, Less, Equal, Greater, nat_cmp, Option, Some, refl, sym, ap, ap₂, ◌∙◌, subst, arith, rules, append_assoc}
use Rattle.std.specs.Prelude.{codes, IsSome, string_bytes}
use Rattle.std.specs.Cmp.Lexicographic.{slice_cmp}
use Rattle.std.specs.Ordering.{match_ordering, ordering_reverse, ordering_then}
use Rattle.std.proofs.lemmas.Bool.{and_parts, cases_lt}
use Rattle.std.proofs.lemmas.Cmp.{nat_cmp_total}
use Rattle.std.proofs.lemmas.Map.Lookups.{exact_unsigned}
use Rattle.std.proofs.lemmas.List.{append_cancel_left}
use Rattle.base_devices.specs.Content.{Content}
use Rattle.base_devices.specs.Order.{is_before, are_after, are_in_order}
use Rattle.base_model.specs.declared.wal.Segment.{Segment}
use Rattle.base_model.specs.declared.wal.ArchiveId.{ArchiveId}
use Rattle.base_model.specs.declared.wal.ArchiveName.{ArchiveName}
use Rattle.base_model.specs.declared.wal.ArchiveName.TheVariants.{Segment as Whole, Partial, History, Backup}
use Rattle.base_model.specs.Text.{Text, ◌⫽◌, In}
use Rattle.base_model.specs.Names.{archive_folder, id_text, segment_text, segment_folder, wal_text}
use Rattle.base_model.specs.Represents.{IsArchivePlace}
use Rattle.archive_lookup.specs.declared.stored.files.Stored.{Stored}
use Rattle.archive_lookup.specs.Ends.{RepresentsAt}
use Rattle.archive_lookup.specs.OnlyReads.{dash, file_prefix, file_place, sum_digits}
use Rattle.archive_lookup.specs.Paths.{Lacks, below_id, has_sum}
use Rattle.archive_lookup.specs.Stored.{AreStored, IsStoredFile, archive_path}
use Rattle.archive_lookup.proofs.Bounding.{one_place}
use Rattle.archive_lookup.proofs.Cuts.{divided, lacks_append}
use Rattle.archive_lookup.proofs.Looked.{place_is, with_prefix}
use Rattle.archive_lookup.proofs.OnePath.{below_cut, file_cut, folder_lacks, id_lacks, id_of_text, segment_lacks, wal_injective}
use Rattle.archive_lookup.proofs.Orders.{before_on, in_of, not_itself}
use Rattle.archive_lookup.proofs.Picked.{each_after}
use Rattle.cmd_verify.specs.declared.findings.finding.Finding.{Finding}
use Rattle.cmd_verify.specs.What.{What, Shows, MemberAbsent, MemberBad, MembersDiffer, Absent, Short, Digest, Second, Gap, Reference, Unlike, Contradicts}
use Rattle.cmd_verify.specs.Adding.{Adds}
use Rattle.cmd_verify.specs.Archived.{FollowsAlike, SecondDeviates, SecondsBelow}
use Rattle.cmd_verify.specs.Findings.{IsSecond, IsStoredName, segment_of}
use Rattle.cmd_verify.proofs.Adding.{Either, adds_as, adds_none, adds_on, adds_one}
use Rattle.cmd_verify.proofs.Values.{is_some, value_of}

-- ---- byte order

-- what lies between two texts with one prefix has it
pub between : (prefix a w b : Text) → is_before (prefix ++ a) w ≡ true → is_before w (prefix ++ b) ≡ true → (rest : Text) × (w ≡ prefix ++ rest)
between [] a w b h k = (w, refl)
between (x ∷ prefix) a [] b h k = cc h
between (x ∷ prefix) a (y ∷ w) b h k =
    by (between prefix a w b) (nat_cmp x y) refl h (subst (λ (o : Ordering). match_ordering (ordering_then o (slice_cmp nat_cmp w (prefix ++ b))) true false false ≡ true) (nat_cmp_total.antisymm y x) k)
  where
    by : (is_before (prefix ++ a) w ≡ true → is_before w (prefix ++ b) ≡ true → (rest : Text) × (w ≡ prefix ++ rest)) → (o : Ordering) → nat_cmp x y ≡ o → match_ordering (ordering_then o (slice_cmp nat_cmp (prefix ++ a) w)) true false false ≡ true
        → match_ordering (ordering_then (ordering_reverse o) (slice_cmp nat_cmp w (prefix ++ b))) true false false ≡ true → (rest : Text) × (y ∷ w ≡ x ∷ prefix ++ rest)
    by rest Less e h k = cc k
    by rest Equal e h k = let r = rest h k in (r.0, ap₂ (λ (z : ℕ) (t : Text). z ∷ t) (sym (exact_unsigned x y e)) r.1)
    by rest Greater e h k = cc h

-- ---- one prefix is that of one file

segment_wal : (m : ArchiveName) (k : Segment) → segment_of m ≡ Some k → Lacks 45 (wal_text m)
segment_wal (Whole s) k e = segment_lacks 45 s (omega arith)
segment_wal (Partial s) k e = lacks_append 45 (segment_text s) (codes ".partial") (segment_lacks 45 s (omega arith)) (search rules)
segment_wal (History t) k e = cc e
segment_wal (Backup s n) k e = cc e

module _ (stanza : Text) (i j : ArchiveId) (n : ArchiveName) (s t rest : Text) where
  by_folder : (m : ArchiveName) (folder : Text) → Lacks 47 folder → Lacks 45 (wal_text m) → IsArchivePlace i m s → IsArchivePlace j n t
      → archive_folder stanza ⫽ id_text j ⫽ below_id n t ≡ archive_folder stanza ⫽ id_text i ⫽ folder ⫽ (wal_text m ++ 45 ∷ rest) → (j ≡ i) × (n ≡ m)
  by_folder m folder low lacks p q e =
      let x = divided 47 (id_text j) (id_text i) (below_id n t) (folder ⫽ (wal_text m ++ 45 ∷ rest)) (id_lacks j) (id_lacks i)
      (ap (drop 1) (append_cancel_left (archive_folder stanza) (47 ∷ (id_text j ⫽ below_id n t)) (47 ∷ (id_text i ⫽ folder ⫽ (wal_text m ++ 45 ∷ rest))) e)) in
      let file = below_cut n t (below_id n t) (Some folder) (wal_text m ++ 45 ∷ rest) refl (x.1, low) in
      let cut = file_cut n t (wal_text m) rest lacks (sym file.1) in
      (id_of_text j i q.version q.number p.version p.number x.0, wal_injective n m q.fits p.fits (sym cut.1))

  pub same_prefix : (m : ArchiveName) (k : Segment) → segment_of m ≡ Some k → IsArchivePlace i m s → IsArchivePlace j n t → archive_path stanza j n t ≡ file_prefix stanza i m ++ rest → (j ≡ i) × (n ≡ m)
  same_prefix (Whole g) k some p q e = by_folder (Whole g) (segment_folder g) (folder_lacks 47 g (omega arith)) (segment_wal (Whole g) k some) p q
      (e ∙ append_assoc (file_place stanza i (Whole g)) (47 ∷ (wal_text (Whole g) ++ dash true)) rest
      ∙ ap (λ (u : Text). file_place stanza i (Whole g) ⫽ u) (append_assoc (wal_text (Whole g)) (dash true) rest)
      ∙ sym (place_is stanza i (Whole g) (wal_text (Whole g) ++ 45 ∷ rest)))
  same_prefix (Partial g) k some p q e = by_folder (Partial g) (segment_folder g) (folder_lacks 47 g (omega arith)) (segment_wal (Partial g) k some) p q
      (e ∙ append_assoc (file_place stanza i (Partial g)) (47 ∷ (wal_text (Partial g) ++ dash true)) rest
      ∙ ap (λ (u : Text). file_place stanza i (Partial g) ⫽ u) (append_assoc (wal_text (Partial g)) (dash true) rest)
      ∙ sym (place_is stanza i (Partial g) (wal_text (Partial g) ++ 45 ∷ rest)))
  same_prefix (History g) k some p q e = cc some
  same_prefix (Backup g o) k some p q e = cc some

-- ---- neighbours in a list

abbrev path_of : Stored → Text
path_of file = string_bytes file.path

-- just before the file is this one: the first one itself, or one after it
pub record Preceded (files : List Stored) (first file : Stored) : Type 0 where
  pub place : ℕ
  pub before : Stored
  pub here : RepresentsAt files place before
  pub next : RepresentsAt files (suc place) file
  pub less : is_before (path_of before) (path_of file) ≡ true
  pub from : (before ≡ first) ⊎ (is_before (path_of first) (path_of before) ≡ true)

one_on : (x : Stored) (xs : List Stored) (k : ℕ) (y : Stored) → RepresentsAt xs k y → RepresentsAt (x ∷ xs) (suc k) y
one_on x xs k y h = (let lt = h.0 in omega (arith, lt), h.1)

following_head : (x : Stored) (xs : List Stored) (z : Stored) → are_after (path_of x) (map path_of xs) ≡ true → In z xs → Preceded (x ∷ xs) x z
following_head x [] z o at = absurd at
following_head x (u ∷ us) z o (inl e) =
    let p = and_parts (is_before (path_of x) (path_of u)) (are_after (path_of u) (map path_of us)) o in
    record {
      place = 0;
      before = x;
      here = (omega arith, refl);
      next = (omega arith, sym e);
      less = subst (λ (y : Stored). is_before (path_of x) (path_of y) ≡ true) (sym e) p.0;
      from = inl refl;
    }
following_head x (u ∷ us) z o (inr at) =
    let p = and_parts (is_before (path_of x) (path_of u)) (are_after (path_of u) (map path_of us)) o in
    let r = following_head u us z p.1 at in
    record {
      place = suc r.place;
      before = r.before;
      here = one_on x (u ∷ us) r.place r.before r.here;
      next = one_on x (u ∷ us) (suc r.place) z r.next;
      less = r.less;
      from = inr (⊎_elim (λ (e : r.before ≡ u). subst (λ (y : Stored). is_before (path_of x) (path_of y) ≡ true) (sym e) p.0)
          (λ h. before_on (path_of x) (path_of u) (path_of r.before) p.0 h) r.from);
    }

rest_order : (last : Text) (names : List Text) → are_after last names ≡ true → are_in_order names ≡ true
rest_order last [] o = refl
rest_order last (n ∷ ns) o = (and_parts (is_before last n) (are_after n ns) o).1

pub preceded : (files : List Stored) (y z : Stored) → are_in_order (map path_of files) ≡ true → In y files → In z files → is_before (path_of y) (path_of z) ≡ true → Preceded files y z
preceded [] y z o aty atz less = absurd aty
preceded (x ∷ xs) y z o (inl e) (inl g) less = absurd (not_itself (path_of x) (subst (λ (u : Stored). is_before (path_of u) (path_of x) ≡ true) e (subst (λ (u : Stored). is_before (path_of y) (path_of u) ≡ true) g less)))
preceded (x ∷ xs) y z o (inl e) (inr atz) less = subst (λ (u : Stored). Preceded (x ∷ xs) u z) (sym e) (following_head x xs z o atz)
preceded (x ∷ xs) y z o (inr aty) (inl g) less = absurd (not_itself (path_of x) (before_on (path_of x) (path_of y) (path_of x) (each_after path_of (path_of x) xs o y aty)
    (subst (λ (u : Stored). is_before (path_of y) (path_of u) ≡ true) g less)))
preceded (x ∷ xs) y z o (inr aty) (inr atz) less =
    let r = preceded xs y z (rest_order (path_of x) (map path_of xs) o) aty atz less in
    record {
      place = suc r.place;
      before = r.before;
      here = one_on x xs r.place r.before r.here;
      next = one_on x xs (suc r.place) z r.next;
      less = r.less;
      from = r.from;
    }

neighbours : (files : List Stored) (k : ℕ) (a b : Stored) → are_in_order (map path_of files) ≡ true → RepresentsAt files k a → RepresentsAt files (suc k) b → is_before (path_of a) (path_of b) ≡ true
neighbours [] k a b o p q = let lt = p.0 in absurd (omega (arith, lt))
neighbours (x ∷ []) k a b o p q = let lt = q.0 in absurd (omega (arith, lt))
neighbours (x ∷ u ∷ us) zero a b o p q =
    let h = and_parts (is_before (path_of x) (path_of u)) (are_after (path_of u) (map path_of us)) o in
    subst (λ (y : Stored). is_before (path_of y) (path_of b) ≡ true) p.1 (subst (λ (y : Stored). is_before (path_of x) (path_of y) ≡ true) q.1 h.0)
neighbours (x ∷ u ∷ us) (suc k) a b o p q =
    neighbours (u ∷ us) k a b (rest_order (path_of x) (map path_of (u ∷ us)) o) (let lt = p.0 in omega (arith, lt), p.1) (let lt = q.0 in omega (arith, lt), q.1)

some_injective : (s t : Segment) → ◌≡◌ {A = Option Segment} (Some s) (Some t) → s ≡ t
some_injective s t e = cc e

-- ---- neighbours that are alike, and segments with an earlier name

pub alike_of : (before file : Stored) (n : Text) (w : What) → FollowsAlike before file n w → (s : Segment) × (w ≡ Second s) × (n ≡ path_of file) × (segment_of file.name ≡ Some s) × (before.id ≡ file.id) × (before.name ≡ file.name)
alike_of before file n (Second s) d = (s, refl, d.0, d.1, d.2, d.3)
alike_of before file n MemberAbsent d = absurd d
alike_of before file n MemberBad d = absurd d
alike_of before file n MembersDiffer d = absurd d
alike_of before file n Absent d = absurd d
alike_of before file n (Short t k) d = absurd d
alike_of before file n (Digest t k) d = absurd d
alike_of before file n (Gap t) d = absurd d
alike_of before file n (Reference l) d = absurd d
alike_of before file n Unlike d = absurd d
alike_of before file n (Contradicts t) d = absurd d

second_of : (stanza : Text) (f : Content) (n : Text) (w : What) → SecondDeviates stanza f n w → (s : Segment) × (w ≡ Second s) × IsSecond stanza f n s
second_of stanza f n (Second s) d = (s, refl, d)
second_of stanza f n MemberAbsent d = absurd d
second_of stanza f n MemberBad d = absurd d
second_of stanza f n MembersDiffer d = absurd d
second_of stanza f n Absent d = absurd d
second_of stanza f n (Short t k) d = absurd d
second_of stanza f n (Digest t k) d = absurd d
second_of stanza f n (Gap t) d = absurd d
second_of stanza f n (Reference l) d = absurd d
second_of stanza f n Unlike d = absurd d
second_of stanza f n (Contradicts t) d = absurd d

module _ (stanza : Text) (f : Content) (files : List Stored) (are : AreStored stanza f files) where
  at_of : (k : ℕ) (x : Stored) → RepresentsAt files k x → IsStoredFile stanza f x
  at_of k x h = are.each x (in_of files x (k, h.0, h.1))

  there : (x : Stored) → IsStoredFile stanza f x → IsSome (f (path_of x))
  there x st = let v = value_of (λ bytes. length bytes ≡ x.size) (f (path_of x)) st.size in is_some (f (path_of x)) v.0 v.1

  -- so a file is named that has the id and the name of another
  named : (x : Stored) (id : ArchiveId) (name : ArchiveName) (s : Segment) (st : IsStoredFile stanza f x) → x.id ≡ id → x.name ≡ name → segment_of name ≡ Some s → IsStoredName stanza id name s st.sum (path_of x)
  named x id name s st e g some = record {
    fits = subst (λ (i : ArchiveId). IsArchivePlace i name st.sum) e (subst (λ (m : ArchiveName). IsArchivePlace x.id m st.sum) g st.fits);
    whole_or_part = some;
    is = st.path ∙ ap₂ (λ (i : ArchiveId) (m : ArchiveName). archive_path stanza i m st.sum) e g;
  }

  to : (k : ℕ) (n : Text) (w : What) → SecondsBelow files k n w → SecondDeviates stanza f n w
  to k n w d =
      let a = d.1 in
      let b = d.2 in
      let x = alike_of a b n w d.6 in
      let at : d.0 + 1 ≡ suc d.0 = omega arith in
      let next = subst (λ (p : ℕ). RepresentsAt files p b) at d.5 in
      let st = at_of (suc d.0) b next in
      let first = at_of d.0 a d.4 in
      let order = neighbours files d.0 a b are.order d.4 next in
      let second : IsSecond stanza f (path_of b) x.0 = record {
        id = b.id;
        file = b.name;
        sum = st.sum;
        stored = named b b.id b.name x.0 st refl refl x.3;
        there = there b st;
        first = path_of a;
        first_sum = first.sum;
        first_stored = named a b.id b.name x.0 first x.4 x.5 x.3;
        first_there = there a first;
        before = order;
      } in
      subst (λ (u : What). SecondDeviates stanza f n u) (sym x.1) (subst (λ (m : Text). IsSecond stanza f m x.0) (sym x.2) second)

  -- a stored file whose name begins as those of a segment is of that segment
  of_prefix : (x : Stored) (id : ArchiveId) (name : ArchiveName) (s : Segment) (sum rest : Text) → IsStoredFile stanza f x → IsArchivePlace id name sum → segment_of name ≡ Some s → path_of x ≡ file_prefix stanza id name ++ rest → (x.id ≡ id) × (x.name ≡ name)
  of_prefix x id name s sum rest st fits some e = same_prefix stanza id x.id x.name sum st.sum rest name s some fits st.fits (sym st.path ∙ e)

  module _ (n : Text) (s : Segment) (d : IsSecond stanza f n s) where
    abbrev prefix : Text
    prefix = file_prefix stanza d.id d.file

    abbrev digits : Text → Text
    digits sum = sum_digits (has_sum d.file) sum

    some : segment_of d.file ≡ Some s
    some = d.stored.whole_or_part

    seconds : SecondsBelow files (length files) n (Second s)
    seconds =
        let z = are.all n (record { id = d.id; file = d.file; sum = d.sum; fits = d.stored.fits; is = d.stored.is }) d.there in
        let y = are.all d.first (record { id = d.id; file = d.file; sum = d.first_sum; fits = d.first_stored.fits; is = d.first_stored.is }) d.first_there in
        let z_is : path_of z.0 ≡ prefix ++ digits d.sum = z.2 ∙ d.stored.is ∙ with_prefix stanza d.id d.file d.sum in
        let y_is : path_of y.0 ≡ prefix ++ digits d.first_sum = y.2 ∙ d.first_stored.is ∙ with_prefix stanza d.id d.file d.first_sum in
        let less : is_before (path_of y.0) (path_of z.0) ≡ true = ap₂ is_before y.2 z.2 ∙ d.before in
        let p = preceded files y.0 z.0 are.order y.1 z.1 less in
        let w = p.before in
        let rest : (rest : Text) × (path_of w ≡ prefix ++ rest) = ⊎_elim
        (λ (e : w ≡ y.0). (digits d.first_sum, ap path_of e ∙ y_is))
        (λ h. between prefix (digits d.first_sum) (path_of w) (digits d.sum)
        (subst (λ (t : Text). is_before t (path_of w) ≡ true) y_is h) (subst (λ (t : Text). is_before (path_of w) t ≡ true) z_is p.less)) p.from in
        let of_w = of_prefix w d.id d.file s d.sum rest.0 (at_of p.place w p.here) d.stored.fits some rest.1 in
        let of_z = of_prefix z.0 d.id d.file s d.sum (digits d.sum) (are.each z.0 z.1) d.stored.fits some z_is in
        let lt = p.next.0 in
        let following : suc p.place ≡ p.place + 1 = omega arith in
        let within : p.place + 1 < length files = omega (arith, lt) in (
          p.place,
          w,
          z.0,
          within,
          p.here,
          subst (λ (k : ℕ). RepresentsAt files k z.0) following p.next,
          (sym z.2, ap segment_of of_z.1 ∙ some, of_w.0 ∙ sym of_z.0, of_w.1 ∙ sym of_z.1),
        )

  back : (k : ℕ) → length files ≤ k → (n : Text) (w : What) → SecondDeviates stanza f n w → SecondsBelow files k n w
  back k le n w d =
      let x = second_of stanza f n w d in
      let r = seconds n x.0 x.2 in
      let lt = r.3 in
      let within : r.0 + 1 < k = omega (arith, lt, le) in
      subst (λ (u : What). SecondsBelow files k n u) (sym x.1) (r.0, r.1, r.2, within, r.4, r.5, r.6)

  pub seconds_all : (k : ℕ) → length files ≤ k → (a b : List Finding) → Adds (SecondsBelow files k) a b → Adds (SecondDeviates stanza f) a b
  seconds_all k le a b p = adds_as (SecondsBelow files k) (SecondDeviates stanza f) a b (to k) (back k le) p

-- ---- the walk

pub alike_none : (x y : Stored) (a : List Finding) → ((s : Segment) → segment_of y.name ≡ Some s → ¬ ((x.id ≡ y.id) × (x.name ≡ y.name))) → Adds (FollowsAlike x y) a a
alike_none x y a none = adds_none (FollowsAlike x y) a (λ n w d. let k = alike_of x y n w d in none k.0 k.3 (k.4, k.5))

pub alike_known : (x y : Stored) (s : Segment) (a b : List Finding) (z : Finding) → Some s ≡ segment_of y.name → x.id ≡ y.id → x.name ≡ y.name → Shows z (path_of y) (Second s) → b ≡ a ++ z ∷ [] → Adds (FollowsAlike x y) a b
alike_known x y s a b z some id name shows grown = subst (λ (c : List Finding). Adds (FollowsAlike x y) a c) (sym grown)
    (adds_one (FollowsAlike x y) a z (path_of y) (Second s) (refl, sym some, id, name) shows
    (λ n w d. let k = alike_of x y n w d in (k.2, k.1 ∙ ap Second (some_injective k.0 s (sym k.3 ∙ sym some)))))

pub seconds_none : (files : List Stored) (k : ℕ) → k ≤ 1 → (a : List Finding) → Adds (SecondsBelow files k) a a
seconds_none files k le a = adds_none (SecondsBelow files k) a (λ n w d. let lt = d.3 in omega (arith, lt, le))

module _ (files : List Stored) (j : ℕ) (x y : Stored) (first : RepresentsAt files j x) (second : RepresentsAt files (j + 1) y) where
  step_to : (k more : ℕ) → k ≡ j + 1 → more ≡ k + 1 → (n : Text) (w : What) → Either (SecondsBelow files k) (FollowsAlike x y) n w → SecondsBelow files more n w
  step_to k more is next n w (inl d) = let lt = d.3 in let below : d.0 + 1 < more = omega (arith, lt, next) in (d.0, d.1, d.2, below, d.4, d.5, d.6)
  step_to k more is next n w (inr d) = let below : j + 1 < more = omega (arith, is, next) in (j, x, y, below, first, second, d)

  step_back : (k more : ℕ) → k ≡ j + 1 → more ≡ k + 1 → (n : Text) (w : What) → SecondsBelow files more n w → Either (SecondsBelow files k) (FollowsAlike x y) n w
  step_back k more is next n w d =
      let lt = d.3 in
      ⊎_elim (λ (less : d.0 + 1 < k). inl (d.0, d.1, d.2, less, d.4, d.5, d.6))
      (λ (not_less : k ≤ d.0 + 1).
      let at : d.0 ≡ j = omega (arith, is, next, lt, not_less) in
      let same = one_place files j d.1 x (subst (λ (p : ℕ). RepresentsAt files p d.1) at d.4) first in
      let other = one_place files (j + 1) d.2 y (subst (λ (p : ℕ). RepresentsAt files (p + 1) d.2) at d.5) second in
      inr (subst (λ (z : Stored). FollowsAlike z y n w) same (subst (λ (z : Stored). FollowsAlike d.1 z n w) other d.6)))
      (cases_lt (d.0 + 1) k)

  pub seconds_next : (k more : ℕ) → k ≡ j + 1 → more ≡ k + 1 → (a b c : List Finding) → Adds (SecondsBelow files k) a b → Adds (FollowsAlike x y) b c → Adds (SecondsBelow files more) a c
  seconds_next k more is next a b c p q = adds_as (Either (SecondsBelow files k) (FollowsAlike x y)) (SecondsBelow files more) a c (step_to k more is next) (step_back k more is next)
      (adds_on (SecondsBelow files k) (FollowsAlike x y) a b c p q)
