-- What the names of archive files state.
use Rattle.std.proofs.Common.{◌≡◌, ◌≢◌, ℕ, zero, suc, ◌/◌, ◌%◌, ◌<◌, ◌^◌, ◌==◌, [], ◌∷◌, ◌++◌, length, length-append, drop, ◌*◌, refl, ap, ap₂, ◌∙◌, sym, arith, Bool, true, false, if◌then◌else◌}
use Rattle.std.specs.Prelude.{codes, decimal}
use Rattle.std.specs.List.{AllByRecursion}
use Rattle.std.specs.Fmt.{digits, digits_onto, digit_glyph}
use Rattle.std.proofs.lemmas.Fmt.{decimal_injective}
use Rattle.std.proofs.lemmas.List.{append_cancel_left}
use Rattle.std.proofs.lemmas.Slice.Eq.{bytes_eq-Decides}
use Rattle.std.proofs.lemmas.Grind.{common_steps}
use Rattle.base_text.specs.Sum.{IsSum, sum_text}
use Rattle.base_text.proofs.Sums.{length-sum_text, sum_text-injective}
use Rattle.base_model.specs.declared.wal.Segment.{Segment}
use Rattle.base_model.specs.declared.wal.ArchiveId.{ArchiveId}
use Rattle.base_model.specs.declared.wal.ArchiveName.{ArchiveName}
use Rattle.base_model.specs.declared.wal.ArchiveName.TheVariants.{Segment as Whole, Partial, History, Backup}
use Rattle.base_model.specs.Text.{Text, ◌⫽◌, hex_upper, hex_digit}
use Rattle.base_model.specs.Names.{archive_folder, archive_name, archive_text, wal_text, id_text, segment_text, segment_folder}
use Rattle.base_model.specs.Repository.{Archived}
use Rattle.base_model.specs.Represents.{IsArchivePlace}
use Rattle.base_model.specs.Steps.{is_same_file}

-- ---- texts without a slash or a dash

-- no byte is this one
abbrev Lacks : ℕ → Text → Type 0
Lacks c text = AllByRecursion (λ b. b ≢ c) text

digit_lacks : (c d : ℕ) → c < 48 → d < 10 → digit_glyph false d ≢ c
digit_lacks c d low small e = grind (arith, common_steps)

onto_lacks : (c k n : ℕ) (rest : Text) → c < 48 → Lacks c rest → Lacks c (digits_onto k 10 false n rest)
onto_lacks c zero n rest low h = h
onto_lacks c (suc k) n rest low h = by (n / 10 == 0) (onto_lacks c k (n / 10) (digit_glyph false (n % 10) ∷ rest) low (digit_lacks c (n % 10) low (omega arith), h))
  where
    by : (last : Bool) → Lacks c (digits_onto k 10 false (n / 10) (digit_glyph false (n % 10) ∷ rest)) → Lacks c (if last then digit_glyph false (n % 10) ∷ rest else digits_onto k 10 false (n / 10) (digit_glyph false (n % 10) ∷ rest))
    by true more = (digit_lacks c (n % 10) low (omega arith), h)
    by false more = more

decimal_lacks : (c n : ℕ) → c < 48 → Lacks c (decimal n)
unfolding digits
decimal_lacks c n low = onto_lacks c 64 n [] low tt

lacks_append : (c : ℕ) (a b : Text) → Lacks c a → Lacks c b → Lacks c (a ++ b)
lacks_append c [] b p q = q
lacks_append c (d ∷ a) b p q = (p.0, lacks_append c a b p.1 q)

id_plain : (id : ArchiveId) → Lacks 47 (id_text id)
id_plain id = lacks_append 47 (decimal id.version) (45 ∷ decimal id.number) (decimal_lacks 47 id.version (omega arith)) (λ e. let h : ◌≡◌ {A = ℕ} 45 47 = e in omega arith, decimal_lacks 47 id.number (omega arith))

-- the first byte of a kind divides a text
divided : (s : ℕ) (a b x y : Text) → Lacks s a → Lacks s b → a ++ s ∷ x ≡ b ++ s ∷ y → (a ≡ b) × (x ≡ y)
divided s [] [] x y p q e = (refl, cc)
divided s [] (d ∷ b) x y p q e = absurd (q.0 (let h : d ≡ s = cc in h))
divided s (c ∷ a) [] x y p q e = absurd (p.0 (let h : c ≡ s = cc in h))
divided s (c ∷ a) (d ∷ b) x y p q e =
    let k : c ≡ d = cc in
    let r = divided s a b x y p.1 q.1 (let h : a ++ s ∷ x ≡ b ++ s ∷ y = cc in h) in
    let t : a ≡ b = r.0 in (cc, r.1)

-- ---- texts of one length in front

prefixes : (a b x y : Text) → length a ≡ length b → a ++ x ≡ b ++ y → (a ≡ b) × (x ≡ y)
prefixes [] [] x y l e = (refl, e)
prefixes [] (d ∷ b) x y l e = absurd (omega arith)
prefixes (c ∷ a) [] x y l e = absurd (omega arith)
prefixes (c ∷ a) (d ∷ b) x y l e =
    let k : c ≡ d = cc in
    let r = prefixes a b x y (omega arith) (let h : a ++ x ≡ b ++ y = cc in h) in
    let s : a ≡ b = r.0 in (cc, r.1)

field_length : (n v : ℕ) → length (hex_upper n v) ≡ n
unfolding hex_upper
field_length zero v = refl
field_length (suc n) v = omega (arith, length-append (hex_upper n (v / 16)) (hex_digit (v % 16) ∷ []), field_length n (v / 16))

folder_length : (s : Segment) → length (segment_folder s) ≡ 16
folder_length s = omega (arith, length-append (hex_upper 8 s.timeline) (hex_upper 8 s.log), field_length 8 s.timeline, field_length 8 s.log)

segment_length : (s : Segment) → length (segment_text s) ≡ 24
segment_length s = omega (arith, length-append (segment_folder s) (hex_upper 8 s.seg), folder_length s, field_length 8 s.seg)

same_folder : (s t : Segment) → segment_text s ≡ segment_text t → segment_folder s ≡ segment_folder t
same_folder s t e = (prefixes (segment_folder s) (segment_folder t) (hex_upper 8 s.seg) (hex_upper 8 t.seg) (folder_length s ∙ sym (folder_length t)) e).0

same_whole : (s t : Segment) (sum : Text) → segment_text s ≡ segment_text t → archive_text (Whole s) sum ≡ archive_text (Whole t) sum
same_whole s t sum e = ap (λ (f : Text). f ++ 47 ∷ (segment_text s ++ 45 ∷ sum)) (same_folder s t e) ∙ ap (λ (n : Text). segment_folder t ++ 47 ∷ (n ++ 45 ∷ sum)) e

-- ---- the names

-- a whole segment's name of 24 digits is that of no other file
pub whole_of : (name : ArchiveName) (segment : Segment) → wal_text name ≡ segment_text segment → (s : Segment) × (name ≡ Whole s) × (segment_text s ≡ segment_text segment)
whole_of (Whole s) segment e = (s, refl, e)
whole_of (Partial s) segment e = absurd (omega (arith, ap length e, length-append (segment_text s) (codes ".partial"), segment_length s, segment_length segment))
whole_of (Backup s number) segment e =
    absurd (omega (arith, ap length e, length-append (segment_text s ++ 46 ∷ hex_upper 8 number) (codes ".backup"), length-append (segment_text s) (46 ∷ hex_upper 8 number), field_length 8 number, segment_length s, segment_length segment))
whole_of (History timeline) segment e = absurd (omega (arith, ap length e, length-append (hex_upper 8 timeline) (codes ".history"), field_length 8 timeline, segment_length segment))

named_alike : (stanza : Text) (i j : ArchiveId) (name : ArchiveName) (segment : Segment) (sum : Text) → id_text i ⫽ wal_text name ≡ id_text j ⫽ segment_text segment → archive_name stanza i name sum ≡ archive_name stanza j (Whole segment) sum
named_alike stanza i j name segment sum e =
    let x = divided 47 (id_text i) (id_text j) (wal_text name) (segment_text segment) (id_plain i) (id_plain j) e in
    let w = whole_of name segment x.1 in
    ap (λ (t : Text). archive_folder stanza ⫽ t ⫽ archive_text name sum) x.0
    ∙ ap (λ (t : Text). archive_folder stanza ⫽ id_text j ⫽ t) (ap (λ (n : ArchiveName). archive_text n sum) w.1 ∙ same_whole w.0 segment sum w.2)

-- a file of a whole segment's id and name has its name, at each sum
pub same_name : (stanza : Text) (x : Archived) (id : ArchiveId) (segment : Segment) (bytes sum : Text) → is_same_file (record { id = id; name = Whole segment; bytes = bytes }) x ≡ true → archive_name stanza x.id x.name sum ≡ archive_name stanza id (Whole segment) sum
same_name stanza x id segment bytes sum h = named_alike stanza x.id id x.name segment sum (sym ((bytes_eq-Decides (id_text id ⫽ segment_text segment) (id_text x.id ⫽ wal_text x.name)).0 h))

pub same_name_too : (stanza : Text) (x : Archived) (id : ArchiveId) (segment : Segment) (bytes sum : Text) → is_same_file x (record { id = id; name = Whole segment; bytes = bytes }) ≡ true → archive_name stanza x.id x.name sum ≡ archive_name stanza id (Whole segment) sum
same_name_too stanza x id segment bytes sum h = named_alike stanza x.id id x.name segment sum ((bytes_eq-Decides (id_text x.id ⫽ wal_text x.name) (id_text id ⫽ segment_text segment)).0 h)

-- the stored name of a whole segment states its digits and its sum
stored_of : (name : ArchiveName) (segment : Segment) (found sum : Text) → IsSum found → IsSum sum → archive_text name (sum_text found) ≡ archive_text (Whole segment) (sum_text sum) → (wal_text name ≡ segment_text segment) × (found ≡ sum)
stored_of name segment found sum p q e = by name e
  where
    long : (s : Text) → IsSum s → length (sum_text s) ≡ 40
    long s h = length-sum_text s ∙ ap (λ n. 2 * n) h.0

    whole_length : length (archive_text (Whole segment) (sum_text sum)) ≡ 82
    whole_length = omega (arith, length-append (segment_folder segment) (47 ∷ (segment_text segment ++ 45 ∷ sum_text sum)), length-append (segment_text segment) (45 ∷ sum_text sum), long sum q, folder_length segment, segment_length segment)

    by : (name : ArchiveName) → archive_text name (sum_text found) ≡ archive_text (Whole segment) (sum_text sum) → (wal_text name ≡ segment_text segment) × (found ≡ sum)
    by (Whole s) e =
        let x = prefixes (segment_folder s) (segment_folder segment) (47 ∷ (segment_text s ++ 45 ∷ sum_text found)) (47 ∷ (segment_text segment ++ 45 ∷ sum_text sum)) (folder_length s ∙ sym (folder_length segment)) e in
        let below : 47 ∷ (segment_text s ++ 45 ∷ sum_text found) ≡ 47 ∷ (segment_text segment ++ 45 ∷ sum_text sum) = x.1 in
        let y = prefixes (segment_text s) (segment_text segment) (45 ∷ sum_text found) (45 ∷ sum_text sum) (segment_length s ∙ sym (segment_length segment)) (ap (drop 1) below) in
        (y.0, sum_text-injective found sum p q (ap (drop 1) y.1))
    by (Partial s) e = absurd (omega (arith, ap length e, whole_length, length-append (segment_folder s) (47 ∷ (segment_text s ++ codes ".partial-" ++ sum_text found)), length-append (segment_text s ++ codes ".partial-") (sum_text found), length-append (segment_text s) (codes ".partial-"), long found p, folder_length s, segment_length s))
    by (Backup s number) e = absurd (omega (arith, ap length e, whole_length, length-append (segment_folder s) (47 ∷ (segment_text s ++ 46 ∷ hex_upper 8 number ++ codes ".backup")), length-append (segment_text s ++ 46 ∷ hex_upper 8 number) (codes ".backup"), length-append (segment_text s) (46 ∷ hex_upper 8 number), field_length 8 number, folder_length s, segment_length s))
    by (History timeline) e = absurd (omega (arith, ap length e, whole_length, length-append (hex_upper 8 timeline) (codes ".history"), field_length 8 timeline))

known_by : (stanza : Text) (i j : ArchiveId) (name : ArchiveName) (segment : Segment) (found sum : Text) → IsSum found → IsSum sum → archive_name stanza i name (sum_text found) ≡ archive_name stanza j (Whole segment) (sum_text sum) →
    (id_text i ⫽ wal_text name ≡ id_text j ⫽ segment_text segment) × (found ≡ sum)
known_by stanza i j name segment found sum p q e =
    let below = append_cancel_left (archive_folder stanza) (47 ∷ (id_text i ⫽ archive_text name (sum_text found))) (47 ∷ (id_text j ⫽ archive_text (Whole segment) (sum_text sum))) e in
    let x = divided 47 (id_text i) (id_text j) (archive_text name (sum_text found)) (archive_text (Whole segment) (sum_text sum)) (id_plain i) (id_plain j) (ap (drop 1) below) in
    let y = stored_of name segment found sum p q x.1 in
    (ap (λ (t : Text). t ⫽ wal_text name) x.0 ∙ ap (λ (t : Text). id_text j ⫽ t) y.0, y.1)

-- a file that lies at a name of a whole segment is of its id and name, and has its sum
pub same_file : (stanza : Text) (x : Archived) (id : ArchiveId) (segment : Segment) (bytes found sum : Text) → IsArchivePlace x.id x.name found → IsArchivePlace id (Whole segment) sum
    → archive_name stanza x.id x.name (sum_text found) ≡ archive_name stanza id (Whole segment) (sum_text sum) → is_same_file (record { id = id; name = Whole segment; bytes = bytes }) x ≡ true
same_file stanza x id segment bytes found sum p q e =
    (bytes_eq-Decides (id_text id ⫽ segment_text segment) (id_text x.id ⫽ wal_text x.name)).1 (sym (known_by stanza x.id id x.name segment found sum p.digest q.digest e).0)

pub same_sum : (stanza : Text) (x : Archived) (id : ArchiveId) (segment : Segment) (found sum : Text) → IsArchivePlace x.id x.name found → IsArchivePlace id (Whole segment) sum
    → archive_name stanza x.id x.name (sum_text found) ≡ archive_name stanza id (Whole segment) (sum_text sum) → found ≡ sum
same_sum stanza x id segment found sum p q e = (known_by stanza x.id id x.name segment found sum p.digest q.digest e).1

-- the text of an id is that of no other
id_of_text : (i j : ArchiveId) → i.version < 2 ^ 32 → i.number < 2 ^ 32 → j.version < 2 ^ 32 → j.number < 2 ^ 32 → id_text i ≡ id_text j → i ≡ j
id_of_text i j iv im jv jn e =
    let x = divided 45 (decimal i.version) (decimal j.version) (decimal i.number) (decimal j.number) (decimal_lacks 45 i.version (omega arith)) (decimal_lacks 45 j.version (omega arith)) e in
    let version : i.version ≡ j.version = decimal_injective i.version j.version (omega arith) (omega arith) x.0 in
    let number : i.number ≡ j.number = decimal_injective i.number j.number (omega arith) (omega arith) x.1 in
    ap₂ (λ (v n : ℕ). let k : ArchiveId = record { version = v; number = n } in k) version number

-- a file that lies at a name of a whole segment is of its id
pub same_id : (stanza : Text) (x : Archived) (id : ArchiveId) (segment : Segment) (found sum : Text) → IsArchivePlace x.id x.name found → IsArchivePlace id (Whole segment) sum
    → archive_name stanza x.id x.name (sum_text found) ≡ archive_name stanza id (Whole segment) (sum_text sum) → x.id ≡ id
same_id stanza x id segment found sum p q e =
    let alike = (known_by stanza x.id id x.name segment found sum p.digest q.digest e).0 in
    id_of_text x.id id p.version p.number q.version q.number (divided 47 (id_text x.id) (id_text id) (wal_text x.name) (segment_text segment) (id_plain x.id) (id_plain id) alike).0
