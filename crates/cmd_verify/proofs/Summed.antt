-- The sums of stored segments, judged.
use Rattle.std.proofs.Common.{◌≡◌, inl, inr, ℕ, ◌+◌, ◌<◌, List, [], ◌∷◌, ◌++◌, length, take, get_or, Option, Some, None, refl, sym, ap, ap₂, ◌∙◌, subst, arith, append_assoc}
use Rattle.std.specs.Prelude.{IfSome, IsSomeAnd, option_map, string_bytes}
use Rattle.std.proofs.lemmas.List.{take_all}
use Rattle.sha1.specs.Sha1.{sha1}
use Rattle.base_text.specs.declared.sum.Sum.{Sum}
use Rattle.base_devices.specs.Content.{Content, Value}
use Rattle.base_model.specs.declared.wal.Segment.{Segment}
use Rattle.base_model.specs.declared.wal.ArchiveName.{ArchiveName}
use Rattle.base_model.specs.declared.wal.ArchiveName.TheVariants.{Segment as Whole, Partial, History, Backup}
use Rattle.base_model.specs.Text.{Text}
use Rattle.archive_lookup.specs.declared.stored.files.Stored.{Stored}
use Rattle.base_model.specs.declared.wal.ArchiveId.{ArchiveId}
use Rattle.base_model.specs.Names.{archive_folder}
use Rattle.base_model.specs.Represents.{IsArchivePlace}
use Rattle.archive_lookup.specs.Stored.{AreStored, IsStoredFile, known_sum, archive_path}
use Rattle.archive_lookup.proofs.OnePath.{one_path}
use Rattle.cmd_verify.specs.declared.findings.finding.Finding.{Finding}
use Rattle.cmd_verify.specs.declared.findings.finding.Mark.{Mark}
use Rattle.cmd_verify.specs.declared.findings.place_sum.Lies.{Lies}
use Rattle.cmd_verify.specs.declared.findings.place_sum.Lies.TheVariants.{All}
use Rattle.cmd_verify.specs.What.{What, MemberAbsent, MemberBad, MembersDiffer, Absent, Short, Digest, Second, Gap, Reference, Unlike, Contradicts}
use Rattle.cmd_verify.specs.Adding.{Adds, OfSome}
use Rattle.cmd_verify.specs.Archived.{HasOther, SecondDeviates}
use Rattle.cmd_verify.specs.Findings.{BytesDeviate, part, segment_of, FileDeviates}
use Rattle.cmd_verify.specs.Lies.{LiesSo, ShowsJustOne}
use Rattle.cmd_verify.proofs.Values.{some_at, value_of, not_none, is_some}
use Rattle.cmd_verify.proofs.Adding.{Either, adds_one, adds_none, adds_next, adds_as, adds_on, at_place}
use Rattle.cmd_verify.proofs.Sound.{one_sum, summed}
use Rattle.std.proofs.lemmas.List.{take_more}

-- a file without bytes
pub empty_lies : (o : Option Content) (path : Text) (size : ℕ) (sum : Sum) → size ≡ 0 → sum.0 ≡ sha1 [] → IfSome o (λ f. IsSomeAnd (f path) (λ bytes. length bytes ≡ size) → LiesSo (f path) 0 size (All sum))
empty_lies None path size sum zero digest = tt
empty_lies (Some f) path size sum zero digest = by (f path)
  where
    by : (v : Value) → IsSomeAnd v (λ bytes. length bytes ≡ size) → LiesSo v 0 size (All sum)
    by None long = absurd long
    by (Some []) long = let e : part [] 0 size ≡ [] = take_all size [] (omega arith) in (ap length e ∙ sym zero, digest ∙ sym (ap sha1 e))
    by (Some (x ∷ xs)) long = absurd (omega (arith, long, zero))

pub own_lies : (o : Option Content) (one path : Text) (size : ℕ) (lies : Lies) → one ≡ path → IfSome o (λ f. LiesSo (f one) 0 size lies) → IfSome o (λ f. IsSomeAnd (f path) (λ bytes. length bytes ≡ size) → LiesSo (f path) 0 size lies)
own_lies None one path size lies e h = tt
own_lies (Some f) one path size lies e h = λ _. subst (λ (n : Text). LiesSo (f n) 0 size lies) e h

module _ (file : Stored) where
  -- of a file without a sum
  pub unsummed : file.sum ≡ None → (o : Option Content) (a : List Finding) → IfSome o (λ f. (stanza : Text) → IsStoredFile stanza f file → Adds (HasOther f file) a a)
  unsummed none None a = tt
  unsummed none (Some f) a = λ stanza is. adds_none (HasOther f file) a (λ n w d. let v = value_of (λ sum. BytesDeviate (f n) 0 file.size sum.0 w) file.sum d.deviates in not_none file.sum v.0 v.1 none)

  module _ (known : Sum) (some : file.sum ≡ Some known) (lies : Lies) (mark : Option Mark) (judged : (v : Value) (k : ℕ) → LiesSo v k file.size lies → ShowsJustOne (BytesDeviate v k file.size known.0) mark) where
    abbrev Lying : Option Content → Type 0
    Lying o = IfSome o (λ f. IsSomeAnd (f (string_bytes file.path)) (λ bytes. length bytes ≡ file.size) → LiesSo (f (string_bytes file.path)) 0 file.size lies)

    bytes_of : (f : Content) (n : Text) (w : What) → HasOther f file n w → BytesDeviate (f (string_bytes file.path)) 0 file.size known.0 w
    bytes_of f n w d = subst (λ (q : Text). BytesDeviate (f q) 0 file.size known.0 w) d.is (some_at (λ sum. BytesDeviate (f n) 0 file.size sum.0 w) file.sum known some d.deviates)

    other : (f : Content) (w : What) → BytesDeviate (f (string_bytes file.path)) 0 file.size known.0 w → HasOther f file (string_bytes file.path) w
    other f w d = record { is = refl; deviates = subst (λ (o : Option Sum). IsSomeAnd o (λ sum. BytesDeviate (f (string_bytes file.path)) 0 file.size sum.0 w)) (sym some) d }

    pub other_known : (o : Option Content) (a b : List Finding) (x : Finding) (m : Mark) → mark ≡ Some m → string_bytes x.name ≡ string_bytes file.path → x.kind ≡ m.kind → x.line ≡ m.line → b ≡ a ++ x ∷ [] → Lying o
        → IfSome o (λ f. (stanza : Text) → IsStoredFile stanza f file → Adds (HasOther f file) a b)
    other_known None a b x m is named kind line grown l = tt
    other_known (Some f) a b x m is named kind line grown l = λ stanza stored.
        let t = subst (ShowsJustOne (BytesDeviate (f (string_bytes file.path)) 0 file.size known.0)) is (judged (f (string_bytes file.path)) 0 (l stored.size)) in
        subst (λ (c : List Finding). Adds (HasOther f file) a c) (sym grown)
        (adds_one (HasOther f file) a x (string_bytes file.path) t.0 (other f t.0 t.1) (record { named = named; kind = kind ∙ t.2; line = ap string_bytes line ∙ t.3 }) (λ n w d. (d.is, t.4 w (bytes_of f n w d))))

    pub other_none : (o : Option Content) (a : List Finding) → mark ≡ None → Lying o → IfSome o (λ f. (stanza : Text) → IsStoredFile stanza f file → Adds (HasOther f file) a a)
    other_none None a is l = tt
    other_none (Some f) a is l = λ stanza stored.
        let t = subst (ShowsJustOne (BytesDeviate (f (string_bytes file.path)) 0 file.size known.0)) is (judged (f (string_bytes file.path)) 0 (l stored.size)) in
        adds_none (HasOther f file) a (λ n w d. t w (bytes_of f n w d))

-- ---- all of them

pub bytes_none : (o : Option Content) (files : List Stored) (a : List Finding) → IfSome o (λ f. (stanza : Text) → AreStored stanza f files → Adds (OfSome (HasOther f) []) a a)
bytes_none None files a = tt
bytes_none (Some f) files a = λ stanza are. adds_none (OfSome (HasOther f) []) a (λ n w h. absurd h.1)

pub bytes_next : (o now : Option Content) (files : List Stored) (i : ℕ) (x : Stored) (a b c : List Finding) → now ≡ o → i < length files → x ≡ get_or files i x
    → IfSome o (λ f. (stanza : Text) → AreStored stanza f files → Adds (OfSome (HasOther f) (take i files)) a b) → IfSome now (λ f. (stanza : Text) → IsStoredFile stanza f x → Adds (HasOther f x) b c)
    → IfSome o (λ f. (stanza : Text) → AreStored stanza f files → Adds (OfSome (HasOther f) (take (i + 1) files)) a c)
bytes_next None now files i x a b c same lt is p q = tt
bytes_next (Some f) now files i x a b c same lt is p q = λ stanza are.
    let Q : Option Content → Type 0 = λ o. IfSome o (λ f. (stanza : Text) → IsStoredFile stanza f x → Adds (HasOther f x) b c) in
    let here : Q (Some f) = subst Q same q in
    let more : take i files ++ x ∷ [] ≡ take (i + 1) files = ap (λ (z : Stored). take i files ++ z ∷ []) is ∙ sym (take_more files i x lt) in
    subst (λ (fs : List Stored). Adds (OfSome (HasOther f) fs) a c) more (adds_next (HasOther f) (take i files) x a b c (p stanza are) (here stanza (are.each x (at_place files i x lt is))))

-- ---- the sums and the second names are all

known_segment : (name : ArchiveName) (sum t : Text) (o : Option Text) → o ≡ known_sum name sum → o ≡ Some t → (s : Segment) × (segment_of name ≡ Some s) × (sum ≡ t)
known_segment (Whole s) sum t o e is = let c : ◌≡◌ {A = Option Text} (Some sum) (Some t) = sym e ∙ is in (s, refl, cc c)
known_segment (Partial s) sum t o e is = let c : ◌≡◌ {A = Option Text} (Some sum) (Some t) = sym e ∙ is in (s, refl, cc c)
known_segment (History n) sum t o e is = let c : ◌≡◌ {A = Option Text} None (Some t) = sym e ∙ is in cc c
known_segment (Backup s n) sum t o e is = let c : ◌≡◌ {A = Option Text} None (Some t) = sym e ∙ is in cc c

known_some : (name : ArchiveName) (sum : Text) (s : Segment) → segment_of name ≡ Some s → known_sum name sum ≡ Some sum
known_some (Whole k) sum s e = refl
known_some (Partial k) sum s e = refl
known_some (History n) sum s e = cc e
known_some (Backup k n) sum s e = cc e

sum_of : (o : Option Sum) (x : Text) → option_map (λ (s : Sum). s.0) o ≡ Some x → (s : Sum) × (o ≡ Some s) × (s.0 ≡ x)
sum_of None x e = let c : ◌≡◌ {A = Option Text} None (Some x) = e in cc c
sum_of (Some s) x e = let c : ◌≡◌ {A = Option Text} (Some s.0) (Some x) = e in (s, refl, cc c)

all_part : (b : Text) (size : ℕ) → length b ≡ size → part b 0 size ≡ b
all_part b size long = take_all size b (omega (arith, long))

module _ (stanza : Text) (f : Content) (files : List Stored) (are : AreStored stanza f files) where
  abbrev Parts : Text → What → Type 0
  Parts = Either (OfSome (HasOther f) files) (SecondDeviates stanza f)

  one_to : (n : Text) (file : Stored) → IsStoredFile stanza f file → n ≡ string_bytes file.path → (s : Sum) → file.sum ≡ Some s → (b : Text) → f n ≡ Some b → length b ≡ file.size → (w : What) → BytesDeviate (Some b) 0 file.size s.0 w → FileDeviates stanza f n w
  one_to n file st is s some b here long (Short t k) d = let c = d.1 ∙ ap length (all_part b file.size long) ∙ long in let lt = d.2 in absurd (omega (arith, c, lt))
  one_to n file st is s some b here long (Digest t u) d =
      let seg = known_segment file.name st.sum s.0 (option_map (λ (s : Sum). s.0) file.sum) st.known (ap (option_map (λ (s : Sum). s.0)) some) in
      let same : st.sum ≡ t = seg.2 ∙ sym d.1 in
      record {
        id = file.id;
        file = file.name;
        segment = seg.0;
        stored = record {
          fits = subst (λ (x : Text). IsArchivePlace file.id file.name x) same st.fits;
          whole_or_part = seg.1;
          is = is ∙ st.path ∙ ap (archive_path stanza file.id file.name) same;
        };
        lies = subst (λ (v : Value). IsSomeAnd v (λ bytes. sha1 bytes ≡ u)) (sym here) (sym (d.2 ∙ ap sha1 (all_part b file.size long)));
        other = d.3;
      }
  one_to n file st is s some b here long MemberAbsent d = absurd d
  one_to n file st is s some b here long MemberBad d = absurd d
  one_to n file st is s some b here long MembersDiffer d = absurd d
  one_to n file st is s some b here long Absent d = absurd d
  one_to n file st is s some b here long (Second k) d = absurd d
  one_to n file st is s some b here long (Gap k) d = absurd d
  one_to n file st is s some b here long (Reference l) d = absurd d
  one_to n file st is s some b here long Unlike d = absurd d
  one_to n file st is s some b here long (Contradicts t) d = absurd d

  second_to : (n : Text) (w : What) → SecondDeviates stanza f n w → FileDeviates stanza f n w
  second_to n (Second s) d = d
  second_to n MemberAbsent d = absurd d
  second_to n MemberBad d = absurd d
  second_to n MembersDiffer d = absurd d
  second_to n Absent d = absurd d
  second_to n (Short t k) d = absurd d
  second_to n (Digest t k) d = absurd d
  second_to n (Gap s) d = absurd d
  second_to n (Reference l) d = absurd d
  second_to n Unlike d = absurd d
  second_to n (Contradicts t) d = absurd d

  to : (n : Text) (w : What) → Parts n w → FileDeviates stanza f n w
  to n w (inr d) = second_to n w d
  to n w (inl h) =
      let file = h.0 in
      let st = are.each file h.1 in
      let d = h.2 in
      let s = value_of (λ sum. BytesDeviate (f n) 0 file.size sum.0 w) file.sum d.deviates in
      let b = value_of (λ bytes. length bytes ≡ file.size) (f (string_bytes file.path)) st.size in
      let here : f n ≡ Some b.0 = ap f d.is ∙ b.1 in
      one_to n file st d.is s.0 s.1 b.0 here b.2 w (subst (λ (v : Value). BytesDeviate v 0 file.size s.0.0 w) here s.2)

  back : (n : Text) (w : What) → FileDeviates stanza f n w → Parts n w
  back n (Second s) d = inr d
  back n (Digest t u) d =
      let b = value_of (λ bytes. sha1 bytes ≡ u) (f n) d.lies in
      let x = are.all n (record { id = d.id; file = d.file; sum = t; fits = d.stored.fits; is = d.stored.is }) (is_some (f n) b.0 b.1) in
      let file = x.0 in
      let st = are.each file x.1 in
      let path : archive_path stanza file.id file.name st.sum ≡ archive_path stanza d.id d.file t = sym st.path ∙ x.2 ∙ d.stored.is in
      let same = one_path (archive_folder stanza ++ 47 ∷ []) file.id d.id file.name d.file st.sum t st.fits d.stored.fits
      (append_assoc (archive_folder stanza) (47 ∷ []) _ ∙ path ∙ sym (append_assoc (archive_folder stanza) (47 ∷ []) _)) in
      let own : archive_path stanza d.id d.file st.sum ≡ archive_path stanza d.id d.file t = sym (ap₂ (λ (i : ArchiveId) (m : ArchiveName). archive_path stanza i m st.sum) same.0 same.1) ∙ path in
      let sums : st.sum ≡ t = one_sum stanza d.id d.file st.sum t (summed d.file d.segment d.stored.whole_or_part) st.fits.digest d.stored.fits.digest own in
      let known = sum_of file.sum st.sum (st.known ∙ ap (λ (m : ArchiveName). known_sum m st.sum) same.1 ∙ known_some d.file st.sum d.segment d.stored.whole_or_part) in
      let size = some_at (λ bytes. length bytes ≡ file.size) (f (string_bytes file.path)) b.0 (ap f x.2 ∙ b.1) st.size in
      let whole = all_part b.0 file.size size in
      let deviates : BytesDeviate (Some b.0) 0 file.size known.0.0 (Digest t u) = (ap length whole ∙ size, sym (known.2 ∙ sums), sym (ap sha1 whole ∙ b.2), d.other) in
      inl (
        file,
        x.1,
        record {
          is = sym x.2;
          deviates = subst (λ (o : Option Sum). IsSomeAnd o (λ sum. BytesDeviate (f n) 0 file.size sum.0 (Digest t u))) (sym known.1) (subst (λ (v : Value). BytesDeviate v 0 file.size known.0.0 (Digest t u)) (sym b.1) deviates);
        },
      )
  back n MemberAbsent d = absurd d
  back n MemberBad d = absurd d
  back n MembersDiffer d = absurd d
  back n Absent d = absurd d
  back n (Short t k) d = absurd d
  back n (Gap s) d = absurd d
  back n (Reference l) d = absurd d
  back n Unlike d = absurd d
  back n (Contradicts t) d = absurd d

  pub files_add : (a b c : List Finding) → Adds (OfSome (HasOther f) files) a b → Adds (SecondDeviates stanza f) b c → Adds (FileDeviates stanza f) a c
  files_add a b c p q = adds_as Parts (FileDeviates stanza f) a c to back (adds_on (OfSome (HasOther f) files) (SecondDeviates stanza f) a b c p q)

pub files_known : (o : Option Content) (files : List Stored) (a b c : List Finding) → IfSome o (λ f. (stanza : Text) → AreStored stanza f files → Adds (OfSome (HasOther f) files) a b)
    → ((stanza : Text) (f : Content) → AreStored stanza f files → Adds (SecondDeviates stanza f) b c) → IfSome o (λ f. (stanza : Text) → AreStored stanza f files → Adds (FileDeviates stanza f) a c)
files_known None files a b c p q = tt
files_known (Some f) files a b c p q = λ stanza are. files_add stanza f files are a b c (p stanza are) (q stanza f are)
