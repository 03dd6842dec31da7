-- What the path of an archive file states.
use Rattle.std.proofs.Common.{◌≡◌, ◌≢◌, ℕ, ◌<◌, ◌≤◌, ◌^◌, ◌+◌, ◌⊎◌, inl, inr, rules, List, Result, Ok, Err, Bool, true, false, ◌∷◌, ◌++◌, length, length-append, take, drop, Option, Some, None, refl, ap, ap₂, ◌∙◌, sym, subst, arith, append_assoc}
use Rattle.std.specs.Prelude.{codes, decimal, bytes_eq, option_map, IfNone}
use Rattle.std.specs.Borrow.{Bor}
use Rattle.std.specs.List.{slice_range}
use Rattle.std.specs.Option.{MatchOption, option_eq}
use Rattle.std.specs.Result.{OkIff, result_ok}
use Rattle.std.specs.Bool.{Decides}
use Rattle.std.proofs.lemmas.Slice.Eq.{bytes_eq-Decides}
use Rattle.std.proofs.lemmas.Map.Lookups.{exact_unsigned}
use Rattle.std.proofs.lemmas.Cmp.{nat_list_cmp_total, tied_itself}
use Rattle.std.proofs.lemmas.Fmt.{decimal_injective}
use Rattle.std.proofs.lemmas.List.{append_cancel_left, take_at, take-append-drop}
use Rattle.base_text.specs.Sum.{sum_text}
use Rattle.base_model.specs.declared.wal.Segment.{Segment}
use Rattle.base_model.specs.declared.wal.ArchiveId.{ArchiveId}
use Rattle.base_model.specs.declared.wal.ArchiveName.{ArchiveName}
use Rattle.base_model.specs.declared.wal.ArchiveName.TheVariants.{Segment as Whole, Partial, History, Backup}
use Rattle.base_model.specs.Text.{Text, ◌⫽◌, hex_upper, text_cmp}
use Rattle.base_model.specs.Names.{wal_text, id_text, segment_text, segment_folder}
use Rattle.base_model.specs.InfoFiles.{IsSegment}
use Rattle.base_model.specs.Represents.{IsWalName, IsArchivePlace}
use Rattle.repo_names.proofs.Digits.{length-hex_upper, seam}
use Rattle.repo_names.proofs.Compared.{text_cmp-hex_upper}
use Rattle.repo_names.proofs.SegmentTexts.{length-segment_text}
use Rattle.archive_lookup.specs.Stored.{known_sum}
use Rattle.archive_lookup.specs.Paths.{Lacks, has_sum, file_text, folder_text, below_id, IsCut}
use Rattle.archive_lookup.proofs.Cuts.{divided, undivided, lacks_append, decimal_lacks, hex_lacks}

-- ---- the texts of ids

pub id_lacks : (id : ArchiveId) → Lacks 47 (id_text id)
id_lacks id = lacks_append 47 (decimal id.version) (45 ∷ decimal id.number) (decimal_lacks 47 id.version (omega arith)) (λ e. let h : ◌≡◌ {A = ℕ} 45 47 = e in omega arith, decimal_lacks 47 id.number (omega arith))

pub version_lacks : (id : ArchiveId) → Lacks 45 (decimal id.version)
version_lacks id = decimal_lacks 45 id.version (omega arith)

pub id_of_text : (i j : ArchiveId) → i.version < 2 ^ 32 → i.number < 2 ^ 32 → j.version < 2 ^ 32 → j.number < 2 ^ 32 → id_text i ≡ id_text j → i ≡ j
id_of_text i j iv im jv jn e =
    let x = divided 45 (decimal i.version) (decimal j.version) (decimal i.number) (decimal j.number) (version_lacks i) (version_lacks j) e in
    let version : i.version ≡ j.version = decimal_injective i.version j.version (omega arith) (omega arith) x.0 in
    let number : i.number ≡ j.number = decimal_injective i.number j.number (omega arith) (omega arith) x.1 in
    ap₂ (λ (v n : ℕ). let k : ArchiveId = record { version = v; number = n } in k) version number

-- ---- the names that a server gives

abbrev pub wal_length : ArchiveName → ℕ
wal_length (Whole segment) = 24
wal_length (Partial segment) = 32
wal_length (History timeline) = 16
wal_length (Backup segment offset) = 40

pub length-wal_text : (name : ArchiveName) → length (wal_text name) ≡ wal_length name
length-wal_text (Whole s) = length-segment_text s
length-wal_text (Partial s) = omega (arith, length-append (segment_text s) (codes ".partial"), length-segment_text s)
length-wal_text (History t) = omega (arith, length-append (hex_upper 8 t) (codes ".history"), length-hex_upper 8 t)
length-wal_text (Backup s n) = omega (arith, length-append (segment_text s ++ 46 ∷ hex_upper 8 n) (codes ".backup"), length-append (segment_text s) (46 ∷ hex_upper 8 n), length-hex_upper 8 n, length-segment_text s)

-- the text says whether the path has a sum
pub wal_kind : (m n : ArchiveName) → wal_text m ≡ wal_text n → has_sum m ≡ has_sum n
wal_kind m n e = by m n (sym (length-wal_text m) ∙ ap length e ∙ length-wal_text n)
  where
    by : (m n : ArchiveName) → wal_length m ≡ wal_length n → has_sum m ≡ has_sum n
    by (Whole s) (Whole t) e = refl
    by (Whole s) (Partial t) e = refl
    by (Whole s) (History t) e = absurd (omega arith)
    by (Whole s) (Backup t n) e = absurd (omega arith)
    by (Partial s) (Whole t) e = refl
    by (Partial s) (Partial t) e = refl
    by (Partial s) (History t) e = absurd (omega arith)
    by (Partial s) (Backup t n) e = absurd (omega arith)
    by (History s) (Whole t) e = absurd (omega arith)
    by (History s) (Partial t) e = absurd (omega arith)
    by (History s) (History t) e = refl
    by (History s) (Backup t n) e = refl
    by (Backup s m) (Whole t) e = absurd (omega arith)
    by (Backup s m) (Partial t) e = absurd (omega arith)
    by (Backup s m) (History t) e = refl
    by (Backup s m) (Backup t n) e = refl

pub folder_lacks : (c : ℕ) (s : Segment) → c < 48 → Lacks c (segment_folder s)
folder_lacks c s low = lacks_append c (hex_upper 8 s.timeline) (hex_upper 8 s.log) (hex_lacks c 8 s.timeline low) (hex_lacks c 8 s.log low)

pub segment_lacks : (c : ℕ) (s : Segment) → c < 48 → Lacks c (segment_text s)
segment_lacks c s low = lacks_append c (segment_folder s) (hex_upper 8 s.seg) (folder_lacks c s low) (hex_lacks c 8 s.seg low)

partial_dash : Lacks 45 (codes ".partial")
partial_dash = search rules

backup_dash : Lacks 45 (codes ".backup")
backup_dash = search rules

history_dash : Lacks 45 (codes ".history")
history_dash = search rules

pub history_slash : Lacks 47 (codes ".history")
history_slash = search rules

pub history_lacks : (c t : ℕ) → c < 48 → Lacks c (codes ".history") → Lacks c (hex_upper 8 t ++ codes ".history")
history_lacks c t low rest = lacks_append c (hex_upper 8 t) (codes ".history") (hex_lacks c 8 t low) rest

wal_lacks : (name : ArchiveName) → Lacks 45 (wal_text name)
wal_lacks (Whole s) = segment_lacks 45 s (omega arith)
wal_lacks (Partial s) = lacks_append 45 (segment_text s) (codes ".partial") (segment_lacks 45 s (omega arith)) partial_dash
wal_lacks (History t) = history_lacks 45 t (omega arith) history_dash
wal_lacks (Backup s n) = lacks_append 45 (segment_text s ++ 46 ∷ hex_upper 8 n) (codes ".backup")
    (lacks_append 45 (segment_text s) (46 ∷ hex_upper 8 n) (segment_lacks 45 s (omega arith)) (λ e. let h : ◌≡◌ {A = ℕ} 46 45 = e in omega arith, hex_lacks 45 8 n (omega arith)))
    backup_dash

-- ---- a field states its number

hex_injective : (v w : ℕ) → v < 2 ^ 32 → w < 2 ^ 32 → hex_upper 8 v ≡ hex_upper 8 w → v ≡ w
hex_injective v w lv lw e = exact_unsigned v w (sym (text_cmp-hex_upper 8 v w (omega arith) (omega arith)) ∙ ap (text_cmp (hex_upper 8 v)) (sym e) ∙ tied_itself nat_list_cmp_total (hex_upper 8 v))

-- ---- the last element of a path

module _ (name : ArchiveName) (sum : Text) where
  abbrev IsSummed : Text → Text → Type 0
  IsSummed a b = (has_sum name ≡ true) × (a ≡ wal_text name) × (b ≡ sum_text sum)

  no_dash : (text a b : Text) → text ≡ wal_text name → Lacks 45 a → text ≡ a ++ 45 ∷ b → ⊥
  no_dash text a b is lacks e = undivided 45 a b (subst (λ (t : Text). Lacks 45 t) (sym is ∙ e) (wal_lacks name))

pub file_cut : (name : ArchiveName) (sum a b : Text) → Lacks 45 a → file_text name sum ≡ a ++ 45 ∷ b → (has_sum name ≡ true) × (a ≡ wal_text name) × (b ≡ sum_text sum)
file_cut (Whole s) sum a b lacks e = let x = divided 45 a (wal_text (Whole s)) b (sum_text sum) lacks (wal_lacks (Whole s)) (sym e) in (refl, x.0, x.1)
file_cut (Partial s) sum a b lacks e = let x = divided 45 a (wal_text (Partial s)) b (sum_text sum) lacks (wal_lacks (Partial s)) (sym e) in (refl, x.0, x.1)
file_cut (History t) sum a b lacks e = absurd (no_dash (History t) sum (wal_text (History t)) a b refl lacks e)
file_cut (Backup s n) sum a b lacks e = absurd (no_dash (Backup s n) sum (wal_text (Backup s n)) a b refl lacks e)

pub file_uncut : (name : ArchiveName) (sum text : Text) → text ≡ file_text name sum → Lacks 45 text → (has_sum name ≡ false) × (text ≡ wal_text name)
file_uncut (Whole s) sum text e lacks = absurd (undivided 45 (wal_text (Whole s)) (sum_text sum) (subst (λ (t : Text). Lacks 45 t) e lacks))
file_uncut (Partial s) sum text e lacks = absurd (undivided 45 (wal_text (Partial s)) (sum_text sum) (subst (λ (t : Text). Lacks 45 t) e lacks))
file_uncut (History t) sum text e lacks = (refl, e)
file_uncut (Backup s n) sum text e lacks = (refl, e)

pub file_summed : (name : ArchiveName) (sum : Text) → has_sum name ≡ true → (file_text name sum ≡ wal_text name ++ 45 ∷ sum_text sum) × (known_sum name sum ≡ Some sum)
file_summed (Whole s) sum e = (refl, refl)
file_summed (Partial s) sum e = (refl, refl)
file_summed (History t) sum e = cc e
file_summed (Backup s n) sum e = cc e

pub file_unsummed : (name : ArchiveName) (sum : Text) → has_sum name ≡ false → (file_text name sum ≡ wal_text name) × (known_sum name sum ≡ None)
file_unsummed (Whole s) sum e = cc e
file_unsummed (Partial s) sum e = cc e
file_unsummed (History t) sum e = (refl, refl)
file_unsummed (Backup s n) sum e = (refl, refl)

-- ---- the path below the id

abbrev pub joined : Option Text → Text → Text
joined None file = file
joined (Some folder) file = folder ⫽ file

pub below_is : (name : ArchiveName) (sum : Text) → below_id name sum ≡ joined (folder_text name) (file_text name sum)
below_is (Whole s) sum = refl
below_is (Partial s) sum = ap (λ (t : Text). segment_folder s ⫽ t) (append_assoc (segment_text s) (codes ".partial-") (sum_text sum) ∙ sym (append_assoc (segment_text s) (codes ".partial") (45 ∷ sum_text sum)))
below_is (History t) sum = refl
below_is (Backup s n) sum = refl

is_joined : (text : Text) (folder : Option Text) (file : Text) → IsCut text folder file → text ≡ joined folder file
is_joined text None file cut = cut.0
is_joined text (Some folder) file cut = cut.0

pub below_of : (name : ArchiveName) (sum text : Text) (folder : Option Text) (file : Text) → IsCut text folder file → folder_text name ≡ folder → file ≡ file_text name sum → text ≡ below_id name sum
below_of name sum text folder file cut in_it is = is_joined text folder file cut ∙ ap₂ joined (sym in_it) is ∙ sym (below_is name sum)

cut_in : (text folder_is file_is : Text) (folder : Option Text) (file : Text) → IsCut text folder file → text ≡ folder_is ⫽ file_is → Lacks 47 folder_is → (Some folder_is ≡ folder) × (file ≡ file_is)
cut_in text d x None file cut e lacks = absurd (undivided 47 d x (subst (λ (t : Text). Lacks 47 t) (sym cut.0 ∙ e) cut.1))
cut_in text d x (Some folder) file cut e lacks = let y = divided 47 folder d file x cut.1 lacks (sym cut.0 ∙ e) in (ap (λ (t : Text). let o : Option Text = Some t in o) (sym y.0), y.1)

uncut_in : (text : Text) (folder : Option Text) (file : Text) → IsCut text folder file → Lacks 47 text → (None ≡ folder) × (file ≡ text)
uncut_in text None file cut lacks = (refl, sym cut.0)
uncut_in text (Some folder) file cut lacks = absurd (undivided 47 folder file (subst (λ (t : Text). Lacks 47 t) cut.0 lacks))

pub below_cut : (name : ArchiveName) (sum text : Text) (folder : Option Text) (file : Text) → text ≡ below_id name sum → IsCut text folder file → (folder_text name ≡ folder) × (file ≡ file_text name sum)
below_cut (Whole s) sum text folder file e cut = cut_in text (segment_folder s) (file_text (Whole s) sum) folder file cut e (folder_lacks 47 s (omega arith))
below_cut (Partial s) sum text folder file e cut = cut_in text (segment_folder s) (file_text (Partial s) sum) folder file cut (e ∙ below_is (Partial s) sum) (folder_lacks 47 s (omega arith))
below_cut (History t) sum text folder file e cut = let x = uncut_in text folder file cut (subst (λ (t : Text). Lacks 47 t) (sym e) (history_lacks 47 t (omega arith) history_slash)) in (x.0, x.1 ∙ e)
below_cut (Backup s n) sum text folder file e cut = cut_in text (segment_folder s) (file_text (Backup s n) sum) folder file cut e (folder_lacks 47 s (omega arith))

-- ---- one name

pub folder_length : (s : Segment) → length (segment_folder s) ≡ 16
folder_length s = omega (arith, length-append (hex_upper 8 s.timeline) (hex_upper 8 s.log), length-hex_upper 8 s.timeline, length-hex_upper 8 s.log)

segment_injective : (s t : Segment) → IsSegment s → IsSegment t → segment_text s ≡ segment_text t → s ≡ t
segment_injective s t p q e =
    let x = seam (segment_folder s) (segment_folder t) (hex_upper 8 s.seg) (hex_upper 8 t.seg) (folder_length s ∙ sym (folder_length t)) e in
    let y = seam (hex_upper 8 s.timeline) (hex_upper 8 t.timeline) (hex_upper 8 s.log) (hex_upper 8 t.log) (length-hex_upper 8 s.timeline ∙ sym (length-hex_upper 8 t.timeline)) x.0 in
    let timeline = hex_injective s.timeline t.timeline p.timeline q.timeline y.0 in
    let log = hex_injective s.log t.log p.log q.log y.1 in
    let seg = hex_injective s.seg t.seg p.seg q.seg x.1 in
    fields timeline log seg
  where
    fields : s.timeline ≡ t.timeline → s.log ≡ t.log → s.seg ≡ t.seg → s ≡ t
    fields a b c = ap (λ (n : ℕ). let k : Segment = record { timeline = n; log = s.log; seg = s.seg } in k) a
        ∙ ap₂ (λ (l g : ℕ). let k : Segment = record { timeline = t.timeline; log = l; seg = g } in k) b c

-- the name of a file is that of no other
pub wal_injective : (m n : ArchiveName) → IsWalName m → IsWalName n → wal_text m ≡ wal_text n → m ≡ n
wal_injective m n p q e = by m n p q e (sym (length-wal_text m) ∙ ap length e ∙ length-wal_text n)
  where
    by : (m n : ArchiveName) → IsWalName m → IsWalName n → wal_text m ≡ wal_text n → wal_length m ≡ wal_length n → m ≡ n
    by (Whole s) (Whole t) p q e l = ap (λ (k : Segment). Whole k) (segment_injective s t p q e)
    by (Whole s) (Partial t) p q e l = absurd (omega arith)
    by (Whole s) (History t) p q e l = absurd (omega arith)
    by (Whole s) (Backup t n) p q e l = absurd (omega arith)
    by (Partial s) (Whole t) p q e l = absurd (omega arith)
    by (Partial s) (Partial t) p q e l = ap (λ (k : Segment). Partial k) (segment_injective s t p q (seam (segment_text s) (segment_text t) (codes ".partial") (codes ".partial") (length-segment_text s ∙ sym (length-segment_text t)) e).0)
    by (Partial s) (History t) p q e l = absurd (omega arith)
    by (Partial s) (Backup t n) p q e l = absurd (omega arith)
    by (History s) (Whole t) p q e l = absurd (omega arith)
    by (History s) (Partial t) p q e l = absurd (omega arith)
    by (History s) (History t) p q e l = ap (λ (k : ℕ). History k) (hex_injective s t p q (seam (hex_upper 8 s) (hex_upper 8 t) (codes ".history") (codes ".history") (length-hex_upper 8 s ∙ sym (length-hex_upper 8 t)) e).0)
    by (History s) (Backup t n) p q e l = absurd (omega arith)
    by (Backup s m) (Whole t) p q e l = absurd (omega arith)
    by (Backup s m) (Partial t) p q e l = absurd (omega arith)
    by (Backup s m) (History t) p q e l = absurd (omega arith)
    by (Backup s m) (Backup t n) p q e l =
        let prefix = (seam (segment_text s ++ 46 ∷ hex_upper 8 m) (segment_text t ++ 46 ∷ hex_upper 8 n) (codes ".backup") (codes ".backup") (offset_length s m ∙ sym (offset_length t n)) e).0 in
        let x = seam (segment_text s) (segment_text t) (46 ∷ hex_upper 8 m) (46 ∷ hex_upper 8 n) (length-segment_text s ∙ sym (length-segment_text t)) prefix in
        ap₂ (λ (k : Segment) (o : ℕ). Backup k o) (segment_injective s t p.0 q.0 x.0) (hex_injective m n p.1 q.1 (ap (drop 1) x.1))
      where
        offset_length : (s : Segment) (n : ℕ) → length (segment_text s ++ 46 ∷ hex_upper 8 n) ≡ 33
        offset_length s n = omega (arith, length-append (segment_text s) (46 ∷ hex_upper 8 n), length-segment_text s, length-hex_upper 8 n)

-- the last element of a path is that of no other file
one_file : (m n : ArchiveName) (s t : Text) → IsWalName m → IsWalName n → file_text m s ≡ file_text n t → m ≡ n
one_file m n s t p q f = by_sum (has_sum m) refl
  where
    by_sum : (b : Bool) → has_sum m ≡ b → m ≡ n
    by_sum true is = let x = file_cut n t (wal_text m) (sum_text s) (wal_lacks m) (sym f ∙ (file_summed m s is).0) in wal_injective m n p q x.1
    by_sum false is =
        let x = file_uncut n t (file_text m s) f (subst (λ (w : Text). Lacks 45 w) (sym (file_unsummed m s is).0) (wal_lacks m)) in
        wal_injective m n p q (sym (file_unsummed m s is).0 ∙ x.1)

-- the path of a file is that of no other
pub one_below : (m n : ArchiveName) (s t : Text) → IsWalName m → IsWalName n → below_id m s ≡ below_id n t → m ≡ n
one_below m n s t p q e = by (folder_text m) refl
  where
    cut_of : (folder : Option Text) → folder_text m ≡ folder → IsCut (below_id m s) folder (file_text m s)
    cut_of None is = (below_is m s ∙ ap (λ (o : Option Text). joined o (file_text m s)) is, by_kind m is)
      where
        by_kind : (m : ArchiveName) → folder_text m ≡ None → Lacks 47 (file_text m s)
        by_kind (Whole k) is = cc is
        by_kind (Partial k) is = cc is
        by_kind (Backup k o) is = cc is
        by_kind (History k) is = history_lacks 47 k (omega arith) history_slash
    cut_of (Some folder) is = (below_is m s ∙ ap (λ (o : Option Text). joined o (file_text m s)) is, by_kind m is)
      where
        lacks_as : (k : Segment) → ◌≡◌ {A = Option Text} (Some (segment_folder k)) (Some folder) → Lacks 47 folder
        lacks_as k is = let h : segment_folder k ≡ folder = cc in subst (λ (d : Text). Lacks 47 d) h (folder_lacks 47 k (omega arith))

        by_kind : (m : ArchiveName) → folder_text m ≡ Some folder → Lacks 47 folder
        by_kind (Whole k) is = lacks_as k is
        by_kind (Partial k) is = lacks_as k is
        by_kind (Backup k o) is = lacks_as k is
        by_kind (History k) is = cc is

    by : (folder : Option Text) → folder_text m ≡ folder → m ≡ n
    by folder is = one_file m n s t p q (below_cut n t (below_id m s) folder (file_text m s) e (cut_of folder is)).1

-- what is given by a path
pub one_path : (folder : Text) (i j : ArchiveId) (m n : ArchiveName) (s t : Text) → IsArchivePlace i m s → IsArchivePlace j n t → folder ++ (id_text i ⫽ below_id m s) ≡ folder ++ (id_text j ⫽ below_id n t) → (i ≡ j) × (m ≡ n)
one_path folder i j m n s t p q e =
    let x = divided 47 (id_text i) (id_text j) (below_id m s) (below_id n t) (id_lacks i) (id_lacks j) (append_cancel_left folder (id_text i ⫽ below_id m s) (id_text j ⫽ below_id n t) e) in
    (id_of_text i j p.version p.number q.version q.number x.0, one_below m n s t p.fits q.fits x.1)

-- ---- what the reading finds

pub number_none : {E : Type 0} (text : Text) (r : Result ℕ E) (m : ℕ) → text ≡ decimal m → m < 2 ^ 64 → OkIff r (m < 2 ^ 32) m → IfNone (result_ok r) ((n : ℕ) → n < 2 ^ 32 → text ≢ decimal n)
number_none text (Ok x) m is small h = tt
number_none text (Err e) m is small h = λ n low other. h (subst (λ (k : ℕ). k < 2 ^ 32) (decimal_injective n m (omega arith) small (sym other ∙ is)) low)

pub stripped : (text prefix rest : Text) → bytes_eq (take (length prefix) text) prefix ≡ true → rest ≡ drop (length prefix) text → text ≡ prefix ++ rest
stripped text prefix rest test is = sym (take-append-drop (length prefix) text) ∙ ap₂ (λ (a b : Text). a ++ b) ((bytes_eq-Decides (take (length prefix) text) prefix).0 test) (sym is)

pub unstripped : (text prefix rest : Text) → bytes_eq (take (length prefix) text) prefix ≡ false → text ≢ prefix ++ rest
unstripped text prefix rest test e =
    let on : bytes_eq (take (length prefix) text) prefix ≡ true = (bytes_eq-Decides (take (length prefix) text) prefix).1 (ap (take (length prefix)) e ∙ take_at prefix rest (length prefix) refl) in
    let off : ◌≡◌ {A = Bool} false true = sym test ∙ on in cc

pub below_after : (text prefix rest other : Text) → bytes_eq (take (length prefix) text) prefix ≡ true → rest ≡ drop (length prefix) text → text ≡ prefix ++ other → rest ≡ other
below_after text prefix rest other test is e = append_cancel_left prefix rest other (sym (stripped text prefix rest test is) ∙ e)

prefix_of : (s : Segment) (rest file : Text) → file ≡ segment_text s ++ rest → (take 16 file ≡ segment_folder s) × (16 ≤ length file)
prefix_of s rest file e =
    let whole : file ≡ segment_folder s ++ (hex_upper 8 s.seg ++ rest) = e ∙ append_assoc (segment_folder s) (hex_upper 8 s.seg) rest in
    (ap (take 16) whole ∙ take_at (segment_folder s) (hex_upper 8 s.seg ++ rest) 16 (folder_length s), omega (arith, ap length whole, length-append (segment_folder s) (hex_upper 8 s.seg ++ rest), folder_length s))

file_prefix : (name : ArchiveName) (sum file : Text) → file ≡ file_text name sum → (folder_text name ≡ None → ⊥) → (folder_text name ≡ Some (take 16 file)) × (16 ≤ length file)
file_prefix (Whole s) sum file e some = let x = prefix_of s (45 ∷ sum_text sum) file e in (ap (λ (t : Text). let o : Option Text = Some t in o) (sym x.0), x.1)
file_prefix (Partial s) sum file e some = let x = prefix_of s (codes ".partial" ++ 45 ∷ sum_text sum) file (e ∙ append_assoc (segment_text s) (codes ".partial") (45 ∷ sum_text sum)) in (ap (λ (t : Text). let o : Option Text = Some t in o) (sym x.0), x.1)
file_prefix (History t) sum file e some = absurd (some refl)
file_prefix (Backup s n) sum file e some = let x = prefix_of s ((46 ∷ hex_upper 8 n) ++ codes ".backup") file (e ∙ append_assoc (segment_text s) (46 ∷ hex_upper 8 n) (codes ".backup")) in (ap (λ (t : Text). let o : Option Text = Some t in o) (sym x.0), x.1)

pub folder_got : (name : ArchiveName) (sum file : Text) (r : Option (Bor (List ℕ))) → file ≡ file_text name sum → (folder_text name ≡ None → ⊥)
    → MatchOption r ((16 < 0) ⊎ (length file < 16)) (λ x. (0 ≤ 16) × (16 ≤ length file) × (x.now ≡ slice_range file 0 16) × (length x.now + 0 ≡ 16)) → option_map (λ t. t.now) r ≡ folder_text name
folder_got name sum file None e some (inl h) = absurd (omega arith)
folder_got name sum file None e some (inr h) = let x = (file_prefix name sum file e some).1 in absurd (omega arith)
folder_got name sum file (Some x) e some h = ap (λ (t : Text). let o : Option Text = Some t in o) h.2 ∙ sym (file_prefix name sum file e some).0

pub in_folder : (name : ArchiveName) → (((s : Segment) × (name ≡ Whole s)) ⊎ (((s : Segment) × (name ≡ Partial s)) ⊎ ((s : Segment) × (n : ℕ) × (name ≡ Backup s n)))) → folder_text name ≡ None → ⊥
in_folder name (inl x) e = let h = sym (ap folder_text x.1) ∙ e in cc h
in_folder name (inr (inl x)) e = let h = sym (ap folder_text x.1) ∙ e in cc h
in_folder name (inr (inr x)) e = let h = sym (ap folder_text x.2) ∙ e in cc h

-- a file of the last element's name that lies elsewhere is none
pub elsewhere : (m n : ArchiveName) (s t text : Text) (folder : Option Text) (file : Text) → IsCut text folder file → file ≡ file_text m s → text ≡ below_id n t → IsWalName m → IsWalName n → (folder_text m ≡ folder → ⊥) → ⊥
elsewhere m n s t text folder file cut is e p q off =
    let x = below_cut n t text folder file e cut in
    let same : m ≡ n = one_file m n s t p q (sym is ∙ x.1) in
    off (ap folder_text same ∙ x.0)

pub options_same : (a b : Option (Bor (List ℕ))) (r : Bool) → r ≡ option_eq (λ x y. bytes_eq x.now y.now) a b → Decides r (option_map (λ t. t.now) a ≡ option_map (λ t. t.now) b)
options_same None None r e = (λ h. refl, λ h. e)
options_same None (Some y) r e = (λ h. let off : ◌≡◌ {A = Bool} true false = sym h ∙ e in cc, λ h. cc h)
options_same (Some x) None r e = (λ h. let off : ◌≡◌ {A = Bool} true false = sym h ∙ e in cc, λ h. cc h)
options_same (Some x) (Some y) r e =
    let d = bytes_eq-Decides x.now y.now in
    (λ h. ap (λ (t : Text). let o : Option Text = Some t in o) (d.0 (sym e ∙ h)), λ h. e ∙ d.1 (let k : x.now ≡ y.now = cc h in k))
