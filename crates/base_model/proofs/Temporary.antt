-- No name that is looked at is temporary.
use Rattle.std.proofs.Common.{◌≡◌, ◌≢◌, ⊎_elim, inl, inr, ℕ, zero, suc, ◌+◌, ◌/◌, ◌<◌, ◌≤◌, ◌^◌, ◌%◌, List, [], ◌∷◌, ◌++◌, refl, ap, ◌∙◌, sym, subst, arith, rules, append_assoc, lit<, lit≤, Option, Some, None}
use Rattle.std.proofs.lemmas.Fmt.{decimal_by_steps}
use Rattle.std.specs.Prelude.{codes, decimal, IfSome}
use Rattle.std.specs.List.{AllByRecursion}
use Rattle.base_devices.specs.Crash.{IsTemporary}
use Rattle.base_model.specs.declared.labels.Label.{Label}
use Rattle.base_model.specs.declared.files.Bundled.{Bundled}
use Rattle.base_model.specs.declared.wal.ArchiveId.{ArchiveId}
use Rattle.base_model.specs.declared.wal.ArchiveName.{ArchiveName}
use Rattle.base_model.specs.declared.wal.ArchiveName.TheVariants.{Segment as Whole, Partial, History, Backup}
use Rattle.base_model.specs.Text.{Text, ◌⫽◌, hex_upper}
use Rattle.base_model.specs.Names.{copy_of, archive_info, backup_info, archive_folder, backup_folder, archive_name, id_text, archive_text, manifest_name, label_folder, file_name, bundle_name, segment_folder, segment_text, receipt_name, wal_text}
use Rattle.std.specs.Prelude.{slice_index}
use Rattle.hex.specs.Hex.{encode_with, lower_digits}
use Rattle.base_text.specs.Sum.{IsSum, sum_text}
use Rattle.base_model.specs.Values.{FileEntry}
use Rattle.base_model.specs.ManifestText.{IsFileEntry}
use Rattle.base_model.specs.Place.{place, place_by, holder}
use Rattle.base_model.specs.Represents.{IsArchiveFile}
use Rattle.base_model.specs.Log.{IsPairMember, IsManifestMember, IsFixed, Pair, File, Manifested}

-- the last byte but one, after a and b
abbrev last2 : ℕ → ℕ → Text → ℕ
last2 a b [] = a
last2 a b (x ∷ xs) = last2 b x xs

last2_at : (p : Text) (a b x y : ℕ) (q : Text) → last2 a b (p ++ x ∷ y ∷ q) ≡ last2 x y q
last2_at [] a b x y q = refl
last2_at (z ∷ p) a b x y q = last2_at p b z x y q

temporary_ends : (n : Text) → IsTemporary n → last2 0 0 n ≡ 109
temporary_ends n t = ap (last2 0 0) t.is ∙ last2_at t.prefix 0 0 46 112 (codes "gbackrest.tmp")

-- a name whose end is another's
apart_by : (n p : Text) (x y : ℕ) (q : Text) → n ≡ p ++ x ∷ y ∷ q → last2 x y q ≢ 109 → ¬ IsTemporary n
apart_by n p x y q is off t = off (sym (ap (last2 0 0) is ∙ last2_at p 0 0 x y q) ∙ temporary_ends n t)

num : (k m : ℕ) → k ≡ m → ◌≡◌ {A = ℕ} k m
num k m e = e

copy_lasts : (name : Text) → ¬ IsTemporary (copy_of name)
copy_lasts name = apart_by (copy_of name) name 46 99 (codes "opy") refl (λ e. let h : ◌≡◌ {A = ℕ} 112 109 = e in omega arith)

archive_lasts : (stanza : Text) → ¬ IsTemporary (archive_info stanza)
archive_lasts stanza = apart_by (archive_info stanza) (archive_folder stanza) 47 97 (codes "rchive.info") refl (λ e. let h : ◌≡◌ {A = ℕ} 102 109 = e in omega arith)

backup_lasts : (stanza : Text) → ¬ IsTemporary (backup_info stanza)
backup_lasts stanza = apart_by (backup_info stanza) (backup_folder stanza) 47 98 (codes "ackup.info") refl (λ e. let h : ◌≡◌ {A = ℕ} 102 109 = e in omega arith)

manifest_lasts : (stanza : Text) (l : Label) → ¬ IsTemporary (manifest_name stanza l)
manifest_lasts stanza l = apart_by (manifest_name stanza l) (label_folder stanza l) 47 98 (codes "ackup.manifest") refl (λ e. let h : ◌≡◌ {A = ℕ} 115 109 = e in omega arith)

pub pair_lasts : (stanza name : Text) → IsPairMember stanza name → ¬ IsTemporary name
pair_lasts stanza name (inl e) = λ t. archive_lasts stanza (subst (λ (n : Text). IsTemporary n) e t)
pair_lasts stanza name (inr (inl e)) = λ t. copy_lasts (archive_info stanza) (subst (λ (n : Text). IsTemporary n) e t)
pair_lasts stanza name (inr (inr (inl e))) = λ t. backup_lasts stanza (subst (λ (n : Text). IsTemporary n) e t)
pair_lasts stanza name (inr (inr (inr e))) = λ t. copy_lasts (backup_info stanza) (subst (λ (n : Text). IsTemporary n) e t)

manifest_member_lasts : (stanza name : Text) → IsManifestMember stanza name → ¬ IsTemporary name
manifest_member_lasts stanza name m = ⊎_elim
    (λ (e : name ≡ manifest_name stanza m.0). λ t. manifest_lasts stanza m.0 (subst (λ (n : Text). IsTemporary n) e t))
    (λ (e : name ≡ copy_of (manifest_name stanza m.0)). λ t. copy_lasts (manifest_name stanza m.0) (subst (λ (n : Text). IsTemporary n) e t)) m.1

-- a digit of a sum
low_at : (xs : Text) (k : ℕ) → AllByRecursion (λ c. c ≤ 102) xs → slice_index xs k ≤ 102
low_at [] k all = lit≤ tt
low_at (x ∷ xs) zero all = all.0
low_at (x ∷ xs) (suc k) all = low_at xs k all.1

low_digits : AllByRecursion (λ c. c ≤ 102) lower_digits
low_digits = search rules

low_text : (s : Text) → AllByRecursion (λ c. c ≤ 102) (sum_text s)
unfolding encode_with
low_text [] = tt
low_text (b ∷ s) = (low_at lower_digits (b / 16) low_digits, (low_at lower_digits (b % 16) low_digits, low_text s))

low_last : (t : Text) (a b : ℕ) → a ≤ 102 → b ≤ 102 → AllByRecursion (λ c. c ≤ 102) t → last2 a b t ≤ 102
low_last [] a b l m all = l
low_last (c ∷ t) a b l m all = low_last t b c m all.0 all.1

-- a sum after a dash
sum_last : (sum : Text) (n p : Text) → IsSum sum → n ≡ p ++ 45 ∷ sum_text sum → ¬ IsTemporary n
unfolding encode_with
sum_last [] n p h is = absurd (omega (arith, h.0))
sum_last (b ∷ s) n p h is =
    let all = low_text (b ∷ s) in
    apart_by n p 45 (slice_index lower_digits (b / 16)) (slice_index lower_digits (b % 16) ∷ sum_text s) is
    (λ e. let m = low_last (slice_index lower_digits (b % 16) ∷ sum_text s) 45 (slice_index lower_digits (b / 16)) (lit≤ tt) all.0 all.1 in omega (arith, m))

-- the name ends so
abbrev EndsIn : Text → Text → Type 0
EndsIn e n = (p : Text) × (n ≡ p ++ e)

in_prefix : (e p n : Text) → EndsIn e n → EndsIn e (p ++ n)
in_prefix e p n h = (p ++ h.0, ap (λ (t : Text). p ++ t) h.1 ∙ sym (append_assoc p h.0 e))

below : (e p n : Text) → EndsIn e n → EndsIn e (p ⫽ n)
below e p n h = in_prefix e p (47 ∷ n) (in_prefix e (47 ∷ []) n h)

itself : (e p : Text) → EndsIn e (p ++ e)
itself e p = (p, refl)

file_ends : (e stanza : Text) (id : ArchiveId) (n : Text) → EndsIn e n → EndsIn e (archive_folder stanza ⫽ id_text id ⫽ n)
file_ends e stanza id n h = below e (archive_folder stanza) (id_text id ⫽ n) (below e (id_text id) n h)

-- a name below the archive's folder
file_lasts_by : (stanza : Text) (id : ArchiveId) (file : ArchiveName) (sum : Text) → IsSum sum → ¬ IsTemporary (archive_name stanza id file (sum_text sum))
file_lasts_by stanza id (Whole s) sum h =
    let x = file_ends (45 ∷ sum_text sum) stanza id (archive_text (Whole s) (sum_text sum)) (below (45 ∷ sum_text sum) (segment_folder s) (segment_text s ++ 45 ∷ sum_text sum) (itself (45 ∷ sum_text sum) (segment_text s))) in
    sum_last sum _ x.0 h x.1
file_lasts_by stanza id (Partial s) sum h =
    let x = file_ends (45 ∷ sum_text sum) stanza id (archive_text (Partial s) (sum_text sum)) (below (45 ∷ sum_text sum) (segment_folder s) (segment_text s ++ codes ".partial-" ++ sum_text sum)
    (segment_text s ++ codes ".partial", append_assoc (segment_text s) (codes ".partial-") (sum_text sum) ∙ sym (append_assoc (segment_text s) (codes ".partial") (45 ∷ sum_text sum)))) in
    sum_last sum _ x.0 h x.1
file_lasts_by stanza id (Backup s number) sum h =
    let x = file_ends (codes "backup") stanza id (archive_text (Backup s number) (sum_text sum)) (below (codes "backup") (segment_folder s) (segment_text s ++ 46 ∷ hex_upper 8 number ++ codes ".backup")
    (in_prefix (codes "backup") (segment_text s ++ 46 ∷ hex_upper 8 number) (codes ".backup") (itself (codes "backup") (46 ∷ [])))) in
    apart_by _ x.0 98 97 (codes "ckup") x.1 (λ e. let h : ◌≡◌ {A = ℕ} 117 109 = e in omega arith)
file_lasts_by stanza id (History timeline) sum h =
    let x = file_ends (codes "history") stanza id (archive_text (History timeline) (sum_text sum)) (in_prefix (codes "history") (hex_upper 8 timeline) (codes ".history") (itself (codes "history") (46 ∷ []))) in
    apart_by _ x.0 104 105 (codes "story") x.1 (λ e. let h : ◌≡◌ {A = ℕ} 114 109 = e in omega arith)

-- a mark in the spool
marked_ends : (stanza text e : Text) → EndsIn e (archive_folder stanza ⫽ codes "out" ⫽ (text ++ e))
marked_ends stanza text e = below e (archive_folder stanza) (codes "out" ⫽ (text ++ e)) (below e (codes "out") (text ++ e) (itself e text))

pub receipt_lasts : (stanza : Text) (name : ArchiveName) → ¬ IsTemporary (receipt_name stanza name)
receipt_lasts stanza name = let x = marked_ends stanza (wal_text name) (codes ".ok") in apart_by _ x.0 46 111 (codes "k") x.1 (λ e. let h : ◌≡◌ {A = ℕ} 111 109 = e in omega arith)

pub refusal_lasts : (stanza text : Text) → ¬ IsTemporary (archive_folder stanza ⫽ codes "out" ⫽ (text ++ codes ".error"))
refusal_lasts stanza text = let x = marked_ends stanza text (codes ".error") in apart_by _ x.0 46 101 (codes "rror") x.1 (λ e. let h : ◌≡◌ {A = ℕ} 111 109 = e in omega arith)

pub info_lasts : (folder info name : Text) → name ≡ folder ⫽ (info ++ codes ".info") → ¬ IsTemporary name
info_lasts folder info name is =
    let x = below (codes ".info") folder (info ++ codes ".info") (itself (codes ".info") info) in
    apart_by name x.0 46 105 (codes "nfo") (is ∙ x.1) (λ e. let h : ◌≡◌ {A = ℕ} 102 109 = e in omega arith)

pub copy_at_lasts : (name copy : Text) → copy ≡ copy_of name → ¬ IsTemporary copy
copy_at_lasts name copy e t = copy_lasts name (subst (λ (n : Text). IsTemporary n) e t)

pub file_lasts : (stanza name : Text) → IsArchiveFile stanza name → ¬ IsTemporary name
file_lasts stanza name f t = file_lasts_by stanza f.id f.file f.sum f.fits.digest (subst (λ (n : Text). IsTemporary n) f.is t)

pub fixed_lasts : (stanza name : Text) → IsFixed stanza name → ¬ IsTemporary name
fixed_lasts stanza name (Pair m) = pair_lasts stanza name m
fixed_lasts stanza name (File m) = file_lasts stanza name m
fixed_lasts stanza name (Manifested m) = manifest_member_lasts stanza name m

-- an end without a slash lies after the last one
following : (a p s q : Text) → AllByRecursion (λ c. c ≢ 47) s → a ++ s ≡ p ++ 47 ∷ q → (x : Text) × (q ≡ x ++ s)
following [] p s q plain e = absurd (slash p s q plain e)
  where
    slash : (p s q : Text) → AllByRecursion (λ c. c ≢ 47) s → s ≡ p ++ 47 ∷ q → ⊥
    slash p [] q plain e = elim p as (λ p. [] ≡ p ++ 47 ∷ q → ⊥) [ [] ↦ λ e. cc | z ∷ p ↦ λ e. cc ] e
    slash [] (c ∷ s) q plain e = plain.0 (let h : c ≡ 47 = cc in h)
    slash (z ∷ p) (c ∷ s) q plain e = slash p s q plain.1 (let h : s ≡ p ++ 47 ∷ q = cc in h)
following (c ∷ a) [] s q plain e = (a, let h : q ≡ a ++ s = cc in h)
following (c ∷ a) (z ∷ p) s q plain e = following a p s q plain (let h : a ++ s ≡ p ++ 47 ∷ q = cc in h)

suffix_plain : AllByRecursion (λ c. c ≢ 47) (codes ".pgbackrest.tmp")
suffix_plain = search rules

digits : (n : ℕ) → n < 2 ^ 64 → AllByRecursion (λ c. c ≤ 57) (decimal n)
digits n small = decimal_by_steps (λ m ds. AllByRecursion (λ c. c ≤ 57) ds) (λ m l. (omega arith, tt)) (λ m ds l h. one_more ds (48 + m % 10) h (omega arith)) n small
  where
    one_more : (ds : Text) (d : ℕ) → AllByRecursion (λ c. c ≤ 57) ds → d ≤ 57 → AllByRecursion (λ c. c ≤ 57) (ds ++ d ∷ [])
    one_more [] d h l = (l, tt)
    one_more (x ∷ ds) d h l = (h.0, one_more ds d h.1 l)

digits_last : (t : Text) (a b : ℕ) → a ≤ 57 → b ≤ 57 → AllByRecursion (λ c. c ≤ 57) t → last2 a b t ≤ 57
digits_last [] a b l m h = l
digits_last (c ∷ t) a b l m h = digits_last t b c m h.0 h.1

file_name_lasts : (stanza : Text) (l : Label) (path : Text) → ¬ IsTemporary path → ¬ IsTemporary (file_name stanza l path)
file_name_lasts stanza l path apart t =
    let x = following t.prefix (label_folder stanza l ++ codes "/pg_data") (codes ".pgbackrest.tmp") path suffix_plain (sym t.is ∙ sym (append_assoc (label_folder stanza l) (codes "/pg_data") (47 ∷ path))) in
    apart (record { prefix = x.0; is = x.1 })

bundle_name_lasts : (stanza : Text) (l : Label) (number : ℕ) → number < 2 ^ 32 → ¬ IsTemporary (bundle_name stanza l number)
bundle_name_lasts stanza l number small = cases (decimal number) refl
  where
    cases : (ds : Text) → decimal number ≡ ds → ¬ IsTemporary (bundle_name stanza l number)
    cases [] e = apart_by (bundle_name stanza l number) (label_folder stanza l ++ codes "/bundl") 101 47 [] (ap (λ (d : Text). label_folder stanza l ++ (codes "/bundle/" ++ d)) e ∙ sym (append_assoc (label_folder stanza l) (codes "/bundl") (101 ∷ 47 ∷ []))) (λ h. let k : ◌≡◌ {A = ℕ} 101 109 = h in omega arith)
    cases (c ∷ ds) e = apart_by (bundle_name stanza l number) (label_folder stanza l ++ codes "/bundle") 47 c ds
        (ap (λ (d : Text). label_folder stanza l ++ (codes "/bundle/" ++ d)) e ∙ sym (append_assoc (label_folder stanza l) (codes "/bundle") (47 ∷ c ∷ ds)))
        (λ h. let all : AllByRecursion (λ c. c ≤ 57) (c ∷ ds) = subst (λ (t : Text). AllByRecursion (λ c. c ≤ 57) t) e (digits number (omega arith)) in
        let k = digits_last ds 47 c (lit< tt) all.0 all.1 in omega arith)

place_lasts_by : (stanza : Text) (l : Label) (e : FileEntry) (b : Option Bundled) → ¬ IsTemporary e.path → IfSome b (λ b. b.number < 2 ^ 32) → ¬ IsTemporary (place_by stanza l e b).0
place_lasts_by stanza l e None lasting small = file_name_lasts stanza (holder l e) e.path lasting
place_lasts_by stanza l e (Some b) lasting small = bundle_name_lasts stanza (holder l e) b.number small

numbered : (b : Option Bundled) → IfSome b (λ b. (1 ≤ b.number) × (b.number < 2 ^ 32) × (b.at < 2 ^ 64)) → IfSome b (λ b. b.number < 2 ^ 32)
numbered None h = tt
numbered (Some b) h = h.1

pub entry_lasts : (stanza : Text) (l : Label) (folders : List Text) (e : FileEntry) → IsFileEntry folders e → ¬ IsTemporary (place stanza l e).0
entry_lasts stanza l folders e is = place_lasts_by stanza l e e.bundle is.lasting (numbered e.bundle is.bundle)
