-- A manifest within its rules has a text.
use Rattle.std.proofs.Common.{◌≡◌, ℕ, zero, suc, ◌+◌, ◌-◌, ◌/◌, ◌%◌, ◌<◌, ◌≤◌, ◌^◌, ◌==◌, nat_lt, inl, inr, Bool, true, false, if◌then◌else◌, List, [], ◌∷◌, ◌++◌, map, Option, Some, None, codes, IsUtf8, refl, sym, subst, arith, lit≤}
use Rattle.std.specs.Prelude.{IfSome, is_some}
use Rattle.std.specs.List.{AllByRecursion}
use Rattle.std.proofs.lemmas.Bool.{and_parts, cases_lt}
use Rattle.std.proofs.lemmas.Bool.Decides.{nat_tests}
use Rattle.std.proofs.Math.Nat.{pow-le-pow_right}
use Rattle.json.proofs.Printed.Utf8.{are_ascii, IsUtf8-are_ascii}
use Rattle.serde_json.specs.Data.{boolean, string, object, no_members}
use Rattle.base_devices.specs.Order.{are_after}
use Rattle.base_model.specs.declared.labels.Label.{Label}
use Rattle.base_model.specs.declared.labels.Choices.{Choices}
use Rattle.base_model.specs.declared.labels.BackupKind.{BackupKind}
use Rattle.base_model.specs.declared.labels.BackupKind.TheVariants.{Full, Diff, Incr}
use Rattle.base_model.specs.declared.wal.WalPart.{WalPart}
use Rattle.base_model.specs.declared.wal.Segment.{Segment}
use Rattle.base_devices.specs.States.{last_second}
use Rattle.base_model.specs.Names.{label_text, segment_text}
use Rattle.base_model.specs.Text.{Text, hex_digit, hex_upper, without_zeros}
use Rattle.base_model.specs.InfoText.{IsKey, IsSection, IsInfo, is_key}
use Rattle.base_model.specs.InfoFiles.{IsLabel, label_value, kind_text}
use Rattle.base_model.specs.Fields.{Field, whole}
use Rattle.base_model.specs.ManifestText.{lsn_text, optional, backup_fields, file_field, manifest_sections, IsSegSize, IsManifest, IsWalPart}
use Rattle.base_model.specs.Values.{FileEntry, Manifest}
use Rattle.repo_ini.proofs.Keys.{IsKey-built}
use Rattle.repo_info.proofs.BackupRules as others
use Rattle.repo_keys.proofs.ByKey.{both}
use Rattle.repo_info.proofs.PlainTexts.{IsUtf8-label_text, IsUtf8-segment_text}
use Rattle.repo_manifest.specs.Head.{choice_fields}
use Rattle.repo_manifest.specs.Sections.{target_file, target_path}
use Rattle.repo_manifest.proofs.FileRules.{keys_files, keys_folders, order_files, order_folders}
use Rattle.repo_manifest.proofs.Alone.{file_alone, folder_alone}
use Rattle.repo_manifest.proofs.Named.{fields_with, has_fields, backup_section, db_section, option_section, folder_section, last_two, sections_are}

-- ---- positions

digit_ascii : (n : ℕ) → n < 16 → are_ascii (hex_digit n ∷ []) ≡ true
digit_ascii n h = elim (cases_lt n 10) [
  | inl low ↦ let e : hex_digit n ≡ 48 + n = grind (arith, nat_tests) in rw e (let g : nat_lt (48 + n) 128 ≡ true = grind (arith, nat_tests) in rw g refl)
  | inr high ↦ let e : hex_digit n ≡ 65 + (n - 10) = grind (arith, nat_tests) in rw e (let g : nat_lt (65 + (n - 10)) 128 ≡ true = grind (arith, nat_tests) in rw g refl)
]

ascii_append : (xs ys : List ℕ) → are_ascii xs ≡ true → are_ascii ys ≡ true → are_ascii (xs ++ ys) ≡ true
ascii_append [] ys h g = g
ascii_append (x ∷ xs) ys h g = let p = and_parts (nat_lt x 128) (are_ascii xs) h in both (nat_lt x 128) (are_ascii (xs ++ ys)) p.0 (ascii_append xs ys p.1 g)

hex_ascii : (n v : ℕ) → are_ascii (hex_upper n v) ≡ true
unfolding hex_upper
hex_ascii zero v = refl
hex_ascii (suc n) v = ascii_append (hex_upper n (v / 16)) (hex_digit (v % 16) ∷ []) (hex_ascii n (v / 16)) (digit_ascii (v % 16) (omega arith))

zeros_ascii : (xs : List ℕ) → are_ascii xs ≡ true → are_ascii (without_zeros xs) ≡ true
zeros_ascii [] h = refl
zeros_ascii (c ∷ []) h = h
zeros_ascii (c ∷ d ∷ ds) h = by (zeros_ascii (d ∷ ds) (and_parts (nat_lt c 128) (are_ascii (d ∷ ds)) h).1) (c == 48)
  where
    by : are_ascii (without_zeros (d ∷ ds)) ≡ true → (b : Bool) → are_ascii (if b then without_zeros (d ∷ ds) else c ∷ d ∷ ds) ≡ true
    by more true = more
    by more false = h

pub lsn_utf8 : (at : ℕ) → IsUtf8 (lsn_text at)
lsn_utf8 at = IsUtf8-are_ascii (lsn_text at)
    (ascii_append (without_zeros (hex_upper 8 (at / 2 ^ 32))) (47 ∷ without_zeros (hex_upper 8 (at % 2 ^ 32))) (zeros_ascii (hex_upper 8 (at / 2 ^ 32)) (hex_ascii 8 (at / 2 ^ 32))) (zeros_ascii (hex_upper 8 (at % 2 ^ 32)) (hex_ascii 8 (at % 2 ^ 32))))

-- ---- the keys of the sections

append_keys : (xs ys : List Field) → AllByRecursion IsKey xs → AllByRecursion IsKey ys → AllByRecursion IsKey (xs ++ ys)
append_keys [] ys h g = g
append_keys (x ∷ xs) ys h g = (h.0, append_keys xs ys h.1 g)

-- a text, a number or a truth value under a key of ASCII
text_key : (key text : Text) → is_key key ≡ true → are_ascii key ≡ true → IsUtf8 text → IsKey (key, string text)
text_key key text name plain utf8 = IsKey-built key (string text) name (IsUtf8-are_ascii key plain) utf8 (lit≤ tt)

number_key : (key : Text) (n : ℕ) → is_key key ≡ true → are_ascii key ≡ true → n < 2 ^ 64 → IsKey (key, whole n)
number_key key n name plain small = IsKey-built key (whole n) name (IsUtf8-are_ascii key plain) small (lit≤ tt)

truth_key : (key : Text) (b : Bool) → is_key key ≡ true → are_ascii key ≡ true → IsKey (key, boolean b)
truth_key key b name plain = IsKey-built key (boolean b) name (IsUtf8-are_ascii key plain) tt (lit≤ tt)

texts : {X : Type 0} (key : Text) (f : X → Text) (o : Option X) → is_key key ≡ true → are_ascii key ≡ true → IfSome o (λ x. IsUtf8 (f x)) → AllByRecursion IsKey (optional key (λ x. string (f x)) o)
texts key f None name plain h = tt
texts key f (Some x) name plain h = (text_key key (f x) name plain h, tt)

numbers : {X : Type 0} (key : Text) (f : X → ℕ) (o : Option X) → is_key key ≡ true → are_ascii key ≡ true → IfSome o (λ x. f x < 2 ^ 64) → AllByRecursion IsKey (optional key (λ x. whole (f x)) o)
numbers key f None name plain h = tt
numbers key f (Some x) name plain h = (number_key key (f x) name plain h, tt)

kind_utf8 : (k : BackupKind) → IsUtf8 (kind_text k)
kind_utf8 Full = IsUtf8-are_ascii (codes "full") refl
kind_utf8 Diff = IsUtf8-are_ascii (codes "diff") refl
kind_utf8 Incr = IsUtf8-are_ascii (codes "incr") refl

segment_utf8 : {X : Type 0} (f : X → Segment) (o : Option X) → IfSome o (λ x. IsUtf8 (segment_text (f x)))
segment_utf8 f None = tt
segment_utf8 f (Some x) = IsUtf8-segment_text (f x)

positions_utf8 : {X : Type 0} (f : X → ℕ) (o : Option X) → IfSome o (λ x. IsUtf8 (lsn_text (f x)))
positions_utf8 f None = tt
positions_utf8 f (Some x) = lsn_utf8 (f x)

label_utf8 : (o : Option Label) → IfSome o IsLabel → IfSome o (λ l. IsUtf8 (label_text l))
label_utf8 None h = tt
label_utf8 (Some l) h = IsUtf8-label_text l h

size_small : (o : Option WalPart) → IfSome o (λ w. IsSegSize w.size.0) → IfSome o (λ w. w.size.0 < 2 ^ 64)
size_small None h = tt
size_small (Some w) h = let (k, low, high, is) = h in let e = size_at k high in omega (arith, is, e)
  where
    size_at : (k : ℕ) → k ≤ 30 → 2 ^ k ≤ 2 ^ 30
    size_at k high = pow-le-pow_right (omega arith) high

one_key : (k : Field) → IsKey k → AllByRecursion IsKey (k ∷ [])
one_key k h = (h, tt)

sizes_of : (o : Option WalPart) → IfSome o IsWalPart → IfSome o (λ w. IsSegSize w.size.0)
sizes_of None h = tt
sizes_of (Some w) h = h.size

pub backup_keys : (m : Manifest) → IsLabel m.label → IfSome m.prior IsLabel → m.start ≤ last_second → m.stop ≤ last_second → IfSome m.wal (λ w. IsSegSize w.size.0) → AllByRecursion IsKey (backup_fields m)
backup_keys m named earlier t0 t1 sized =
    let start = texts (codes "backup-archive-start") (λ (w : WalPart). segment_text w.span.start) m.wal refl refl (segment_utf8 (λ (w : WalPart). w.span.start) m.wal) in
    let stop = texts (codes "backup-archive-stop") (λ (w : WalPart). segment_text w.span.stop) m.wal refl refl (segment_utf8 (λ (w : WalPart). w.span.stop) m.wal) in
    let label = one_key (codes "backup-label", label_value m.label) (text_key (codes "backup-label") (label_text m.label) refl refl (IsUtf8-label_text m.label named)) in
    let from = texts (codes "backup-lsn-start") (λ (w : WalPart). lsn_text w.from.0) m.wal refl refl (positions_utf8 (λ (w : WalPart). w.from.0) m.wal) in
    let to = texts (codes "backup-lsn-stop") (λ (w : WalPart). lsn_text w.to.0) m.wal refl refl (positions_utf8 (λ (w : WalPart). w.to.0) m.wal) in
    let prior = texts (codes "backup-prior") label_text m.prior refl refl (label_utf8 m.prior earlier) in
    let times : AllByRecursion IsKey ((codes "backup-timestamp-start", whole m.start) ∷ (codes "backup-timestamp-stop", whole m.stop) ∷ (codes "backup-type", string (kind_text m.kind)) ∷ []) = (
      number_key (codes "backup-timestamp-start") m.start refl refl (omega (arith, t0)),
      (number_key (codes "backup-timestamp-stop") m.stop refl refl (omega (arith, t1)), (text_key (codes "backup-type") (kind_text m.kind) refl refl (kind_utf8 m.kind), tt)),
    ) in
    let size = numbers (codes "backup-wal-segment-size") (λ (w : WalPart). w.size.0) m.wal refl refl (size_small m.wal sized) in
    append_keys _ _ (append_keys _ _ (append_keys _ _ (append_keys _ _ (append_keys _ _ (append_keys _ _ (append_keys _ _ start stop) label) from) to) prior) times) size

pub backup_order : (w : Option WalPart) (p : Option Label) (m : Manifest) → are_after [] (map (λ (k : Field). k.0) (fields_with w p m)) ≡ true
backup_order None None m = refl
backup_order None (Some l) m = refl
backup_order (Some w) None m = refl
backup_order (Some w) (Some l) m = refl

backup_rules : (m : Manifest) → IsManifest m → IsSection (backup_section m)
backup_rules m h = record { name = refl; utf8 = IsUtf8-are_ascii (codes "backup") refl; some = has_fields m.wal m; keys = backup_keys m h.label h.prior.1 h.start h.stop (sizes_of m.wal h.wal); order = backup_order m.wal m.prior m }

db_rules : (m : Manifest) → IsManifest m → IsSection (db_section m)
db_rules m h = let r = others.db_rules m.cluster h.cluster in record { name = refl; utf8 = IsUtf8-are_ascii (codes "backup:db") refl; some = refl; keys = r.keys; order = r.order }

pub choice_keys : (o : Choices) (online : Bool) → AllByRecursion IsKey (choice_fields o online)
choice_keys o online = (truth_key (codes "option-bundle") o.bundle refl refl, (truth_key (codes "option-delta") o.delta refl refl, (truth_key (codes "option-online") online refl refl, tt)))

option_rules : (m : Manifest) → IsSection (option_section m)
option_rules m = record {
  name = refl;
  utf8 = IsUtf8-are_ascii (codes "backup:option") refl;
  some = refl;
  keys = choice_keys m.choices (is_some m.wal);
  order = refl;
}

folder_rules : (m : Manifest) → IsManifest m → IsSection (folder_section m)
folder_rules m h = record {
  name = refl;
  utf8 = IsUtf8-are_ascii target_path refl;
  some = refl;
  keys = (IsKey-built (codes "pg_data") (object no_members) refl (IsUtf8-are_ascii (codes "pg_data") refl) tt (lit≤ tt), keys_folders m.folders (λ p i. folder_alone m.folders p (h.folders p i)));
  order = order_folders m.folders h.folder_order;
}

with_files : (m : Manifest) (es : List FileEntry) → IsManifest m → AllByRecursion IsKey (map file_field es) → are_after [] (map (λ (k : Field). k.0) (map file_field es)) ≡ true → IsInfo (backup_section m ∷ db_section m ∷ option_section m ∷ last_two m es)
with_files m [] h keys order = record { sections = (backup_rules m h, (db_rules m h, (option_rules m, (folder_rules m h, tt)))); order = refl }
with_files m (e ∷ es) h keys order = record {
  sections = (
    backup_rules m h,
    (db_rules m h, (option_rules m, (record { name = refl; utf8 = IsUtf8-are_ascii target_file refl; some = refl; keys = keys; order = order }, (folder_rules m h, tt)))),
  );
  order = refl;
}

pub manifest_is_info : (m : Manifest) → IsManifest m → IsInfo (manifest_sections m)
manifest_is_info m h =
    let keys = keys_files m.files (λ e i. file_alone m.folders e (h.files e i)) in
    subst IsInfo (sym (sections_are m)) (with_files m m.files h keys (order_files m.files h.file_order))
