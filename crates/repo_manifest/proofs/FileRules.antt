-- The keys of files and folders may be in an info text.
use Rattle.std.proofs.Common.{◌≡◌, ℕ, ◌≤◌, ◌<◌, ◌^◌, ◌&&◌, inl, inr, Bool, true, List, [], ◌∷◌, map, Option, Some, None, codes, IsUtf8, refl, ap, ◌∙◌, arith, lit≤}
use Rattle.std.specs.Prelude.{IfSome, nat_lt}
use Rattle.std.specs.List.{AllByRecursion}
use Rattle.std.proofs.lemmas.Str.{IsUtf8-append, IsUtf8-from_ascii}
use Rattle.std.proofs.lemmas.Bool.{and_parts, ltb-true}
use Rattle.std.proofs.lemmas.Str.Ascii.{IsAscii-from_all}
use Rattle.std.proofs.lemmas.List.Elements.{All-from_recursion}
use Rattle.hex.specs.Hex.{lower_digits}
use Rattle.hex.proofs.HexLemmas.{IsAscii-encode_with}
use Rattle.json.proofs.Printed.Utf8.{are_ascii, IsUtf8-are_ascii}
use Rattle.serde_json.specs.Data.{depth, object, no_members}
use Rattle.serde_json.specs.Read.{max_depth}
use Rattle.base_text.specs.Sum.{sum_text}
use Rattle.base_devices.specs.Order.{is_before, are_after, are_in_order}
use Rattle.base_model.specs.declared.labels.Label.{Label}
use Rattle.base_model.specs.declared.files.Bundled.{Bundled}
use Rattle.base_model.specs.Text.{Text, In}
use Rattle.base_model.specs.Json.{IsValue}
use Rattle.base_model.specs.InfoText.{IsKey, is_key}
use Rattle.base_model.specs.InfoFiles.{IsLabel}
use Rattle.base_model.specs.Fields.{Field}
use Rattle.base_model.specs.ManifestText.{data_path, file_field, folder_field}
use Rattle.base_model.specs.Paths.{IsPath}
use Rattle.base_model.specs.Values.{FileEntry}
use Rattle.repo_ini.specs.Built.{IsBuilt}
use Rattle.repo_ini.proofs.Built.{IsValue-built}
use Rattle.repo_ini.proofs.Keys.{IsKey-built}
use Rattle.repo_ini.proofs.Objects.{IsBuilt-object}
use Rattle.repo_info.proofs.PlainTexts.{IsUtf8-label_text}
use Rattle.repo_manifest.specs.Alone.{IsFile, IsDirectory}
use Rattle.repo_manifest.specs.declared.known.FileFacts.{FileFacts}
use Rattle.repo_manifest.specs.FileFacts.{file_with}
use Rattle.repo_manifest.proofs.FileValues.{value_with}

path_key : (path : Text) → IsPath path → is_key (data_path path) ≡ true
path_key path h = h.bytes

path_utf8 : (path : Text) → IsPath path → IsUtf8 (data_path path)
path_utf8 path h = IsUtf8-append (codes "pg_data/") path (IsUtf8-are_ascii (codes "pg_data/") refl) h.utf8

module _ (sum : List ℕ) (size time : ℕ) (digits : IsUtf8 (sum_text sum)) (small : size < 2 ^ 64) (short : time < 2 ^ 64) where
  pub built_with : (b : Option Bundled) (r : Option Label) → IfSome b (λ x. (x.number < 2 ^ 64) × (x.at < 2 ^ 64)) → IfSome r IsLabel → IsBuilt (value_with b r sum size time)
  built_with None None h g = IsBuilt-object (value_with None None sum size time) refl (digits, (small, (short, tt)))
  built_with None (Some l) h g = IsBuilt-object (value_with None (Some l) sum size time) refl (digits, (IsUtf8-label_text l g, (small, (short, tt))))
  built_with (Some b) None h g = IsBuilt-object (value_with (Some b) None sum size time) refl (h.0, (h.1, (digits, (small, (short, tt)))))
  built_with (Some b) (Some l) h g = IsBuilt-object (value_with (Some b) (Some l) sum size time) refl (h.0, (h.1, (digits, (IsUtf8-label_text l g, (small, (short, tt))))))

  pub depth_with : (b : Option Bundled) (r : Option Label) → depth (value_with b r sum size time) ≤ max_depth
  depth_with None None = lit≤ tt
  depth_with None (Some l) = lit≤ tt
  depth_with (Some b) None = lit≤ tt
  depth_with (Some b) (Some l) = lit≤ tt

low : (bs : List ℕ) → are_ascii bs ≡ true → AllByRecursion (λ (b : ℕ). b < 128) bs
low [] h = tt
low (b ∷ bs) h = let p = and_parts (nat_lt b 128) (are_ascii bs) h in (ltb-true b 128 p.0, low bs p.1)

sum_utf8 : (sum : List ℕ) → IsUtf8 (sum_text sum)
sum_utf8 sum = IsUtf8-from_ascii (sum_text sum) (IsAscii-encode_with lower_digits sum (IsAscii-from_all lower_digits (All-from_recursion (λ (b : ℕ). b < 128) lower_digits (low lower_digits refl))))

small_bundle : (b : Option Bundled) → IfSome b (λ x. (1 ≤ x.number) × (x.number < 2 ^ 32) × (x.at < 2 ^ 64)) → IfSome b (λ x. (x.number < 2 ^ 64) × (x.at < 2 ^ 64))
small_bundle None h = tt
small_bundle (Some b) h = let n = h.1 in (omega (arith, n), h.2)

pub key_file : (e : FileEntry) → IsFile e → IsKey (file_field e)
key_file e h = IsKey-built (data_path e.path) (file_field e).1 (path_key e.path h.path) (path_utf8 e.path h.path)
    (built_with e.sum e.size e.time (sum_utf8 e.sum) h.size h.time e.bundle e.reference (small_bundle e.bundle h.bundle) h.reference)
    (depth_with e.sum e.size e.time (sum_utf8 e.sum) h.size h.time e.bundle e.reference)

pub key_folder : (p : Text) → IsDirectory p → IsKey (folder_field p)
key_folder p h = IsKey-built (data_path p) (object no_members) (path_key p h.is_path) (path_utf8 p h.is_path) tt (lit≤ tt)

-- what is written of a file that was read
pub known_value : (t : FileFacts) → IfSome t.reference IsLabel → t.size < 2 ^ 64 → t.time < 2 ^ 64 → IfSome t.bundle (λ x. (1 ≤ x.number) × (x.number < 2 ^ 32) × (x.at < 2 ^ 64)) → IsValue (file_field (file_with [] t)).1
known_value t label size time bundle = IsValue-built (file_field (file_with [] t)).1
    (built_with t.sum.0 t.size t.time (sum_utf8 t.sum.0) size time t.bundle t.reference (small_bundle t.bundle bundle) label)
    (depth_with t.sum.0 t.size t.time (sum_utf8 t.sum.0) size time t.bundle t.reference)

-- ---- lists of them

all_from : {X : Type 0} (P : X → Type 0) (xs : List X) → ((x : X) → In x xs → P x) → AllByRecursion P xs
all_from P [] h = tt
all_from P (x ∷ xs) h = (h x (inl refl), all_from P xs (λ y i. h y (inr i)))

pub keys_files : (es : List FileEntry) → ((e : FileEntry) → In e es → IsFile e) → AllByRecursion IsKey (map file_field es)
keys_files [] h = tt
keys_files (e ∷ es) h = (key_file e (h e (inl refl)), keys_files es (λ f i. h f (inr i)))

pub keys_folders : (ps : List Text) → ((p : Text) → In p ps → IsDirectory p) → AllByRecursion IsKey (map folder_field ps)
keys_folders [] h = tt
keys_folders (p ∷ ps) h = (key_folder p (h p (inl refl)), keys_folders ps (λ q i. h q (inr i)))

abbrev name : Field → Text
name k = k.0

-- keys are in the order of their paths
pub after_files : (last : Text) (es : List FileEntry) → are_after (data_path last) (map name (map file_field es)) ≡ are_after last (map (λ (e : FileEntry). e.path) es)
after_files last [] = refl
after_files last (e ∷ es) = ap (λ (b : Bool). is_before last e.path && b) (after_files e.path es)

pub after_folders : (last : Text) (ps : List Text) → are_after (data_path last) (map name (map folder_field ps)) ≡ are_after last ps
after_folders last [] = refl
after_folders last (p ∷ ps) = ap (λ (b : Bool). is_before last p && b) (after_folders p ps)

pub order_files : (es : List FileEntry) → are_in_order (map (λ (e : FileEntry). e.path) es) ≡ true → are_after [] (map name (map file_field es)) ≡ true
order_files [] h = refl
order_files (e ∷ es) h = after_files e.path es ∙ h

pub order_folders : (ps : List Text) → are_in_order ps ≡ true → are_after (codes "pg_data") (map name (map folder_field ps)) ≡ true
order_folders [] h = refl
order_folders (p ∷ ps) h = after_folders p ps ∙ h
