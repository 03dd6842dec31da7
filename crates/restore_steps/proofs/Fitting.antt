-- A file's place may be in a job.
use Rattle.std.proofs.Common.{ℕ, true, ◌≡◌, ◌<◌, ◌≤◌, ◌^◌, refl, sym, ap, subst, ◌∙◌, ◌+◌, arith, lit<, List, [], ◌∷◌, ◌++◌, length, length-append, Option, Some, None, IfSome, decimal}
use Rattle.std.specs.Prelude.{codes, unwrap_or}
use Rattle.std.specs.List.{AllByRecursion, flat_map}
use Rattle.std.specs.Int.{w16, w32, w64, to_be_bytes}
use Rattle.std.proofs.lemmas.Fmt.{length-decimal-le}
use Rattle.json.proofs.Printed.Utf8.{IsUtf8-are_ascii}
use Rattle.base_model.specs.declared.labels.Label.{Label}
use Rattle.base_model.specs.declared.files.Bundled.{Bundled}
use Rattle.base_model.specs.InfoFiles.{IsLabel}
use Rattle.base_model.specs.Names.{backup_folder, label_text, label_folder, file_name, bundle_name}
use Rattle.base_model.specs.Paths.{IsPath}
use Rattle.base_model.specs.Place.{holder, place_by}
use Rattle.base_model.specs.Text.{Text, ◌⫽◌}
use Rattle.base_model.specs.Values.{FileEntry}
use Rattle.base_model.specs.StanzaName.{is_stanza}
use Rattle.repo_names.specs.Faults.{IsPathWithin}
use Rattle.worker_protocol.specs.Frames.{Item, Job, item_bytes, job_bytes, job_limit, repo_limit, short_text, FitsItem, FitsJob}
use Rattle.restore_steps.specs.Sources.{IsEntry, source, reading}
use Rattle.restore_steps.proofs.Parts.{IsPart, joined}
use Rattle.restore_steps.proofs.Words.{short_stanza, stanza_part, number_part, short_label, label_part}

-- ---- the name

backup_part : IsPart (codes "backup")
backup_part = record { utf8 = IsUtf8-are_ascii (codes "backup") refl; bytes = refl; held = refl }

data_part : IsPart (codes "pg_data")
data_part = record { utf8 = IsUtf8-are_ascii (codes "pg_data") refl; bytes = refl; held = refl }

bundle_part : IsPart (codes "bundle")
bundle_part = record { utf8 = IsUtf8-are_ascii (codes "bundle") refl; bytes = refl; held = refl }

module _ (stanza : Text) (word : is_stanza stanza ≡ true) (l : Label) (good : IsLabel l) where
  folder_part : IsPart (label_folder stanza l)
  folder_part = joined (backup_folder stanza) (label_text l) (joined (codes "backup") stanza backup_part (stanza_part stanza word)) (label_part l good)

  folder_short : length (label_folder stanza l) ≤ 105
  folder_short = omega (arith, length-append (backup_folder stanza) (47 ∷ label_text l), length-append (codes "backup") (47 ∷ stanza), short_stanza stanza word, short_label l)

  within : (name : Text) → IsPart (label_folder stanza l ⫽ name) → length name ≤ 1032 → IsPathWithin repo_limit (label_folder stanza l ⫽ name)
  unfolding repo_limit
  within name part short = record { utf8 = part.utf8; short = omega (arith, length-append (label_folder stanza l) (47 ∷ name), folder_short, short); bytes = part.bytes; elements_hold = part.held }

  file_within : (path : Text) → IsPath path → IsPathWithin repo_limit (file_name stanza l path)
  file_within path is =
      let p : IsPart path = record { utf8 = is.utf8; bytes = is.bytes; held = is.elements_hold } in
      within (codes "pg_data" ⫽ path) (joined (label_folder stanza l) (codes "pg_data" ⫽ path) folder_part (joined (codes "pg_data") path data_part p))
      (omega (arith, length-append (codes "pg_data") (47 ∷ path), is.short))

  bundle_within : (number : ℕ) → number < 2 ^ 32 → IsPathWithin repo_limit (bundle_name stanza l number)
  bundle_within number small =
      let wide : number < 2 ^ 64 = omega (arith, small) in
      within (codes "bundle" ⫽ decimal number) (joined (label_folder stanza l) (codes "bundle" ⫽ decimal number) folder_part (joined (codes "bundle") (decimal number) bundle_part (number_part number wide)))
      (omega (arith, length-append (codes "bundle") (47 ∷ decimal number), length-decimal-le 10 number (lit< tt) (omega (arith, small)) wide))

-- ---- the item

held_by : (own : Label) (o : Option Label) → IsLabel own → IfSome o IsLabel → IsLabel (unwrap_or o own)
held_by own None good h = good
held_by own (Some l) good h = h

module _ (stanza : Text) (word : is_stanza stanza ≡ true) (own : Label) (good : IsLabel own) (e : FileEntry) (is : IsEntry e) where
  place_within : (o : Option Bundled) → IfSome o (λ b. (1 ≤ b.number) × (b.number < 2 ^ 32) × (b.at < 2 ^ 64)) → IsPathWithin repo_limit (place_by stanza own e o).0 × ((place_by stanza own e o).1 < 2 ^ 64)
  place_within None h = (file_within stanza word (holder own e) (held_by own e.reference good is.1.reference) e.path is.1.path, lit< tt)
  place_within (Some b) h = (bundle_within stanza word (holder own e) (held_by own e.reference good is.1.reference) b.number h.1, h.2)

  pub fits_source : FitsItem (source stanza own e)
  fits_source = let p = place_within e.bundle is.1.bundle in record { path = p.0; at = p.1; size = is.1.size }

-- ---- the job

item_count : (i : Item) → length i.path ≤ repo_limit → length (item_bytes i) ≤ 1219
unfolding item_bytes repo_limit
item_count i short =
    let a = length-append (short_text i.path ++ to_be_bytes w64 i.at) (to_be_bytes w64 i.size) in
    let b = length-append (short_text i.path) (to_be_bytes w64 i.at) in
    let c = length-append (to_be_bytes w16 (length i.path)) i.path in
    let d : length (to_be_bytes w64 i.at) ≡ 8 = refl in
    let f : length (to_be_bytes w64 i.size) ≡ 8 = refl in
    let g : length (to_be_bytes w16 (length i.path)) ≡ 2 = refl in
    omega (arith, a, b, c, d, f, g, short)

job_count : (j : Job) (i : Item) → j.items ≡ i ∷ [] → length (item_bytes i) ≤ 1219 → length (job_bytes j) ≤ job_limit
unfolding job_bytes job_limit
job_count j i is short =
    let a = length-append (to_be_bytes w32 (length j.items)) (flat_map item_bytes j.items) in
    let b : length (to_be_bytes w32 (length j.items)) ≡ 4 = refl in
    let c : length (flat_map item_bytes j.items) ≡ length (item_bytes i) + 0 = ap (λ is. length (flat_map item_bytes is)) is ∙ length-append (item_bytes i) [] in
    omega (arith, a, b, c, short)

-- of one item
pub fits_one : (j : Job) (i : Item) → j.items ≡ i ∷ [] → FitsItem i → length i.path ≤ 1200 → FitsJob j
unfolding repo_limit
fits_one j i is fits short =
    let one : length j.items ≡ 1 = ap (λ (l : List Item). length l) is in
    record { some = omega (arith, one); few = omega (arith, one); items = subst (λ (l : List Item). AllByRecursion FitsItem l) (sym is) (fits, tt); small = job_count j i is (item_count i short) }

pub fits_reading : (stanza : Text) → is_stanza stanza ≡ true → (own : Label) → IsLabel own → (e : FileEntry) → IsEntry e → FitsJob (reading stanza own e)
unfolding repo_limit
fits_reading stanza word own good e is =
    let item = fits_source stanza word own good e is in
    fits_one (reading stanza own e) (source stanza own e) refl item item.path.short
