-- The bytes of a manifest's files.
use Rattle.std.proofs.Common.{◌≡◌, ℕ, ◌+◌, ◌<◌, ◌≤◌, List, [], ◌∷◌, map, take, length, get_or, Option, Some, None, refl, ap, ◌∙◌, arith}
use Rattle.std.proofs.lemmas.List.{take-map}
use Rattle.std.proofs.lemmas.List.Sums.{sum_by-cons, sum_by-take-le, sum_by_push}
use Rattle.std.specs.Prelude.{sum_by}
use Rattle.base_model.specs.declared.files.FileEntry as rust
use Rattle.base_model.specs.declared.files.Bundled.{Bundled}
use Rattle.base_model.specs.declared.labels.Label.{Label}
use Rattle.base_model.specs.Text.{Text}
use Rattle.base_model.specs.Values.{FileEntry, file_entry_of}
use Rattle.backup_plan.proofs.Lists.{passed}
use Rattle.backup_record.specs.Making.{size_of, stored_of}
use Rattle.backup_record.specs.Record.{own_size}

-- a file refers to none, or its bytes aren't the backup's own
pub own_all : (e : FileEntry) → e.reference ≡ None → own_size e ≡ e.size
own_all e is = ap (λ (o : Option Label). own_size (record { path = e.path; size = e.size; time = e.time; sum = e.sum; reference = o; bundle = e.bundle })) is

pub own_none : (e : FileEntry) (l : Label) → e.reference ≡ Some l → own_size e ≡ 0
own_none e l is = ap (λ (o : Option Label). own_size (record { path = e.path; size = e.size; time = e.time; sum = e.sum; reference = o; bundle = e.bundle })) is

own_within : (e : FileEntry) → own_size e ≤ e.size
own_within e = by e.reference refl
  where
    by : (o : Option Label) → e.reference ≡ o → own_size e ≤ e.size
    by None is = let x = own_all e is in omega (arith, x)
    by (Some l) is = let x = own_none e l is in omega (arith, x)

-- a part of all bytes
pub stored_within : (es : List FileEntry) → stored_of es ≤ size_of es
stored_within [] = omega arith
stored_within (e ∷ es) =
    let a = sum_by-cons own_size e es in
    let b = sum_by-cons (λ (d : FileEntry). d.size) e es in
    let c = own_within e in
    let d = stored_within es in
    omega (arith, a, b, c, d)

module _ (files : List rust.FileEntry) (i : ℕ) (x : rust.FileEntry) (less : i < length files) (is : x ≡ get_or files i x) where
  -- those before a file, and the file itself
  pub next_size : size_of (map file_entry_of (take (i + 1) files)) ≡ size_of (map file_entry_of (take i files)) + x.size
  next_size = ap size_of (passed file_entry_of files i x less is) ∙ sum_by_push (λ (e : FileEntry). e.size) (map file_entry_of (take i files)) (file_entry_of x)

  pub next_stored : stored_of (map file_entry_of (take (i + 1) files)) ≡ stored_of (map file_entry_of (take i files)) + own_size (file_entry_of x)
  next_stored = ap stored_of (passed file_entry_of files i x less is) ∙ sum_by_push own_size (map file_entry_of (take i files)) (file_entry_of x)

  -- are part of all
  pub reach : size_of (map file_entry_of (take i files)) + x.size ≤ size_of (map file_entry_of files)
  reach =
      let more = next_size in
      let part = sum_by-take-le (λ (e : FileEntry). e.size) (map file_entry_of files) (i + 1) in
      let same = ap size_of (take-map file_entry_of (i + 1) files) in
      omega (arith, more, part, same)

  pub reach_stored : stored_of (map file_entry_of (take i files)) + x.size ≤ size_of (map file_entry_of files)
  reach_stored = let a = reach in let b = stored_within (map file_entry_of (take i files)) in omega (arith, a, b)
