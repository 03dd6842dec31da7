-- The files of a manifest that are counted, and their bytes.
use Rattle.std.proofs.Common.{◌≡◌, ℕ, ◌+◌, ◌<◌, ◌≤◌, Bool, true, false, List, [], ◌∷◌, ◌++◌, map, take, length, get_or, refl, ap, ◌∙◌, arith, length-append}
use Rattle.std.specs.Prelude.{filter, not}
use Rattle.std.proofs.lemmas.List.{append-nil}
use Rattle.std.proofs.lemmas.List.Elements.{filter-append}
use Rattle.std.proofs.lemmas.List.Filters.{sum_by-filter_both}
use Rattle.std.proofs.lemmas.List.Sums.{sum_by_push}
use Rattle.base_model.specs.declared.files.FileEntry as rust
use Rattle.base_model.specs.Values.{FileEntry, file_entry_of}
use Rattle.backup_plan.proofs.Lists.{passed}
use Rattle.backup_record.specs.Making.{size_of}

module _ (p : FileEntry → Bool) where
  taken : (e : FileEntry) → p e ≡ true → filter p (e ∷ []) ≡ e ∷ []
  taken e is = rw is refl

  left_out : (e : FileEntry) → p e ≡ false → filter p (e ∷ []) ≡ []
  left_out e is = rw is refl

  module _ (files : List rust.FileEntry) (i : ℕ) (x : rust.FileEntry) (less : i < length files) (is : x ≡ get_or files i x) where
    next : filter p (map file_entry_of (take (i + 1) files)) ≡ filter p (map file_entry_of (take i files)) ++ filter p (file_entry_of x ∷ [])
    next = ap (filter p) (passed file_entry_of files i x less is) ∙ filter-append p (map file_entry_of (take i files)) (file_entry_of x ∷ [])

    -- with a file that is counted, and with another
    pub counted_more : p (file_entry_of x) ≡ true → (length (filter p (map file_entry_of (take (i + 1) files))) ≡ length (filter p (map file_entry_of (take i files))) + 1) × (size_of (filter p (map file_entry_of (take (i + 1) files))) ≡ size_of (filter p (map file_entry_of (take i files))) + x.size)
    counted_more counts =
        let so_far = filter p (map file_entry_of (take i files)) in
        let e = next ∙ ap (λ (es : List FileEntry). so_far ++ es) (taken (file_entry_of x) counts) in (
          ap length e ∙ length-append so_far (file_entry_of x ∷ []),
          ap size_of e ∙ sum_by_push (λ (f : FileEntry). f.size) so_far (file_entry_of x),
        )

    pub counted_less : p (file_entry_of x) ≡ false → (length (filter p (map file_entry_of (take (i + 1) files))) ≡ length (filter p (map file_entry_of (take i files)))) × (size_of (filter p (map file_entry_of (take (i + 1) files))) ≡ size_of (filter p (map file_entry_of (take i files))))
    counted_less lacks =
        let so_far = filter p (map file_entry_of (take i files)) in
        let e = next ∙ ap (λ (es : List FileEntry). so_far ++ es) (left_out (file_entry_of x) lacks) ∙ append-nil so_far in
        (ap length e, ap size_of e)

  -- some of the files have no more bytes than all
  pub filtered_within : (es : List FileEntry) → size_of (filter p es) ≤ size_of es
  filtered_within es = omega (arith, sum_by-filter_both p (λ (e : FileEntry). not (p e)) (λ e. refl) (λ (e : FileEntry). e.size) es)
