-- The backup has the manifest's files; and which files of a listing it has with the label file.
use Rattle.std.proofs.Common.{◌≡◌, inl, inr, Bool, true, false, List, [], ◌∷◌, map, Option, Some, None, sym, ◌∙◌, ap}
use Rattle.std.specs.Prelude.{IfSome, if◌then◌else◌}
use Rattle.std.specs.FinMap.{keys}
use Rattle.base_devices.specs.Links.{LinkState}
use Rattle.base_devices.specs.Moments.{View}
use Rattle.base_devices.specs.Order.{is_before}
use Rattle.base_model.specs.Repository.{File}
use Rattle.base_model.specs.Text.{Text, In}
use Rattle.base_model.specs.Values.{FileEntry}
use Rattle.worker_protocol.specs.Frames.{Item}
use Rattle.worker_pool.specs.Digests.{IsAbsentBy}
use Rattle.worker_pool.specs.Reads.{file_of}
use Rattle.backup_plan.specs.Layout.{item_for}
use Rattle.backup_plan.specs.Listed.{Taken}
use Rattle.backup_record.specs.Entries.{file_of as row_file}
use Rattle.backup_record.specs.Further.{entry_in, put_in, with_further, with_row}
use Rattle.backup_record.proofs.Extended.{with_entries}
use Rattle.backup_record.proofs.Made.{map_map}
use Rattle.backup_record.proofs.Maps.{keys_of}
use Rattle.backup_make.specs.declared.draft.Draft.{Draft}
use Rattle.backup_make.specs.Draft.{taken_in, went_with, files_with, further_in, IsDraft, IsFree}
use Rattle.backup_make.specs.Kept.{IsKeptUnlessAbsent}
use Rattle.backup_make.specs.Made.{MakesOf}
use Rattle.backup_make.specs.Online.{Online}
use Rattle.backup_lemmas.proofs.Prior.{files_before}
use Rattle.backup_lemmas.proofs.Reading.{backup_made, files_sorted, rows_of}
use Rattle.cmd_backup_common.proofs.Links.{Comes, where_back}

-- ---- a list of files

-- a file that was there is there with one more
put_keeps : (x e : FileEntry) (es : List FileEntry) → In e es → In e (put_in (λ (d : FileEntry). d.path) x es)
put_keeps x e [] at = absurd at
put_keeps x e (d ∷ es) at = by (is_before x.path d.path) (put_keeps x e es) at
  where
    by : (b : Bool) → (In e es → In e (put_in (λ (d : FileEntry). d.path) x es)) → In e (d ∷ es) → In e (if b then x ∷ d ∷ es else d ∷ put_in (λ (d : FileEntry). d.path) x es)
    by true rest k = inr k
    by false rest (inl same) = inl same
    by false rest (inr k) = inr (rest k)

-- the manifest's files are the backup's
module _ (d : Draft) (is_draft : IsDraft d) (o : Option Online) (free : IfSome o (λ _. IsFree d)) (links : List LinkState) (whole : Bool) (old new : View) (makes : MakesOf d o links whole old new) where
  abbrev all_rows : List (FileEntry × Text)
  all_rows = with_row (further_in d o makes.stop) (rows_of d old.now makes.ends makes.kept)

  pub same_paths : map (λ (e : FileEntry). e.path) (with_further (entry_in (further_in d o makes.stop)) (files_with d makes.ends)) ≡ keys (backup_made d o links whole old new makes).files
  same_paths =
      let paths : List FileEntry → List Text = λ es. map (λ (e : FileEntry). e.path) es in
      sym (ap paths (with_entries (further_in d o makes.stop) (went_with d makes.ends) (files_before d old.now) makes.kept (taken_in d) d.plan.choices.items))
      ∙ map_map (λ (e : FileEntry). e.path) (λ (r : FileEntry × Text). r.0) all_rows
      ∙ sym (keys_of (map row_file all_rows) (files_sorted d is_draft o free links whole old new makes) ∙ map_map (λ (p : Text × File). p.0) row_file all_rows)

-- ---- of the links that were given their folders, with the label file

module _ (used now : List LinkState) (comes : Comes used now) where
  absent_by_used : (item : Item) → IsAbsentBy now item → IsAbsentBy used item
  absent_by_used item h =
      let u = comes.comes h.link h.from h.is in
      record { link = u.0; from = u.1; is = u.2; absent = where_back u.1.known h.from.known (λ tree repo. file_of item tree repo ≡ None) u.3 h.absent }

  pub kept_by_used : (label : FileEntry) (es : List FileEntry) (f : Taken) → IsKeptUnlessAbsent now es f → IsKeptUnlessAbsent used (with_further (Some label) es) f
  kept_by_used label es f (inl x) = inl (x.0, put_keeps label x.0 es x.1, x.2)
  kept_by_used label es f (inr gone) = inr (absent_by_used (item_for f) gone)
