-- The record of what was received is that of a backup that the stanza's list then has.
use Rattle.std.proofs.Common.{◌≡◌, ◌↔◌, ⊎_elim, inl, inr, true, List, [], ◌∷◌, length, map, Option, Some, None, refl, sym, ◌∙◌, ap, subst}
use Rattle.std.specs.Prelude.{IfSome}
use Rattle.std.proofs.lemmas.List.{map-append}
use Rattle.base_devices.specs.Content.{Name, Content}
use Rattle.base_devices.specs.Order.{are_in_order}
use Rattle.base_model.specs.declared.labels.Label.{Label}
use Rattle.base_model.specs.Text.{Text, Map, In}
use Rattle.base_model.specs.Values.{Entry, BackupInfo, FileEntry, Manifest}
use Rattle.base_model.specs.Repository.{File, Backup, Stanza}
use Rattle.base_model.specs.Represents.{IsAncestor, IsListed, backup_value}
use Rattle.base_model.specs.Steps.{changed, AddBackup}
use Rattle.worker_protocol.specs.PartSinkState.{JobItems}
use Rattle.backup_plan.specs.declared.values.Choice.{Choice}
use Rattle.backup_plan.specs.Listed.{Taken}
use Rattle.backup_plan.specs.Layout.{Layout}
use Rattle.backup_plan.specs.Filter.{paths_of}
use Rattle.backup_plan.specs.Spots.{HaveItems}
use Rattle.backup_record.specs.declared.manifest_record.Head.{Head}
use Rattle.backup_record.specs.Ends.{AreAllEnds, AreReceived}
use Rattle.backup_record.specs.Entries.{BackupRun, entries, rows, file_of}
use Rattle.backup_record.specs.Further.{Further, IsFurther, with_further, entry_in, with_name, with_kept, with_row}
use Rattle.backup_record.specs.Making.{manifest_with, entry_with, backup_with, labels_of, RefersTo, list_with, IsListWith}
use Rattle.backup_record.specs.Naming.{IsNaming}
use Rattle.backup_record.specs.Record.{PriorRead, HasPrior, IsLeft, IsListOf, Adds}
use Rattle.backup_record.specs.Rows.{IsPriorFile, IsRow}
use Rattle.backup_record.proofs.Left.{OneManifest, is_left, is_ancestor}
use Rattle.backup_record.proofs.Made.{of_map, is_record}
use Rattle.backup_record.proofs.Maps.{map_of}
use Rattle.backup_record.proofs.Rows.{all_rows}
use Rattle.backup_record.proofs.Extended.{with_entries, with_rows, rows_sorted}

-- what the lemmas know of a record: what it is made of, and what the stanza is
pub record IsMadeOf (stanza : Text) (names : List Name) (kept : List JobItems) (h : Head) (w : BackupRun) (l : Layout) (fs : List Taken) (cs : List Choice) (s : Stanza) : Type 0 where
  pub are : AreAllEnds w.ends kept
  pub got : AreReceived kept
  pub named : IsNaming stanza h.label names w l
  pub have : HaveItems w.old l fs cs
  pub order : are_in_order (paths_of fs) ≡ true
  pub cluster : In h.cluster s.history
  pub count : length names ≡ length kept

-- the further file is besides those of the listing
pub record RepresentsBeside (stanza : Text) (label : Label) (fs : List Taken) (y : Further) : Type 0 where
  pub is : IsFurther stanza label y
  pub free : ¬ In y.entry.path (paths_of fs)

module _ (stanza : Text) (names : List Name) (kept : List JobItems) (h : Head) (w : BackupRun) (l : Layout) (fs : List Taken) (cs : List Choice) (s : Stanza) (x : IsMadeOf stanza names kept h w l fs cs s)
    (folders : List Text) (further : Option Further) (beside : IfSome further (RepresentsBeside stanza h.label fs)) (before list : BackupInfo) (list_of : IsListOf s before)
    (listed : IsListWith before (manifest_with h (with_further (entry_in further) (entries w fs cs)) folders) list) where
  abbrev made : Manifest
  made = manifest_with h (with_further (entry_in further) (entries w fs cs)) folders

  is_further : IfSome further (IsFurther stanza h.label)
  is_further = by further beside
    where
      by : (o : Option Further) → IfSome o (RepresentsBeside stanza h.label fs) → IfSome o (IsFurther stanza h.label)
      by None y = tt
      by (Some o) y = y.is

  free : IfSome (entry_in further) (λ e. ¬ In e.path (paths_of fs))
  free = by further beside
    where
      by : (o : Option Further) → IfSome o (RepresentsBeside stanza h.label fs) → IfSome (entry_in o) (λ e. ¬ In e.path (paths_of fs))
      by None y = tt
      by (Some o) y = y.free

  -- the backup: its files are those that were received and those that were left
  abbrev pub backup_of : Map File → Backup
  backup_of files = backup_with made listed.references (map_of (map file_of (with_row further (rows w files kept fs cs))))

  list_is : (files : Map File) → list ≡ backup_value (changed (AddBackup (backup_of files)) s) None
  list_is files =
      listed.is ∙ ap (list_with (entry_with made listed.references)) list_of
      ∙ ap (λ (es : List Entry). (let v : BackupInfo = record { current = length s.history; history = s.history; backups = es } in v)) (sym (map-append (λ (b : Backup). b.entry) s.backups (backup_of files ∷ [])))

  in_labels : (k : Label) → IsListed s.backups k → In k (labels_of before.backups)
  in_labels k q = subst (λ (es : List Entry). In k (labels_of es)) (sym (ap (λ (v : BackupInfo). v.backups) list_of)) (by s.backups q.1)
    where
      by : (bs : List Backup) → In q.0 bs → In k (labels_of (map (λ (b : Backup). b.entry) bs))
      by [] i = absurd i
      by (b ∷ bs) i = ⊎_elim (λ (e : q.0 ≡ b). inl (sym q.2 ∙ ap (λ (b : Backup). b.entry.label) e)) (λ (j : In q.0 bs). inr (by bs j)) i

  module _ (files : Map File) (prior : Option PriorRead)
      (left : (e : FileEntry) (k : Label) (bytes : Text) → e.reference ≡ Some k → IsPriorFile w files e k bytes → IsLeft stanza s prior h.label e bytes × (IsAncestor s.backups k (backup_of files) × IsListed s.backups k)) where
    each : (r : FileEntry × Text) → In r (with_row further (rows w files kept fs cs)) → IsRow stanza h.label (with_name further names) w files (with_kept further kept) r.0 r.1
    each = with_rows stanza h.label kept names further is_further x.count w files (rows w files kept fs cs) (all_rows stanza h.label names w files kept l x.are x.got x.named fs cs x.have)

    files_are : made.files ≡ map (λ (r : FileEntry × Text). r.0) (with_row further (rows w files kept fs cs))
    files_are = sym (with_entries further w files kept fs cs)

    refers_listed : (k : Label) → RefersTo made.files k → In k (labels_of before.backups)
    refers_listed k q =
        let r = of_map (λ (y : FileEntry × Text). y.0) q.0 (with_row further (rows w files kept fs cs)) (subst (λ (es : List FileEntry). In q.0 es) files_are q.1) in
        let refers : r.0.0.reference ≡ Some k = ap (λ (y : FileEntry). y.reference) (sym r.2) ∙ q.2 in
        in_labels k (left r.0.0 k r.0.1 refers ((each r.0 r.1).left k refers)).1.1

    references : (k : Label) → In k listed.references ↔ RefersTo made.files k
    references k = (λ i. ((listed.are.each k).0 i).1, λ q. (listed.are.each k).1 (refers_listed k q, q))

    adds_by : Adds stanza (with_name further names) (with_kept further kept) prior made list s (backup_of files)
    adds_by = record {
      is = is_record stanza (with_name further names) (with_kept further kept) s prior (backup_of files) made w files (with_row further (rows w files kept fs cs))
          (record { label = refl; kind = refl; prior = refl; start = refl; stop = refl; cluster = (x.cluster, refl); wal = refl; choices = refl; folders = refl })
          files_are refl (rows_sorted further w files kept fs cs x.order free) each references left refl refl;
      list_is = list_is files;
    }

  -- without a prior backup no file is left
  pub adds_none : (files : Map File) → w.old ≡ [] → Adds stanza (with_name further names) (with_kept further kept) None made list s (backup_of files)
  adds_none files none = adds_by files None (λ e k bytes refers p. absurd (subst (λ (es : List FileEntry). In p.entry es) none p.of_it))

  -- with one, its files that were left have its bytes
  pub adds_prior : OneManifest → (p : Backup) (at : In p s.backups) (m : Manifest) (f : Content) → HasPrior stanza s (Some (record { label = p.entry.label; manifest = m })) f → w.prior ≡ p.entry.label → w.old ≡ m.files → h.prior ≡ Some p.entry.label
      → Adds stanza (with_name further names) (with_kept further kept) (Some (record { label = p.entry.label; manifest = m })) made list s (backup_of p.files)
  adds_prior one p at m f has prior_is old_is head_is = adds_by p.files (Some (record { label = p.entry.label; manifest = m })) (λ e k bytes refers q. (
    is_left one stanza s p at m w prior_is old_is e k bytes refers q h.label f has,
    is_ancestor one stanza s p at m w prior_is old_is e k bytes refers q (backup_of p.files) f has head_is,
  ))
