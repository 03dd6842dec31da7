-- The list with the backup of a manifest.
use Rattle.std.proofs.Common.{◌≡◌, ◌↔◌, true, List, [], ◌∷◌, ◌++◌, map, sym, ◌∙◌, ap, subst}
use Rattle.std.proofs.lemmas.List.{map-append}
use Rattle.base_devices.specs.Order.{are_in_order}
use Rattle.base_model.specs.declared.clusters.BackupInfo as rust_info
use Rattle.base_model.specs.declared.files.FileEntry as rust_file
use Rattle.base_model.specs.declared.labels.Entry as rust_entry
use Rattle.base_model.specs.declared.labels.Label.{Label}
use Rattle.base_model.specs.Text.{In}
use Rattle.base_model.specs.Names.{label_text}
use Rattle.base_model.specs.Values.{Entry, BackupInfo, FileEntry, Manifest, entry_of, file_entry_of, backup_info_of}
use Rattle.backup_record.specs.Making.{entry_with, labels_of, RefersTo, AreReferences, IsListWith}

pub listed_with : (before : rust_info.BackupInfo) (m : Manifest) (listed : List rust_entry.Entry) (files : List rust_file.FileEntry) (labels found refs : List Label) (new : List rust_entry.Entry) (e : rust_entry.Entry)
    → listed ≡ before.backups.items → map file_entry_of files ≡ m.files → found ≡ labels
    → ((l : Label) → In l labels ↔ RefersTo (map file_entry_of files) l)
    → ((l : Label) → In l refs ↔ (In l (labels_of (map entry_of listed)) × In l found))
    → (are_in_order (map label_text (labels_of (map entry_of listed))) ≡ true → are_in_order (map label_text refs) ≡ true)
    → entry_of e ≡ entry_with m refs → new ≡ before.backups.items ++ e ∷ []
    → IsListWith (backup_info_of before) m (record { current = before.current; history = before.history.items; backups = map entry_of new })
listed_with before m listed files labels found refs new e listed_is files_are found_is referred each order made pushed = record {
  references = refs;
  are = subst (λ (es : List rust_entry.Entry). AreReferences (map entry_of es) m.files refs) listed_is (record {
    each = λ l. (
      λ k. (let r = (each l).0 k in (r.0, subst (λ (fs : List FileEntry). RefersTo fs l) files_are ((referred l).0 (subst (λ (ls : List Label). In l ls) found_is r.1)))),
      λ p. (each l).1 (p.0, subst (λ (ls : List Label). In l ls) (sym found_is) ((referred l).1 (subst (λ (fs : List FileEntry). RefersTo fs l) (sym files_are) p.1))),
    );
    order = order;
  });
  is = ap (λ (es : List Entry). (let v : BackupInfo = record { current = before.current; history = before.history.items; backups = es } in v))
      (ap (map entry_of) pushed ∙ map-append entry_of before.backups.items (e ∷ []) ∙ ap (λ (x : Entry). map entry_of before.backups.items ++ x ∷ []) made);
}
