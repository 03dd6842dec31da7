-- What the parts of a record keep, so that it is within the rules of its texts. Own.
use Rattle.std.specs.Prelude.{◌≡◌, ◌<◌, ◌≤◌, ◌-◌, ◌^◌, ℕ, true, List, length, Some, [], IfSome}
use Rattle.sha1.specs.Sha1.{sha1}
use Rattle.base_text.specs.declared.sum.Sum.{Sum}
use Rattle.base_text.specs.Sum.{IsSum}
use Rattle.base_devices.specs.Order.{is_before}
use Rattle.base_model.specs.declared.labels.Label.{Label}
use Rattle.base_model.specs.Text.{Text, In}
use Rattle.base_devices.specs.States.{last_second}
use Rattle.base_model.specs.Names.{label_text}
use Rattle.base_model.specs.InfoFiles.{IsLabel, label_kind}
use Rattle.base_model.specs.ManifestText.{IsFileEntry, IsWalPart, HasItsPrior}
use Rattle.base_model.specs.Values.{BackupInfo, FileEntry}
use Rattle.worker_protocol.specs.declared.sinks.ItemEnd.TheVariants.{Whole}
use Rattle.backup_sink.specs.declared.keeper.EndedItem.{EndedItem}
use Rattle.backup_plan.specs.declared.values.Choice.{Choice}
use Rattle.backup_plan.specs.Listed.{Taken}
use Rattle.backup_plan.specs.Layout.{Layout, bundles}
use Rattle.backup_plan.specs.Spots.{HasItem, HaveItems}
use Rattle.backup_record.specs.declared.manifest_record.Head.{Head}
use Rattle.backup_record.specs.Ends.{end_at, bytes_before}
use Rattle.backup_record.specs.Entries.{BackupRun, entry_for}
use Rattle.backup_record.specs.Making.{labels_of}

-- what is known of the numbers and sums that were received, and of the prior backup's files
pub record HasBounds (w : BackupRun) (l : Layout) (old_folders : List Text) : Type 0 where
  pub came : (job item : ℕ) (end : EndedItem) (n : ℕ) (sum : Sum) → end_at w.ends job item ≡ Some end
      → end.how ≡ Whole n sum → (n < 2 ^ 64) × IsSum sum.0 × (n ≡ 0 → sum.0 ≡ sha1 [])
  pub before : (job item : ℕ) → bytes_before w.ends job item < 2 ^ 64
  pub few : length (bundles l) < 2 ^ 32 - 1
  pub prior : IsLabel w.prior
  pub old : (e : FileEntry) → In e w.old → IsFileEntry old_folders e

-- The files were laid out so, and the result of them keeps these bounds: none is longer than it was listed.
pub record KeepsBounds (w : BackupRun) (fs : List Taken) (cs : List Choice) : Type 0 where
  pub layout : Layout
  pub have : HaveItems w.old layout fs cs
  pub old_folders : List Text
  pub bounds : HasBounds w layout old_folders
  pub within : (f : Taken) (c : Choice) (e : FileEntry) → HasItem w.old layout f c → entry_for w f c ≡ Some e
      → e.size ≤ f.size

-- What the manifest states besides its files and folders is within the rules, and its backup may be listed after those
-- of the list.
pub record MayFollow (h : Head) (before : BackupInfo) : Type 0 where
  pub label : IsLabel h.label
  pub later : (l : Label) → In l (labels_of before.backups) → is_before (label_text l) (label_text h.label) ≡ true
  pub prior : HasItsPrior (label_kind h.label) h.prior
  pub listed : IfSome h.prior (λ l. In l (labels_of before.backups))
  pub start : h.start ≤ last_second
  pub stop : h.stop ≤ last_second
  pub cluster : In h.cluster before.history
  pub wal : IfSome h.wal IsWalPart
