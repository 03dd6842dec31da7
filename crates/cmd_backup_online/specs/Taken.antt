-- What a backup of any kind of a running server is (pgBackRest user guide, "Backup"; command reference, "Backup").
use Rattle.std.specs.Prelude.{◌≡◌, ◌⊎◌, ℕ, Bool, true, List, map, Option, Some, None, IfSome, IsSome}
use Rattle.std.specs.FinMap.{get, keys}
use Rattle.base_devices.specs.Content.{Content}
use Rattle.base_devices.specs.Links.{LinkState}
use Rattle.base_devices.specs.DataFolder.{Nodes, IsTreeListing}
use Rattle.base_devices.specs.States.{ClockState}
use Rattle.base_model.specs.declared.clusters.Cluster.{Cluster}
use Rattle.base_model.specs.ManifestText.{IsManifestText}
use Rattle.base_model.specs.Names.{backup_info, manifest_name}
use Rattle.base_model.specs.Now.{NowRepresents}
use Rattle.base_model.specs.Pair.{PairIs}
use Rattle.base_model.specs.Repository.{Backup, Stanza, IsSound, IsSoundStanza, id_of}
use Rattle.base_model.specs.Steps.{Turn, MakeBackup, after, all_of, steps_of}
use Rattle.base_model.specs.Text.{Text, In}
use Rattle.base_model.specs.Values.{BackupInfo, FileEntry, Manifest}
use Rattle.backup_plan.specs.Filter.{ListedNode, kept, files_of, folders_of}
use Rattle.backup_plan.specs.Layout.{layout}
use Rattle.backup_plan.specs.Listed.{Taken}
use Rattle.backup_record.specs.Making.{labels_of, backup_with}
use Rattle.backup_make.specs.Kept.{IsKeptUnlessAbsent}
use Rattle.backup_make.specs.Online.{Online, label_path, label_entry}
use Rattle.repo_stanza.specs.declared.control.Control.{Control}
use Rattle.repo_stanza.specs.Pairs.{AgreeAt}
use Rattle.cmd_backup_common.specs.Priors.{made_label}
use Rattle.cmd_backup_common.specs.Seconds.{AreBefore, ShowsTimes}
use Rattle.backup_lemmas.specs.Backups.{IsReadOrLeftBeside, Archives}
use Rattle.archive_lookup.specs.Turns.{Turned, Account}
use Rattle.archive_wait.specs.TurnsDone.{turns_of}
use Rattle.cmd_backup_offline.specs.declared.order.OfflineOrder.{OfflineOrder}
use Rattle.cmd_backup_offline.specs.Basing.{base_in, base_label, old_files, ReadsBase}
use Rattle.cmd_backup_offline.specs.Bundling.{IsLaidBy}
use Rattle.cmd_backup_offline.specs.Equal.{AreMarked, IsEntryBy}
use Rattle.cmd_backup_offline.specs.Making.{RefersTo}
use Rattle.cmd_backup_offline.specs.Taken.{HasRoom}
use Rattle.cmd_backup_offline.specs.Texts.{offline_lines}
use Rattle.cmd_backup_online.specs.Doing.{Received, TakesTurns}
use Rattle.cmd_backup_online.specs.Modelled.{ShowsOnline}

-- The repository has the backup after what these steps of others pushed, and is sound with both where it was; and each
-- segment of the backup's part of the log is archived in it.
pub record AddsOnline (stanza : Text) (turns : List Turn) (b : Backup) (o : Online) (cluster : Cluster)
    (old new : Option Content) : Type 0 where
  pub adds : (s : Stanza) → IsSome old → NowRepresents stanza (Some s) old
      → NowRepresents stanza (after (Some s) (all_of (steps_of (MakeBackup turns b None) (Some s)))) new
  pub sound : (s : Stanza) → IsSome old → NowRepresents stanza (Some s) old → IsSoundStanza s
      → IsSound (after (Some s) (all_of (steps_of (MakeBackup turns b None) (Some s))))
  pub archived : (s : Stanza) → IsSome old → NowRepresents stanza (Some s) old → (t : Stanza)
      → after (Some s) (all_of (steps_of (MakeBackup turns b None) (Some s))) ≡ Some t
      → Archives (id_of cluster) o.part t

-- The disk has the backup's manifest. An entry is that of the label file, or of a listed file. Of these, those of files
-- that are the prior backup's refer to others, and no others do. Files that are stored together by the order lie in
-- one bundle. It is of the whole folder: each file and each folder of the listing that a backup takes is in it, except
-- for files that were absent when they were to be read. The backup has the same files.
pub record HasOnlineEntries (stanza : Text) (o : OfflineOrder) (seen : List ListedNode) (list : BackupInfo)
    (links : List LinkState) (online : Online) (old new : Option Content) (b : Backup) : Type 0 where
  pub base : Option Manifest
  pub reads : ReadsBase stanza old (base_label o.kind list) base
  pub manifest : Manifest
  pub held : IsSome old → IfSome new (λ f. PairIs IsManifestText f (manifest_name stanza b.entry.label) manifest)
  pub each : (e : FileEntry) → In e manifest.files
      → (e ≡ label_entry online.label_file b.entry.stop)
      ⊎ IsEntryBy links o.settings.delta (old_files base) (files_of (kept true seen)) e
  -- of which files links reported the digest of the prior backup's
  pub equal : List Bool
  pub marked : o.settings.delta ≡ true → AreMarked links (old_files base) (files_of (kept true seen)) equal
  -- each of a listed file lies as the order's settings lay the files out
  pub laid : (e : FileEntry) → In e manifest.files
      → (e ≡ label_entry online.label_file b.entry.stop)
      ⊎ IsLaidBy (layout o.settings (old_files base) (files_of (kept true seen)) equal).choices
      (files_of (kept true seen)) e
  pub all : (f : Taken) → In f (files_of (kept true seen)) → IsKeptUnlessAbsent links manifest.files f
  pub folders : manifest.folders ≡ folders_of (kept true seen)
  pub paths : map (λ (e : FileEntry). e.path) manifest.files ≡ keys b.files
  -- what is listed of the backup, besides the backups that it refers to, is what the manifest states, as its part of the
  -- log, or follows from that, as its sizes
  pub states : b ≡ backup_with manifest b.entry.references b.files

-- Ok of a running server's backup, with its lines, between these two states of the clock: it is based on the backup of
-- the list that its kind asks for, and is a full one without one. It is made of what the links read, of what that backup
-- has, and of what the server reported.
pub record IsBackedUpOnline (stanza : Text) (known : Control) (o : OfflineOrder) (nodes : Option Nodes) (received_reply :
    Received)
    (used : List LinkState) (turned : List Turned) (old new : Option Content) (clock new_clock : ClockState)
    (lines : Text) : Type 0 where
  pub list : BackupInfo
  pub seen : List ListedNode
  pub listing : IfSome nodes (λ f. IsTreeListing f seen)
  pub room : IfSome old (HasRoom stanza known list)
  pub backup : Backup
  pub second : ℕ
  pub later : AreBefore (labels_of list.backups) second
  pub label : backup.entry.label ≡ made_label o.kind (base_in o.kind list) second
  -- it began in the second of its label; the clock showed that second, and then the one in which it stopped
  pub start : backup.entry.start ≡ second
  pub times : ShowsTimes backup.entry.start backup.entry.stop clock new_clock
  pub prior : backup.entry.prior ≡ base_label o.kind list
  pub line : lines ≡ offline_lines o.kind (base_in o.kind list) backup.entry.label
  pub choices : backup.choices ≡ record { bundle = o.settings.bundle; delta = o.settings.delta }
  -- the server reported its part of the log and its label file
  pub online : Online
  pub received_is : ShowsOnline received_reply.system received_reply.pending received_reply.left online
  pub wal : backup.wal ≡ Some online.part
  pub label_file : get backup.files label_path ≡ Some (record { bytes = online.label_file; time = backup.entry.stop })
  pub read : IsReadOrLeftBeside used (Some online.label_file) stanza old backup
  pub entries : HasOnlineEntries stanza o seen list used online old new backup
  pub refers : (s : Stanza) → IsSome old → NowRepresents stanza (Some s) old → RefersTo s backup
  pub cluster : Cluster
  pub db : backup.entry.db ≡ cluster.id
  pub adds : AddsOnline stanza (turns_of turned) backup online cluster old new
  -- both members of the backup pair are alike
  pub alike : IsSome old → IfSome new (AgreeAt (backup_info stanza))

-- it waited for the steps of others that the account has for this stanza
abbrev pub BacksUpOnline : Text → Control → OfflineOrder → Option Nodes → Received → List LinkState → Option Account
    → Option Account → Option Content → Option Content → ClockState → ClockState → Text → Type 0
BacksUpOnline stanza known o nodes received_reply used old_account account old new clock new_clock lines =
    IfSome account (λ k. k.stanza ≡ stanza
    → (turned : List Turned) × TakesTurns turned old_account k
    × IsBackedUpOnline stanza known o nodes received_reply used turned old new clock new_clock lines)
