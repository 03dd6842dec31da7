use Rattle.std.proofs.Common.{rules, ◌≡◌, ◌⊎◌, None, ap, map, string_bytes}
use Rattle.std.specs.Prelude.{IsTrue}
use Rattle.base_devices.specs.Content.{Holds, LiesDirectlyIn}
use Rattle.base_devices.specs.Moments.{is_unsynced}
use Rattle.memory_devices.specs.Counts.{is_to_fail}
use Rattle.memory_devices.specs.State.{begun, appended, after_sync, renamed, removed, settled, all_synced, takes_in}
use Rattle.memory_devices.specs.declared.change.Sweep.TheVariants.{SyncFolders, SyncFolder, Sync}
use Rattle.memory_devices.specs.Held.{view_of}
use Rattle.memory_devices.proofs.Shows.{unsyncing, changing, begun_goes, appended_goes, synced_goes, renamed_goes, removed_goes, settled_goes, all_synced_goes, synced_synced, all_synced_synced, settled_settles}
use Rattle.memory_devices.proofs.Slashes.{directly_in}
use Rattle.std.proofs.lemmas.Result.{on_ok_weaker}
use Rattle.memory_devices.proofs.disk.MemDiskDisk.TheImpl.Goals as goal

pub begin-tells : goal.begin-tells
begin-tells c =
    let old = c.args.self.now.held in
    let new = c.new.self.now.held in
    let name = c.args.name.now in
    record {
      now = search rules;
      cause = c.ensures.cause;
      works = record {
        time = unsyncing old new (λ _ _. ⊥) name (is_to_fail c.args.self.now.failing) (begun name) c.result (begun_goes old new name) c.ensures.ok c.ensures.failed c.ensures.memory;
        opened = ap (map string_bytes) c.ensures.opened;
        proper = search rules;
        later = c.ensures.cause.later;
      };
    }

pub append-tells : goal.append-tells
append-tells c =
    let old = c.args.self.now.held in
    let new = c.new.self.now.held in
    let name = c.args.name.now in
    let bytes = c.args.bytes.now in
    record {
      now = search rules;
      time = unsyncing old new (λ _ _. ⊥) name (is_to_fail c.args.self.now.failing) (appended name bytes) c.result (appended_goes old new name bytes) c.ensures.ok c.ensures.failed c.ensures.memory;
      there = search rules;
      proper = search rules;
      opened = ap (map string_bytes) c.ensures.opened;
      cause = c.ensures.cause;
    }

pub sync-tells : goal.sync-tells
sync-tells c =
    let old = c.args.self.now.held in
    let new = c.new.self.now.held in
    let name = c.args.name.now in
    record {
      now = search rules;
      time = unsyncing old new (λ n v. (n ≡ name) × Holds (view_of old).now n v) name (is_to_fail c.args.self.now.failing) (after_sync name) c.result (synced_goes old new name) c.ensures.ok c.ensures.failed c.ensures.memory;
      synced = on_ok_weaker c.result (synced_synced old new name) c.ensures.ok;
      there = search rules;
      proper = search rules;
      opened = ap (map string_bytes) c.ensures.opened;
      cause = c.ensures.cause;
    }

pub rename-tells : goal.rename-tells
rename-tells c =
    let old = c.args.self.now.held in
    let new = c.new.self.now.held in
    let from = c.args.from.now in
    let to = c.args.to.now in
    record {
      now = search rules;
      time = changing old new (λ n v. ((n ≡ to) × Holds (view_of old).now from v) ⊎ ((n ≡ from) × (v ≡ None))) (λ n. (n ≡ to) × IsTrue (is_unsynced (view_of old) from)) (renamed from to) c.result
          (renamed_goes old new from to) c.ensures.ok c.ensures.err;
      there = search rules;
      proper = search rules;
      opened = ap (map string_bytes) c.ensures.opened;
      cause = c.ensures.cause;
    }

pub remove-tells : goal.remove-tells
remove-tells c =
    let old = c.args.self.now.held in
    let new = c.new.self.now.held in
    let name = c.args.name.now in
    record {
      now = search rules;
      cause = c.ensures.cause;
      works = record {
        time = changing old new (λ n v. (n ≡ name) × (v ≡ None)) (λ _. ⊥) (removed name) c.result (removed_goes old new name) c.ensures.ok c.ensures.err;
        opened = ap (map string_bytes) c.ensures.opened;
        proper = search rules;
        later = c.ensures.cause.later;
      };
    }

pub sync_below-tells : goal.sync_below-tells
sync_below-tells c =
    let old = c.args.self.now.held in
    let new = c.new.self.now.held in
    let these = takes_in Sync c.args.folder.now in
    record {
      now = search rules;
      synced = on_ok_weaker c.result (all_synced_synced old new these) c.ensures.ok;
      cause = c.ensures.cause;
      works = record {
        time = changing old new (λ n v. IsTrue (these n) × Holds (view_of old).now n v) (λ n. IsTrue (these n)) (all_synced these) c.result (all_synced_goes old new these) c.ensures.ok c.ensures.err;
        opened = ap (map string_bytes) c.ensures.opened;
        proper = search rules;
        later = c.ensures.cause.later;
      };
    }

pub sync_directories-tells : goal.sync_directories-tells
sync_directories-tells c =
    let old = c.args.self.now.held in
    let new = c.new.self.now.held in
    let these = takes_in SyncFolders c.args.folder.now in
    record {
      settled = on_ok_weaker c.result (settled_settles old new these) c.ensures.ok;
      cause = c.ensures.cause;
      looks = record {
        now = search rules;
        time = changing old new (λ _ _. ⊥) (λ _. ⊥) (settled these) c.result (settled_goes old new these) c.ensures.ok c.ensures.err;
        opened = ap (map string_bytes) c.ensures.opened;
        proper = search rules;
        later = c.ensures.cause.later;
      };
    }

pub sync_directory-tells : goal.sync_directory-tells
sync_directory-tells c =
    let old = c.args.self.now.held in
    let new = c.new.self.now.held in
    let these = takes_in SyncFolder c.args.folder.now in
    record {
      settled = on_ok_weaker c.result (λ notes n v (lies : LiesDirectlyIn c.args.folder.now n). settled_settles old new these notes n v (directly_in c.args.folder.now n lies)) c.ensures.ok;
      cause = c.ensures.cause;
      looks = record {
        now = search rules;
        time = changing old new (λ _ _. ⊥) (λ _. ⊥) (settled these) c.result (settled_goes old new these) c.ensures.ok c.ensures.err;
        opened = ap (map string_bytes) c.ensures.opened;
        proper = search rules;
        later = c.ensures.cause.later;
      };
    }
