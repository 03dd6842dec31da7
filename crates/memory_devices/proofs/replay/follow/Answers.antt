use Rattle.std.proofs.Common.{List, ℕ, ap, ◌∙◌, string_bytes}
use Rattle.base_devices.specs.Content.{Name}
use Rattle.memory_devices.specs.declared.change.Change.TheVariants.{Appended, Unsynced, Synced, Renamed}
use Rattle.memory_devices.specs.Replay.{states_in, changed_at, appended_at, unsynced_at, synced_at, renamed_at}
use Rattle.memory_devices.proofs.Replayed.{known}
use Rattle.memory_devices.proofs.replay.follow.Goals as goal

pub returns-in-Appended : goal.returns-in-Appended
returns-in-Appended c = known c.append.result (states_in c.args.traces.now) (states_in c.append.new.traces) c.args.change.now (Appended c.in-Appended.name c.in-Appended.bytes) (changed_at c.deref-in-Appended.result.now (appended_at c.deref-in-Appended-2.result.now) (states_in c.args.traces.now)) c.in-Appended.is c.append.ensures
    (ap (λ (n : Name). changed_at n (appended_at c.deref-in-Appended-2.result.now) (states_in c.args.traces.now)) c.deref-in-Appended.ensures ∙ ap (λ (b : List ℕ). changed_at (string_bytes c.in-Appended.name) (appended_at b) (states_in c.args.traces.now)) c.deref-in-Appended-2.ensures.value)

pub returns-in-Unsynced : goal.returns-in-Unsynced
returns-in-Unsynced c = known c.unsync.result (states_in c.args.traces.now) (states_in c.unsync.new.traces) c.args.change.now (Unsynced c.in-Unsynced.name) (changed_at c.deref-in-Unsynced.result.now unsynced_at (states_in c.args.traces.now)) c.in-Unsynced.is c.unsync.ensures
    (ap (λ (n : Name). changed_at n unsynced_at (states_in c.args.traces.now)) c.deref-in-Unsynced.ensures)

pub returns-in-Synced : goal.returns-in-Synced
returns-in-Synced c = known c.sync.result (states_in c.args.traces.now) (states_in c.sync.new.traces) c.args.change.now (Synced c.in-Synced.name) (changed_at c.deref-in-Synced.result.now synced_at (states_in c.args.traces.now)) c.in-Synced.is c.sync.ensures
    (ap (λ (n : Name). changed_at n synced_at (states_in c.args.traces.now)) c.deref-in-Synced.ensures)

pub returns-in-Renamed : goal.returns-in-Renamed
returns-in-Renamed c = known c.rename.result (states_in c.args.traces.now) (states_in c.rename.new.traces) c.args.change.now (Renamed c.in-Renamed.from c.in-Renamed.to) (renamed_at c.deref-in-Renamed.result.now c.deref-in-Renamed-2.result.now (states_in c.args.traces.now)) c.in-Renamed.is c.rename.ensures
    (ap (λ (n : Name). renamed_at n c.deref-in-Renamed-2.result.now (states_in c.args.traces.now)) c.deref-in-Renamed.ensures ∙ ap (λ (n : Name). renamed_at (string_bytes c.in-Renamed.from) n (states_in c.args.traces.now)) c.deref-in-Renamed-2.ensures)
