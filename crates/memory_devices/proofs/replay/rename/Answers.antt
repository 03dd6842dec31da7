use Rattle.std.proofs.Common.{◌≡◌, ◌∙◌}
use Rattle.std.proofs.lemmas.Result.{on_ok_weaker}
use Rattle.memory_devices.specs.Replay.{states_in, changed_at, arrived_at, value_of}
use Rattle.memory_devices.proofs.Replayed.{renamed_parts}
use Rattle.memory_devices.proofs.replay.rename.Goals as goal

pub returns : goal.returns
returns c = on_ok_weaker c.arrive.result (λ (did : states_in c.arrive.new.traces ≡ changed_at c.args.to.now (arrived_at (value_of c.in_ok-value.value) c.is_unsynced-unsynced.result) (states_in c.remove_other.new.traces)).
    did ∙ renamed_parts c.args.from.now c.args.to.now (states_in c.args.traces.now) (states_in c.remove_other.new.traces) (value_of c.in_ok-value.value) c.is_unsynced-unsynced.result c.in_ok-value.ensures c.is_unsynced-unsynced.ensures c.in_ok-remove_other.ensures) c.arrive.ensures
