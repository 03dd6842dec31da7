use Rattle.std.proofs.Common.{List, sym, ◌∙◌, ap, arith}
use Rattle.std.specs.Prelude.{fold}
use Rattle.std.proofs.lemmas.List.{take_all}
use Rattle.memory_devices.specs.declared.change.Change.{Change}
use Rattle.memory_devices.specs.State.{first_state}
use Rattle.memory_devices.specs.Replay.{states_of, step_at}
use Rattle.memory_devices.proofs.Replayed.{followed}
use Rattle.memory_devices.proofs.replay.traces_after.Goals as goal

pub returns : goal.returns
returns c =
    let first = first_state c.args.given.now in
    c.loop-change.invariant
    ∙ ap (λ (cs : List Change). fold step_at (states_of first) cs) (take_all c.loop-change.change-index c.args.changes.now (omega arith))
    ∙ sym (followed c.args.changes.now first)
