use Rattle.std.proofs.Common.{◌≡◌, List, String, ap, ◌∙◌}
use Rattle.std.specs.declared.alloc.Global.{Global}
use Rattle.std.proofs.lemmas.Result.{on_ok_weaker}
use Rattle.memory_devices.specs.Replay.{states_in, each_swept}
use Rattle.memory_devices.proofs.Replayed.{swept_all}
use Rattle.memory_devices.proofs.replay.sweep_folder.Goals as goal

pub returns : goal.returns
returns c = on_ok_weaker c.sweep_each.result (λ (did : states_in c.sweep_each.new.traces ≡ each_swept c.args.sweep c.deref.result.now (states_in c.args.traces.now)).
    did ∙ ap (λ (ns : List (String Global)). each_swept c.args.sweep ns (states_in c.args.traces.now)) c.deref.ensures.value
    ∙ swept_all c.args.sweep c.args.folder.now c.args.traces.now c.in_ok-names.names.items c.in_ok-names.ensures) c.sweep_each.ensures
