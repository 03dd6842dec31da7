use Rattle.std.proofs.Common.{◌≡◌, ◌∙◌, ◌++◌, Some, ap, rules}
use Rattle.worker_protocol.specs.Frames.{Roots, spell}
use Rattle.worker_protocol.specs.Frames.Frame.{Setup}
use Rattle.worker_protocol.specs.Views.{roots_of}
use Rattle.base_model.specs.Text.{Text}
use Rattle.memory_devices.specs.Replay.{value_of}
use Rattle.memory_workers.proofs.Answered.{opened}
use Rattle.memory_workers.proofs.worker.open_talk.Goals as goal

pub returns : goal.returns
returns c =
    let roots : Roots = roots_of (record { tree = c.new.result; repo = c.new-2.result }) in
    let bytes : c.extend_from_slice.new.self.items ≡ spell (Setup roots) ++ c.args.frame.now = c.in_ok-extend_from_slice.ensures.items ∙ ap (λ (t : Text). t ++ c.args.frame.now) c.in_ok-talk.ensures in
    record {
      roots = roots;
      fits = search rules;
      is = ap Some (opened (value_of c.open.new.self.file) (value_of c.new-input.result.file) c.open.new.self.at c.extend_from_slice.new.self.items c.in-Ok.ensures.start (ap value_of c.in-Ok.ensures.file) c.new-input.ensures.files ∙ bytes);
    }
