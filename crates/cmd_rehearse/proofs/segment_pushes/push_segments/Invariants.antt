use Rattle.std.proofs.Common.{◌≡◌, IfSome}
use Rattle.std.specs.Prelude.{IsSome}
use Rattle.base_devices.specs.States.{CallsProperly}
use Rattle.base_model.specs.declared.clusters.ClusterId.{ClusterId}
use Rattle.base_crash_lists.specs.Beside.{StaysBeside}
use Rattle.cmd_types.specs.Current.{HasCurrent, id_kept}
use Rattle.cmd_rehearse.specs.Commands.{pushed}
use Rattle.cmd_rehearse.proofs.Pushes.{Advanced}
use Rattle.cmd_rehearse.proofs.segment_pushes.push_segments.Given as goal

abbrev pub invariant-loop-before : goal.invariant-loop-before
invariant-loop-before g l =
    let was = g.D.Disk.state l.fn.repo in
    let now = g.D.Disk.state l.repo in
    record {
      advanced : (c : ClusterId) → l.id ≡ id_kept c → IfSome was.view.now (λ f. HasCurrent l.stanza f c) → Advanced l.stanza (pushed l.before) was.view now.view;
      current : (c : ClusterId) → IfSome was.view.now (λ f. HasCurrent l.stanza f c) → IsSome was.view.now → IfSome now.view.now (λ f. HasCurrent l.stanza f c);
      known : IsSome was.view.now → IsSome now.view.now;
      beside : StaysBeside l.stanza was.view now.view;
      frame : CallsProperly was now;
    }
