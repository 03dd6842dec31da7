-- Where a cluster's life stopped: what was done by then is a part of a rehearsal.
use Rattle.std.proofs.Common.{ℕ, Err}
use Rattle.base_devices.specs.Moments.{View}
use Rattle.base_model.specs.Repository.{Backup}
use Rattle.base_model.specs.Steps.{Expire}
use Rattle.base_model.specs.Text.{Text}
use Rattle.cmd_types.specs.declared.stages.halt.Halt.{Halt}
use Rattle.cmd_rehearse.specs.declared.fault.StepFault.{StepFault}
use Rattle.cmd_rehearse.specs.Advancing.{Advances, Carries}
use Rattle.cmd_rehearse.specs.Commands.{backed_up, prepared, with_first, with_second, with_third, rehearsed, keeps_one}
use Rattle.cmd_rehearse.proofs.Advanced.{first_ends, first_stops}

module _ {T U : Type 0} (stanza : Text) (n : ℕ) (b c d : Backup) (e f : Halt StepFault) (a m : View) where
  pub in_third : Advances {T = T} stanza (with_third n b c d) (Err e) a m → Carries {T = U} stanza (rehearsed n keeps_one b c d) (Err f) a m
  in_third h = first_ends stanza (with_third n b c d) (Expire keeps_one) e f a m h

  pub in_second : Advances {T = T} stanza (with_second n b c) (Err e) a m → Carries {T = U} stanza (rehearsed n keeps_one b c d) (Err f) a m
  in_second h = in_third (first_stops stanza (with_second n b c) (backed_up d) a m e e h)

  pub in_first : Advances {T = T} stanza (with_first n b) (Err e) a m → Carries {T = U} stanza (rehearsed n keeps_one b c d) (Err f) a m
  in_first h = in_second (first_stops stanza (with_first n b) (backed_up c) a m e e h)

  pub in_preparation : Advances {T = T} stanza (prepared n) (Err e) a m → Carries {T = U} stanza (rehearsed n keeps_one b c d) (Err f) a m
  in_preparation h = in_first (first_stops stanza (prepared n) (backed_up b) a m e e h)
