-- What giving a worker its roots leaves. Own.
use Rattle.std.specs.Prelude.{ℕ, ◌≡◌, ◌⊎◌, List, [], ◌∷◌, ◌++◌}
use Rattle.base_devices.specs.Links.{LinkState, Sends, Fails}
use Rattle.base_model.specs.Text.{Text}
use Rattle.worker_protocol.specs.Frames.{Roots, FitsRoots, spell}
use Rattle.worker_protocol.specs.Frames.Frame.{Setup}
use Rattle.worker_protocol.specs.declared.replies.cause.LostCause.TheVariants.{Device}
use Rattle.worker_pool.specs.declared.dispatch.fault.DispatchFault.{DispatchFault}
use Rattle.worker_pool.specs.declared.dispatch.fault.DispatchFault.TheVariants as faults
use Rattle.worker_pool.specs.Run.{AllLost, begun}
use Rattle.worker_pool.specs.declared.dispatch.fault.Lost.{Lost as Entry}

-- the link is at the end of the others, or the call on it failed and it is reported
abbrev pub Kept : Text → ℕ → LinkState → List LinkState → List LinkState → List Entry → List Entry → Type 0
Kept frame place link old new before after =
    ((now : LinkState) × Sends link now frame × (new ≡ old ++ now ∷ []) × (after ≡ before))
    ⊎ ((last : LinkState) × Fails link last × (new ≡ old)
    × (after ≡ before ++ (record { place = place; cause = Device }) ∷ []))

-- the frame states two roots
abbrev pub IsSetup : Text → Type 0
IsSetup frame = (roots : Roots) × FitsRoots roots × (frame ≡ spell (Setup roots))

-- no link is left, and each has its entry; or memory ran out
abbrev pub SetupFault : DispatchFault → List LinkState → List Entry → List Entry → Type 0
SetupFault faults.WorkersLost links before after = AllLost [] (begun links before) after
SetupFault (faults.Unread job item) links before after = ⊥
SetupFault faults.PartSink links before after = ⊥
SetupFault faults.NoMemory links before after = Unit {0}
