-- A session that is refused is ended, and keeps its cause.
use Rattle.std.proofs.Common.{◌≡◌, ◌≢◌, ◌⊎◌, ◌++◌, ℕ, List, Option, option_map, ap, inl, inr, refl, sym, subst, ⊎_elim}
use Rattle.server_talk.specs.declared.session.fault.ServerFault.{ServerFault}
use Rattle.server_talk.specs.declared.session.fault.ServerFault.TheVariants as faults
use Rattle.server_talk.specs.Reads.{IsOutside}
use Rattle.server_talk.specs.Rows.{Stop}
use Rattle.server_talk.specs.Sends.{closing, Ended}
use Rattle.server_talk.proofs.Ends.{ended_or}
use Rattle.server_talk.specs.declared.backups.begun.Begun.{Begun}
use Rattle.server_talk.specs.declared.backups.fault.OnlineFault.{OnlineFault}
use Rattle.server_talk.specs.declared.backups.fault.OnlineFault.TheVariants.{Server, TablespaceMap, SpanWrong}
use Rattle.server_talk.specs.Causes.{Closes, StartCause, StopCause, Misses}
use Rattle.server_talk.specs.Telling.{ShowsStop}

-- a fault keeps its cause, unless memory ran out as the session was ended
pub part_start : (kept : ℕ) (pending : Option (List ℕ)) (rose : Type 0) (fault result : OnlineFault) →
    (result ≡ fault) ⊎ (result ≡ Server faults.NoMemory) → StartCause kept pending rose fault →
    StartCause kept pending rose result
part_start kept pending rose fault result (inl same) cause = subst (StartCause kept pending rose) (sym same) cause
part_start kept pending rose fault result (inr none) cause = subst (StartCause kept pending rose) (sym none) tt

pub part_stop : (b : Begun) (old new : Option (List ℕ)) (rose : Type 0) (fault result : OnlineFault) →
    (result ≡ fault) ⊎ (result ≡ Server faults.NoMemory) → StopCause b old new rose fault →
    StopCause b old new rose result
part_stop b old new rose fault result (inl same) cause = subst (StopCause b old new rose) (sym same) cause
part_stop b old new rose fault result (inr none) cause = subst (StopCause b old new rose) (sym none) tt

-- a stop that was reported and isn't this backup's
pub misses_stop : (b : Begun) (old new : Option (List ℕ)) (rose : Type 0) (stop : Stop) (fault : OnlineFault) →
    ShowsStop b old new stop → Misses b.size.0 b.segment stop fault → StopCause b old new rose fault
misses_stop b old new rose stop (Server fault) known misses = absurd misses
misses_stop b old new rose stop TablespaceMap known misses = (stop, known, misses)
misses_stop b old new rose stop (SpanWrong start last) known misses = (stop, known, misses)

-- ---- a session that was never granted

outside_of : (e : ServerFault) → (e ≡ faults.NoMemory) ⊎ ((e ≡ faults.ServerConnection) ⊎ (¬ IsOutside e))
outside_of faults.NoMemory = inl refl
outside_of faults.ServerConnection = inr (inl refl)
outside_of (faults.ServerSaid code text) = inr (inr (λ x. x))
outside_of (faults.AuthUnsupported code) = inr (inr (λ x. x))
outside_of (faults.ServerForm at) = inr (inr (λ x. x))
outside_of (faults.ServerEnded at) = inr (inr (λ x. x))
outside_of (faults.SystemMismatch kept found) = inr (inr (λ x. x))
outside_of (faults.TooLong n) = inr (inr (λ x. x))
outside_of (faults.TooMany n) = inr (inr (λ x. x))

pub open_closes : (prefix : List ℕ) (old new : Option (List ℕ)) (rose : Type 0) (e : ServerFault) →
    (e ≡ faults.ServerConnection → rose) →
    (¬ IsOutside e → (new ≡ option_map (λ (s : List ℕ). s ++ (prefix ++ closing)) old) ⊎ rose) →
    Closes rose new (Server e)
open_closes prefix old new rose e connection parted = λ other. ⊎_elim (λ (h : e ≡ faults.NoMemory). absurd (other (ap Server h)))
    (λ (k : (e ≡ faults.ServerConnection) ⊎ (¬ IsOutside e)). ⊎_elim (λ (h : e ≡ faults.ServerConnection). inr (connection h))
    (λ (h : ¬ IsOutside e). ended_or prefix old new rose (parted h)) k) (outside_of e)
