-- Of any talk: its fault is one of the reading, and its end is the last that is sent.
use Rattle.std.proofs.Common.{◌≡◌, ◌⊎◌, ◌++◌, ℕ, List, Option, Some, None, option_map, Result, Err, inl, inr, refl, sym, subst}
use Rattle.std.specs.Prelude.{string_bytes}
use Rattle.std.proofs.lemmas.List.{append_assoc}
use Rattle.server_talk.specs.declared.session.fault.ServerFault.{ServerFault}
use Rattle.server_talk.specs.declared.session.fault.ServerFault.TheVariants as faults
use Rattle.server_talk.specs.Fault.{Fault, ended, form, too_long, too_many, said, auth, mismatch}
use Rattle.server_talk.specs.Reads.{Fails, IsOutside}
use Rattle.server_talk.specs.Sends.{closing, Ended}

-- a fault of the server's is one of the reading
pub known_fault : (Z : Type 0) {Y : Type 0} (e : ServerFault) (read : Result Y Fault) → ¬ IsOutside e → Fails e read →
    (f : Fault) × (read ≡ Err f) × Fails {Y = Z} e (Err f)
known_fault Z faults.NoMemory read inside h = absurd (inside tt)
known_fault Z faults.ServerConnection read inside h = absurd (inside tt)
known_fault Z (faults.ServerSaid code text) read inside h = (said (string_bytes code) (string_bytes text), h, refl)
known_fault Z (faults.AuthUnsupported code) read inside h = (auth code, h, refl)
known_fault Z (faults.ServerForm at) read inside h = (form at, h, refl)
known_fault Z (faults.ServerEnded at) read inside h = (ended at, h, refl)
known_fault Z (faults.SystemMismatch kept found) read inside h = (mismatch kept found, h, refl)
known_fault Z (faults.TooLong n) read inside h = (too_long n, h, refl)
known_fault Z (faults.TooMany n) read inside h = (too_many n, h, refl)

ended_after : (prefix : List ℕ) (old new : Option (List ℕ)) →
    new ≡ option_map (λ (s : List ℕ). s ++ (prefix ++ closing)) old → Ended new
ended_after prefix None new is = subst Ended (sym is) tt
ended_after prefix (Some s) new is = subst Ended (sym is) (s ++ prefix, sym (append_assoc s prefix closing))

-- a talk to which this was sent ended, unless the connection failed
pub ended_or : (prefix : List ℕ) (old new : Option (List ℕ)) (rose : Type 0) →
    (new ≡ option_map (λ (s : List ℕ). s ++ (prefix ++ closing)) old) ⊎ rose → Ended new ⊎ rose
ended_or prefix old new rose (inl is) = inl (ended_after prefix old new is)
ended_or prefix old new rose (inr r) = inr r
