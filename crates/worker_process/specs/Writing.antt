-- What was written, where that is known (own).
use Rattle.std.specs.Prelude.{◌≡◌, ◌⊎◌, ℕ, List, ◌++◌, take, Option, option_map, Result, MatchResult}
use Rattle.std.specs.List.{flat_map}
use Rattle.base_model.specs.Text.{Text}
use Rattle.worker_process.specs.declared.serve_fault.ServeFault.{ServeFault}
use Rattle.worker_process.specs.declared.serve_fault.ServeFault.TheVariants.{OutputStream, NoMemory}
use Rattle.worker_protocol.specs.Frames.{Frame, spell}

-- these bytes were written
abbrev pub IsWritten : Option Text → Text → Option Text → Type 0
IsWritten old bytes new = new ≡ option_map (λ (text : Text). text ++ bytes) old

-- some first part of the bytes was written
pub record IsPrefixWritten (old : Option Text) (bytes : Text) (new : Option Text) : Type 0 where
  pub count : ℕ
  pub is : IsWritten old (take count bytes) new

-- At `Ok` the bytes were written. At an `Err` a first part of them was.
abbrev pub Adds : {T : Type 0} → Result T ServeFault → Text → Option Text → Option Text → Type 0
Adds result bytes old new = MatchResult result (λ _. IsWritten old bytes new) (λ _. IsPrefixWritten old bytes new)

-- the same for frames
abbrev pub Writes : {T : Type 0} → Result T ServeFault → List Frame → Option Text → Option Text → Type 0
Writes result frames old new = Adds result (flat_map spell frames) old new

-- all that writing fails for
abbrev pub IsOutputFault : ServeFault → Type 0
IsOutputFault e = (e ≡ OutputStream) ⊎ (e ≡ NoMemory)
