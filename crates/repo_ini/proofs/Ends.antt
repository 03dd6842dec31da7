-- What the reader's answer is.
use Rattle.std.proofs.Common.{◌≡◌, ℕ, List, Result, Ok, Err, IfOk, IfErr, Vec, Global}
use Rattle.repo_ini.specs.declared.fault.IniFault.{IniFault}
use Rattle.repo_ini.specs.declared.fault.IniFault.TheVariants as faults
use Rattle.repo_ini.specs.declared.state.State as held
use Rattle.repo_ini.specs.declared.state.State.TheVariants as code
use Rattle.repo_ini.specs.declared.part.Part.{Part}
use Rattle.base_model.specs.InfoText.{Section, IsInfo, info_text}
use Rattle.repo_ini.specs.Parts.{sections_of}
use Rattle.repo_ini.specs.Form.{syntax, sum}
use Rattle.repo_ini.specs.Reading.{read_text}
use Rattle.repo_ini.specs.Answers.{Gives, IsFaultOf}
use Rattle.repo_ini.specs.States.{state_of, EndsWhole}
use Rattle.repo_ini.proofs.Rules.{no_floats}
use Rattle.repo_ini.proofs.Steps.{Sound}
use Rattle.repo_ini.proofs.Laws.{read_text-found}
use Rattle.repo_ini.proofs.Faults.{read_text-fault}

pub ends_whole : (s : held.State) → Sound (state_of s) → EndsWhole s
ends_whole code.Start h = tt
ends_whole code.Format h = tt
ends_whole code.Gap h = tt
ends_whole (code.Between parts) h = tt
ends_whole (code.Within parts part) h = tt
ends_whole (code.Check parts) h = tt
ends_whole (code.Closing parts known) h = tt
ends_whole (code.Over parts known) h = no_floats parts.items h.0

abbrev seen : Vec Part Global → List Section
seen v = sections_of v.items

pub found_of : (bytes : List ℕ) (r : Result (Vec Part Global) IniFault) → Gives seen r (read_text bytes) → IfOk r (λ v. IsInfo (sections_of v.items) × (bytes ≡ info_text (sections_of v.items)))
found_of bytes (Ok v) g = read_text-found bytes (seen v) g
found_of bytes (Err e) g = tt

fault_is : (bytes : List ℕ) (e : IniFault) → Gives seen (Err e) (read_text bytes) → IsFaultOf bytes e
fault_is bytes faults.NoMemory g = tt
fault_is bytes (faults.Syntax line) g = read_text-fault bytes (syntax line) g
fault_is bytes (faults.Sum known found) g = read_text-fault bytes (sum known.0 found.0) g

pub fault_of : (bytes : List ℕ) (r : Result (Vec Part Global) IniFault) → Gives seen r (read_text bytes) → IfErr r (IsFaultOf bytes)
fault_of bytes (Ok v) g = tt
fault_of bytes (Err e) g = fault_is bytes e g
