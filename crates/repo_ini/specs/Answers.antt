-- What an answer of the reader says.
use Rattle.std.specs.Prelude.{◌≡◌, ◌≢◌, ℕ, List, Vec, Result, Ok, Err}
use Rattle.std.specs.declared.alloc.Global.{Global}
use Rattle.sha1.specs.Sha1.{sha1}
use Rattle.base_text.specs.Sum.{IsSum, sum_text}
use Rattle.base_model.specs.InfoText.{Section, IsInfo, text_with, signed_text}
use Rattle.repo_ini.specs.declared.part.Part.{Part}
use Rattle.repo_ini.specs.declared.fault.IniFault.{IniFault}
use Rattle.repo_ini.specs.declared.fault.IniFault.TheVariants.{NoMemory, Syntax, Sum}
use Rattle.repo_ini.specs.Form.{Fault, syntax, sum, IsFault}
use Rattle.repo_ini.specs.Parts.{sections_of}

-- the fault is the bytes' own, unless memory ran out
abbrev pub IsFaultOf : List ℕ → IniFault → Type 0
IsFaultOf bytes NoMemory = Unit {0}
IsFaultOf bytes (Syntax line) = IsFault bytes (syntax line)
IsFaultOf bytes (Sum known found) = IsFault bytes (sum known.0 found.0)

-- the fault is this answer's, unless memory ran out
abbrev pub Fails : {Y : Type 0} → IniFault → Result Y Fault → Type 0
Fails NoMemory answer = Unit {0}
Fails (Syntax line) answer = answer ≡ Err (syntax line)
Fails (Sum known found) answer = answer ≡ Err (sum known.0 found.0)

-- the result is this answer, unless memory ran out
abbrev pub Gives : {X Y : Type 0} → (X → Y) → Result X IniFault → Result Y Fault → Type 0
Gives view (Ok x) answer = answer ≡ Ok (view x)
Gives view (Err e) answer = Fails e answer

-- the parts are the sections of this answer, unless memory ran out
abbrev pub GivesSections : Result (Vec Part Global) IniFault → Result (List Section) Fault → Type 0
GivesSections result answer = Gives (λ v. sections_of v.items) result answer

-- where the text of some sections states a sum that isn't theirs, the answer is that fault
abbrev pub WhereSumDiffers : List ℕ → (Result (List Section) Fault → Type 0) → Type 0
WhereSumDiffers bytes IsAnswer = (ss : List Section) → (known : List ℕ) → IsInfo ss → IsSum known
    → known ≢ sha1 (signed_text ss)
    → bytes ≡ text_with (sum_text known) ss
    → IsAnswer (Err (sum known (sha1 (signed_text ss))))
