-- What was written.
use Rattle.std.specs.Prelude.{◌≡◌, ◌⊎◌, ℕ, ◌++◌, take, List, map, String, string_bytes, Vec, Option, option_map, Result, IfOk, codes}
use Rattle.std.specs.declared.alloc.Global.{Global}
use Rattle.base_devices.specs.Cause.{Rises}
use Rattle.base_devices.specs.States.{OutputState}
use Rattle.base_model.specs.Text.{Text}
use Rattle.base_text.specs.declared.memory.NoMemory.{NoMemory}
use Rattle.cmd_types.specs.declared.stages.outcome.Outcome.{Outcome}
use Rattle.cmd_trait.specs.declared.fault.Fault.{Fault}
use Rattle.cmd_trait.specs.Meaning.{Meaning}
use Rattle.cmd_trait.specs.Ends.{status, ending_of, lines_of, line_of}

-- some first part of the bytes was written, where that is known
pub record IsPrefixWritten (old : Option Text) (bytes : Text) (new : Option Text) : Type 0 where
  pub count : ℕ
  pub is : new ≡ option_map (λ (text : Text). text ++ take count bytes) old

-- the line where memory runs out
abbrev pub memory_line : Text
memory_line = line_of 90 (codes "out of memory")

-- How lines with a status may end where the output is known: as they are, with their status; or the output failed after
-- a first part of them, or memory did; or there was no memory for the lines.
pub data IsPrinted (old : Option Text) (lines : Text) (code : ℕ) (new : Option Text) (rose : Type 0) : ℕ → Type 0 where
  Whole : (result : ℕ) → result ≡ code → new ≡ option_map (λ (text : Text). text ++ lines) old
      → IsPrinted old lines code new rose result
  Cut : rose → IsPrefixWritten old lines new → IsPrinted old lines code new rose 87
  Starved : (some : Text) → (some ≡ lines) ⊎ (some ≡ memory_line) → IsPrefixWritten old some new
      → IsPrinted old lines code new rose 90
  Wordless : rose → IsPrefixWritten old memory_line new → IsPrinted old lines code new rose 87

-- ---- by what is known of the output before and after

-- all of the bytes were written, where that is known
abbrev pub IsWritten : Text → OutputState → OutputState → Type 0
IsWritten bytes old new = new.written ≡ option_map (λ (text : Text). text ++ bytes) old.written

-- these lines were printed with their status
abbrev pub Prints : Text → ℕ → OutputState → OutputState → ℕ → Type 0
Prints lines code old new result = IsPrinted old.written lines code new.written (Rises old.faults new.faults) result

-- so were the lines that there are; where there was no memory for them, so were any
abbrev pub PrintsLines : Result (Vec ℕ Global) NoMemory → ℕ → OutputState → OutputState → ℕ → Type 0
PrintsLines lines code old new result = (text : Text) → IfOk lines (λ v. v.items ≡ text) → Prints text code old new result

-- and so were those of how a command ended
abbrev pub Reports : {F : Type 0} → Meaning F → List (String Global) → Result Outcome (Fault F) → OutputState
    → OutputState → ℕ → Type 0
Reports m unknown ended old new result =
    Prints (lines_of m (map string_bytes unknown) (ending_of ended)) (status m (ending_of ended)) old new result
