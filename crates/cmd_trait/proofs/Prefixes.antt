-- What was written in part.
use Rattle.std.proofs.Common.{◌≡◌, ℕ, length, Option, Result, Ok, Vec, IfOk, sym, ap, ◌∙◌, subst, arith}
use Rattle.std.specs.declared.alloc.Global.{Global}
use Rattle.std.proofs.lemmas.List.{take_all}
use Rattle.base_model.specs.Text.{Text}
use Rattle.base_text.specs.declared.memory.NoMemory.{NoMemory}
use Rattle.cmd_trait.specs.Output.{IsPrefixWritten}
use Rattle.cmd_trait.proofs.Written.{more}

-- all of the bytes are a first part of them
pub prefix_whole : (old : Option Text) (bytes : Text) (new : Option Text) → new ≡ more bytes old → IsPrefixWritten old bytes new
prefix_whole old bytes new is = record { count = length bytes; is = is ∙ ap (λ (t : Text). more t old) (sym (take_all (length bytes) bytes (omega arith))) }

pub prefix_as : (old : Option Text) (bytes text : Text) (new : Option Text) → bytes ≡ text → IsPrefixWritten old bytes new → IsPrefixWritten old text new
prefix_as old bytes text new is prefix = subst (λ (t : Text). IsPrefixWritten old t new) is prefix

-- the lines that there are
pub lines_are : (lines : Result (Vec ℕ Global) NoMemory) (v : Vec ℕ Global) (text : Text) → lines ≡ Ok v → IfOk lines (λ x. x.items ≡ text) → v.items ≡ text
lines_are lines v text is of = subst (λ (r : Result (Vec ℕ Global) NoMemory). IfOk r (λ x. x.items ≡ text)) is of
