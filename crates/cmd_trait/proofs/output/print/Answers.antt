use Rattle.std.proofs.Common.{◌≡◌, ◌∙◌, ap, inl, inr, refl, subst, List, ℕ, Result, Vec, IfOk, rules}
use Rattle.std.specs.declared.alloc.Global.{Global}
use Rattle.base_text.specs.declared.memory.NoMemory.{NoMemory}
use Rattle.cmd_trait.specs.Output.{Whole, Cut, Starved, Wordless, memory_line}
use Rattle.cmd_trait.proofs.Written.{more}
use Rattle.cmd_trait.proofs.Prefixes.{lines_are, prefix_whole, prefix_as}
use Rattle.cmd_trait.proofs.output.print.Goals as goal

pub returns-in-Ok-write_all-clause-known : goal.returns-in-Ok-write_all-clause-known
returns-in-Ok-write_all-clause-known g c = λ text of. Whole c.args.status refl (c.in-Ok-write_all.ensures.ok ∙ ap (λ (t : List ℕ). more t (g.O.OutputStream.state c.args.out.now).written) (c.deref.ensures.value ∙ lines_are c.args.lines c.in-Ok.text text c.in-Ok.is of))

pub returns-in-Err-Failed-clause-known : goal.returns-in-Err-Failed-clause-known
returns-in-Err-Failed-clause-known g c = λ text of. Cut (c.in-Err-Failed.ensures.cause.failed (search rules)) (prefix_as _ _ _ _ (c.deref.ensures.value ∙ lines_are c.args.lines c.in-Ok.text text c.in-Ok.is of) c.in-Err-Failed.ensures.err)

pub returns-in-Ok-clause-known : goal.returns-in-Ok-clause-known
returns-in-Ok-clause-known g c = λ text of. Starved text (inl refl) (prefix_as _ _ _ _ (c.deref.ensures.value ∙ lines_are c.args.lines c.in-Ok.text text c.in-Ok.is of) c.in-Err-NoMemory.ensures.err)

pub returns-in-Ok-write_all-2-clause-known : goal.returns-in-Ok-write_all-2-clause-known
returns-in-Ok-write_all-2-clause-known g c = λ text of. Starved memory_line (inr refl) (prefix_whole _ _ _ c.in-Ok-write_all-2.ensures.ok)

pub returns-in-Err-Failed-write_all-clause-known : goal.returns-in-Err-Failed-write_all-clause-known
returns-in-Err-Failed-write_all-clause-known g c = λ text of. Wordless (c.in-Err-Failed-write_all.ensures.cause.failed (search rules)) c.in-Err-Failed-write_all.ensures.err

pub returns-clause-known : goal.returns-clause-known
returns-clause-known g c = λ text of. Starved memory_line (inr refl) c.in-Err-NoMemory-write_all.ensures.err
