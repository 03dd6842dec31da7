use Rattle.std.proofs.Common.{Err, sym, subst, List, ℕ}
use Rattle.options_read.specs.declared.resolve.Command.{Command}
use Rattle.program_run.specs.Asked.{MayHave}
use Rattle.program_run.proofs.Configured.{refused_err}
use Rattle.program_run.proofs.config.read_command.Goals as goal

pub returns-clause-cause : goal.returns-clause-cause
returns-clause-cause g c =
    let x = c.in_ok-bytes.ensures.bytes in
    refused_err _ (g.I.InputFiles.state c.args.config.now).files _ x.0 x.1 c.deref.result.now (subst (λ (b : List ℕ). MayHave (g.I.InputFiles.state c.args.config.now).files x.0 b) (sym c.deref.ensures.value) x.2) (rw (c.deref.ensures.value) c.in_ok-bytes.ensures.fits) {T = Command} (Err c.of_usage.result) c.in-Err.usage c.of_usage.ensures c.in-Err.ensures
