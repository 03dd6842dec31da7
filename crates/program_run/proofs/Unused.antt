-- What a command doesn't use.
use Rattle.std.proofs.Common.{List, Option, Ok, subst}
use Rattle.base_devices.specs.Content.{Content}
use Rattle.base_model.specs.Text.{Text}
use Rattle.options_read.specs.declared.resolve.Command.{Command}
use Rattle.options_read.specs.Commands.{IsCommand}
use Rattle.options_read.specs.Settings.{Resolved}
use Rattle.program_run.specs.Asked.{ArgumentsResolve, Asked, asked, MayAsk, Asks}
use Rattle.program_run.specs.Ranges.{WhereResolved}
use Rattle.program_run.proofs.Each.{one_asked}

module _ (arguments : List Text) (files : Option Content) (c : Command) (x : (s : Resolved) × ArgumentsResolve arguments files (Ok s) × IsCommand c s) where
  -- something is asked for
  pub never_none : {Q : Type 0} → ((s : Resolved) → ¬ MayAsk arguments files s) → Q
  never_none none = absurd (none x.0 x.1)

  -- each that is asked for is of this kind
  pub all_asked : (P : Asked → Type 0) (Q : Type 0) → WhereResolved c P Q → ((s : Resolved) → MayAsk arguments files s → P (asked s)) → Q
  all_asked P Q resolved every = resolved x.0 x.2 (every x.0 x.1)

  -- the one that is asked for is of this kind
  pub each_asked : (P : Asked → Type 0) (Q : Type 0) (s : Resolved) → WhereResolved c P Q → Asks arguments files s → P (asked s) → Q
  each_asked P Q s resolved known is = resolved x.0 x.2 (subst (λ (t : Resolved). P (asked t)) (one_asked arguments files s x.0 known.known known.asks x.1) is)
