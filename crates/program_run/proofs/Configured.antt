-- Why the settings are refused.
use Rattle.std.proofs.Common.{◌≡◌, ◌≤◌, inr, length, List, Option, Result, Ok, Err, IfErr, refl, sym, subst}
use Rattle.std.specs.Prelude.{IsErrAnd}
use Rattle.base_devices.specs.Content.{Content}
use Rattle.base_model.specs.Text.{Text}
use Rattle.options_read.specs.declared.usage.Usage.{Usage}
use Rattle.options_read.specs.declared.usage.Usage.TheVariants.{CommandMissing, CommandUnknown, OptionUnknown, OptionRepeated, OptionValue, OptionMissing, OptionNotFor, ConfigSyntax, ParameterCount, ParameterUtf8, NoMemory}
use Rattle.options_read.specs.Paths.{Path, path_of_arguments}
use Rattle.options_read.specs.Settings.{resolved_arguments}
use Rattle.options_read.specs.Views.{Fails}
use Rattle.cmd_trait.specs.declared.fault.Fault.{Fault}
use Rattle.program_run.specs.Asked.{config_limit, MayHave, ArgumentsResolve}
use Rattle.program_run.specs.Configuring.{ConfigCause}
use Rattle.program_run.specs.Refusals.{of_usage}

module _ (arguments : List Text) (files : Option Content) (rose : Type 0) (path : Path) (is_path : path_of_arguments arguments ≡ Ok path) (bytes : Text) (has : MayHave files path bytes) (fits : length bytes ≤ config_limit) where
  resolves : ArgumentsResolve arguments files (resolved_arguments arguments bytes)
  resolves = record { path = path; is_path = is_path; bytes = bytes; has = has; fits = fits; settled = refl }

  refused : (u : Usage) → Fails u (resolved_arguments arguments bytes) → ConfigCause arguments files rose (of_usage u)
  refused CommandMissing h = inr (resolved_arguments arguments bytes, resolves, h)
  refused (CommandUnknown a) h = inr (resolved_arguments arguments bytes, resolves, h)
  refused (OptionUnknown a) h = inr (resolved_arguments arguments bytes, resolves, h)
  refused (OptionRepeated a) h = inr (resolved_arguments arguments bytes, resolves, h)
  refused (OptionValue a) h = inr (resolved_arguments arguments bytes, resolves, h)
  refused (OptionMissing a) h = inr (resolved_arguments arguments bytes, resolves, h)
  refused (OptionNotFor a) h = inr (resolved_arguments arguments bytes, resolves, h)
  refused (ConfigSyntax a) h = inr (resolved_arguments arguments bytes, resolves, h)
  refused (ParameterCount a) h = inr (resolved_arguments arguments bytes, resolves, h)
  refused ParameterUtf8 h = inr (resolved_arguments arguments bytes, resolves, h)
  refused NoMemory h = tt

  pub refused_err : {T : Type 0} (result : Result T (Fault Usage)) (u : Usage) → IsErrAnd result (λ (f : Fault Usage). f ≡ of_usage u) → Fails u (resolved_arguments arguments bytes) → IfErr result (ConfigCause arguments files rose)
  refused_err (Ok x) u is h = tt
  refused_err (Err f) u is h = subst (ConfigCause arguments files rose) (sym is) (refused u h)
