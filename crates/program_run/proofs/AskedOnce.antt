-- Arguments and their configuration ask for one thing.
use Rattle.std.proofs.Common.{◌≡◌, List, Option, Some, None, Result, Ok, ap, sym, ◌∙◌, subst}
use Rattle.std.specs.Prelude.{IsSome}
use Rattle.base_devices.specs.Content.{Content}
use Rattle.base_model.specs.Text.{Text}
use Rattle.options_read.specs.Faults.{Fault}
use Rattle.options_read.specs.Paths.{Path, nowhere, usual, named}
use Rattle.options_read.specs.Settings.{Resolved, resolved_arguments}
use Rattle.cmd_stanza_create.specs.Server.{Server}
use Rattle.expire_rules.specs.declared.rules.Rules.{Rules}
use Rattle.program_run.specs.Asked.{MayHave, ArgumentsResolve}

pub ok_same : {X Y : Type 0} (a b : X) → ◌≡◌ {A = Result X Y} (Ok a) (Ok b) → a ≡ b
ok_same a b e = cc

one_text : (f : Content) (path : Path) (a b : Text) → MayHave (Some f) path a → MayHave (Some f) path b → a ≡ b
one_text f nowhere a b p q = p ∙ sym q
one_text f (usual path) a b p q = sym p ∙ q
one_text f (named path) a b p q = let e : ◌≡◌ {A = Option Text} (Some a) (Some b) = sym p ∙ q in cc

pub one_settling : (arguments : List Text) (f : Content) (x y : Result Resolved Fault) → ArgumentsResolve arguments (Some f) x → ArgumentsResolve arguments (Some f) y → x ≡ y
one_settling arguments f x y p q =
    let path : p.path ≡ q.path = ok_same p.path q.path (sym p.is_path ∙ q.is_path) in
    let text : p.bytes ≡ q.bytes = one_text f q.path p.bytes q.bytes (subst (λ (a : Path). MayHave (Some f) a p.bytes) path p.has) q.has in
    sym p.settled ∙ ap (resolved_arguments arguments) text ∙ q.settled
