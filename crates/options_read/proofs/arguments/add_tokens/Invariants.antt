use Rattle.std.proofs.Common.{◌≡◌, drop, map}
use Rattle.options_read.specs.Words.{add_tokens, no_arguments}
use Rattle.options_read.specs.Views.{token_view, arguments_view}
use Rattle.options_read.proofs.arguments.add_tokens.Given as goal

abbrev pub invariant-loop-token : goal.invariant-loop-token
invariant-loop-token l = add_tokens l.table (arguments_view l.arguments) (map token_view (drop l.token-index l.tokens)) ≡ add_tokens l.table no_arguments (map token_view l.tokens)
