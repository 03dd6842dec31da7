use Rattle.std.proofs.Common.{◌≡◌, drop, map, option_map, None}
use Rattle.options_read.specs.Paths.{path_after}
use Rattle.options_read.specs.Views.{token_view, path_view}
use Rattle.options_read.proofs.path.path_of.Given as goal

abbrev pub invariant-loop-token : goal.invariant-loop-token
invariant-loop-token l = path_after (option_map path_view l.found) (map token_view (drop l.token-index l.tokens)) ≡ path_after None (map token_view l.tokens)
