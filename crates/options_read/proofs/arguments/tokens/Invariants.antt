use Rattle.std.proofs.Common.{◌≡◌, ◌++◌, drop, map, option_map, string_bytes}
use Rattle.options_read.specs.Words.{tokens, tokens_after}
use Rattle.options_read.specs.Views.{token_view}
use Rattle.options_read.proofs.arguments.tokens.Given as goal

abbrev pub invariant-loop-word : goal.invariant-loop-word
invariant-loop-word l = map token_view l.found.items ++ tokens_after (option_map (λ t. t.now) l.waits) l.table (map string_bytes (drop l.word-index l.arguments)) ≡ tokens l.table (map string_bytes l.arguments)
