use Rattle.std.proofs.Common.{◌≡◌, drop}
use Rattle.options_read.specs.Settings.{verb_named}
use Rattle.options_read.proofs.rules.verb_named.Given as goal

abbrev pub invariant-loop-verb : goal.invariant-loop-verb
invariant-loop-verb l = verb_named (drop l.verb-index l.verbs) l.word ≡ verb_named l.verbs l.word
