use Rattle.std.proofs.Common.{map, take}
use Rattle.base_model.specs.Values.{file_entry_of}
use Rattle.restore_steps.specs.Clearing.{seen_of}
use Rattle.restore_make.specs.Options.{recovery_of}
use Rattle.restore_make.specs.Digested.{AreCandidates, HasCandidates}
use Rattle.restore_make.proofs.candidates.candidates.Given as goal

abbrev pub invariant-loop-node : goal.invariant-loop-node
invariant-loop-node l =
    let es = map file_entry_of l.files in
    let seen = map seen_of (take l.node-index l.seen) in
    record {
      are : AreCandidates (recovery_of l.recovery) es seen l.found.items;
      has : HasCandidates (recovery_of l.recovery) es seen l.found.items;
    }
