use Rattle.std.proofs.Common.{◌≡◌, ◌∙◌, ◌+◌, ◌++◌, ◌∷◌, [], sym, ap, subst, arith, map, take, List}
use Rattle.std.proofs.lemmas.List.{map-append}
use Rattle.base_devices.specs.declared.data_folder.Node.{Node}
use Rattle.base_model.specs.Text.{Text}
use Rattle.base_model.specs.Values.{file_entry_of}
use Rattle.restore_steps.specs.Clearing.{seen_of}
use Rattle.restore_steps.proofs.Paths.{take_more, take_whole}
use Rattle.restore_make.specs.Options.{recovery_of}
use Rattle.restore_make.specs.Digested.{AreCandidates, HasCandidates}
use Rattle.restore_make.proofs.Shows.{are_more, had_more}
use Rattle.restore_make.proofs.candidates.candidates.Goals as goal

pub loop-node-preserved : goal.loop-node-preserved
loop-node-preserved c =
    let r = recovery_of c.args.recovery.now in
    let es = map file_entry_of c.args.files.now in
    let n = c.loop-node.node-index in
    let ss = c.args.seen.now in
    let s = c.node-item.result in
    let list : map seen_of (take (n + 1) ss) ≡ map seen_of (take n ss) ++ seen_of s ∷ [] = ap (map seen_of) (take_more ss n s c.loop-node-test.true c.node-item.is) ∙ map-append seen_of (take n ss) (s ∷ []) in
    let new = c.add_candidate.new.found.items in
    record {
      are = subst (λ (l : List (Text × Node)). AreCandidates r es l new) (sym list) (are_more r es (map seen_of (take n ss)) (seen_of s) c.loop-node.found.items new c.in_ok-add_candidate.ensures c.loop-node.invariant.are);
      has = subst (λ (l : List (Text × Node)). HasCandidates r es l new) (sym list) (had_more r es c.requires (map seen_of (take n ss)) (seen_of s) c.loop-node.found.items new c.in_ok-add_candidate.ensures c.loop-node.invariant.has);
    }

pub returns-clause-are : goal.returns-clause-are
returns-clause-are c =
    let ss = c.args.seen.now in
    let n = c.loop-node.node-index in
    subst (λ l. AreCandidates (recovery_of c.args.recovery.now) (map file_entry_of c.args.files.now) (map seen_of l) c.loop-node.found.items) (take_whole ss n (omega (arith, c.loop-node-test.false, c.loop-node.auto.node-index-end))) c.loop-node.invariant.are

pub returns-clause-has : goal.returns-clause-has
returns-clause-has c =
    let ss = c.args.seen.now in
    let n = c.loop-node.node-index in
    subst (λ l. HasCandidates (recovery_of c.args.recovery.now) (map file_entry_of c.args.files.now) (map seen_of l) c.loop-node.found.items) (take_whole ss n (omega (arith, c.loop-node-test.false, c.loop-node.auto.node-index-end))) c.loop-node.invariant.has
