use Rattle.std.proofs.Common.{inr, ◌∙◌, List, ℕ, map, sym, subst}
use Rattle.serde_json.specs.View.{view}
use Rattle.base_model.specs.Text.{In}
use Rattle.repo_ini.specs.Parts.{key_of}
use Rattle.repo_info.specs.ArchiveForm.{cluster_keys}
use Rattle.repo_keys.proofs.Seeking.{here, whole_next, others_next, others_end}
use Rattle.repo_info.proofs.archive_current.foreign_key.Goals as goal

pub returns-then-not-is_cluster_key-clause-some : goal.returns-then-not-is_cluster_key-clause-some
returns-then-not-is_cluster_key-clause-some c =
    let keys = c.args.keys.now in
    let k = c.k-item.result in
    let given = c.as_str.ensures.value in
    let same = c.as_str-then-not-is_cluster_key.ensures.value in (
      (view k.1, subst (λ (n : List ℕ). In (n, view k.1) (map key_of keys)) (sym same) (here key_of keys c.loop-k.k-index k c.loop-k-test.true c.k-item.is c.loop-k.invariant.whole)),
      subst (λ (n : List ℕ). ¬ In n cluster_keys) (given ∙ sym same) (c.is_cluster_key.ensures.other c.if-not-is_cluster_key.true),
    )

pub loop-k-preserved : goal.loop-k-preserved
loop-k-preserved c =
    let keys = c.args.keys.now in
    let k = c.k-item.result in
    let model = subst (λ (n : List ℕ). In n cluster_keys) c.as_str.ensures.value (c.is_cluster_key.ensures.model c.if-not-is_cluster_key.false) in
    record {
      others = others_next key_of (λ z. In z.0 cluster_keys) keys c.loop-k.k-index k c.loop-k-test.true c.k-item.is model c.loop-k.invariant.others;
      whole = whole_next key_of keys c.loop-k.k-index k c.loop-k-test.true c.k-item.is c.loop-k.invariant.whole;
    }

pub loop-k-init : goal.loop-k-init
loop-k-init c = record { others = λ y j. inr j; whole = λ y j. j }

pub returns-clause-none : goal.returns-clause-none
returns-clause-none c = others_end key_of (λ z. In z.0 cluster_keys) c.args.keys.now c.loop-k.k-index c.loop-k-test.false c.loop-k.invariant.others
