use Rattle.std.proofs.Common.{sym, subst, arith}
use Rattle.std.proofs.lemmas.List.{length-map}
use Rattle.repo_ini.specs.Parts.{key_of, keys_of}
use Rattle.repo_info.proofs.HistoryRules.{SoFar, one_more, is_history, has_keys}
use Rattle.repo_info.proofs.history.clusters_of.Goals as goal

pub loop-history-preserved : goal.loop-history-preserved
loop-history-preserved g c =
    let current = c.args.current.now in
    let ks = keys_of c.args.part.now in
    let h = c.loop-history.history in
    subst (SoFar g.C.Numbered.IsOne g.C.Numbered.number_of g.C.Numbered.field current ks) (sym c.in_ok-push.ensures.items) (one_more g.C.Numbered.IsOne g.C.Numbered.number_of g.C.Numbered.field c.requires.laws current ks h.items c.in_ok-cluster.cluster _ c.loop-history.invariant (omega (arith, h.ok.0)) c.in_ok-cluster.ensures.cluster)

pub returns-clause-history : goal.returns-clause-history
returns-clause-history g c =
    let ks = keys_of c.args.part.now in
    let h = c.loop-history.history in
    let count = length-map c.args.part.now.keys.items key_of in
    is_history g.C.Numbered.IsOne g.C.Numbered.number_of g.C.Numbered.field c.requires.laws c.args.current.now c.args.least ks h.items c.loop-history.invariant c.requires.rules.order c.requires.low c.requires.under (omega (arith, h.ok.0, c.args.part.now.keys.ok.0, count)) (omega (arith, h.ok.0))

pub returns-clause-keys : goal.returns-clause-keys
returns-clause-keys g c =
    let ks = keys_of c.args.part.now in
    let h = c.loop-history.history in
    let count = length-map c.args.part.now.keys.items key_of in
    has_keys g.C.Numbered.IsOne g.C.Numbered.number_of g.C.Numbered.field c.requires.laws c.args.current.now c.args.least ks h.items c.loop-history.invariant c.requires.rules.order c.requires.low c.requires.under (omega (arith, h.ok.0, c.args.part.now.keys.ok.0, count)) (omega (arith, h.ok.0))
