use Rattle.std.proofs.Common.{sym, subst, arith, map, List, Bool}
use Rattle.std.proofs.lemmas.List.{length-map}
use Rattle.std.proofs.lemmas.Result.{IfOk-weaker, IfErr-weaker}
use Rattle.base_model.specs.Values.{file_entry_of}
use Rattle.restore_steps.specs.Clearing.{seen_of}
use Rattle.restore_steps.proofs.Listing.{some_within}
use Rattle.restore_make.specs.declared.candidates.Candidate.{Candidate}
use Rattle.restore_make.specs.Options.{recovery_of, options_of}
use Rattle.restore_make.specs.Kept.{AllAlike}
use Rattle.restore_make.specs.Digested.{file_of, AreCandidates, HasCandidates}
use Rattle.restore_make.proofs.Failing.{fails_listed}
use Rattle.worker_pool.proofs.Links.{left_all}
use Rattle.restore_make.proofs.Marks.{none_alike, all_alike, marks_alike, candidate_in}
use Rattle.restore_make.proofs.kept_files.find_kept.Goals as goal

pub returns-then-not-options-clause-alike : goal.returns-then-not-options-clause-alike
returns-then-not-options-clause-alike g c =
    let o = options_of c.args.options.now in
    let links = map g.L.Link.link_state c.args.pool.now.links.items in
    let es = map file_entry_of c.args.files.now in
    let seen = map seen_of c.args.seen.now in
    subst (λ (marks : List Bool). AllAlike links o seen es marks) (sym c.new.ensures.items) (none_alike links o seen es)

pub returns-then-not-options-clause-left : goal.returns-then-not-options-clause-left
returns-then-not-options-clause-left g c = left_all (map g.L.Link.link_state c.args.pool.now.links.items) c.args.pool.now.lost.items c.requires.ready

pub mark_alike-requires-clause-entries : goal.mark_alike-requires-clause-entries
mark_alike-requires-clause-entries g c = λ e i.
    let r = recovery_of c.args.options.now.recovery in
    let es = map file_entry_of c.args.files.now in
    let seen = map seen_of c.args.seen.now in
    let are = subst (λ (cs : List Candidate). AreCandidates r es seen cs) (sym c.deref.ensures.value) c.in_ok-candidates.ensures.are in
    c.requires.entries e (candidate_in r es seen c.deref.result.now are e i)

pub mark_alike-requires-clause-places : goal.mark_alike-requires-clause-places
mark_alike-requires-clause-places g c = λ k x at.
    let r = recovery_of c.args.options.now.recovery in
    let es = map file_entry_of c.args.files.now in
    let seen = map seen_of c.args.seen.now in
    let are = subst (λ (cs : List Candidate). AreCandidates r es seen cs) (sym c.deref.ensures.value) c.in_ok-candidates.ensures.are in
    omega (arith, some_within es x.place (file_of x) (are k x at).at, length-map c.args.files.now file_entry_of)

pub returns-clause-alike : goal.returns-clause-alike
returns-clause-alike g c =
    let o = options_of c.args.options.now in
    let links = map g.L.Link.link_state c.args.pool.now.links.items in
    let es = map file_entry_of c.args.files.now in
    let seen = map seen_of c.args.seen.now in
    let are = subst (λ (cs : List Candidate). AreCandidates o.recovery es seen cs) (sym c.deref.ensures.value) c.in_ok-candidates.ensures.are in
    let has = subst (λ (cs : List Candidate). HasCandidates o.recovery es seen cs) (sym c.deref.ensures.value) c.in_ok-candidates.ensures.has in
    IfOk-weaker c.mark_alike.result _ _
    (λ marks x. all_alike links o seen es c.deref.result.now x.ends marks.items are has x.known c.if-not-options.false x.by)
    c.mark_alike.ensures.marked

pub returns-clause-all : goal.returns-clause-all
returns-clause-all g c =
    let o = options_of c.args.options.now in
    let links = map g.L.Link.link_state c.args.pool.now.links.items in
    let es = map file_entry_of c.args.files.now in
    let seen = map seen_of c.args.seen.now in
    let are = subst (λ (cs : List Candidate). AreCandidates o.recovery es seen cs) (sym c.deref.ensures.value) c.in_ok-candidates.ensures.are in
    let has = subst (λ (cs : List Candidate). HasCandidates o.recovery es seen cs) (sym c.deref.ensures.value) c.in_ok-candidates.ensures.has in
    IfOk-weaker c.mark_alike.result _ _
    (λ marks x. marks_alike links o seen es c.deref.result.now x.ends marks.items are has x.known x.all)
    c.mark_alike.ensures.marked

pub returns-clause-fault : goal.returns-clause-fault
returns-clause-fault g c = λ stanza own f h.
    let r = recovery_of c.args.options.now.recovery in
    let links = map g.L.Link.link_state c.args.pool.now.links.items in
    let es = map file_entry_of c.args.files.now in
    let seen = map seen_of c.args.seen.now in
    let cs = c.deref.result.now in
    let are = subst (λ (xs : List Candidate). AreCandidates r es seen xs) (sym c.deref.ensures.value) c.in_ok-candidates.ensures.are in
    IfErr-weaker c.mark_alike.result _ _
    (λ e x. fails_listed stanza own (map file_of cs) es links (map g.L.Link.link_state c.mark_alike.new.pool.links.items) c.args.pool.now.lost.items c.mark_alike.new.pool.lost.items f h e (candidate_in r es seen cs are) x)
    (c.mark_alike.ensures.fault stanza own f h)
