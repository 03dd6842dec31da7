use Rattle.std.proofs.Common.{◌≡◌, ◌+◌, ◌∙◌, sym, ap, subst, refl, arith, map, take, ◌++◌, ◌∷◌, [], List}
use Rattle.std.proofs.lemmas.List.{map-append}
use Rattle.base_model.specs.Text.{In}
use Rattle.base_model.specs.Values.{FileEntry, file_entry_of}
use Rattle.restore_steps.specs.Clearing.{Bares}
use Rattle.restore_steps.proofs.Bare.{bares_more, in_take, in_at, still_placed}
use Rattle.restore_steps.proofs.Ordered.{one_name}
use Rattle.restore_steps.proofs.Paths.{take_more}
use Rattle.restore_steps.proofs.folders.bare_files.begin_bare.Goals as goal

pub returns-in_err-begin_one-clause-others : goal.returns-in_err-begin_one-clause-others
returns-in_err-begin_one-clause-others g c = λ q apart.
    c.begin_one.ensures.others q (λ bare is. apart (file_entry_of c.file-item.result) (in_at file_entry_of c.args.files.now c.loop-file.file-index c.file-item.result c.loop-file-test.true c.file-item.is) bare is)
    ∙ c.loop-file.invariant.bares.others q (λ e i. apart e (in_take file_entry_of c.args.files.now c.loop-file.file-index e i))

pub loop-file-preserved : goal.loop-file-preserved
loop-file-preserved g c =
    let n = c.loop-file.file-index in
    let fs = c.args.files.now in
    let f = c.file-item.result in
    let list : map file_entry_of (take (n + 1) fs) ≡ map file_entry_of (take n fs) ++ file_entry_of f ∷ [] = ap (map file_entry_of) (take_more fs n f c.loop-file-test.true c.file-item.is) ∙ map-append file_entry_of (take n fs) (f ∷ []) in
    let once : (d : FileEntry) → In d (map file_entry_of (take n fs)) → d.path ≡ (file_entry_of f).path → d ≡ file_entry_of f
    = λ d i same. one_name (λ (x : FileEntry). x.path) (map file_entry_of fs) d (file_entry_of f) c.requires.order (in_take file_entry_of fs n d i) (in_at file_entry_of fs n f c.loop-file-test.true c.file-item.is) same in
    record {
      bares = subst (λ (l : List FileEntry). Bares l (g.T.DataFolder.state c.args.tree.now).nodes (g.T.DataFolder.state c.begin_one.new.tree).nodes) (sym list)
          (bares_more (map file_entry_of (take n fs)) (file_entry_of f) (g.T.DataFolder.state c.args.tree.now).nodes (g.T.DataFolder.state c.loop-file.tree).nodes (g.T.DataFolder.state c.begin_one.new.tree).nodes once c.loop-file.invariant.bares c.in_ok-begin_one.ensures.bare c.begin_one.ensures.others);
      proper = λ placed. c.begin_one.ensures.proper (still_placed (map file_entry_of c.args.files.now) (file_entry_of c.file-item.result) (g.T.DataFolder.state c.args.tree.now).nodes (g.T.DataFolder.state c.loop-file.tree).nodes (in_at file_entry_of c.args.files.now c.loop-file.file-index c.file-item.result c.loop-file-test.true c.file-item.is) placed (λ q off. c.loop-file.invariant.bares.others q (λ e i _. off e (in_take file_entry_of c.args.files.now c.loop-file.file-index e i)))) ∙ c.loop-file.invariant.proper placed;
      opened = c.begin_one.ensures.opened ∙ c.loop-file.invariant.opened;
      later = omega (arith, c.loop-file.invariant.later, c.begin_one.ensures.cause.later);
    }

pub returns-in_err-begin_one-clause-proper : goal.returns-in_err-begin_one-clause-proper
returns-in_err-begin_one-clause-proper g c = λ placed. c.begin_one.ensures.proper (still_placed (map file_entry_of c.args.files.now) (file_entry_of c.file-item.result) (g.T.DataFolder.state c.args.tree.now).nodes (g.T.DataFolder.state c.loop-file.tree).nodes (in_at file_entry_of c.args.files.now c.loop-file.file-index c.file-item.result c.loop-file-test.true c.file-item.is) placed (λ q off. c.loop-file.invariant.bares.others q (λ e i _. off e (in_take file_entry_of c.args.files.now c.loop-file.file-index e i)))) ∙ c.loop-file.invariant.proper placed
