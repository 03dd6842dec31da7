use Rattle.std.proofs.Common.{◌≡◌, ◌+◌, take, drop, get_or, sym, ◌∙◌, subst}
use Rattle.std.specs.Prelude.{IsTrue}
use Rattle.std.proofs.lemmas.List.{get_or_default}
use Rattle.repo_manifest.proofs.Forms.{no_truth}
use Rattle.repo_manifest.proofs.Searched.{cut}
use Rattle.repo_manifest.proofs.path_folders.lacks_folder.Goals as goal

pub returns-then-not-is_listed-clause-lacks : goal.returns-then-not-is_listed-clause-lacks
returns-then-not-is_listed-clause-lacks c = λ t.
    let bytes = c.as_bytes-bytes.result.now in
    let i = c.loop-i.i in
    let slash : get_or bytes i 47 ≡ 47 = get_or_default bytes i 47 0 c.loop-i-test.true ∙ c.if-bytes-i-eq47.true in
    let is = sym c.as_bytes-bytes.ensures.value ∙ cut bytes i c.loop-i-test.true (sym slash) in
    (take i bytes, drop (i + 1) bytes, is, λ there. no_truth (subst IsTrue c.if-not-is_listed.true (c.is_listed.ensures.1 there)))
