use Rattle.std.proofs.Common.{◌++◌, ◌+◌, map, take, drop, ap, sym, ◌∙◌, arith, take-append-drop}
use Rattle.std.proofs.lemmas.List.{map-append}
use Rattle.base_model.specs.declared.files.FileEntry as rust
use Rattle.base_model.specs.Values.{file_entry_of}
use Rattle.std.specs.Prelude.{List}
use Rattle.repo_keys.proofs.Seeking.{opened}
use Rattle.repo_manifest.proofs.sizes.past.Goals as goal

pub returns-then-file-total-clause-some : goal.returns-then-file-total-clause-some
returns-then-file-total-clause-some c =
    let files = c.args.files.now in
    let i = c.loop-file.file-index in
    let file = c.file-item.result in
    let inv = c.loop-file.invariant in
    let total = inv.total in
    let within = inv.within in
    let over = c.if-file-total.true in
    let prefix = map file_entry_of (take i files) in
    let more = map file_entry_of (drop (i + 1) files) in
    record {
      prefix = prefix;
      more = more;
      is = ap (map file_entry_of) (sym (take-append-drop i files)) ∙ map-append file_entry_of (take i files) (drop i files) ∙ ap (λ (l : List rust.FileEntry). prefix ++ map file_entry_of l) (opened (λ (f : rust.FileEntry). f) files i file c.loop-file-test.true c.file-item.is);
      within = omega (arith, total, within);
      past = omega (arith, total, within, over);
    }
