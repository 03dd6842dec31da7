use Rattle.std.proofs.Common.{◌≡◌, true, false, length, take, drop, bytes_eq, sym, ◌∙◌}
use Rattle.memory_devices.proofs.Slashes.{below_stripped, below_other}
use Rattle.memory_devices.proofs.below.lies_below.Goals as goal

pub returns-in-Some : goal.returns-in-Some
returns-in-Some c =
    let folder = c.args.folder.now in
    let path = c.args.path.now in
    let prefix : bytes_eq (take (length folder) path) folder ≡ true = cc (c.in-Some.ensures.cases.0) in
    let rest : c.in-Some.rest.now ≡ drop (length folder) path = cc (c.in-Some.ensures.cases.1) in
    c.starts_with.ensures.value ∙ below_stripped folder path c.in-Some.rest.now prefix rest

pub returns-in-None : goal.returns-in-None
returns-in-None c =
    let folder = c.args.folder.now in
    let path = c.args.path.now in
    let apart : bytes_eq (take (length folder) path) folder ≡ false = cc (c.in-None.ensures.cases) in
    sym (below_other folder path apart)
