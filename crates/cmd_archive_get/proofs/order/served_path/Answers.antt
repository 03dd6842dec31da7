use Rattle.std.proofs.Common.{◌∙◌, ◌≡◌, ◌++◌, rules}
use Rattle.cmd_archive_get.proofs.ServedPaths.{inside_some, inside_none}
use Rattle.cmd_archive_get.proofs.order.served_path.Goals as goal

pub returns-in-Some : goal.returns-in-Some
returns-in-Some c =
    let parts : c.args.path.now ≡ c.as_str.result.now ++ c.in-Some.inside.now = search rules in
    inside_some c.args.folder.now c.args.path.now c.in-Some.inside.now c.as_str.result.now (c.as_str.ensures.value ∙ c.in_ok-prefix.ensures) parts

pub returns : goal.returns
returns c = inside_none c.args.folder.now c.args.path.now c.as_str.result.now (c.as_str.ensures.value ∙ c.in_ok-prefix.ensures) c.in-None.ensures.cases
