use Rattle.std.proofs.Common.{◌<◌, map, length, ap, ◌∙◌, arith}
use Rattle.std.proofs.lemmas.List.{length-map}
use Rattle.std.proofs.lemmas.Bool.Decides.{nat_tests}
use Rattle.base_model.specs.Values.{entry_of}
use Rattle.repo_ini.specs.Parts.{keys_of}
use Rattle.cmd_info.proofs.Sections.{some_part, first_part}
use Rattle.cmd_info.proofs.report.listed.listed.Goals as goal

pub remove-requires : goal.remove-requires
remove-requires c =
    let info = c.args.info.now in
    let some : 0 < length info.backups.items = grind (arith, nat_tests, c.is_empty.ensures, c.if-is_empty.false, info.backups.ok.0) in
    let more : 0 < length (map entry_of info.backups.items) = omega (arith, some, length-map info.backups.items entry_of) in
    let long = some_part c.in_ok-parts.parts.items info.current info.history.items (map entry_of info.backups.items) more c.in_ok-parts.ensures.sections in
    omega (arith, long, c.in_ok-parts.parts.ok.0)

pub returns : goal.returns
returns c =
    let info = c.args.info.now in
    let some : 0 < length info.backups.items = grind (arith, nat_tests, c.is_empty.ensures, c.if-is_empty.false, info.backups.ok.0) in
    let more : 0 < length (map entry_of info.backups.items) = omega (arith, some, length-map info.backups.items entry_of) in
    ap keys_of c.remove.ensures.value ∙ first_part c.in_ok-parts.parts.items info.current info.history.items (map entry_of info.backups.items) c.remove.result more c.in_ok-parts.ensures.sections
