use Rattle.std.proofs.Common.{refl, sym, arith, ◌<◌, ◌∙◌}
use Rattle.base_model.specs.Values.{file_entry_of}
use Rattle.cmd_verify.specs.declared.findings.finding.Mark.{Mark}
use Rattle.cmd_verify.specs.declared.findings.finding.Finding.{Finding}
use Rattle.cmd_verify.proofs.Filed.{file_known, file_clean}
use Rattle.cmd_verify.proofs.findings.files.look_at_file.Goals as goal

pub returns-in_ok-push-clause-adds : goal.returns-in_ok-push-clause-adds
returns-in_ok-push-clause-adds g c =
    let e = file_entry_of c.args.file.now in
    let filled : 0 < e.size = omega arith in
    let m : Mark = c.in-Some.field-0 in
    let x : Finding = record { name = c.in_ok-name.name; kind = m.kind; line = m.line } in
    file_known c.args.stanza.now c.args.own.now e filled c.as_str.result.now c.in_ok-name.at (c.as_str.ensures.value ∙ c.in_ok-name.ensures.name) c.in_ok-name.ensures.at c.in_ok-lies.lies c.in_ok-kind.field-0 c.in_ok-kind.ensures
    _ c.args.found.now.items c.push.new.self.items x m c.in-Some.is (sym c.as_str.ensures.value) refl refl c.in_ok-push.ensures.items c.in_ok-lies.ensures.lies

pub returns-in_default-clause-adds : goal.returns-in_default-clause-adds
returns-in_default-clause-adds g c =
    let e = file_entry_of c.args.file.now in
    let filled : 0 < e.size = omega arith in
    file_clean c.args.stanza.now c.args.own.now e filled c.as_str.result.now c.in_ok-name.at (c.as_str.ensures.value ∙ c.in_ok-name.ensures.name) c.in_ok-name.ensures.at c.in_ok-lies.lies c.in_ok-kind.field-0 c.in_ok-kind.ensures
    _ c.args.found.now.items c.in_default.is c.in_ok-lies.ensures.lies
