use Rattle.std.proofs.Common.{rules, string_bytes}
use Rattle.cmd_info.specs.Reporting.{IsReported}
use Rattle.cmd_info.proofs.Reported.{reports}
use Rattle.cmd_info.proofs.command.info.report_stanza.Goals as goal

pub returns-in-Ok-clause-reported : goal.returns-in-Ok-clause-reported
returns-in-Ok-clause-reported g c = λ s some now.
    let repo = (g.D.Disk.state c.args.repo.now).view.now in
    let known : IsReported c.args.stanza.now c.args.form repo (string_bytes c.in-Ok.lines) = search rules in
    reports c.args.form c.args.stanza.now repo (string_bytes c.in-Ok.lines) s some now known
