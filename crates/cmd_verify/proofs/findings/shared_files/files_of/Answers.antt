use Rattle.std.proofs.Common.{◌∙◌}
use Rattle.cmd_verify.proofs.Shared.{files_read}
use Rattle.cmd_verify.proofs.findings.shared_files.files_of.Goals as goal

pub returns-in-Some-clause-files : goal.returns-in-Some-clause-files
returns-in-Some-clause-files g c = let D = g.D.Disk in
    files_read c.args.stanza.now c.args.label.now c.args.listed.now c.in-Some.manifest c.in_ok-manifest.field-0 c.in-Some.is (c.is_among.ensures.yes c.if-not-is_among.false) c.as_str.result.now (c.as_str.ensures.value ∙ c.in_ok-name.ensures)
    (D.state c.args.d.now).view.now c.requires.listed c.in_ok-manifest.ensures.value
