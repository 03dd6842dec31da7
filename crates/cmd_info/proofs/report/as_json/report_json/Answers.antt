use Rattle.std.proofs.Common.{◌≡◌, ◌++◌, [], ◌∷◌, false, ap, ◌∙◌}
use Rattle.serde_json.specs.View.{view}
use Rattle.serde_json.specs.Written.{has_float, compact_text}
use Rattle.base_model.specs.Values.{archive_info_of, backup_info_of}
use Rattle.cmd_info.specs.ReportData.{report_json_of}
use Rattle.cmd_info.proofs.NoFloats.{report_plain}
use Rattle.cmd_info.proofs.report.as_json.report_json.Goals as goal

pub returns : goal.returns
unfolding report_json_of
returns c =
    let report = c.args.report.now in
    let plain : has_float (view c.in_ok-value.value) ≡ false =
    ap has_float c.in_ok-value.ensures ∙ report_plain report.stanza.now (archive_info_of report.archive.now) (backup_info_of report.info.now) report.archived.now in
    c.in_ok-push_str.ensures.bytes ∙ ap (λ l. l ++ 10 ∷ []) (c.in_ok-text.ensures.text plain ∙ ap compact_text c.in_ok-value.ensures)
