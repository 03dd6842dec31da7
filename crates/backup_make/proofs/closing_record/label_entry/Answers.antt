use Rattle.std.proofs.Common.{◌∙◌, length, None, ap}
use Rattle.sha1.specs.Sha1.{sha1}
use Rattle.base_model.specs.Text.{Text}
use Rattle.base_model.specs.Values.{FileEntry}
use Rattle.backup_make.specs.Online.{label_path}
use Rattle.backup_make.proofs.closing_record.label_entry.Goals as goal

pub returns : goal.returns
returns c =
    let size = length c.args.text.now in
    ap (λ (p : Text). (let e : FileEntry = record { path = p; size = size; time = c.args.stop; sum = c.of.result.0; reference = None; bundle = None } in e)) c.in_ok-from_str.ensures.ok
    ∙ ap (λ (s : Text). (let e : FileEntry = record { path = label_path; size = size; time = c.args.stop; sum = s; reference = None; bundle = None } in e)) (c.of.ensures ∙ ap sha1 c.as_bytes.ensures.value)
