use Rattle.serde_json.specs.View.{view}
use Rattle.std.proofs.Common.{◌∙◌, sym, arith}
use Rattle.repo_info.proofs.EntryParts.{end_only}
use Rattle.repo_info.proofs.entry_parts.end_in.Goals as goal

pub returns : goal.returns
returns c =
    let s = c.in_ok-segment.segment in
    end_only (view c.args.value.now) c.in_ok-text.text.now s (record { timeline = omega arith; log = omega arith; seg = omega arith }) c.in_ok-text.ensures (sym c.as_bytes.ensures.value ∙ c.in_ok-segment.ensures.value)
