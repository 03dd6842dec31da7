use Rattle.std.proofs.Common.{◌∷◌, ◌++◌, ◌∙◌, ap, sym}
use Rattle.std.specs.Prelude.{codes}
use Rattle.base_model.specs.Names.{segment_text}
use Rattle.base_model.specs.Text.{Text}
use Rattle.cmd_archive_get_async.proofs.ahead.spooled_segment.clear.Goals as goal

pub remove_prefix-requires : goal.remove_prefix-requires
remove_prefix-requires g c =
    let rest = segment_text c.args.segment.now ++ codes "-" in
    (rest, c.as_str-2.ensures.value ∙ c.in-Ok-ahead_prefix.ensures ∙ ap (λ (t : Text). t ++ 47 ∷ rest) (sym (c.as_str.ensures.value ∙ c.in-Ok.ensures)))
