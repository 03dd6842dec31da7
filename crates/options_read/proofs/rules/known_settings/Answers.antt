use Rattle.std.proofs.Common.{rules, map, string_bytes, ◌&&◌, ap, ◌∙◌}
use Rattle.std.proofs.lemmas.Fn.{filter_same}
use Rattle.repo_ini.specs.Views.{settings_of, setting_of}
use Rattle.options_read.specs.Settings.{counts, is_known, known_settings}
use Rattle.options_read.proofs.Lists.{map-filter}
use Rattle.options_read.proofs.rules.known_settings.Goals as goal

pub returns : goal.returns
unfolding known_settings
returns c =
    let sections = map string_bytes c.args.sections.now in
    let kept = filter_same _ (λ l. counts sections (string_bytes l.section) && is_known c.args.table.now (string_bytes l.key)) _ (λ x b f' k. search rules) _ _ c.retain.ensures.filtered in
    ap settings_of kept ∙ map-filter setting_of (λ s. counts sections s.section && is_known c.args.table.now s.key) c.args.lines.items
