use Rattle.std.proofs.Common.{rules, ◌≡◌, true, ◌∙◌, Some, sym, subst}
use Rattle.std.proofs.lemmas.Result.{on_ok_weaker}
use Rattle.base_devices.specs.Content.{Name, is_below}
use Rattle.cmd_archive_get_async.specs.Names.{ahead_folder, ahead_name}
use Rattle.cmd_archive_get_async.proofs.Fetched.{puts_fetches}
use Rattle.cmd_archive_get_async.proofs.Within.{name_below, within_one}
use Rattle.cmd_archive_get_async.proofs.ahead.prefetch.fetch_stored.Goals as goal

pub returns-in-Ok-clause-fetches : goal.returns-in-Ok-clause-fetches
returns-in-Ok-clause-fetches g c =
    let known : c.args.stored.sum ≡ Some c.in-Some.sum = search rules in
    on_ok_weaker c.fetch_file.result (λ h. puts_fetches c.args.stanza.now c.args.id.now c.args.segment.now c.args.stored c.in-Some.sum known (g.D.Disk.state c.args.repo.now).view.now c.requires.finds
    c.as_str.result.now (c.as_str.ensures.value ∙ c.in-Ok.ensures) _ _ h) c.fetch_file.ensures.puts

pub returns-in-Ok-clause-only : goal.returns-in-Ok-clause-only
returns-in-Ok-clause-only g c =
    let stanza = c.args.stanza.now in
    let named : c.as_str.result.now ≡ ahead_name stanza c.args.segment.now c.in-Some.sum.0 = c.as_str.ensures.value ∙ c.in-Ok.ensures in
    within_one (is_below (ahead_folder stanza)) c.as_str.result.now (subst (λ (n : Name). is_below (ahead_folder stanza) n ≡ true) (sym named) (name_below stanza c.args.segment.now c.in-Some.sum.0)) _ _ c.fetch_file.ensures.others c.fetch_file.ensures.works.time
