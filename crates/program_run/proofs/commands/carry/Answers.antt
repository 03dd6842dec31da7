use Rattle.std.proofs.Common.{◌≡◌, ◌∙◌, true, false, ap, sym, map, string_bytes, rules}
use Rattle.cmd_stanza_create.specs.Server.{server_view}
use Rattle.options_table.specs.declared.table.Opt.TheVariants.{Number}
use Rattle.cmd_trait.specs.Code.{place_of}
use Rattle.cmd_trait.specs.InForce.{count_in}
use Rattle.program_run.specs.Given.{how_of, running_of}
use Rattle.program_run.proofs.Answered.{offline_obeys, online_obeys, rehearse_obeys}
use Rattle.program_run.proofs.commands.carry.Goals as goal

pub returns-in-Rehearse-clause-obeys : goal.returns-in-Rehearse-clause-obeys
returns-in-Rehearse-clause-obeys g c = λ s is.
    let number : c.unwrap_or.result ≡ count_in s.source Number = search rules in
    rehearse_obeys s (place_of c.places_of-places.result) (c.places_of-places.ensures s is) (map string_bytes c.deref-in-Rehearse.result.now) (ap (map string_bytes) c.deref-in-Rehearse.ensures.value ∙ is.warnings) _ _ c.obey-in-Rehearse.result
    c.unwrap_or.result (sym is.verb ∙ c.in-Rehearse.is) number c.obey-in-Rehearse.ensures.carries

pub returns-then-options-3-clause-obeys : goal.returns-then-options-3-clause-obeys
returns-then-options-3-clause-obeys g c = λ s is.
    let on : c.args.command.now.options.online ≡ true = search rules in
    let x = c.online_of.result in
    let e = c.online_of.ensures s is in
    online_obeys s (place_of c.places_of-places.result) (c.places_of-places.ensures s is) (map string_bytes c.deref-then-options-3.result.now) (ap (map string_bytes) c.deref-then-options-3.ensures.value ∙ is.warnings) _ _ c.obey-then-options-3.result
    (server_view x.server) (running_of x) x.expires (sym is.verb ∙ c.in-Backup.is) (sym is.options.online ∙ on) e.0 e.1 e.2 c.obey-then-options-3.ensures.carries

pub returns-else-options-3-clause-obeys : goal.returns-else-options-3-clause-obeys
returns-else-options-3-clause-obeys g c = λ s is.
    let off : c.args.command.now.options.online ≡ false = search rules in
    let x = c.offline_of.result in
    let e = c.offline_of.ensures s is in
    offline_obeys s (place_of c.places_of-places.result) (c.places_of-places.ensures s is) (map string_bytes c.deref-in-Backup.result.now) (ap (map string_bytes) c.deref-in-Backup.ensures.value ∙ is.warnings) _ _ c.obey-in-Backup.result
    (how_of x) x.expires (sym is.verb ∙ c.in-Backup.is) (sym is.options.online ∙ off) e.0 e.1 c.obey-in-Backup.ensures.carries
