use Rattle.std.proofs.Common.{refl, ap, arith}
use Rattle.std.specs.Prelude.{option_map}
use Rattle.cmd_stanza_create.specs.Server.{server_view}
use Rattle.cmd_stanza_create.proofs.Servers.{no_server, as_server}
use Rattle.cmd_stanza_upgrade.proofs.Asked.{err_both}
use Rattle.cmd_trait.specs.Code.{place_of}
use Rattle.cmd_trait.proofs.Ends.{rose_to, all_later}
use Rattle.run_stanza_upgrade.proofs.PartEffects.{upgrade_shows, upgraded_ran}
use Rattle.run_stanza_upgrade.proofs.upgrade.StanzaUpgradeCommand.run.Goals as goal

pub returns-clause-ran : goal.returns-clause-ran
returns-clause-ran g c =
    let e = c.upgrade_stanza.ensures in
    let asked = c.args.self.now.server in
    let known = c.in-Some-Some-Some.control in
    let shows = upgrade_shows c.args.places.now.stanza.now _ _ c.args.ready c.requires.ready known c.in-Some-Some-Some.is-0 in
    upgraded_ran (place_of c.args.places.now) (option_map server_view asked) _ _ refl known shows c.upgrade_stanza.result e.only e.does e.made e.refused
    (as_server c.upgrade_stanza.result asked _ e.same) e.asks
    (λ none. ap (λ w. g.V.ServerConnection.state w) (e.quiet (no_server asked none)))
    e.closed _ (rose_to _ _ _ (λ h. h) (λ h. absurd h) (λ h. absurd h) (λ h. h) (λ h. absurd h) (λ h. absurd h) (λ h. absurd h) (λ h. absurd h) (λ h. absurd h)) (err_both _ _ c.upgrade_stanza.result e.cause e.failed)
    (record { spool = refl; repo = e.frame.opened; tree = refl })
    (all_later _ _ e.frame.later (omega arith) (omega arith) e.later (omega arith) (omega arith) (omega arith) (omega arith) (omega arith))

pub returns-clause-quiet : goal.returns-clause-quiet
returns-clause-quiet g c = λ none. c.upgrade_stanza.ensures.quiet (no_server c.args.self.now.server none)
