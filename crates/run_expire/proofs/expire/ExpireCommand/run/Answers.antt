use Rattle.std.proofs.Common.{refl, ap, arith}
use Rattle.cmd_trait.specs.Code.{place_of}
use Rattle.cmd_trait.proofs.Ends.{rose_to, all_later}
use Rattle.run_expire.proofs.PartEffects.{pruned_ran}
use Rattle.run_expire.proofs.expire.ExpireCommand.run.Goals as goal

pub returns-clause-ran : goal.returns-clause-ran
returns-clause-ran g c =
    let e = c.expire_stanza.ensures in
    pruned_ran (place_of c.args.places.now) _ _ refl c.args.self.now.rules c.expire_stanza.result e.pruned e.only e.beside
    (λ none. ap (λ x. g.C.Clock.state x) (e.unread none))
    _ (rose_to _ _ _ (λ h. h) (λ h. absurd h) (λ h. absurd h) (λ h. absurd h) (λ h. absurd h) (λ h. h) (λ h. absurd h) (λ h. absurd h) (λ h. absurd h)) e.cause
    (record { spool = refl; repo = e.frame.opened; tree = refl })
    (all_later _ _ e.frame.later (omega arith) (omega arith) (omega arith) (omega arith) e.later (omega arith) (omega arith) (omega arith))
