use Rattle.std.proofs.Common.{refl, arith}
use Rattle.cmd_trait.specs.Code.{place_of}
use Rattle.cmd_trait.proofs.Ends.{rose_to, all_later}
use Rattle.run_backup.proofs.Offlines.{backup_held, backup_shows, offline_ran}
use Rattle.run_backup.proofs.backup_offline.BackupOfflineCommand.run.Goals as goal

pub back_up_offline-made-requires-clause-locked : goal.back_up_offline-made-requires-clause-locked
back_up_offline-made-requires-clause-locked g c = backup_held c.args.places.now.stanza.now _ c.requires.locked

pub returns-clause-ran : goal.returns-clause-ran
returns-clause-ran g c =
    let e = c.back_up_offline-made.ensures in
    let f = c.expire_next.ensures in
    let p = place_of c.args.places.now in
    let known = c.in-Some-Some-Some.control in
    let shows = backup_shows p.stanza _ _ c.args.ready c.requires.ready known c.in-Some-Some-Some.is-0 in
    offline_ran p _ g.D.Disk.state _ _ _ g.C.Clock.state _ _ _ e.looks.nodes c.offline_order.result known shows c.back_up_offline-made.result _ c.offline_order.ensures.how_is e.beside e.only e.does e.taken
    _ (rose_to _ _ _ (λ h. h) (λ h. absurd h) (λ h. h) (λ h. absurd h) (λ h. absurd h) (λ h. h) (λ h. absurd h) (λ h. absurd h) (λ h. absurd h)) e.cause
    (record { spool = refl; repo = e.frame.opened; tree = e.looks.opened })
    (all_later _ _ e.frame.later (omega arith) e.looks.later (omega arith) (omega arith) e.later (omega arith) (omega arith) (omega arith))
    e.least f.frame.opened f.frame.later f.later c.args.self.now.expires c.expire_next.result f.followed
