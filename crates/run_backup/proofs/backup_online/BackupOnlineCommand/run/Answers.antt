use Rattle.std.proofs.Common.{◌∙◌}
use Rattle.cmd_stanza_create.specs.Server.{server_view}
use Rattle.cmd_backup_online.proofs.Spools.{runs_online}
use Rattle.cmd_trait.specs.Code.{place_of}
use Rattle.cmd_trait.proofs.Ends.{rose_to, all_later}
use Rattle.run_backup.proofs.Offlines.{backup_shows}
use Rattle.run_backup.proofs.Onlines.{asks_backup, online_ran, same_count}
use Rattle.run_backup.proofs.backup_online.BackupOnlineCommand.run.Goals as goal

pub returns-clause-ran : goal.returns-clause-ran
returns-clause-ran g c =
    let e = c.back_up_online-made.ensures in
    let f = c.expire_next.ensures in
    let p = place_of c.args.places.now in
    let s = c.args.self.now in
    let known = c.in-Some-Some-Some.control in
    let shows = backup_shows p.stanza _ _ c.args.ready c.requires.ready known c.in-Some-Some-Some.is-0 in
    online_ran p (server_view s.server) s.fast s.turns _ g.D.Disk.state _ _ _ _ _ _ g.C.Clock.state _ _ _ e.looks.nodes c.offline_order.result known shows c.back_up_online-made.result _ c.offline_order.ensures.how_is (record { started = e.started; turns = e.few }) e.beside e.only e.spool_beside
    (runs_online p.stanza _ _ _ _ _ _ _ _ _ _ e.does e.marks) e.taken
    (asks_backup c.back_up_online-made.result (server_view s.server) s.fast _ _ _ _ (c.deref.ensures ∙ c.requires.order) e.place e.sent)
    e.ended _ (rose_to _ _ _ (λ h. h) (λ h. h) (λ h. h) (λ h. h) (λ h. absurd h) (λ h. h) (λ h. absurd h) (λ h. absurd h) (λ h. absurd h)) e.cause
    (record { spool = e.spool_frame.opened; repo = e.frame.opened; tree = e.looks.opened })
    (all_later _ _ e.frame.later e.spool_frame.later e.looks.later e.server_later e.processes_later e.later (same_count _) (same_count _) (same_count _))
    e.least f.frame.opened f.frame.later f.later s.expires c.expire_next.result f.followed
