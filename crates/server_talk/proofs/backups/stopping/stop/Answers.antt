use Rattle.std.proofs.Common.{Err, ap, arith, sym, subst, Option, List, ℕ}
use Rattle.server_talk.specs.Rows.{Stop}
use Rattle.server_talk.specs.Views.{session_view, stopped_view}
use Rattle.server_talk.specs.Telling.{finished_stop, ShowsStop}
use Rattle.server_talk.proofs.Parted.{part_stop, misses_stop}
use Rattle.server_talk.proofs.Replies.{stop_cause, stop_known}
use Rattle.server_talk.proofs.backups.stopping.stop.Goals as goal

pub returns-in-Err-clause-cause : goal.returns-in-Err-clause-cause
returns-in-Err-clause-cause g c = part_stop c.args.backup _ _ _ _ _ c.part.ensures.fault
    (stop_cause (session_view c.args.backup.session) (g.V.ServerConnection.state c.args.connection.now).pending _ c.in-Err.fault
    c.in-Err.ensures.read (λ h. omega (arith, c.in-Err.ensures.cause.failed (ap Err h), c.part.ensures.later)))

pub returns-in_ok-close-in-Ok-judge-clause-known : goal.returns-in_ok-close-in-Ok-judge-clause-known
returns-in_ok-close-in-Ok-judge-clause-known g c =
    let old = (g.V.ServerConnection.state c.args.connection.now).pending in
    let following = session_view c.stop_backup.new.session in
    let known = stop_known (session_view c.args.backup.session) following old _ (stopped_view c.in-Ok.known) c.in-Ok.ensures.read in
    subst (λ (o : Option (List ℕ)). ShowsStop c.args.backup old o (finished_stop c.in-Ok-judge.stopped)) (sym c.close.ensures.pending)
    (subst (λ (s : Stop). ShowsStop c.args.backup old (g.V.ServerConnection.state c.stop_backup.new.connection).pending s)
    c.in-Ok-judge.ensures.value.0 (following, known))

pub returns-in-Err-judge-clause-cause : goal.returns-in-Err-judge-clause-cause
returns-in-Err-judge-clause-cause g c =
    let old = (g.V.ServerConnection.state c.args.connection.now).pending in
    let following = session_view c.stop_backup.new.session in
    let known = stop_known (session_view c.args.backup.session) following old _ (stopped_view c.in-Ok.known) c.in-Ok.ensures.read in
    part_stop c.args.backup _ _ _ _ _ c.part-in-Err-judge.ensures.fault
    (misses_stop c.args.backup _ _ _ (stopped_view c.in-Ok.known) c.in-Err-judge.fault
    (subst (λ (o : Option (List ℕ)). ShowsStop c.args.backup old o (stopped_view c.in-Ok.known))
    (sym c.part-in-Err-judge.ensures.pending) (following, known)) c.in-Err-judge.ensures.cause)
