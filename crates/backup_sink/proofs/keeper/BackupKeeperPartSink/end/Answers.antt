use Rattle.std.proofs.Common.{sym, subst, ap, map, string_bytes}
use Rattle.std.proofs.lemmas.Result.{on_ok_weaker}
use Rattle.worker_protocol.specs.Views.{job_of}
use Rattle.worker_protocol.specs.PartSinkState.{Ends}
use Rattle.worker_protocol.specs.Lists.{ChangesAt}
use Rattle.backup_sink.specs.Keeping.{keeps, Agrees}
use Rattle.backup_sink.specs.Keeper.{names_of, progress_in, folder_of, state_of}
use Rattle.backup_sink.proofs.JobItems.{model}
use Rattle.backup_sink.proofs.Calls.{end_done, changed}
use Rattle.backup_sink.proofs.keeper.BackupKeeperPartSink.end.Goals as goal

pub returns-clause-agrees : goal.returns-clause-agrees
returns-clause-agrees g c =
    let k = c.args.self.now in
    let now = (g.D.Disk.state c.args._on.now).view.now in
    let here = model (names_of k) (progress_in k) now c.args.job c.requires.next.kept c.requires.next.kept_is in
    on_ok_weaker c.close.result (λ states. subst (λ ns. Agrees (map string_bytes ns) (progress_in c.close.new.self) now) (sym c.close.ensures.same.names)
    (end_done (folder_of k) (names_of k) (progress_in k) (progress_in c.close.new.self) now c.args.job here.0 c.args.how.now k.plan c.requires.agrees here.2 here.1 here.3 states).1) c.close.ensures.states

pub returns-clause-kept : goal.returns-clause-kept
returns-clause-kept g c =
    let k = c.args.self.now in
    let now = (g.D.Disk.state c.args._on.now).view.now in
    let here = model (names_of k) (progress_in k) now c.args.job c.requires.next.kept c.requires.next.kept_is in
    changed c.close.result (Ends c.args.how.now) c.args.job (state_of k now) (state_of c.close.new.self now) c.close.ensures.none c.close.ensures.faults (ap (map job_of) c.close.ensures.same.jobs)
    (on_ok_weaker c.close.result (λ states. subst (λ ns. ChangesAt (Ends c.args.how.now) (keeps (names_of k) (progress_in k) now) (keeps (map string_bytes ns) (progress_in c.close.new.self) now) c.args.job) (sym c.close.ensures.same.names)
    (end_done (folder_of k) (names_of k) (progress_in k) (progress_in c.close.new.self) now c.args.job here.0 c.args.how.now k.plan c.requires.agrees here.2 here.1 here.3 states).0) c.close.ensures.states)
