use Rattle.std.proofs.Common.{ℕ, IfOk, IfErr, refl, arith, subst}
use Rattle.cmd_types.specs.declared.stages.plan.SyncScope.TheVariants.{Whole}
use Rattle.cmd_types.specs.Halts.{HaltCause}
use Rattle.cmd_types.specs.Reached.{reached_by}
use Rattle.cmd_types.specs.DisksEffect.{RepoEffect}
use Rattle.cmd_rehearse.specs.Causes.{Fails, RehearseCause}
use Rattle.cmd_rehearse.specs.Commands.{rehearsed, keeps_one}
use Rattle.cmd_rehearse.specs.Faults.{rehearse_early}
use Rattle.cmd_rehearse.specs.Rehearsing.{IsRehearsed}
use Rattle.cmd_trait.specs.Code.{place_of}
use Rattle.cmd_trait.proofs.Ends.{rose_to, all_later}
use Rattle.run_rehearse.proofs.PartEffects.{rehearsed_ran}
use Rattle.run_rehearse.proofs.rehearsal.RehearseCommand.run.Goals as goal

pub returns-clause-ran : goal.returns-clause-ran
returns-clause-ran g c =
    let e = c.rehearse.ensures in
    let l = e.lives in
    let is = c.requires.order.1 in
    let stanza = c.args.places.now.stanza.now in
    let b = c.args.outside.now in
    let a = g.D.Disk.state b.repo in
    let d = g.D.Disk.state c.rehearse.new.repo in
    let t = g.T.DataFolder.state b.tree in
    let u = g.T.DataFolder.state c.rehearse.new.tree in
    let failed = Fails a.faults d.faults t.faults u.faults (g.C.Clock.state b.clock).faults (g.C.Clock.state c.rehearse.new.clock).faults in
    rehearsed_ran (place_of c.args.places.now) c.args.self.now.number _ _ refl refl refl c.rehearse.result l.0 l.1 l.2
    (subst (λ (n : ℕ). RepoEffect Whole stanza (rehearsed n keeps_one l.0 l.1 l.2) (reached_by rehearse_early c.rehearse.result) a.view d.view) is l.3)
    (subst (λ (n : ℕ). IfOk c.rehearse.result (IsRehearsed stanza n l.0 l.1 l.2 a.view.now d.view.now u.nodes)) is l.4)
    e.beside e.nodes e.left failed (λ h. h) (rose_to _ _ _ (λ h. h) (λ h. absurd h) (λ h. h) (λ h. absurd h) (λ h. absurd h) (λ h. h) (λ h. absurd h) (λ h. absurd h) (λ h. absurd h))
    (subst (λ (n : ℕ). IfErr c.rehearse.result (HaltCause (RehearseCause stanza n a.view.now t.nodes) failed)) is e.cause)
    (record { spool = refl; repo = e.frame.opened; tree = e.folder.opened })
    (all_later _ _ e.frame.later (omega arith) e.folder.later (omega arith) (omega arith) e.later (omega arith) (omega arith) (omega arith))
