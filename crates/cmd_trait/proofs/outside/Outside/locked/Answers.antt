use Rattle.std.proofs.Common.{◌∙◌, inl, inr, refl, ap, sym, subst, arith}
use Rattle.cmd_types.specs.declared.stages.plan.Plan.{Plan}
use Rattle.cmd_setup.specs.Taking.{MayTake}
use Rattle.archive_store.specs.Still.{still_self, rests_none}
use Rattle.cmd_trait.specs.Code.{place_of}
use Rattle.cmd_trait.proofs.Ends.{rose_to, all_later}
use Rattle.cmd_trait.proofs.CallEffects.{did_from, locks_read, not_taken, unprepared, worked_own}
use Rattle.cmd_trait.proofs.outside.Outside.locked.Goals as goal

pub returns-in_err-take_locks-clause-did : goal.returns-in_err-take_locks-clause-did
returns-in_err-take_locks-clause-did g c =
    let e = c.in_err-take_locks.ensures in
    not_taken (place_of c.args.places.now) (g.X.Command.meaning c.args.command.now) (g.X.Command.lawful c.args.command.now) c.args.plan.now c.requires.plan _ _ c.from_residual.result c.in_err-take_locks.field-0.0 c.from_residual.ensures.1 e.refusals e.later e.cause

pub returns-in_err-take_locks-clause-only : goal.returns-in_err-take_locks-clause-only
returns-in_err-take_locks-clause-only g c = inr (
  subst (λ (x : Plan). MayTake x c.args.places.now.lock_folder.now c.args.places.now.stanza.now (g.K.Locks.state c.args.self.now.locks).ever_taken (g.K.Locks.state c.take_locks.new.locks).ever_taken) c.requires.plan c.in_err-take_locks.ensures.may,
  still_self (g.D.Disk.state c.args.self.now.repo).view,
)

pub returns-in_err-ready-clause-did : goal.returns-in_err-ready-clause-did
returns-in_err-ready-clause-did g c =
    let l = c.in_ok-take_locks.ensures in
    let e = c.in_err-ready.ensures in
    let k = g.K.Locks.state c.take_locks.new.locks in
    let p = place_of c.args.places.now in
    let m = g.X.Command.meaning c.args.command.now in
    let laws = g.X.Command.lawful c.args.command.now in
    did_from p m laws _ _ _ c.from_residual-in_err-ready.result (locks_read _ (record { ever_taken = k.ever_taken; refusals = k.refusals; faults = k.faults }) l.refusals l.later)
    (unprepared p m laws c.args.plan.now c.requires.plan _ _ c.from_residual-in_err-ready.result c.in_err-ready.field-0.0 c.from_residual-in_err-ready.ensures.1 e.quiet e.synced (rests_none _) refl e.leaves e.looks.nodes refl refl refl refl
    (all_later _ _ e.frame.later (omega arith) e.looks.later (omega arith) (omega arith) (omega arith) (omega arith) (omega arith) (omega arith)) _
    (rose_to _ _ _ (λ h. h) (λ h. absurd h) (λ h. h) (λ h. absurd h) (λ h. absurd h) (λ h. absurd h) (λ h. absurd h) (λ h. absurd h) (λ h. absurd h)) e.cause)

pub returns-in_err-ready-clause-tree : goal.returns-in_err-ready-clause-tree
returns-in_err-ready-clause-tree g c = λ none. let is = c.requires.plan in
    c.in_err-ready.ensures.unread (ap (λ (x : Plan). x.control) is ∙ (g.X.Command.lawful c.args.command.now).no_control (sym (ap (λ (x : Plan). x.folder) is) ∙ none))

pub returns-clause-did : goal.returns-clause-did
returns-clause-did g c =
    let l = c.in_ok-take_locks.ensures in
    let e = c.in_ok-ready.ensures in
    let p = place_of c.args.places.now in
    let m = g.X.Command.meaning c.args.command.now in
    let laws = g.X.Command.lawful c.args.command.now in
    did_from p m laws _ _ _ c.own_end.result (locks_read _ _ l.refusals l.later)
    (worked_own p m laws c.args.plan.now c.requires.plan c.requires.staged _ _ _ c.run.result c.own_end.result c.own_end.ensures refl e.looks.nodes e.frame.later e.looks.later e.quiet e.begun e.heals e.healed e.lasts e.synced e.leaves c.run.ensures.ran)

pub returns-clause-tree : goal.returns-clause-tree
returns-clause-tree g c = λ none. let is = c.requires.plan in
    let folder = sym (ap (λ (x : Plan). x.folder) is) ∙ none in
    c.run.ensures.tree folder ∙ c.in_ok-ready.ensures.unread (ap (λ (x : Plan). x.control) is ∙ (g.X.Command.lawful c.args.command.now).no_control folder)
