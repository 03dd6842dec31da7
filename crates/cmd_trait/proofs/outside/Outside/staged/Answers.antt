use Rattle.std.proofs.Common.{◌≡◌, ◌∙◌, ap, false, rules}
use Rattle.cmd_trait.specs.Code.{place_of}
use Rattle.cmd_trait.proofs.Bracketing.{alone_brackets, brackets_on, brackets_released}
use Rattle.cmd_trait.proofs.CallEffects.{did_from, unopened, starved, did_released}
use Rattle.cmd_trait.proofs.Carried.{unopened_brackets}
use Rattle.cmd_trait.proofs.outside.Outside.staged.Goals as goal

pub returns-in_err-open-clause-did : goal.returns-in_err-open-clause-did
returns-in_err-open-clause-did g c =
    let e = c.in_err-open.ensures in
    unopened (place_of c.args.places.now) (g.X.Command.meaning c.args.command.now) (g.X.Command.lawful c.args.command.now) _ _ c.from_residual.result c.in_err-open.field-0.0 c.from_residual.ensures.1 e.read e.cause

pub returns-in_err-open-clause-brackets : goal.returns-in_err-open-clause-brackets
returns-in_err-open-clause-brackets g c =
    let e = c.in_err-open.ensures in
    unopened_brackets (place_of c.args.places.now) (g.X.Command.meaning c.args.command.now) (g.X.Command.lawful c.args.command.now) _ _ c.from_residual.result c.in_err-open.field-0.0 c.from_residual.ensures.1 e.read.repo (ap (λ s. (g.K.Locks.state s.locks).ever_taken) e.rest) e.places

pub returns-in_err-open-clause-waits : goal.returns-in_err-open-clause-waits
returns-in_err-open-clause-waits g c = λ off.
    let e = c.in_err-open.ensures in
    (e.spool ((g.X.Command.lawful c.args.command.now).no_spool off), ap (λ o. o.processes) e.rest)

pub returns-then-not-is_staged-clause-did : goal.returns-then-not-is_staged-clause-did
returns-then-not-is_staged-clause-did g c =
    did_from (place_of c.args.places.now) (g.X.Command.meaning c.args.command.now) (g.X.Command.lawful c.args.command.now) _ _ _ c.alone.result c.in_ok-open.ensures.read c.alone.ensures.did

pub returns-then-not-is_staged-clause-brackets : goal.returns-then-not-is_staged-clause-brackets
returns-then-not-is_staged-clause-brackets g c =
    let e = c.in_ok-open.ensures in
    let m = g.X.Command.meaning c.args.command.now in
    let off : m.staged ≡ false = search rules in
    alone_brackets (place_of c.args.places.now) m (g.X.Command.lawful c.args.command.now) off _ _ _ c.alone.result e.read.repo (ap (λ s. (g.K.Locks.state s.locks).ever_taken) e.rest) e.places e.opened c.alone.ensures.places (ap (λ s. (g.K.Locks.state s.locks).ever_taken) c.alone.ensures.rest)

pub returns-then-not-is_staged-clause-waits : goal.returns-then-not-is_staged-clause-waits
returns-then-not-is_staged-clause-waits g c = λ none.
    let e = c.in_ok-open.ensures in
    let w = c.alone.ensures.waits none in
    (w.0 ∙ e.spool ((g.X.Command.lawful c.args.command.now).no_spool none), w.1 ∙ ap (λ o. o.processes) e.rest)

pub returns-in_err-names-clause-did : goal.returns-in_err-names-clause-did
returns-in_err-names-clause-did g c =
    let p = place_of c.args.places.now in
    let m = g.X.Command.meaning c.args.command.now in
    let laws = g.X.Command.lawful c.args.command.now in
    did_from p m laws _ _ _ c.from_residual-in_err-names.result c.in_ok-open.ensures.read (starved p m laws _ c.from_residual-in_err-names.result c.from_residual-in_err-names.ensures.1)

pub returns-clause-did : goal.returns-clause-did
returns-clause-did g c =
    let p = place_of c.args.places.now in
    let m = g.X.Command.meaning c.args.command.now in
    let laws = g.X.Command.lawful c.args.command.now in
    let r = c.release_locks.ensures in
    did_from p m laws _ _ _ c.locked-ended.result c.in_ok-open.ensures.read (did_released p m laws _ _ _ c.locked-ended.result r.ever_taken r.refusals r.faults c.locked-ended.ensures.did)

pub returns-clause-brackets : goal.returns-clause-brackets
returns-clause-brackets g c =
    let p = place_of c.args.places.now in
    let m = g.X.Command.meaning c.args.command.now in
    let laws = g.X.Command.lawful c.args.command.now in
    let e = c.in_ok-open.ensures in
    let w = c.locked-ended.ensures in
    brackets_released p m laws _ _ _ c.locked-ended.result c.release_locks.ensures.ever_taken
    (brackets_on p m laws _ _ _ c.locked-ended.result e.read.repo (ap (λ s. (g.K.Locks.state s.locks).ever_taken) e.rest) e.places e.opened w.places w.ever_taken w.only)

pub returns-clause-waits : goal.returns-clause-waits
returns-clause-waits g c = λ none.
    let e = c.in_ok-open.ensures in
    let w = c.locked-ended.ensures.waits none in
    (w.0 ∙ e.spool ((g.X.Command.lawful c.args.command.now).no_spool none), w.1 ∙ ap (λ o. o.processes) e.rest)
