use Rattle.std.proofs.Common.{◌≡◌, ℕ, List, None, map, sym, subst}
use Rattle.std.specs.Prelude.{IfSome}
use Rattle.std.proofs.lemmas.Result.{err_from_is_err_and, on_ok_weaker}
use Rattle.base_devices.specs.Links.{LinkState}
use Rattle.base_devices.specs.States.{ShowsSecond}
use Rattle.backup_sink.specs.declared.keeper.EndedItem.{EndedItem}
use Rattle.repo_stanza.specs.Pairs.{AgreeAt}
use Rattle.base_crash_lists.specs.Beside.{StaysBeside}
use Rattle.base_crash_lists.proofs.Stays.{beside_on}
use Rattle.backup_make.specs.declared.draft.Draft.{Draft}
use Rattle.backup_make.specs.Draft.{stanza_of, main_of}
use Rattle.backup_make.specs.Made.{OutcomeOf, StopsBy}
use Rattle.backup_make.specs.Staged.{IsStaged}
use Rattle.backup_make.specs.Touched.{TouchesOnly, IsOfBackup}
use Rattle.backup_make.proofs.After.{outcome_after}
use Rattle.backup_make.proofs.Labels.{apart}
use Rattle.backup_make.proofs.Outcomes.{nothing_listed, stops_as}
use Rattle.backup_make.proofs.Parts.{draft_is, published}
use Rattle.backup_make.proofs.Touched.{touched_on}
use Rattle.backup_make.proofs.backup_run.make.Goals as goal

pub returns-in_err-fetched-clause-made : goal.returns-in_err-fetched-clause-made
returns-in_err-fetched-clause-made g c =
    let p = err_from_is_err_and c.from_residual.result c.from_residual.ensures.1 in
    nothing_listed c.args.draft None (map g.L.Link.link_state c.args.pool.now.links.items) _ _ c.from_residual.result p.0 p.1
    (λ stop. ShowsSecond stop (g.C.Clock.state c.args.clock.now) (g.C.Clock.state c.args.clock.now)) c.fetch.ensures.unlisted

pub returns-in_err-closed-clause-made : goal.returns-in_err-closed-clause-made
returns-in_err-closed-clause-made g c =
    let p = err_from_is_err_and c.from_residual-in_err-closed.result c.from_residual-in_err-closed.ensures.1 in
    nothing_listed c.args.draft None (map g.L.Link.link_state c.args.pool.now.links.items) _ _ c.from_residual-in_err-closed.result p.0 p.1
    (λ stop. ShowsSecond stop (g.C.Clock.state c.args.clock.now) (g.C.Clock.state c.close.new.clock)) c.fetch.ensures.unlisted

pub returns-clause-made : goal.returns-clause-made
returns-clause-made g c =
    let draft = c.args.draft in
    let links = map g.L.Link.link_state c.args.pool.now.links.items in
    let b = (g.D.Disk.state c.fetch.new.d).view in
    let d = (g.D.Disk.state c.publish.new.d).view in
    let fetched = c.in_ok-fetched.fetched in
    let closed = c.in_ok-closed.closed in
    let Shown : ℕ → Type 0 = λ stop. ShowsSecond stop (g.C.Clock.state c.args.clock.now) (g.C.Clock.state c.close.new.clock) in
    let made = published draft fetched None closed c.in_ok-fetched.ensures.of c.in_ok-closed.ensures.of
    (λ (x : Draft) (o : _) (ends : List (List EndedItem)). (links : List LinkState) → IsStaged x o links ends b → (y : OutcomeOf c.publish.result x o links b d) × StopsBy (λ stop. stop ≡ closed.stop) c.publish.result x o links b d y) c.publish.ensures.stops in
    let y = made links c.in_ok-fetched.ensures.staged in
    outcome_after draft (apart draft c.requires.draft) (g.D.Disk.state c.args.d.now).view b d c.fetch.ensures.unlisted Shown c.publish.result None links
    (y.0, stops_as (λ stop. stop ≡ closed.stop) Shown (λ n is. subst Shown (sym is) c.in_ok-closed.ensures.shows) c.publish.result draft None links b d y.0 y.1)

pub returns-clause-beside : goal.returns-clause-beside
returns-clause-beside g c =
    let draft = c.args.draft in
    beside_on (stanza_of draft) _ _ _ c.fetch.ensures.beside
    (subst (λ (x : Draft). StaysBeside (stanza_of x) (g.D.Disk.state c.fetch.new.d).view (g.D.Disk.state c.publish.new.d).view)
    (draft_is draft c.in_ok-fetched.fetched None c.in_ok-closed.closed c.in_ok-fetched.ensures.of c.in_ok-closed.ensures.of) c.publish.ensures.beside)

pub returns-clause-alike : goal.returns-clause-alike
returns-clause-alike g c =
    let draft = c.args.draft in
    on_ok_weaker c.publish.result (λ h some. subst (λ (x : Draft). IfSome (g.D.Disk.state c.publish.new.d).view.now (AgreeAt (main_of x)))
    (draft_is draft c.in_ok-fetched.fetched None c.in_ok-closed.closed c.in_ok-fetched.ensures.of c.in_ok-closed.ensures.of) (h (c.fetch.ensures.unlisted.now.known some))) c.publish.ensures.alike

pub returns-in_err-closed-clause-only : goal.returns-in_err-closed-clause-only
returns-in_err-closed-clause-only g c = c.fetch.ensures.only

pub returns-clause-only : goal.returns-clause-only
returns-clause-only g c =
    let draft = c.args.draft in
    touched_on (IsOfBackup (stanza_of draft) draft.label) _ _ _ c.fetch.ensures.only
    (subst (λ (x : Draft). TouchesOnly (IsOfBackup (stanza_of x) x.label) (g.D.Disk.state c.fetch.new.d).view (g.D.Disk.state c.publish.new.d).view)
    (draft_is draft c.in_ok-fetched.fetched None c.in_ok-closed.closed c.in_ok-fetched.ensures.of c.in_ok-closed.ensures.of) c.publish.ensures.only)
