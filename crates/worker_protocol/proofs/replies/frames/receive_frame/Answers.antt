use Rattle.std.proofs.Common.{◌≡◌, ◌<◌, ◌++◌, ◌^◌, ◌∷◌, false, true, length, sym, subst, arith, rules, ◌∙◌}
use Rattle.std.specs.Prelude.{IfErr}
use Rattle.std.specs.Int.{w32, w64, to_be_bytes}
use Rattle.worker_protocol.specs.Takes.{Takes, Refutes, OffersMany}
use Rattle.worker_protocol.specs.Receives.{is_head}
use Rattle.worker_protocol.proofs.Prefixes.{lost_after, steady_after}
use Rattle.worker_protocol.proofs.Heads.{takes_frame, body_offered, head_refuted, form_refuted, end_head}
use Rattle.worker_protocol.proofs.replies.frames.receive_frame.Goals as goal

pub returns-then-not-is_head-clause-steady : goal.returns-then-not-is_head-clause-steady
returns-then-not-is_head-clause-steady g c =
    let small : c.in_ok-kind.length < 2 ^ 32 = search rules in
    let other : is_head c.in_ok-kind.kind c.in_ok-kind.length ≡ false = search rules in
    head_refuted _ _ c.in_ok-kind.kind c.in_ok-kind.length small c.in_ok-kind.ensures.takes other

pub returns-in_err-body-in-80-clause-lost : goal.returns-in_err-body-in-80-clause-lost
returns-in_err-body-in-80-clause-lost g c =
    lost_after c.from_residual-in_err-body-in-80.result (g.L.Link.link_state c.args.link.now) (g.L.Link.link_state c.receive_head.new.link) (g.L.Link.link_state c.receive_bytes.new.link) _ c.args.before c.saturating_add-before.result c.in_ok-kind.ensures.takes c.saturating_add-before.ensures (search rules)

pub returns-in_err-body-in-80-clause-steady : goal.returns-in_err-body-in-80-clause-steady
returns-in_err-body-in-80-clause-steady g c =
    let small : c.in_ok-kind.length < 2 ^ 32 = search rules in
    let known : IfErr c.from_residual-in_err-body-in-80.result (λ e. Refutes e (OffersMany (g.L.Link.link_state c.receive_head.new.link) c.in_ok-kind.length)) = search rules in
    steady_after _ _ _ known (λ o. body_offered _ _ c.in_ok-kind.kind c.in_ok-kind.length small c.in_ok-kind.ensures.takes o)

pub returns-in_err-length-in-69-clause-lost : goal.returns-in_err-length-in-69-clause-lost
returns-in_err-length-in-69-clause-lost g c =
    lost_after c.from_residual-in_err-length-in-69.result (g.L.Link.link_state c.args.link.now) (g.L.Link.link_state c.receive_head.new.link) (g.L.Link.link_state c.receive_end.new.link) _ c.args.before c.saturating_add-before.result c.in_ok-kind.ensures.takes c.saturating_add-before.ensures (search rules)

pub returns-in_err-length-in-69-clause-steady : goal.returns-in_err-length-in-69-clause-steady
returns-in_err-length-in-69-clause-steady g c =
    let small : c.in_ok-kind.length < 2 ^ 32 = search rules in
    let head : is_head c.in_ok-kind.kind c.in_ok-kind.length ≡ true = search rules in
    let size : c.in_ok-kind.length ≡ 28 = end_head c.in_ok-kind.kind c.in_ok-kind.length c.in-69.is head in
    let known : IfErr c.from_residual-in_err-length-in-69.result (λ e. Refutes e (OffersMany (g.L.Link.link_state c.receive_head.new.link) 28)) = search rules in
    steady_after _ _ _ known (λ o. subst (OffersMany (g.L.Link.link_state c.receive_head.new.link)) size (body_offered _ _ c.in_ok-kind.kind c.in_ok-kind.length small c.in_ok-kind.ensures.takes o))

pub returns-in_ok-body-in-80-clause-takes : goal.returns-in_ok-body-in-80-clause-takes
returns-in_ok-body-in-80-clause-takes g c =
    let head : Takes (g.L.Link.link_state c.args.link.now) (g.L.Link.link_state c.receive_head.new.link) (80 ∷ to_be_bytes w32 c.in_ok-kind.length) = subst (λ k. Takes (g.L.Link.link_state c.args.link.now) (g.L.Link.link_state c.receive_head.new.link) (k ∷ to_be_bytes w32 c.in_ok-kind.length)) c.in-80.is c.in_ok-kind.ensures.takes in
    takes_frame _ _ _ 80 c.in_ok-kind.length c.in_ok-body-in-80.body.items head c.in_ok-body-in-80.ensures.takes c.in_ok-body-in-80.ensures.length

pub returns-in_ok-length-in-69-clause-takes : goal.returns-in_ok-length-in-69-clause-takes
returns-in_ok-length-in-69-clause-takes g c =
    let is : is_head c.in_ok-kind.kind c.in_ok-kind.length ≡ true = search rules in
    let size : c.in_ok-kind.length ≡ 28 = end_head c.in_ok-kind.kind c.in_ok-kind.length c.in-69.is is in
    let head : Takes (g.L.Link.link_state c.args.link.now) (g.L.Link.link_state c.receive_head.new.link) (69 ∷ to_be_bytes w32 c.in_ok-kind.length) = subst (λ k. Takes (g.L.Link.link_state c.args.link.now) (g.L.Link.link_state c.receive_head.new.link) (k ∷ to_be_bytes w32 c.in_ok-kind.length)) c.in-69.is c.in_ok-kind.ensures.takes in
    let sum : length c.in_ok-length-in-69.sum.0 ≡ 20 = search rules in
    takes_frame _ _ _ 69 c.in_ok-kind.length (to_be_bytes w64 c.in_ok-length-in-69.length ++ c.in_ok-length-in-69.sum.0) head c.in_ok-length-in-69.ensures.takes (let n : length (to_be_bytes w64 c.in_ok-length-in-69.length ++ c.in_ok-length-in-69.sum.0) ≡ 28 = omega (arith, sum) in n ∙ sym size)

pub returns-then-not-is_head-clause-form : goal.returns-then-not-is_head-clause-form
returns-then-not-is_head-clause-form g c =
    let small : c.in_ok-kind.length < 2 ^ 32 = search rules in
    let other : is_head c.in_ok-kind.kind c.in_ok-kind.length ≡ false = search rules in
    form_refuted _ _ c.in_ok-kind.kind c.in_ok-kind.length small c.in_ok-kind.ensures.takes other
