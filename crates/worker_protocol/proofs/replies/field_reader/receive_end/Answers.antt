use Rattle.std.proofs.Common.{arith, rules}
use Rattle.std.specs.Prelude.{IfErr}
use Rattle.std.specs.Int.{w64, to_be_bytes}
use Rattle.worker_protocol.specs.Takes.{Refutes, OffersMany}
use Rattle.worker_protocol.proofs.Prefixes.{takes_joins, lost_after, steady_after, many_after}
use Rattle.worker_protocol.proofs.replies.field_reader.receive_end.Goals as goal

pub returns-in_err-sum-clause-lost : goal.returns-in_err-sum-clause-lost
returns-in_err-sum-clause-lost g c =
    lost_after c.from_residual-in_err-sum.result (g.L.Link.link_state c.args.link.now) (g.L.Link.link_state c.receive_number.new.link) (g.L.Link.link_state c.receive_sum.new.link) _ c.args.before c.saturating_add.result c.in_ok-number.ensures.takes c.saturating_add.ensures (search rules)

pub returns-in_err-sum-clause-steady : goal.returns-in_err-sum-clause-steady
returns-in_err-sum-clause-steady g c =
    let known : IfErr c.from_residual-in_err-sum.result (λ e. Refutes e (OffersMany (g.L.Link.link_state c.receive_number.new.link) 20)) = search rules in
    steady_after _ _ _ known (λ o. many_after _ _ _ 28 20 c.in_ok-number.ensures.takes o (omega arith))

pub returns-clause-takes : goal.returns-clause-takes
returns-clause-takes g c = takes_joins _ _ _ (to_be_bytes w64 c.in_ok-number.number) c.in_ok-sum.sum.0 c.in_ok-number.ensures.takes c.in_ok-sum.ensures.takes
