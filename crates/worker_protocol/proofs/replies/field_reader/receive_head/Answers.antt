use Rattle.std.proofs.Common.{[], ◌∷◌, arith, rules}
use Rattle.std.specs.Prelude.{IfErr}
use Rattle.std.specs.Int.{w32, to_be_bytes}
use Rattle.worker_protocol.specs.Takes.{Refutes, OffersMany}
use Rattle.worker_protocol.proofs.Prefixes.{takes_joins, lost_after, steady_after, many_after}
use Rattle.worker_protocol.proofs.replies.field_reader.receive_head.Goals as goal

pub returns-in_err-length-clause-lost : goal.returns-in_err-length-clause-lost
returns-in_err-length-clause-lost g c =
    lost_after c.from_residual-in_err-length.result (g.L.Link.link_state c.args.link.now) (g.L.Link.link_state c.receive_byte.new.link) (g.L.Link.link_state c.receive_length.new.link) _ c.args.before c.saturating_add.result c.in_ok-kind.ensures.takes c.saturating_add.ensures (search rules)

pub returns-in_err-length-clause-steady : goal.returns-in_err-length-clause-steady
returns-in_err-length-clause-steady g c =
    let known : IfErr c.from_residual-in_err-length.result (λ e. Refutes e (OffersMany (g.L.Link.link_state c.receive_byte.new.link) 4)) = search rules in
    steady_after _ _ _ known (λ o. many_after _ _ _ 5 4 c.in_ok-kind.ensures.takes o (omega arith))

pub returns-clause-takes : goal.returns-clause-takes
returns-clause-takes g c = takes_joins _ _ _ (c.in_ok-kind.kind ∷ []) (to_be_bytes w32 c.in_ok-length.length) c.in_ok-kind.ensures.takes c.in_ok-length.ensures.takes
