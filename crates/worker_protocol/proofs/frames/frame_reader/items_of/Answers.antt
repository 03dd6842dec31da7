use Rattle.std.proofs.Common.{◌≡◌, ◌++◌, ◌∷◌, []}
use Rattle.std.proofs.lemmas.Result.{err_from_is_err_and}
use Rattle.std.proofs.lemmas.List.{map_push}
use Rattle.worker_protocol.specs.Views.{item_of, items_of, rest_of}
use Rattle.worker_protocol.specs.Reading.{items_at}
use Rattle.worker_protocol.proofs.Loop.{goes_on, ends, is_done}
use Rattle.worker_protocol.proofs.frames.frame_reader.items_of.Goals as goal

pub returns-in_err-item-clause-value : goal.returns-in_err-item-clause-value
returns-in_err-item-clause-value c =
    let p = err_from_is_err_and c.from_residual.result c.from_residual.ensures.1 in
    rw (p.1, p.2) (ends c.in_err-item.field-0.0 (items_of c.loop.items.items) c.args.count c.loop.counter c.args.end (rest_of c.loop.here) (items_at c.args.count c.args.end (rest_of c.args.rest)) c.loop-test.true c.in_err-item.ensures.value c.loop.invariant.value)

pub loop-preserved : goal.loop-preserved
loop-preserved c =
    let n = c.in_ok-item.item in
    let e : items_of c.push.new.self.items ≡ items_of c.loop.items.items ++ item_of n ∷ [] = rw c.in_ok-push.ensures.items (map_push _ c.loop.items.items n) in
    record {
      value = rw e (goes_on (items_of c.loop.items.items) c.args.count c.loop.counter c.args.end (rest_of c.loop.here) (item_of n) (rest_of c.in_ok-item.after) (items_at c.args.count c.args.end (rest_of c.args.rest)) c.loop-test.true c.in_ok-item.ensures.value c.loop.invariant.value);
      left = c.in_ok-item.ensures.left;
    }

pub returns-clause-value : goal.returns-clause-value
returns-clause-value c = is_done (items_of c.loop.items.items) c.args.count c.loop.counter c.args.end (rest_of c.loop.here) (items_at c.args.count c.args.end (rest_of c.args.rest)) c.loop-test.false c.loop.invariant.value
