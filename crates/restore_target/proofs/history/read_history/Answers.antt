use Rattle.std.proofs.Common.{◌∙◌, ap, sym, subst, length, arith, append-nil}
use Rattle.repo_ini.specs.Form.{pieces}
use Rattle.repo_ini.specs.Reading.{rest_pieces}
use Rattle.repo_ini.proofs.FirstPiece.{length-pieces}
use Rattle.restore_target.specs.History.{AreAncestors, IsWrongAt}
use Rattle.restore_target.proofs.Histories.{passed_right, over, next_right, beyond, here, right_from, right_after, wrong_from, wrong_after, at_end}
use Rattle.restore_target.proofs.history.read_history.Goals as goal

pub overflow_add-number : goal.overflow_add-number
overflow_add-number c =
    let most = length-pieces c.args.bytes.now in
    let is = ap length (ap rest_pieces c.in-Some.is ∙ c.next_piece.ensures) in
    let count = c.loop-rest.invariant.count in
    omega arith

pub returns-in_default-next_ancestor-clause-cause : goal.returns-in_default-next_ancestor-clause-cause
returns-in_default-next_ancestor-clause-cause c =
    let own = c.args.timeline in
    let least = c.loop-rest.least in
    let line = c.next_piece.result.0.now in
    let rest = rest_pieces c.next_piece.result.1 in
    let is = ap rest_pieces c.in-Some.is ∙ c.next_piece.ensures in
    let told = sym c.is_passed.ensures ∙ c.if-not-is_passed.true in
    let first = here own least c.ranges.timeline.fits line rest told c.in_default-next_ancestor.ensures.none in
    wrong_from own least line rest (rest_pieces c.loop-rest.rest) is c.loop-rest.number (IsWrongAt own 0 (pieces c.args.bytes.now)) c.loop-rest.invariant.wrong 1 first

pub loop-rest-preserved-in_ok-push : goal.loop-rest-preserved-in_ok-push
loop-rest-preserved-in_ok-push c =
    let own = c.args.timeline in
    let bytes = c.args.bytes.now in
    let least = c.loop-rest.least in
    let fits = c.ranges.timeline.fits in
    let line = c.next_piece.result.0.now in
    let rest = rest_pieces c.next_piece.result.1 in
    let before = rest_pieces c.loop-rest.rest in
    let is = ap rest_pieces c.in-Some.is ∙ c.next_piece.ensures in
    let told = sym c.is_passed.ensures ∙ c.if-not-is_passed.true in
    let a = c.in-Some-next_ancestor.ancestor in
    let next = c.in-Some-next_ancestor.ensures.value in
    let longer = ap length is in
    let count = c.loop-rest.invariant.count in
    record {
      right = λ xs h. right_after own least line rest before is c.loop-rest.found.items c.push.new.self.items a c.in_ok-push.ensures.items (AreAncestors own 0 (pieces bytes)) c.loop-rest.invariant.right xs (next_right own least fits line rest a told next xs h);
      wrong = λ n w. wrong_after own least line rest before is c.loop-rest.number (IsWrongAt own 0 (pieces bytes)) c.loop-rest.invariant.wrong n (beyond own least fits line rest a told next n w);
      count = omega arith;
    }

pub loop-rest-preserved : goal.loop-rest-preserved
loop-rest-preserved c =
    let own = c.args.timeline in
    let bytes = c.args.bytes.now in
    let least = c.loop-rest.least in
    let fits = c.ranges.timeline.fits in
    let line = c.next_piece.result.0.now in
    let rest = rest_pieces c.next_piece.result.1 in
    let before = rest_pieces c.loop-rest.rest in
    let is = ap rest_pieces c.in-Some.is ∙ c.next_piece.ensures in
    let passed = sym c.is_passed.ensures ∙ c.if-not-is_passed.false in
    let longer = ap length is in
    let count = c.loop-rest.invariant.count in
    record {
      right = λ xs h. right_from own least line rest before is c.loop-rest.found.items (AreAncestors own 0 (pieces bytes)) c.loop-rest.invariant.right xs (passed_right own least fits line rest passed xs h);
      wrong = λ n w. wrong_after own least line rest before is c.loop-rest.number (IsWrongAt own 0 (pieces bytes)) c.loop-rest.invariant.wrong n (over own least fits line rest passed n w);
      count = omega arith;
    }

pub returns-clause-ancestors : goal.returns-clause-ancestors
returns-clause-ancestors c =
    subst (AreAncestors c.args.timeline 0 (pieces c.args.bytes.now)) (append-nil c.loop-rest.found.items)
    (c.loop-rest.invariant.right _ (at_end c.args.timeline c.loop-rest.least c.loop-rest.rest c.in_default.is))
