use Rattle.std.proofs.Common.{map, string_bytes, sym, ap, ◌∙◌}
use Rattle.std.specs.Prelude.{List, ℕ}
use Rattle.base_devices.specs.Order.{is_before, are_after}
use Rattle.base_model.specs.Names.{label_text}
use Rattle.repo_info.proofs.EntryParts.{order_start, order_next, order_broken, order_end}
use Rattle.repo_info.proofs.entry_parts.are_in_order.Goals as goal

pub returns-then-not-is_before : goal.returns-then-not-is_before
returns-then-not-is_before c =
    let before = ap (λ (t : List ℕ). is_before t (string_bytes c.in_ok-text.text)) (sym c.as_bytes.ensures.value) ∙ ap (is_before c.as_bytes.result.now) (sym c.as_bytes-in-loop-label.ensures.value) ∙ sym c.is_before.ensures ∙ c.if-not-is_before.true in
    order_broken c.args.labels.now c.loop-label.label-index _ c.loop-label-test.true (string_bytes c.loop-label.last) (string_bytes c.in_ok-text.text) c.in_ok-text.ensures c.loop-label.invariant before

pub loop-label-init : goal.loop-label-init
loop-label-init c = order_start c.args.labels.now ∙ ap (λ (t : List ℕ). are_after t (map label_text c.args.labels.now)) (sym c.new-last.ensures.bytes)

pub loop-label-preserved : goal.loop-label-preserved
loop-label-preserved c =
    let before = ap (λ (t : List ℕ). is_before t (string_bytes c.in_ok-text.text)) (sym c.as_bytes.ensures.value) ∙ ap (is_before c.as_bytes.result.now) (sym c.as_bytes-in-loop-label.ensures.value) ∙ sym c.is_before.ensures ∙ c.if-not-is_before.false in
    order_next c.args.labels.now c.loop-label.label-index _ c.loop-label-test.true (string_bytes c.loop-label.last) (string_bytes c.in_ok-text.text) c.in_ok-text.ensures c.loop-label.invariant before

pub returns : goal.returns
returns c = order_end c.args.labels.now c.loop-label.label-index (string_bytes c.loop-label.last) c.loop-label-test.false c.loop-label.invariant
