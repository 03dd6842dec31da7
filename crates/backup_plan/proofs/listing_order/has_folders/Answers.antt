use Rattle.std.proofs.Common.{◌≡◌, ◌+◌, take, drop, get_or, sym, ◌∙◌}
use Rattle.std.proofs.lemmas.List.{get_or_default}
use Rattle.backup_plan.proofs.Lists.{no_truth, cut}
use Rattle.backup_plan.proofs.listing_order.has_folders.Goals as goal

pub returns-then-not-is_among : goal.returns-then-not-is_among
returns-then-not-is_among c =
    let bytes = c.as_bytes-bytes.result.now in
    let i = c.loop-i.i in
    let slash : get_or bytes i 47 ≡ 47 = get_or_default bytes i 47 0 c.loop-i-test.true ∙ c.if-bytes-i-eq47.true in
    let is = sym c.as_bytes-bytes.ensures.value ∙ cut bytes i c.loop-i-test.true (sym slash) in
    (λ t. no_truth t, λ has. c.if-not-is_among.ensures.1 (has (take i bytes) (drop (i + 1) bytes) is))
