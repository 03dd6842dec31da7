use Rattle.std.proofs.Common.{◌≡◌, ◌&&◌, Bool, true, false, take, Err, arith, sym, ap, ap₂, ◌∙◌}
use Rattle.repo_ini.specs.Views.{settings_of}
use Rattle.options_read.specs.Faults.{option_repeated}
use Rattle.options_read.specs.Settings.{is_set}
use Rattle.options_read.specs.Words.{is_single}
use Rattle.options_read.proofs.Repeats.{Represents, known_twice, known_once, set_at, and_false, not_false, not_true}
use Rattle.options_read.proofs.rules.none_twice.Goals as goal
use Rattle.options_read.proofs.rules.none_twice.Goals.{else-not-is_new-via-then-not-is_new+else-is_single, else-not-is_new-via-else-not-is_new}

pub returns-then-is_single : goal.returns-then-is_single
returns-then-is_single c =
    let section = c.as_str.result.now in
    let key = c.as_str-in-loop-line.result.now in
    let represents : Represents c.args.lines.now c.loop-line.line-index c.line-item.result section key = record { within = omega arith; line = c.line-item.is; section_is = c.as_str.ensures.value; key_is = c.as_str-in-loop-line.ensures.value } in
    let model : is_single c.args.table.now key ≡ true = ap (is_single c.args.table.now) (c.as_str-in-loop-line.ensures.value ∙ sym c.as_str-then-not-is_new.ensures.value) ∙ sym c.is_single.ensures ∙ c.if-is_single.true in
    let set : is_set (settings_of (take c.loop-line.line-index c.args.lines.now)) section key ≡ true = sym (c.loop-line.invariant.seen section key) ∙ not_false _ (sym c.in_ok-is_new.ensures.added ∙ c.if-not-is_new.true) in
    known_twice c.args.table.now c.args.lines.now c.loop-line.line-index c.line-item.result section key _ represents c.loop-line.invariant.read (ap₂ (λ (a b : Bool). a && b) model set)
    ∙ ap (λ name. Err (option_repeated name)) (sym c.in_ok-clone.ensures.cases)

pub loop-line-preserved : goal.loop-line-preserved
loop-line-preserved c =
    let table = c.args.table.now in
    let section = c.as_str.result.now in
    let key = c.as_str-in-loop-line.result.now in
    let before = settings_of (take c.loop-line.line-index c.args.lines.now) in
    let represents : Represents c.args.lines.now c.loop-line.line-index c.line-item.result section key = record { within = omega arith; line = c.line-item.is; section_is = c.as_str.ensures.value; key_is = c.as_str-in-loop-line.ensures.value } in
    let once : (is_single table key && is_set before section key) ≡ false = elim c.else-not-is_new.branch [
      | else-not-is_new-via-then-not-is_new+else-is_single w ↦ ap (λ b. b && is_set before section key) (ap (is_single table) (c.as_str-in-loop-line.ensures.value ∙ sym w.as_str-then-not-is_new.ensures.value) ∙ sym w.is_single.ensures ∙ w.if-is_single.false)
      | else-not-is_new-via-else-not-is_new w ↦ ap (λ b. is_single table key && b) (sym (c.loop-line.invariant.seen section key) ∙ not_true _ (sym c.in_ok-is_new.ensures.added ∙ w.if-not-is_new.false)) ∙ and_false _
    ] in
    record {
      read = known_once table c.args.lines.now c.loop-line.line-index c.line-item.result section key _ represents c.loop-line.invariant.read once;
      seen = λ q r. set_at c.args.lines.now c.loop-line.line-index c.line-item.result section key q r _ _ represents (c.in_ok-is_new.ensures.updates.0 (record { ref_ptr = (0, 0); now = q }, record { ref_ptr = (0, 0); now = r })) (c.loop-line.invariant.seen q r);
    }
