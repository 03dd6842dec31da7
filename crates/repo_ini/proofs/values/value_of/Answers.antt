use Rattle.std.proofs.Common.{◌≡◌, sym, ◌∙◌, false}
use Rattle.std.proofs.lemmas.Slice.Eq.{bytes_eq-Decides}
use Rattle.serde_json.specs.View.{view}
use Rattle.serde_json.specs.Written.{has_float, compact_text}
use Rattle.repo_ini.proofs.ReadValues.{none_from, some_from}
use Rattle.repo_ini.proofs.values.value_of.Goals as goal

pub returns-else-is_memory : goal.returns-else-is_memory
returns-else-is_memory c = sym (none_from c.args.text.now (λ u. c.in-Err.ensures.err (λ m. cc (c.if-is_memory.ensures.1 m)) u))

pub returns-then-eq : goal.returns-then-eq
returns-then-eq c =
    let d = view c.in-Ok.value in
    let f : has_float d ≡ false = sym c.has_float.ensures ∙ c.if-has_float.false in
    let e = (bytes_eq-Decides c.as_slice.result.now c.args.text.now).0 (sym c.eq.ensures ∙ c.if-eq.true) in
    let same : compact_text d ≡ c.args.text.now = sym (c.in_ok-again.ensures.text f) ∙ sym c.as_slice.ensures.value ∙ e in
    sym (some_from c.args.text.now d c.in-Ok.ensures.ok.0 c.in-Ok.ensures.ok.1 f same)
