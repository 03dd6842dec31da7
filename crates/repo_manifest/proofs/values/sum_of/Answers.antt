use Rattle.std.proofs.Common.{◌≡◌, ◌≢◌, ℕ, List, IfNone, Option, Some, None, sym, ap, ◌∙◌}
use Rattle.std.specs.Prelude.{option_map, IfSome}
use Rattle.serde_json.specs.Data.{Data, null, boolean, number, string, array, object}
use Rattle.serde_json.specs.View.{view}
use Rattle.serde_json.specs.Find.{as_str}
use Rattle.base_text.specs.declared.sum.Sum.{Sum}
use Rattle.base_text.specs.Sum.{IsSum, sum_text, read_sum}
use Rattle.base_text.proofs.Sums.{read-sum_text, read_sum-is}
use Rattle.repo_manifest.proofs.values.sum_of.Goals as goal

same_text : (s t : List ℕ) → ◌≡◌ {A = Option (List ℕ)} (Some s) (Some t) → s ≡ t
same_text s t e = cc

text_of : (d : Data) (text : List ℕ) → as_str d ≡ Some text → d ≡ string text
text_of null text e = cc e
text_of (boolean b) text e = cc e
text_of (number n) text e = cc e
text_of (string s) text e = ap (λ (t : List ℕ). string t) (same_text s text e)
text_of (array ds) text e = cc e
text_of (object ms) text e = cc e

none : (o : Option Sum) (d : Data) (text : List ℕ) → Some text ≡ as_str d → option_map (λ (s : Sum). s.0) o ≡ read_sum text → IfNone o ((s : List ℕ) → IsSum s → d ≢ string (sum_text s))
none (Some x) d text at is = tt
none None d text at is = λ s h e.
    let same = same_text text (sum_text s) (at ∙ ap as_str e) in
    let x : ◌≡◌ {A = Option (List ℕ)} None (Some s) = is ∙ ap read_sum same ∙ read-sum_text s h in
    cc x

pub returns-clause-none : goal.returns-clause-none
returns-clause-none c = none c.read.result (view c.args.value.now) c.in_ok-text.text.now c.in_ok-text.ensures (c.read.ensures ∙ ap read_sum c.as_bytes.ensures.value)

some : (o : Option Sum) (d : Data) (text : List ℕ) → Some text ≡ as_str d → option_map (λ (s : Sum). s.0) o ≡ read_sum text → IfSome o (λ (s : Sum). (d ≡ string (sum_text s.0)) × IsSum s.0)
some None d text at is = tt
some (Some x) d text at is = let p = read_sum-is text x.0 (sym is) in (text_of d text (sym at) ∙ ap (λ (t : List ℕ). string t) p.0, p.1)

pub returns-clause-some : goal.returns-clause-some
returns-clause-some c = some c.read.result (view c.args.value.now) c.in_ok-text.text.now c.in_ok-text.ensures (c.read.ensures ∙ ap read_sum c.as_bytes.ensures.value)
