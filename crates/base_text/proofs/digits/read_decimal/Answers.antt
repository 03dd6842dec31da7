use Rattle.std.proofs.Common.{◌≡◌, sym, ap, ◌∙◌, subst, true, arith}
use Rattle.std.specs.Str.{IsUtf8}
use Rattle.base_text.specs.Decimal.{is_plain}
use Rattle.base_text.proofs.Decimals.{is_plain-decimal, IsUtf8-decimal, read_is, read_none}
use Rattle.base_text.proofs.digits.read_decimal.Goals as goal

pub returns-in_default-clause-none : goal.returns-in_default-clause-none
returns-in_default-clause-none c n h e = c.in_default.ensures.cases.0 (subst IsUtf8 (sym e) (IsUtf8-decimal n h))

pub returns-then-not-is_plain-clause-none : goal.returns-then-not-is_plain-clause-none
returns-then-not-is_plain-clause-none c n h e =
    let p : is_plain c.args.text.now ≡ true = ap is_plain e ∙ is_plain-decimal n h in
    grind (arith, p)

pub returns-clause-value : goal.returns-clause-value
returns-clause-value c =
    let t = c.in-Ok.ensures.cases.0 in
    let plain : is_plain c.args.text.now ≡ true = grind (arith) in
    let got = read_is c.in-Ok.text.now c.parse.result (ap is_plain t ∙ plain) c.parse.ensures.value.0 in
    rw (c.ok.ensures.value, ← t) got

pub returns-clause-none : goal.returns-clause-none
returns-clause-none c =
    let t = c.in-Ok.ensures.cases.0 in
    let got = read_none c.in-Ok.text.now c.parse.result c.parse.ensures.value.0 in
    rw (c.ok.ensures.value, ← t) got
