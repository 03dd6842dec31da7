-- A transaction's number by its digits.
use Rattle.std.proofs.Common.{◌≡◌, ℕ, ◌<◌, ◌^◌, true, decimal, nat_le, refl, sym, ap, ◌∙◌}
use Rattle.std.specs.Prelude.{bytes_eq}
use Rattle.std.specs.Str.Parse.{digits_value}
use Rattle.std.proofs.lemmas.Fmt.{digits_value-decimal}
use Rattle.std.proofs.lemmas.Slice.Eq.{bytes_eq-Decides}
use Rattle.base_model.specs.Text.{Text}
use Rattle.base_text.proofs.Decimals.{digits}
use Rattle.restore_target.specs.Targets.{is_transaction}

same : (text : Text) → bytes_eq text text ≡ true
same text = (bytes_eq-Decides text text).1 refl

pub transaction : (text : Text) (n : ℕ) → n < 2 ^ 64 → text ≡ decimal n → nat_le n 4294967295 ≡ is_transaction text
transaction text n h is =
    let value : digits_value 10 text ≡ n = ap (digits_value 10) is ∙ digits_value-decimal digits n h in
    let spelled : text ≡ decimal (digits_value 10 text) = is ∙ ap decimal (sym value) in
    let equal : bytes_eq text (decimal (digits_value 10 text)) ≡ true = sym (ap (bytes_eq text) spelled) ∙ same text in
    rw equal (ap (λ (m : ℕ). nat_le m 4294967295) (sym value))
