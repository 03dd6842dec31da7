-- A position has one text of its own, and a text is of one position.
use Rattle.std.proofs.Common.{◌≡◌, ℕ, ◌+◌, ◌*◌, ◌/◌, ◌%◌, ◌<◌, ◌^◌, length, refl, sym, ap₂, ◌∙◌, arith}
use Rattle.std.specs.Str.Parse.{digits_value}
use Rattle.base_model.specs.Text.{Text}
use Rattle.base_model.specs.ManifestText.{lsn_text}
use Rattle.repo_names.specs.Lsn.{IsLsn}
use Rattle.repo_names.proofs.Halves.{slash_is, high_is, low_is}
use Rattle.repo_manifest.proofs.Halves.{half, half_is, half_value}

pub lsn_is : (at : ℕ) → at < 2 ^ 64 → IsLsn (lsn_text at) at
lsn_is at h =
    let upper = half_value (at / 2 ^ 32) (omega arith) in
    let lower = half_value (at % 2 ^ 32) (omega arith) in
    record {
      high = half (at / 2 ^ 32);
      low = half (at % 2 ^ 32);
      is = refl;
      high_digits = half_is (at / 2 ^ 32);
      low_digits = half_is (at % 2 ^ 32);
      value = omega (arith, upper, lower);
    }

pub one_lsn : (text : Text) (a b : ℕ) → IsLsn text a → IsLsn text b → a ≡ b
one_lsn text a b l m =
    let slash = slash_is text a l in
    let high = sym (high_is text a l (length l.high) slash) ∙ high_is text b m (length l.high) slash in
    let low = sym (low_is text a l (length l.high) slash) ∙ low_is text b m (length l.high) slash in
    l.value ∙ ap₂ (λ (x y : Text). digits_value 16 x * 2 ^ 32 + digits_value 16 y) high low ∙ sym m.value
