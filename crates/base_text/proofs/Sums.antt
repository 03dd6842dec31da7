-- A sum's text reads back as it, and as no other.
use Rattle.std.proofs.Common.{◌≡◌, ℕ, ◌*◌, ◌%◌, ◌/◌, List, length, Result, Ok, sym, ap, ◌∙◌, subst, refl, arith}
use Rattle.std.specs.Result.{result_unwrap_or}
use Rattle.hex.specs.Hex.{decode_sized, decode_pairs, lower_digits}
use Rattle.hex.specs.declared.error.FromHexError.{FromHexError}
use Rattle.std.proofs.lemmas.Bool.{eqb-true}
use Rattle.hex.specs.declared.error.FromHexError.TheVariants.{OddLength, InvalidStringLength}
use Rattle.hex.proofs.HexLemmas.{length-encode_with, decode_pairs-encode_with, IsDigits-lower_digits}
use Rattle.std.specs.Prelude.{option_and_then, bytes_eq, Bool, true, false, ◌==◌, if◌then◌else◌, Some, None, Err}
use Rattle.std.specs.Result.{result_ok}
use Rattle.std.proofs.lemmas.Option.{cond_some}
use Rattle.std.proofs.lemmas.Slice.Eq.{bytes_eq-Decides}
use Rattle.hex.proofs.HexLemmas.{decode_pairs-ok}
use Rattle.base_text.specs.Sum.{IsSum, sum_text, read_sum}

pub length-sum_text : (s : List ℕ) → length (sum_text s) ≡ 2 * length s
length-sum_text s = length-encode_with lower_digits s

pub decode-sum_text : (s : List ℕ) → IsSum s → decode_sized (sum_text s) 20 ≡ Ok s
decode-sum_text s h =
    let len : length (sum_text s) ≡ 40 = length-sum_text s ∙ ap (λ n. 2 * n) h.0 in
    rw len (decode_pairs-encode_with lower_digits IsDigits-lower_digits 0 s h.1)

pub sum_text-injective : (s t : List ℕ) → IsSum s → IsSum t → sum_text s ≡ sum_text t → s ≡ t
sum_text-injective s t hs ht e =
    let same = sym (decode-sum_text s hs) ∙ ap (λ x. decode_sized x 20) e ∙ decode-sum_text t ht in
    ap (λ (r : Result (List ℕ) FromHexError). result_unwrap_or r s) same

pub read-sum_text : (s : List ℕ) → IsSum s → read_sum (sum_text s) ≡ Some s
read-sum_text s h = rw (decode-sum_text s h, (bytes_eq-Decides (sum_text s) (sum_text s)).1 refl)

chosen : (t b : List ℕ) (odd half : Bool) → (if odd then Err OddLength else if half then decode_pairs 0 t else Err InvalidStringLength) ≡ Ok b → (half ≡ true) × (decode_pairs 0 t ≡ Ok b)
chosen t b true half h = cc h
chosen t b false true h = (refl, h)
chosen t b false false h = cc h

decoded : (t b : List ℕ) → decode_sized t 20 ≡ Ok b → IsSum b
decoded t b h =
    let c = chosen t b (length t % 2 == 1) (length t / 2 == 20) h in
    let half = eqb-true (length t / 2) 20 c.0 in
    let ok = decode_pairs-ok 0 t b c.1 in
    let two = ok.1 in
    (omega arith, ok.2)

read_from : (t s : List ℕ) (r : Result (List ℕ) FromHexError) → decode_sized t 20 ≡ r → option_and_then (λ s. if bytes_eq (sum_text s) t then Some s else None) (result_ok r) ≡ Some s → (t ≡ sum_text s) × IsSum s
read_from t s (Ok b) e h =
    let p = cond_some (bytes_eq (sum_text b) t) b s h in
    let same = (bytes_eq-Decides (sum_text b) t).0 p.0 in
    (sym same ∙ ap sum_text p.1, subst IsSum p.1 (decoded t b e))
read_from t s (Err e) d h = cc h

pub read_sum-is : (t s : List ℕ) → read_sum t ≡ Some s → (t ≡ sum_text s) × IsSum s
read_sum-is t s h = read_from t s (decode_sized t 20) refl h
