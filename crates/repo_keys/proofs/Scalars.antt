-- Numbers and versions are given by their values.
use Rattle.std.proofs.Common.{◌≡◌, ℕ, ◌<◌, ◌^◌, List, Option, Some, decimal, refl, sym, ap, ◌∙◌, subst, arith}
use Rattle.std.specs.Prelude.{IfNone, Result, Ok, Err}
use Rattle.std.specs.Result.{result_ok, OkIff}
use Rattle.std.proofs.lemmas.Fmt.{decimal_injective}
use Rattle.serde_json.specs.Data.{Data}
use Rattle.serde_json.specs.Find.{as_str}
use Rattle.base_model.specs.Fields.{whole}
use Rattle.base_model.specs.InfoFiles.{version_value}

pub same_number : (n m : ℕ) → whole n ≡ whole m → n ≡ m
same_number n m e = cc

pub same_version : (n m : ℕ) → n < 2 ^ 64 → m < 2 ^ 64 → version_value n ≡ version_value m → n ≡ m
same_version n m h g e = let d : decimal n ≡ decimal m = cc in decimal_injective n m h g d

pub same_data : (d e : Data) → ◌≡◌ {A = Option Data} (Some d) (Some e) → d ≡ e
same_data d e h = cc

same_text : (s t : List ℕ) → ◌≡◌ {A = Option (List ℕ)} (Some s) (Some t) → s ≡ t
same_text s t e = cc

-- digits of a number past 32 bits are of none within
version_apart : (d : Data) (text : List ℕ) (n m : ℕ) → Some text ≡ as_str d → text ≡ decimal n → n < 2 ^ 64 → (n < 2 ^ 32 → ⊥) → m < 2 ^ 32 → d ≡ version_value m → ⊥
version_apart d text n m at is h far g same =
    let e : n ≡ m = decimal_injective n m h (omega arith) (sym is ∙ same_text text (decimal m) (at ∙ ap as_str same)) in
    far (subst (λ (k : ℕ). k < 2 ^ 32) (sym e) g)

pub version_none : {E : Type 0} (d : Data) (text : List ℕ) (n : ℕ) (r : Result ℕ E) (o : Option ℕ) → Some text ≡ as_str d → (text ≡ decimal n) × (n < 2 ^ 64) → o ≡ result_ok r → OkIff r (n < 2 ^ 32) n → IfNone o ((m : ℕ) → m < 2 ^ 32 → d ≡ version_value m → ⊥)
version_none d text n (Ok x) o at shows is iff = subst (λ (p : Option ℕ). IfNone p ((m : ℕ) → m < 2 ^ 32 → d ≡ version_value m → ⊥)) (sym is) tt
version_none d text n (Err e) o at shows is iff = subst (λ (p : Option ℕ). IfNone p ((m : ℕ) → m < 2 ^ 32 → d ≡ version_value m → ⊥)) (sym is) (λ m g same. version_apart d text n m at shows.0 shows.1 iff g same)
