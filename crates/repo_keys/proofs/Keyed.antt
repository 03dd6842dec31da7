-- Values by their keys.
use Rattle.std.proofs.Common.{◌≡◌, ℕ, ◌<◌, ◌^◌, List, [], Option, Some, None, refl, sym, ap, ◌∙◌, arith}
use Rattle.std.specs.Prelude.{IfNone}
use Rattle.serde_json.specs.Data.{Data}
use Rattle.base_model.specs.Text.{Text, In}
use Rattle.base_model.specs.Fields.{Field, whole}
use Rattle.base_model.specs.InfoFiles.{version_value}
use Rattle.repo_keys.specs.Agree.{IsOrdered}
use Rattle.repo_keys.proofs.Scalars.{same_number, same_version}
use Rattle.repo_keys.proofs.Sorted.{unique}

-- a key has one value
pub same_value : (ks : List Field) (key : Text) (d e : Data) → IsOrdered ks → In (key, d) ks → In (key, e) ks → d ≡ e
same_value ks key d e h i j = ap (λ (k : Field). k.1) (unique (λ (k : Field). k.0) [] ks (key, d) (key, e) h i j refl)

-- where the key's value is none of these, none of these is at the key
pub none_at : (ks : List Field) (key : Text) (d : Data) (value : ℕ → Data) (Q : ℕ → Type 0) (o : Option ℕ) → IsOrdered ks → In (key, d) ks → IfNone o ((n : ℕ) → Q n → d ≡ value n → ⊥) → IfNone o ((n : ℕ) → Q n → In (key, value n) ks → ⊥)
none_at ks key d value Q None h i none = λ n q j. none n q (same_value ks key d (value n) h i j)
none_at ks key d value Q (Some n) h i none = tt

pub none_within : (ks : List Field) (key : Text) (d : Data) (value : ℕ → Data) (Q R : ℕ → Type 0) (o : Option ℕ) → IsOrdered ks → In (key, d) ks → IfNone o ((n : ℕ) → Q n → R n → d ≡ value n → ⊥) → IfNone o ((n : ℕ) → Q n → R n → In (key, value n) ks → ⊥)
none_within ks key d value Q R None h i none = λ n q r j. none n q r (same_value ks key d (value n) h i j)
none_within ks key d value Q R (Some n) h i none = tt

pub none_ever : (ks : List Field) (key : Text) (d : Data) (value : ℕ → Data) (o : Option ℕ) → IsOrdered ks → In (key, d) ks → IfNone o ((n : ℕ) → d ≡ value n → ⊥) → IfNone o ((n : ℕ) → In (key, value n) ks → ⊥)
none_ever ks key d value None h i none = λ n j. none n (same_value ks key d (value n) h i j)
none_ever ks key d value (Some n) h i none = tt

-- ---- one number, one version

pub one_number : (ks : List Field) (key : Text) (d : Data) (m n : ℕ) → IsOrdered ks → In (key, d) ks → d ≡ whole m → In (key, whole n) ks → m ≡ n
one_number ks key d m n order i is j = same_number m n (sym is ∙ same_value ks key d (whole n) order i j)

pub one_version : (ks : List Field) (key : Text) (m n : ℕ) → m < 2 ^ 32 → n < 2 ^ 32 → IsOrdered ks → In (key, version_value m) ks → In (key, version_value n) ks → m ≡ n
one_version ks key m n h g order i j = same_version m n (omega arith) (omega arith) (same_value ks key (version_value m) (version_value n) order i j)
