-- What is read at a key.
use Rattle.std.proofs.Common.{◌≡◌, ◌≢◌, sym, ◌∙◌, List}
use Rattle.serde_json.specs.Data.{Data}
use Rattle.base_model.specs.Text.{Text, In}
use Rattle.base_model.specs.Fields.{Field}
use Rattle.repo_keys.specs.Agree.{IsOrdered}
use Rattle.repo_keys.proofs.Keyed.{same_value}
use Rattle.repo_manifest.specs.Read.{IsReadAt}

module _ {X : Type 0} (value : X → Data) (IsOne : X → Type 0) (ks : List Field) (key : Text) (x : X) where
  -- nothing is at the key
  pub read_none : ((d : Data) → ¬ In (key, d) ks) → IsReadAt value IsOne ks key x
  read_none none = λ y h i. absurd (none (value y) i)

  -- another value is there
  pub read_other : (d : Data) → IsOrdered ks → In (key, d) ks → ((y : X) → IsOne y → d ≢ value y) → IsReadAt value IsOne ks key x
  read_other d order found none = λ y h i. absurd (none y h (same_value ks key d (value y) order found i))

  -- its value is there, and is of no other
  pub read_some : (d : Data) → IsOrdered ks → In (key, d) ks → d ≡ value x → ((y : X) → IsOne y → value x ≡ value y → x ≡ y) → IsReadAt value IsOne ks key x
  read_some d order found is one = λ y h i. one y h (sym is ∙ same_value ks key d (value y) order found i)
