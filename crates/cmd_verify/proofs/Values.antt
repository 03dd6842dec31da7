-- What is at a name.
use Rattle.std.proofs.Common.{◌≡◌, Option, Some, None, refl, sym, subst, ◌∙◌}
use Rattle.std.specs.Prelude.{IsSome, IsSomeAnd, IfSome}
use Rattle.base_model.specs.Text.{Text}

-- it isn't both something and nothing
pub not_none : {X : Type 0} (o : Option X) (x : X) → o ≡ Some x → o ≡ None → ⊥
not_none o x some none = cc

-- what holds of the value
pub some_at : {X : Type 0} (P : X → Type 0) (o : Option X) (x : X) → o ≡ Some x → IsSomeAnd o P → P x
some_at P o x is h = let Q : Option _ → Type 0 = λ k. IsSomeAnd k P in let at : Q (Some x) = subst Q is h in at

pub if_at : {X : Type 0} (P : X → Type 0) (o : Option X) (x : X) → o ≡ Some x → IfSome o P → P x
if_at P o x is h = let Q : Option _ → Type 0 = λ k. IfSome k P in let at : Q (Some x) = subst Q is h in at

-- the value of which it holds
pub value_of : {X : Type 0} (P : X → Type 0) (o : Option X) → IsSomeAnd o P → (x : X) × (o ≡ Some x) × P x
value_of P None h = absurd h
value_of P (Some x) h = (x, refl, h)

pub some_of : {X : Type 0} (o : Option X) → IsSome o → (x : X) × (o ≡ Some x)
some_of None h = cc h
some_of (Some x) h = (x, refl)

pub is_some : {X : Type 0} (o : Option X) (x : X) → o ≡ Some x → IsSome o
is_some o x is = subst (λ k. IsSome k) (sym is) refl

pub same_some : {X : Type 0} (o : Option X) (x y : X) → o ≡ Some x → o ≡ Some y → x ≡ y
same_some {X} o x y p q = let e : ◌≡◌ {A = Option X} (Some x) (Some y) = sym p ∙ q in cc

-- a text is of one value
abbrev pub IsOfOne : {V : Type 0} → (V → Text → Type 0) → Type 0
IsOfOne {V} IsTextOf = (v w : V) (bytes : Text) → IsTextOf v bytes → IsTextOf w bytes → v ≡ w
