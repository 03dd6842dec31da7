-- Keys that are added one after another.
use Rattle.std.proofs.Common.{◌≡◌, List, [], ◌∷◌, ◌++◌, String, Global, string_bytes, ap, ap₂, ◌∙◌, append_assoc, rules}
use Rattle.serde_json.specs.Data.{Data, string}
use Rattle.serde_json.specs.View.{view}
use Rattle.serde_json.specs.declared.value.Value.{String as Worded, the_lemmas}
use Rattle.base_model.specs.Text.{Text}
use Rattle.base_model.specs.InfoText.{Section}
use Rattle.base_model.specs.Fields.{Field}

own_text : (s : String Global) → view (Worded s) ≡ string (string_bytes s)
own_text s = search (rules, the_lemmas)

-- the value of a text is that of the text that it is equal to
pub text_value : (s : String Global) (t : Text) → string_bytes s ≡ t → view (Worded s) ≡ string t
text_value s t is = own_text s ∙ ap (λ (x : Text). string x) is

pub one_key : (old new : List Field) (k : Text) (d e : Data) → new ≡ old ++ (k, d) ∷ [] → d ≡ e → new ≡ old ++ (k, e) ∷ []
one_key old new k d e is value = is ∙ ap (λ (x : Data). old ++ (k, x) ∷ []) value

pub two_keys : (old mid new : List Field) (k l : Text) (d e f g : Data) → mid ≡ old ++ (k, d) ∷ [] → new ≡ mid ++ (l, f) ∷ [] → d ≡ e → f ≡ g → new ≡ (old ++ (k, e) ∷ []) ++ (l, g) ∷ []
two_keys old mid new k l d e f g first second one two = second ∙ ap₂ (λ (xs : List Field) (x : Data). xs ++ (l, x) ∷ []) (one_key old mid k d e first one) two

pub three_keys : (old mid late new : List Field) (a b c : Field) → mid ≡ old ++ a ∷ [] → late ≡ mid ++ b ∷ [] → new ≡ late ++ c ∷ [] → new ≡ old ++ a ∷ b ∷ c ∷ []
three_keys old mid late new a b c first second third =
    let two = second ∙ ap (λ (xs : List Field). xs ++ b ∷ []) first ∙ append_assoc old (a ∷ []) (b ∷ []) in
    third ∙ ap (λ (xs : List Field). xs ++ c ∷ []) two ∙ append_assoc old (a ∷ b ∷ []) (c ∷ [])

-- the keys of the section `backup`
pub all_keys : (x0 x1 x2 x3 x4 x5 x6 a b l f t p s z : List Field) → x0 ≡ [] → x1 ≡ (x0 ++ a) ++ b → x2 ≡ x1 ++ l → x3 ≡ (x2 ++ f) ++ t → x4 ≡ x3 ++ p → x5 ≡ x4 ++ s → x6 ≡ x5 ++ z → x6 ≡ ((((((a ++ b) ++ l) ++ f) ++ t) ++ p) ++ s) ++ z
all_keys x0 x1 x2 x3 x4 x5 x6 a b l f t p s z e0 e1 e2 e3 e4 e5 e6 =
    let first = e1 ∙ ap (λ (xs : List Field). (xs ++ a) ++ b) e0 in
    let second = e2 ∙ ap (λ (xs : List Field). xs ++ l) first in
    let third = e3 ∙ ap (λ (xs : List Field). (xs ++ f) ++ t) second in
    let fourth = e4 ∙ ap (λ (xs : List Field). xs ++ p) third in
    let fifth = e5 ∙ ap (λ (xs : List Field). xs ++ s) fourth in
    e6 ∙ ap (λ (xs : List Field). xs ++ z) fifth

pub section_as : (n m : Text) (ks js : List Field) → n ≡ m → ks ≡ js → ◌≡◌ {A = Section} (record { name = n; keys = ks }) (record { name = m; keys = js })
section_as n m ks js e f = ap₂ (λ (x : Text) (xs : List Field). let s : Section = record { name = x; keys = xs } in s) e f
