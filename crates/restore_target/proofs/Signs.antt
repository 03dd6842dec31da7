-- Where the first sign of a text stands.
use Rattle.std.proofs.Common.{◌≡◌, ℕ, zero, suc, ◌<◌, ◌≤◌, ◌&&◌, ◌||◌, Bool, true, false, [], ◌∷◌, ◌++◌, inl, inr, length, get_or, take, drop, Some, None, if◌then◌else◌, refl, sym, ap, ap₂, ◌∙◌, arith}
use Rattle.std.specs.Prelude.{position}
use Rattle.std.specs.List.{list_any, list_all, position_or_len}
use Rattle.std.proofs.Math.Seq.{drop-cons}
use Rattle.std.proofs.lemmas.Bool.Decides.{nat_tests}
use Rattle.std.proofs.lemmas.List.Quantifiers.{position-Some}
use Rattle.std.proofs.lemmas.List.Sums.{fails_before_first}
use Rattle.std.proofs.lemmas.List.{take-append-drop}
use Rattle.base_model.specs.Text.{Text}
use Rattle.restore_target.specs.Moments.{is_digit, is_sign, HasNoSign, begins_with_sign, IsPart, Offset, offset_text}

none_before : (p : ℕ → Bool) (xs : Text) (i : ℕ) → ((k : ℕ) → k < i → p (get_or xs k 0) ≡ false) → list_any p (take i xs) ≡ false
none_before p xs zero f = refl
none_before p [] (suc i) f = refl
none_before p (c ∷ cs) (suc i) f = rw (f 0 (omega arith)) (none_before p cs i (λ k h. f (suc k) (omega arith)))

none_within : (p : ℕ → Bool) (xs : Text) → ((k : ℕ) → k < length xs → p (get_or xs k 0) ≡ false) → list_any p xs ≡ false
none_within p [] f = refl
none_within p (c ∷ cs) f = rw (f 0 (omega arith)) (none_within p cs (λ k h. f (suc k) (omega arith)))

pub no_place : (p : ℕ → Bool) (xs : Text) → position p xs ≡ None → list_any p xs ≡ false
no_place p xs e =
    let far : length xs ≤ position_or_len p xs = grind (arith, nat_tests) in
    none_within p xs (λ k h. fails_before_first p xs k 0 (omega arith))

-- a text is parted at its first sign
pub parted_at : (text : Text) (place : ℕ) → position is_sign text ≡ Some place → (text ≡ take place text ++ drop place text) × HasNoSign (take place text) × (begins_with_sign (drop place text) ≡ true)
parted_at text place e =
    let found = position-Some is_sign text place 0 e in
    (sym (take-append-drop place text), none_before is_sign text place found.2, ap begins_with_sign (drop-cons text place 0 found.0) ∙ found.1)

not_both : (a b : Bool) → a ≡ true → (a || b) ≡ false → ⊥
not_both true b h e = cc e
not_both false b h e = cc h

later : (a b : Bool) → (a || b) ≡ false → b ≡ false
later true b e = cc e
later false b e = e

-- and at no other place
pub same_parts : (a b x y : Text) → HasNoSign a → HasNoSign b → begins_with_sign x ≡ true → begins_with_sign y ≡ true → a ++ x ≡ b ++ y → (a ≡ b) × (x ≡ y)
same_parts [] [] x y h g from to e = (refl, e)
same_parts [] (d ∷ ds) x y h g from to e = absurd (not_both (is_sign d) (list_any is_sign ds) (sym (ap begins_with_sign e) ∙ from) g)
same_parts (c ∷ cs) [] x y h g from to e = absurd (not_both (is_sign c) (list_any is_sign cs) (ap begins_with_sign e ∙ to) h)
same_parts (c ∷ cs) (d ∷ ds) x y h g from to e =
    let first : c ≡ d = cc in
    let following : cs ++ x ≡ ds ++ y = cc in
    let rest = same_parts cs ds x y (later (is_sign c) (list_any is_sign cs) h) (later (is_sign d) (list_any is_sign ds) g) from to following in
    (ap₂ (λ (n : ℕ) (l : Text). n ∷ l) first rest.0, rest.1)

both : (a b : Bool) → (a && b) ≡ true → (a ≡ true) × (b ≡ true)
both true b e = (refl, e)
both false b e = cc e

neither : (a b : Bool) → a ≡ false → b ≡ false → (a || b) ≡ false
neither true b h e = cc h
neither false b h e = e

digit_no_sign : (c : ℕ) → is_digit c ≡ true → is_sign c ≡ false
digit_no_sign c h = grind (arith, nat_tests)

digits_no_sign : (ds : Text) → list_all is_digit ds ≡ true → HasNoSign ds
digits_no_sign [] h = refl
digits_no_sign (c ∷ cs) h =
    let parts = both (is_digit c) (list_all is_digit cs) h in
    neither (is_sign c) (list_any is_sign cs) (digit_no_sign c parts.0) (digits_no_sign cs parts.1)

pub part_no_sign : (part : Text) → IsPart part → HasNoSign part
part_no_sign part (inl none) = ap (list_any is_sign) none
part_no_sign part (inr (digits, is, some, few, all)) = ap (list_any is_sign) is ∙ digits_no_sign digits all

signed : (east : Bool) → is_sign (if east then 43 else 45) ≡ true
signed true = refl
signed false = refl

pub offset_begins : (o : Offset) → begins_with_sign (offset_text o) ≡ true
offset_begins o = signed o.east
