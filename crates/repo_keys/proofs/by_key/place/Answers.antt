use Rattle.std.proofs.Common.{◌≡◌, ℕ, suc, ◌+◌, ◌≤◌, cond, map, Bool, true, false, string_bytes, length, List, [], ◌∷◌, refl, ap, ◌∙◌, arith, String, Global}
use Rattle.std.specs.Prelude.{not, if◌then◌else◌}
use Rattle.serde_json.specs.Data.{Data}
use Rattle.std.specs.List.{position_or_len}
use Rattle.std.specs.Prelude.{insert}
use Rattle.serde_json.specs.declared.value.Value.{Value}
use Rattle.base_devices.specs.Order.{is_before}
use Rattle.base_model.specs.Fields.{with_field}
use Rattle.repo_ini.specs.Parts.{key_of}
use Rattle.repo_keys.proofs.by_key.place.Goals as goal

abbrev Key : Type 0
Key = String Global × Value

abbrev test : List ℕ → Key → Bool
test key = λ k. is_before key (string_bytes k.0)

at_most : (b : Bool) (n len : ℕ) → n ≤ len → cond (not b) (1 + n) 0 ≤ suc len
at_most true n len h = omega arith
at_most false n len h = omega arith

within : (key : List ℕ) (xs : List Key) → position_or_len (test key) xs ≤ length xs
within key [] = omega arith
within key (x ∷ xs) = at_most (test key x) (position_or_len (test key) xs) (length xs) (within key xs)

step : (b : Bool) (n : ℕ) (x y : Key) (ys : List Key) (more : List (List ℕ × Data)) → map key_of (insert ys n x) ≡ more
    → map key_of (insert (y ∷ ys) (cond (not b) (1 + n) 0) x) ≡ (if b then key_of x ∷ key_of y ∷ map key_of ys else key_of y ∷ more)
step true n x y ys more h = refl
step false n x y ys more h = let e : 1 + n ≡ suc n = omega arith in rw e (ap (λ l. key_of y ∷ l) h)

placed : (x : Key) (xs : List Key) → map key_of (insert xs (position_or_len (test (string_bytes x.0)) xs) x) ≡ with_field (map key_of xs) (key_of x)
placed x [] = refl
placed x (y ∷ ys) = step (test (string_bytes x.0) y) (position_or_len (test (string_bytes x.0)) ys) x y ys (with_field (map key_of ys) (key_of x)) (placed x ys)

same_place : (key given : List ℕ) (xs items : List Key) → given ≡ key → items ≡ xs → position_or_len (test given) items ≡ position_or_len (test key) xs
same_place key given xs items e f = rw (e, f) refl

pub insert-requires : goal.insert-requires
insert-requires c =
    let at = c.place_of-at.ensures ∙ same_place (string_bytes c.args.key) _ c.args.keys.now.items _ c.as_str.ensures.value c.deref.ensures.value in
    let most = within (string_bytes c.args.key) c.args.keys.now.items in
    omega (arith, c.args.keys.now.ok.0)

pub returns : goal.returns
returns c =
    let xs = c.args.keys.now.items in
    let at = c.place_of-at.ensures ∙ same_place (string_bytes c.args.key) _ xs _ c.as_str.ensures.value c.deref.ensures.value in
    ap (map key_of) (c.in_ok-insert.ensures.items ∙ ap (λ n. insert xs n (c.args.key, c.args.value)) at) ∙ placed (c.args.key, c.args.value) xs
