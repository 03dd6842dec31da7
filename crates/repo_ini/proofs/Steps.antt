-- What each step of the reader keeps, and the pieces that lead to a state.
use Rattle.std.proofs.Common.{◌≡◌, ℕ, ◌+◌, Bool, true, false, ◌&&◌, List, [], ◌∷◌, ◌++◌, map, fold, codes, bytes_eq, Option, Some, None, option_map, option_and_then, Ok, Err, IsUtf8, ◌⊎◌, inl, inr, if◌then◌else◌, refl, sym, ap, ◌∙◌, subst, append_assoc, append-nil, ◌==◌}
use Rattle.std.specs.List.{flat_map, AllByRecursion}
use Rattle.std.specs.Prelude.{unwrap_or}
use Rattle.std.specs.Result.{result_unwrap_or}
use Rattle.std.specs.Option.{option_map_or}
use Rattle.std.specs.Str.{is_utf8}
use Rattle.std.proofs.lemmas.Grind.{flat_map-append}
use Rattle.std.proofs.lemmas.List.{map_push}
use Rattle.std.proofs.lemmas.List.Elements.{All-tail}
use Rattle.std.proofs.lemmas.Option.{cond_some, option_and_then_some}
use Rattle.std.proofs.lemmas.Str.{IsUtf8-from_is_utf8}
use Rattle.std.proofs.lemmas.Slice.Eq.{bytes_eq-Decides}
use Rattle.serde_json.specs.Data.{Data}
use Rattle.serde_json.specs.Written.{compact_text}
use Rattle.base_text.specs.Sum.{IsSum}
use Rattle.base_devices.specs.Order.{is_before, are_after}
use Rattle.base_model.specs.InfoText.{Section, head_name, is_key, is_name, has_keys, IsKey, IsSection, IsInfo}
use Rattle.base_model.specs.Json.{IsOneLine, IsValue}
use Rattle.repo_ini.specs.Form.{syntax}
use Rattle.repo_ini.specs.Reading.{value_of, cut_at, name_in, sum_in, State, start, format, gap, between, within, check, closing, over, last_name, last_key, opened, closed, more, step, run}
use Rattle.repo_ini.proofs.Orders.{end_of, are_after_push}
use Rattle.repo_ini.proofs.Pieces.{name_piece, key_piece, sum_piece, name_in-is, sum_in-is, cut_at-is}
use Rattle.repo_ini.proofs.ReadValues.{value_of-is, value_of-same}

-- ---- the pieces

abbrev pub section_pieces : Section → List (List ℕ)
section_pieces s = name_piece s.name ∷ (map key_piece s.keys ++ [] ∷ [])

abbrev pub head_pieces : List (List ℕ)
head_pieces = codes "[backrest]" ∷ codes "backrest-format=5" ∷ [] ∷ []

abbrev pub done_pieces : List Section → List (List ℕ)
done_pieces done = head_pieces ++ flat_map section_pieces done

abbrev pub spelled : State → List (List ℕ)
spelled start = []
spelled format = codes "[backrest]" ∷ []
spelled gap = codes "[backrest]" ∷ codes "backrest-format=5" ∷ []
spelled (between done) = done_pieces done
spelled (within done name keys) = done_pieces done ++ name_piece name ∷ map key_piece keys
spelled (check done) = done_pieces done ++ codes "[backrest]" ∷ []
spelled (closing done known) = done_pieces done ++ codes "[backrest]" ∷ sum_piece known ∷ []
spelled (over done known) = done_pieces done ++ codes "[backrest]" ∷ sum_piece known ∷ [] ∷ []

-- ---- one more at the end

pub flat_map-push : {X A : Type 0} (f : X → List A) (xs : List X) (x : X) → flat_map f (xs ++ x ∷ []) ≡ flat_map f xs ++ f x
flat_map-push f xs x = flat_map-append f xs (x ∷ []) ∙ ap (λ l. flat_map f xs ++ l) (append-nil (f x))

pub each_push : {X : Type 0} (P : X → Type 0) (xs : List X) (x : X) → AllByRecursion P xs → P x → AllByRecursion P (xs ++ x ∷ [])
each_push P [] x h p = (p, tt)
each_push P (y ∷ ys) x h p = (h.0, each_push P ys x h.1 p)

pub end_of-names : (last : List ℕ) (ss : List Section) → fold (λ _ s. s.name) last ss ≡ end_of last (map (λ s. s.name) ss)
end_of-names last [] = refl
end_of-names last (s ∷ ss) = end_of-names s.name ss

pub end_of-keys : (last : List ℕ) (ks : List (List ℕ × Data)) → fold (λ _ k. k.0) last ks ≡ end_of last (map (λ k. k.0) ks)
end_of-keys last [] = refl
end_of-keys last (k ∷ ks) = end_of-keys k.0 ks

-- ---- what the tests show of a piece

same_piece : (p q : List ℕ) (s t : State) → (if bytes_eq p q then Some s else None) ≡ Some t → (p ≡ q) × (s ≡ t)
same_piece p q s t h = let c = cond_some (bytes_eq p q) s t h in ((bytes_eq-Decides p q).0 c.0, c.1)

-- ---- soundness

-- what holds of a state that was reached
abbrev pub Sound : State → Type 0
Sound start = Unit {0}
Sound format = Unit {0}
Sound gap = Unit {0}
Sound (between done) = IsInfo done
Sound (within done name keys) = IsInfo done × (is_name name ≡ true) × IsUtf8 name × (is_before (last_name done) name ≡ true) × AllByRecursion IsKey keys × (are_after [] (map (λ k. k.0) keys) ≡ true)
Sound (check done) = IsInfo done
Sound (closing done known) = IsInfo done × IsSum known
Sound (over done known) = IsInfo done × IsSum known

-- the step keeps what holds, and its piece is the last that leads there
abbrev pub Led : State → List ℕ → State → Type 0
Led s p t = (IsOneLine p → Sound s → Sound t) × (spelled t ≡ spelled s ++ p ∷ [])

led_to : (s u : State) (p q : List ℕ) (t : State) → (if bytes_eq p q then Some u else None) ≡ Some t → Led s q u → Led s p t
led_to s u p q t h l = let e = same_piece p q u t h in subst (λ x. Led s x t) (sym e.0) (subst (λ x. Led s q x) e.1 l)

either : (b : Bool) (u : State) (o : Option State) (t : State) → (if b then Some u else o) ≡ Some t → ((b ≡ true) × (u ≡ t)) ⊎ (o ≡ Some t)
either true u o t h = inl (refl, ap (λ x. unwrap_or x u) h)
either false u o t h = inr h

test : (b : Bool) (o q : Option State) (t : State) → (if b then o else q) ≡ Some t → ((b ≡ true) × (o ≡ Some t)) ⊎ (q ≡ Some t)
test true o q t h = inl (refl, h)
test false o q t h = inr h

led_or : (s u : State) (p q : List ℕ) (t : State) (o : Option State) → (if bytes_eq p q then Some u else o) ≡ Some t → Led s q u → (o ≡ Some t → Led s p t) → Led s p t
led_or s u p q t o h l f = elim (either (bytes_eq p q) u o t h) [
  | inl e ↦ subst (λ x. Led s x t) (sym ((bytes_eq-Decides p q).0 e.0)) (subst (λ x. Led s q x) e.1 l)
  | inr e ↦ f e
]

three : (a b c : Bool) (o : Option State) (t : State) → (if a && b && c then o else None) ≡ Some t → (a ≡ true) × (b ≡ true) × (c ≡ true) × (o ≡ Some t)
three true true true o t h = (refl, refl, refl, h)
three true true false o t h = cc h
three true false c o t h = cc h
three false b c o t h = cc h

pub info_push : (done : List Section) (s : Section) → IsInfo done → IsSection s → is_before (last_name done) s.name ≡ true → IsInfo (done ++ s ∷ [])
info_push done s info is after = record {
  sections = each_push IsSection done s info.sections is;
  order = ap (are_after head_name) (map_push (λ x. x.name) done s) ∙ are_after_push head_name (map (λ x. x.name) done) s.name info.order (ap (λ l. is_before l s.name) (sym (end_of-names head_name done)) ∙ after);
}

opened_led : (done : List Section) (p name : List ℕ) (t : State) → name_in p ≡ Some name → opened done name ≡ Some t → Led (between done) p t
opened_led done p name t n h =
    let c = three (is_utf8 name) (is_name name) (is_before (last_name done) name) (Some (within done name [])) t h in
    let u = ap (λ x. unwrap_or x start) c.3 in
    let l : Led (between done) (name_piece name) (within done name []) = (λ _ info. (info, c.1, IsUtf8-from_is_utf8 name c.0, c.2, tt, refl), refl) in
    subst (λ x. Led (between done) x t) (sym (name_in-is p name n)) (subst (Led (between done) (name_piece name)) u l)

closed_led : (done : List Section) (name : List ℕ) (keys : List (List ℕ × Data)) (t : State) → closed done name keys ≡ Some t → Led (within done name keys) [] t
closed_led done name keys t h =
    let s : Section = record { name = name; keys = keys } in
    let c = cond_some (has_keys keys) (between (done ++ s ∷ [])) t h in
    let sound : Sound (within done name keys) → IsInfo (done ++ s ∷ []) = λ w. info_push done s w.0 (record { name = w.1; utf8 = w.2; some = c.0; keys = w.4; order = w.5 }) w.3 in
    let path : done_pieces (done ++ s ∷ []) ≡ spelled (within done name keys) ++ [] ∷ [] =
    ap (λ l. head_pieces ++ l) (flat_map-push section_pieces done s) ∙ sym (append_assoc (done_pieces done) (name_piece name ∷ map key_piece keys) ([] ∷ [])) in
    subst (Led (within done name keys) []) c.1 (λ _. sound, path)

mapped : {A B : Type 0} (f : A → B) (o : Option A) (y : B) → option_map f o ≡ Some y → (x : A) × (o ≡ Some x) × (f x ≡ y)
mapped f None y h = cc h
mapped f (Some x) y h = (x, refl, ap (λ o. unwrap_or o y) h)

after_line : (a : List ℕ) (c : ℕ) (b : List ℕ) → IsOneLine (a ++ c ∷ b) → IsOneLine b
after_line [] c b h = All-tail (λ x. (x == 10) ≡ false) c b h
after_line (x ∷ a) c b h = after_line a c b (All-tail (λ x. (x == 10) ≡ false) x (a ++ c ∷ b) h)

more_led : (done : List Section) (name : List ℕ) (keys : List (List ℕ × Data)) (p : List ℕ) (k : List ℕ × List ℕ) (t : State) → cut_at 61 p ≡ Some k → more done name keys k ≡ Some t → Led (within done name keys) p t
more_led done name keys p k t cut h =
    let c = three (is_utf8 k.0) (is_key k.0) (is_before (last_key keys) k.0) _ t h in
    let m = mapped (λ d. within done name (keys ++ (k.0, d) ∷ [])) (value_of k.1) t c.3 in
    let key : List ℕ × Data = (k.0, m.0) in
    let same : compact_text m.0 ≡ k.1 = value_of-same k.1 m.0 m.1 in
    let here : p ≡ key_piece key = cut_at-is 61 p k cut ∙ ap (λ (x : List ℕ). k.0 ++ 61 ∷ x) (sym same) in
    let value : IsOneLine (key_piece key) → IsValue m.0 = λ line. (value_of-is k.1 m.0 (subst IsOneLine same (after_line k.0 61 (compact_text m.0) line)) m.1).0 in
    let is : IsOneLine (key_piece key) → IsKey key = λ line. record { name = c.1; utf8 = IsUtf8-from_is_utf8 k.0 c.0; value = value line } in
    let sound : IsOneLine (key_piece key) → Sound (within done name keys) → Sound (within done name (keys ++ key ∷ [])) =
    λ line w. (w.0, w.1, w.2, w.3, each_push IsKey keys key w.4 (is line), ap (are_after []) (map_push (λ x. x.0) keys key) ∙ are_after_push [] (map (λ x. x.0) keys) k.0 w.5 (ap (λ l. is_before l k.0) (sym (end_of-keys [] keys)) ∙ c.2)) in
    let path : spelled (within done name (keys ++ key ∷ [])) ≡ spelled (within done name keys) ++ key_piece key ∷ [] =
    ap (λ l. done_pieces done ++ name_piece name ∷ l) (map_push key_piece keys key) ∙ sym (append_assoc (done_pieces done) (name_piece name ∷ map key_piece keys) (key_piece key ∷ [])) in
    subst (λ x. Led (within done name keys) x t) (sym here) (subst (λ x. Led (within done name keys) (key_piece key) x) m.2 (sound, path))

check_led : (done : List Section) (p : List ℕ) (t : State) → option_map (closing done) (sum_in p) ≡ Some t → Led (check done) p t
check_led done p t h =
    let m = mapped (closing done) (sum_in p) t h in
    let is = sum_in-is p m.0 m.1 in
    let sound : IsOneLine (sum_piece m.0) → Sound (check done) → Sound (closing done m.0) = λ _ i. (i, is.1) in
    let path : spelled (closing done m.0) ≡ spelled (check done) ++ sum_piece m.0 ∷ [] = sym (append_assoc (done_pieces done) (codes "[backrest]" ∷ []) (sum_piece m.0 ∷ [])) in
    subst (λ x. Led (check done) x t) (sym is.0) (subst (λ x. Led (check done) (sum_piece m.0) x) m.2 (sound, path))

pub step-led : (s : State) (p : List ℕ) (t : State) → step s p ≡ Some t → Led s p t
step-led start p t h = led_to start format p _ t h (λ _ _. tt, refl)
step-led format p t h = led_to format gap p _ t h (λ _ _. tt, refl)
step-led gap p t h = led_to gap (between []) p [] t h (λ _ _. record { sections = tt; order = refl }, refl)
step-led (between done) p t h = led_or (between done) (check done) p (codes "[backrest]") t _ h (λ _ i. i, refl) (λ e. option_and_then_some (opened done) (name_in p) t e (λ name n o. opened_led done p name t n o))
step-led (within done name keys) p t h = elim (test (bytes_eq p []) (closed done name keys) (option_and_then (more done name keys) (cut_at 61 p)) t h) [
  | inl e ↦ subst (λ x. Led (within done name keys) x t) (sym ((bytes_eq-Decides p []).0 e.0)) (closed_led done name keys t e.1)
  | inr e ↦ option_and_then_some (more done name keys) (cut_at 61 p) t e (λ k cut m. more_led done name keys p k t cut m)
]
step-led (check done) p t h = check_led done p t h
step-led (closing done known) p t h = led_to (closing done known) (over done known) p [] t h (λ _ i. i, sym (append_assoc (done_pieces done) (codes "[backrest]" ∷ sum_piece known ∷ []) ([] ∷ [])))
step-led (over done known) p t h = cc h

-- the same for a run
abbrev pub RunLed : State → List (List ℕ) → State → Type 0
RunLed s ps t = (AllByRecursion IsOneLine ps → Sound s → Sound t) × (spelled t ≡ spelled s ++ ps)

next_led : (s : State) (p : List ℕ) (ps : List (List ℕ)) (n : ℕ) (t : State) (o : Option State) → step s p ≡ o → ((u : State) → run u (n + 1) ps ≡ Ok t → RunLed u ps t)
    → option_map_or (λ x. run x (n + 1) ps) o (Err (syntax n)) ≡ Ok t → RunLed s (p ∷ ps) t
next_led s p ps n t None e more h = cc h
next_led s p ps n t (Some u) e more h =
    let first = step-led s p u e in
    let later = more u h in
    (λ lines i. later.0 lines.1 (first.0 lines.0 i), later.1 ∙ ap (λ l. l ++ ps) first.1 ∙ append_assoc (spelled s) (p ∷ []) ps)

pub run-led : (ps : List (List ℕ)) (s : State) (n : ℕ) (t : State) → run s n ps ≡ Ok t → RunLed s ps t
run-led [] s n t h = let e = ap (λ r. result_unwrap_or r s) h in subst (λ x. RunLed s [] x) e (λ _ i. i, sym (append-nil (spelled s)))
run-led (p ∷ ps) s n t h = next_led s p ps n t (step s p) refl (λ u. run-led ps u (n + 1) t) h
