-- A text of the form is read to its end.
use Rattle.std.proofs.Common.{◌≡◌, ℕ, ◌+◌, Bool, true, false, List, [], ◌∷◌, ◌++◌, map, drop, codes, bytes_eq, Some, option_map, Err, IsUtf8, refl, sym, ap, ◌∙◌, subst, append_assoc, append-nil, All, ◌==◌}
use Rattle.std.specs.List.{flat_map, list_all, AllByRecursion}
use Rattle.std.specs.Option.{option_map_or}
use Rattle.std.proofs.lemmas.List.{append_cancel_right}
use Rattle.std.proofs.lemmas.List.Sums.{fold_push}
use Rattle.std.proofs.lemmas.Bool.{and_parts, not-true}
use Rattle.std.proofs.lemmas.List.Elements.{All-cons, All-nil}
use Rattle.std.proofs.lemmas.Str.{is_utf8-from_IsUtf8}
use Rattle.std.proofs.lemmas.Slice.Eq.{bytes_eq-Decides}
use Rattle.serde_json.specs.Data.{Data}
use Rattle.serde_json.specs.Written.{compact_text}
use Rattle.base_text.specs.Sum.{IsSum}
use Rattle.base_devices.specs.Order.{is_before, are_after}
use Rattle.base_model.specs.InfoText.{Section, head_name, is_key_byte, begins_well, is_name, has_keys, IsKey, IsSection, IsInfo}
use Rattle.repo_ini.specs.Form.{syntax}
use Rattle.repo_ini.specs.Reading.{State, start, format, gap, between, within, check, closing, over, last_name, last_key, step, run}
use Rattle.repo_ini.proofs.Orders.{before_later, not_itself}
use Rattle.repo_ini.proofs.Pieces.{name_piece, key_piece, sum_piece, name_in-name_piece, sum_in-sum_piece, cut_at-at}
use Rattle.repo_ini.proofs.ReadValues.{value_of-compact_text}
use Rattle.repo_ini.proofs.Steps.{section_pieces, done_pieces, head_pieces, spelled, end_of-names, info_push}

-- one step, and the rest
stepped : (s : State) (p : List ℕ) (t : State) (ps : List (List ℕ)) (n : ℕ) → step s p ≡ Some t → run s n (p ∷ ps) ≡ run t (n + 1) ps
stepped s p t ps n h = ap (λ o. option_map_or (λ x. run x (n + 1) ps) o (Err (syntax n))) h

pub not_same : (p q : List ℕ) (b : Bool) → bytes_eq p q ≡ b → (p ≡ q → ⊥) → b ≡ false
not_same p q true e h = absurd (h ((bytes_eq-Decides p q).0 e))
not_same p q false e h = refl

-- ---- a key

no_equals : (k : List ℕ) → list_all is_key_byte k ≡ true → All (λ x. (x == 61) ≡ false) k
no_equals [] h = All-nil (λ x. (x == 61) ≡ false)
no_equals (c ∷ cs) h = let p = and_parts _ _ h in All-cons (λ x. (x == 61) ≡ false) c cs (not-true (c == 61) (and_parts _ _ p.0).1) (no_equals cs p.1)

not_empty : (k : List ℕ) (c : ℕ) (v : List ℕ) → k ++ c ∷ v ≡ [] → ⊥
not_empty [] c v h = cc h
not_empty (x ∷ k) c v h = cc h

key_step : (done : List Section) (name : List ℕ) (keys : List (List ℕ × Data)) (k : List ℕ × Data) → IsKey k → is_before (last_key keys) k.0 ≡ true
    → step (within done name keys) (key_piece k) ≡ Some (within done name (keys ++ k ∷ []))
key_step done name keys k is after =
    let byte = (and_parts (begins_well k.0) (list_all is_key_byte k.0) is.name).1 in
    rw (not_same (key_piece k) [] (bytes_eq (key_piece k) []) refl (not_empty k.0 61 (compact_text k.1)), cut_at-at 61 k.0 (compact_text k.1) (no_equals k.0 byte), is_utf8-from_IsUtf8 k.0 is.utf8, is.name, after, value_of-compact_text k.1 is.value) refl

-- ---- runs

-- the pieces lead from s to t, whatever comes next
abbrev pub Leads : State → List (List ℕ) → State → Type 0
Leads s ps t = (n : ℕ) (rest : List (List ℕ)) → (m : ℕ) × (run s n (ps ++ rest) ≡ run t m rest)

leads_one : (s : State) (p : List ℕ) (t : State) → step s p ≡ Some t → Leads s (p ∷ []) t
leads_one s p t h n rest = (n + 1, stepped s p t rest n h)

leads_then : (s t u : State) (ps qs : List (List ℕ)) → Leads s ps t → Leads t qs u → Leads s (ps ++ qs) u
leads_then s t u ps qs f g n rest =
    let first = f n (qs ++ rest) in
    let second = g first.0 rest in
    (second.0, ap (run s n) (append_assoc ps qs rest) ∙ first.1 ∙ second.1)

leads_none : (s : State) → Leads s [] s
leads_none s n rest = (n, refl)

-- ---- the keys of a section

keys_lead : (done : List Section) (name : List ℕ) (keys ks : List (List ℕ × Data)) → AllByRecursion IsKey ks → are_after (last_key keys) (map (λ k. k.0) ks) ≡ true
    → Leads (within done name keys) (map key_piece ks) (within done name (keys ++ ks))
keys_lead done name keys [] is order = subst (λ l. Leads (within done name keys) [] (within done name l)) (sym (append-nil keys)) (leads_none (within done name keys))
keys_lead done name keys (k ∷ ks) is order =
    let p = and_parts (is_before (last_key keys) k.0) (are_after k.0 (map (λ k. k.0) ks)) order in
    let s = within done name (keys ++ k ∷ []) in
    let one = leads_one (within done name keys) (key_piece k) s (key_step done name keys k is.0 p.0) in
    let last : last_key (keys ++ k ∷ []) ≡ k.0 = fold_push (λ _ k. k.0) [] keys k in
    let more = keys_lead done name (keys ++ k ∷ []) ks is.1 (ap (λ l. are_after l (map (λ k. k.0) ks)) last ∙ p.1) in
    subst (λ l. Leads (within done name keys) (map key_piece (k ∷ ks)) (within done name l)) (append_assoc keys (k ∷ []) ks)
    (leads_then (within done name keys) s _ (key_piece k ∷ []) (map key_piece ks) one more)

-- ---- a section

name_step : (done : List Section) (name : List ℕ) → IsInfo done → is_name name ≡ true → IsUtf8 name → is_before (last_name done) name ≡ true
    → step (between done) (name_piece name) ≡ Some (within done name [])
name_step done name info is utf8 after =
    let later = before_later head_name (map (λ s. s.name) done) name info.order (ap (λ l. is_before l name) (sym (end_of-names head_name done)) ∙ after) in
    let other : name_piece name ≡ codes "[backrest]" → ⊥ = λ e. not_itself head_name name later (sym (append_cancel_right name head_name (93 ∷ []) (ap (drop 1) e))) in
    rw (not_same (name_piece name) (codes "[backrest]") (bytes_eq (name_piece name) (codes "[backrest]")) refl other, name_in-name_piece name, is_utf8-from_IsUtf8 name utf8, is, after) refl

close_step : (done : List Section) (s : Section) → has_keys s.keys ≡ true → step (within done s.name s.keys) [] ≡ Some (between (done ++ s ∷ []))
close_step done s h = rw h refl

section_leads : (done : List Section) (s : Section) → IsInfo done → IsSection s → is_before (last_name done) s.name ≡ true → Leads (between done) (section_pieces s) (between (done ++ s ∷ []))
section_leads done s info is after =
    let named = leads_one (between done) (name_piece s.name) (within done s.name []) (name_step done s.name info is.name is.utf8 after) in
    let keyed = keys_lead done s.name [] s.keys is.keys is.order in
    let closed = leads_one (within done s.name s.keys) [] (between (done ++ s ∷ [])) (close_step done s is.some) in
    leads_then (between done) (within done s.name []) (between (done ++ s ∷ [])) (name_piece s.name ∷ []) (map key_piece s.keys ++ [] ∷ []) named
    (leads_then (within done s.name []) (within done s.name s.keys) (between (done ++ s ∷ [])) (map key_piece s.keys) ([] ∷ []) keyed closed)

sections_lead : (done ss : List Section) → IsInfo done → AllByRecursion IsSection ss → are_after (last_name done) (map (λ s. s.name) ss) ≡ true
    → Leads (between done) (flat_map section_pieces ss) (between (done ++ ss))
sections_lead done [] info is order = subst (λ l. Leads (between done) [] (between l)) (sym (append-nil done)) (leads_none (between done))
sections_lead done (s ∷ ss) info is order =
    let p = and_parts (is_before (last_name done) s.name) (are_after s.name (map (λ s. s.name) ss)) order in
    let one = section_leads done s info is.0 p.0 in
    let last : last_name (done ++ s ∷ []) ≡ s.name = fold_push (λ _ s. s.name) head_name done s in
    let more = sections_lead (done ++ s ∷ []) ss (info_push done s info is.0 p.0) is.1 (ap (λ l. are_after l (map (λ s. s.name) ss)) last ∙ p.1) in
    subst (λ l. Leads (between done) (flat_map section_pieces (s ∷ ss)) (between l)) (append_assoc done (s ∷ []) ss)
    (leads_then (between done) (between (done ++ s ∷ [])) _ (section_pieces s) (flat_map section_pieces ss) one more)

-- ---- the whole

pub whole_leads : (ss : List Section) (known : List ℕ) → IsInfo ss → IsSum known → Leads start (spelled (over ss known)) (over ss known)
whole_leads ss known info is =
    let head = leads_then start format (between []) (codes "[backrest]" ∷ []) (codes "backrest-format=5" ∷ [] ∷ [])
    (leads_one start (codes "[backrest]") format refl)
    (leads_then format gap (between []) (codes "backrest-format=5" ∷ []) ([] ∷ []) (leads_one format (codes "backrest-format=5") gap refl) (leads_one gap [] (between []) refl)) in
    let body = sections_lead [] ss (record { sections = tt; order = refl }) info.sections info.order in
    let known_step : step (check ss) (sum_piece known) ≡ Some (closing ss known) = ap (option_map (closing ss)) (sum_in-sum_piece known is) in
    let tail = leads_then (between ss) (check ss) (over ss known) (codes "[backrest]" ∷ []) (sum_piece known ∷ [] ∷ []) (leads_one (between ss) (codes "[backrest]") (check ss) refl)
    (leads_then (check ss) (closing ss known) (over ss known) (sum_piece known ∷ []) ([] ∷ []) (leads_one (check ss) (sum_piece known) (closing ss known) known_step) (leads_one (closing ss known) [] (over ss known) refl)) in
    leads_then start (between ss) (over ss known) (done_pieces ss) (codes "[backrest]" ∷ sum_piece known ∷ [] ∷ [])
    (leads_then start (between []) (between ss) head_pieces (flat_map section_pieces ss) head body) tail
