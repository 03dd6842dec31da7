-- What reading an info text answers.
use Rattle.std.proofs.Common.{◌≡◌, ◌≢◌, ℕ, Bool, true, false, List, [], ◌∷◌, ◌++◌, map, length, codes, bytes_eq, Result, Ok, Err, if◌then◌else◌, refl, sym, ap, ◌∙◌, subst, arith, append_assoc, append-nil}
use Rattle.std.specs.Result.{result_unwrap_or}
use Rattle.std.proofs.lemmas.Slice.Eq.{bytes_eq-Decides}
use Rattle.sha1.specs.Sha1.{sha1}
use Rattle.serde_json.specs.Data.{Data, null}
use Rattle.base_text.specs.Sum.{IsSum, sum_text}
use Rattle.base_text.proofs.Digests.{IsSum-sha1}
use Rattle.json.proofs.Printed.Utf8.{IsUtf8-are_ascii}
use Rattle.base_model.specs.InfoText.{Section, IsKey, IsSection, IsInfo, text_with, info_text, signed_text}
use Rattle.repo_ini.specs.Reading.{State, start, format, gap, between, within, check, closing, over, run, ended, read_text, ◌>>=◌}
use Rattle.repo_ini.specs.Form.{pieces, CanBegin, Fault, sum}
use Rattle.repo_ini.proofs.Built.{IsValue-built}
use Rattle.repo_ini.proofs.Pieces.{name_piece, key_piece, sum_piece}
use Rattle.repo_ini.proofs.Steps.{section_pieces, done_pieces, head_pieces, spelled, Sound, run-led, info_push, flat_map-push}
use Rattle.repo_ini.proofs.Runs.{not_same, whole_leads}
use Rattle.repo_ini.proofs.Splits.{pieces-lines, pieces-text_with, pieces-injective}

-- ---- what is read has the form

-- a state that was reached
pub reached : (bytes : List ℕ) (t : State) → run start 1 (pieces bytes) ≡ Ok t → Sound t × (spelled t ≡ pieces bytes)
reached bytes t h = let r = run-led (pieces bytes) start 1 t h in (r.0 (pieces-lines bytes) tt, r.1)

pub read_form : (bytes : List ℕ) (ss : List Section) (known : List ℕ) → run start 1 (pieces bytes) ≡ Ok (over ss known) → IsInfo ss × IsSum known × (bytes ≡ text_with (sum_text known) ss)
read_form bytes ss known h =
    let r = reached bytes (over ss known) h in
    (r.0.0, r.0.1, pieces-injective bytes (text_with (sum_text known) ss) (sym r.1 ∙ sym (pieces-text_with ss known r.0.0)))

-- ---- what has the form is read

pub form_read : (ss : List Section) (known : List ℕ) → IsInfo ss → IsSum known → run start 1 (pieces (text_with (sum_text known) ss)) ≡ Ok (over ss known)
form_read ss known info is =
    let l = whole_leads ss known info is 1 [] in
    ap (run start 1) (pieces-text_with ss known info ∙ sym (append-nil (spelled (over ss known)))) ∙ l.1

-- ---- the answers

by_sum : (bytes : List ℕ) (ss qs : List Section) (known : List ℕ) (b : Bool) → bytes_eq known (sha1 (signed_text ss)) ≡ b → (bytes ≡ text_with (sum_text known) ss) → IsInfo ss
    → (if b then Ok ss else Err (sum known (sha1 (signed_text ss)))) ≡ Ok qs → IsInfo qs × (bytes ≡ info_text qs)
by_sum bytes ss qs known true e text info h =
    let same : ss ≡ qs = ap (λ r. result_unwrap_or r ss) h in
    let own = (bytes_eq-Decides known (sha1 (signed_text ss))).0 e in
    subst (λ x. IsInfo x × (bytes ≡ info_text x)) same (info, text ∙ ap (λ d. text_with (sum_text d) ss) own)
by_sum bytes ss qs known false e text info h = cc h

found_in : (bytes : List ℕ) (qs : List Section) (t : State) → run start 1 (pieces bytes) ≡ Ok t → ended (length (pieces bytes)) t ≡ Ok qs → IsInfo qs × (bytes ≡ info_text qs)
found_in bytes qs start r h = cc h
found_in bytes qs format r h = cc h
found_in bytes qs gap r h = cc h
found_in bytes qs (between done) r h = cc h
found_in bytes qs (within done name keys) r h = cc h
found_in bytes qs (check done) r h = cc h
found_in bytes qs (closing done known) r h = cc h
found_in bytes qs (over ss known) r h = let f = read_form bytes ss known r in by_sum bytes ss qs known (bytes_eq known (sha1 (signed_text ss))) refl f.2 f.0 h

found_at : (bytes : List ℕ) (qs : List Section) (r : Result State Fault) → run start 1 (pieces bytes) ≡ r → (r >>= ended (length (pieces bytes))) ≡ Ok qs → IsInfo qs × (bytes ≡ info_text qs)
found_at bytes qs (Ok t) e h = found_in bytes qs t e h
found_at bytes qs (Err f) e h = cc h

-- what is read is the sections of the text
pub read_text-found : (bytes : List ℕ) (ss : List Section) → read_text bytes ≡ Ok ss → IsInfo ss × (bytes ≡ info_text ss)
read_text-found bytes ss h = found_at bytes ss (run start 1 (pieces bytes)) refl h

-- a text of the form is read, or has a wrong sum
pub read_text-form : (ss : List Section) (known : List ℕ) → IsInfo ss → IsSum known
    → read_text (text_with (sum_text known) ss) ≡ (if bytes_eq known (sha1 (signed_text ss)) then Ok ss else Err (sum known (sha1 (signed_text ss))))
read_text-form ss known info is = ap (λ r. r >>= ended (length (pieces (text_with (sum_text known) ss)))) (form_read ss known info is)

-- a text of the form that states its own sum is read
pub read_text-only : (bytes : List ℕ) (ss : List Section) → IsInfo ss → bytes ≡ info_text ss → read_text bytes ≡ Ok ss
read_text-only bytes ss info h =
    let own = sha1 (signed_text ss) in
    ap read_text h ∙ read_text-form ss own info (IsSum-sha1 (signed_text ss))
    ∙ ap (λ b. if b then Ok ss else Err (sum own own)) ((bytes_eq-Decides own own).1 refl)

-- a text of the form that states another sum is refused for it
pub read_text-wrong : (bytes : List ℕ) (ss : List Section) (known : List ℕ) → IsInfo ss → IsSum known → known ≢ sha1 (signed_text ss) → bytes ≡ text_with (sum_text known) ss
    → read_text bytes ≡ Err (sum known (sha1 (signed_text ss)))
read_text-wrong bytes ss known info is differ h =
    let own = sha1 (signed_text ss) in
    ap read_text h ∙ read_text-form ss known info is
    ∙ ap (λ b. if b then Ok ss else Err (sum known own)) (not_same known own (bytes_eq known own) refl differ)

-- ---- a state that was reached can continue

abbrev tail_of : List ℕ → List (List ℕ)
tail_of known = codes "[backrest]" ∷ sum_piece known ∷ [] ∷ []

begins : (ss : List Section) (known : List ℕ) → IsInfo ss → IsSum known → (ps rest : List (List ℕ)) → spelled (over ss known) ≡ ps ++ rest → CanBegin ps
begins ss known info is ps rest h = record {
  text = text_with (sum_text known) ss;
  form = record { sections = ss; known = known; info = info; is_sum = is; spelled = refl };
  rest = rest;
  begins = pieces-text_with ss known info ∙ h;
}

some_sum : List ℕ
some_sum = sha1 []

is_some_sum : IsSum some_sum
unfolding some_sum
is_some_sum = IsSum-sha1 []

no_sections : IsInfo []
no_sections = record { sections = tt; order = refl }

-- a key that may be first in any section
abbrev a_key : List ℕ × Data
a_key = (codes "a", null)

is_a_key : IsKey a_key
is_a_key = record { name = refl; utf8 = IsUtf8-are_ascii (codes "a") refl; value = IsValue-built null tt (omega arith) }

regroup : (a b c d e : List (List ℕ)) → a ++ (b ++ (c ++ d)) ++ e ≡ a ++ (b ++ c) ++ (d ++ e)
regroup a b c d e = simp append_assoc

within_begins : (done : List Section) (name : List ℕ) (keys more : List (List ℕ × Data)) (rest : List (List ℕ)) → Sound (within done name keys) → IsSection (record { name = name; keys = more })
    → map key_piece more ++ [] ∷ [] ≡ map key_piece keys ++ rest → CanBegin (spelled (within done name keys))
within_begins done name keys more rest sound is h =
    let s : Section = record { name = name; keys = more } in
    let all : spelled (over (done ++ s ∷ []) some_sum) ≡ spelled (within done name keys) ++ (rest ++ tail_of some_sum) =
    ap (λ l. head_pieces ++ l ++ tail_of some_sum) (flat_map-push section_pieces done s)
    ∙ ap (λ l. done_pieces done ++ name_piece name ∷ l ++ tail_of some_sum) h
    ∙ regroup (done_pieces done) (name_piece name ∷ []) (map key_piece keys) rest (tail_of some_sum) in
    begins (done ++ s ∷ []) some_sum (info_push done s sound.0 is sound.3) is_some_sum (spelled (within done name keys)) (rest ++ tail_of some_sum) all

pub live : (t : State) → Sound t → CanBegin (spelled t)
live start sound = begins [] some_sum no_sections is_some_sum [] (spelled (over [] some_sum)) refl
live format sound = begins [] some_sum no_sections is_some_sum (spelled format) (codes "backrest-format=5" ∷ [] ∷ tail_of some_sum) refl
live gap sound = begins [] some_sum no_sections is_some_sum (spelled gap) ([] ∷ tail_of some_sum) refl
live (between done) sound = begins done some_sum sound is_some_sum (done_pieces done) (tail_of some_sum) refl
live (within done name []) sound = within_begins done name [] (a_key ∷ []) (key_piece a_key ∷ [] ∷ []) sound (record { name = sound.1; utf8 = sound.2; some = refl; keys = (is_a_key, tt); order = refl }) refl
live (within done name (k ∷ keys)) sound = within_begins done name (k ∷ keys) (k ∷ keys) ([] ∷ []) sound (record { name = sound.1; utf8 = sound.2; some = refl; keys = sound.4; order = sound.5 }) refl
live (check done) sound = begins done some_sum sound is_some_sum (spelled (check done)) (sum_piece some_sum ∷ [] ∷ []) (sym (append_assoc (done_pieces done) (codes "[backrest]" ∷ []) (sum_piece some_sum ∷ [] ∷ [])))
live (closing done known) sound = begins done known sound.0 sound.1 (spelled (closing done known)) ([] ∷ []) (sym (append_assoc (done_pieces done) (codes "[backrest]" ∷ sum_piece known ∷ []) ([] ∷ [])))
live (over done known) sound = begins done known sound.0 sound.1 (spelled (over done known)) [] (sym (append-nil (spelled (over done known))))
