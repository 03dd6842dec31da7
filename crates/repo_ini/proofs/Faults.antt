-- Which fault is reported.
use Rattle.std.proofs.Common.{◌≡◌, ℕ, ◌+◌, ◌-◌, Bool, true, false, List, [], ◌∷◌, ◌++◌, length, take, drop, bytes_eq, Option, Some, None, Result, Ok, Err, inl, inr, if◌then◌else◌, refl, sym, ap, ap₂, ◌∙◌, subst, arith, append_assoc, length-append}
use Rattle.std.specs.List.{AllByRecursion}
use Rattle.std.specs.Option.{option_map_or}
use Rattle.std.specs.Result.{result_unwrap_or}
use Rattle.std.proofs.lemmas.List.{take_at, take-append-drop}
use Rattle.std.proofs.lemmas.Slice.Eq.{bytes_eq-Decides}
use Rattle.sha1.specs.Sha1.{sha1}
use Rattle.base_text.specs.Sum.{IsSum, sum_text}
use Rattle.base_model.specs.Json.{IsOneLine}
use Rattle.base_model.specs.InfoText.{Section, IsInfo, text_with, signed_text}
use Rattle.repo_ini.specs.Reading.{State, start, format, gap, between, within, check, closing, over, step, run, ended, read_text, ◌>>=◌}
use Rattle.repo_ini.specs.Form.{pieces, HasForm, CanBegin, IsFirstFault, IsWrongSum, Fault, syntax, sum, IsFault}
use Rattle.repo_ini.proofs.Steps.{run-led}
use Rattle.repo_ini.proofs.Splits.{pieces-lines}
use Rattle.repo_ini.proofs.Laws.{read_form, form_read, live}

fault_or : {A : Type 0} → Fault → Result A Fault → Fault
fault_or d (Ok x) = d
fault_or d (Err f) = f

fault_of : {A : Type 0} (f g : Fault) → ◌≡◌ {A = Result A Fault} (Err f) (Err g) → f ≡ g
unfolding fault_or
fault_of f g h = ap (fault_or f) h

one_more : (a : List (List ℕ)) (p : List ℕ) (b : List (List ℕ)) (n : ℕ) → n ≡ length a + 1 → take n (a ++ p ∷ b) ≡ a ++ p ∷ []
one_more a p b n h =
    let len : length (a ++ p ∷ []) ≡ n = omega (arith, length-append a (p ∷ [])) in
    ap (take n) (sym (append_assoc a (p ∷ []) b)) ∙ take_at (a ++ p ∷ []) b n len

-- ---- a run that fails, at its first piece that no state takes

pub record Stops (s : State) (n : ℕ) (ps : List (List ℕ)) (f : Fault) : Type 0 where
  pub prefix : List (List ℕ)
  pub piece : List ℕ
  pub back : List (List ℕ)
  pub state : State
  pub whole : ps ≡ prefix ++ piece ∷ back
  pub reached : run s n prefix ≡ Ok state
  pub refused : step state piece ≡ None
  pub known : f ≡ syntax (n + length prefix)

stops_next : (s : State) (p : List ℕ) (ps : List (List ℕ)) (n : ℕ) (f : Fault) (o : Option State) → step s p ≡ o → ((u : State) → run u (n + 1) ps ≡ Err f → Stops u (n + 1) ps f)
    → option_map_or (λ x. run x (n + 1) ps) o (Err (syntax n)) ≡ Err f → Stops s n (p ∷ ps) f
stops_next s p ps n f None e more h = record {
  prefix = [];
  piece = p;
  back = ps;
  state = s;
  whole = refl;
  reached = refl;
  refused = e;
  known = sym (fault_of (syntax n) f h) ∙ ap syntax (omega arith);
}
stops_next s p ps n f (Some u) e more h =
    let r = more u h in
    record {
      prefix = p ∷ r.prefix;
      piece = r.piece;
      back = r.back;
      state = r.state;
      whole = ap (λ l. p ∷ l) r.whole;
      reached = ap (λ o. option_map_or (λ x. run x (n + 1) r.prefix) o (Err (syntax n))) e ∙ r.reached;
      refused = r.refused;
      known = r.known ∙ ap syntax (omega arith);
    }

pub stops : (ps : List (List ℕ)) (s : State) (n : ℕ) (f : Fault) → run s n ps ≡ Err f → Stops s n ps f
stops [] s n f h = cc h
stops (p ∷ ps) s n f h = stops_next s p ps n f (step s p) refl (λ u. stops ps u (n + 1) f) h

-- ---- a run over more pieces

more_next : (s : State) (p : List ℕ) (ps rest : List (List ℕ)) (n : ℕ) (t : State) (o : Option State) → ((u : State) → run u (n + 1) ps ≡ Ok t → (m : ℕ) × (run u (n + 1) (ps ++ rest) ≡ run t m rest))
    → option_map_or (λ x. run x (n + 1) ps) o (Err (syntax n)) ≡ Ok t → (m : ℕ) × (option_map_or (λ x. run x (n + 1) (ps ++ rest)) o (Err (syntax n)) ≡ run t m rest)
more_next s p ps rest n t None more h = cc h
more_next s p ps rest n t (Some u) more h = more u h

run_more : (ps rest : List (List ℕ)) (s : State) (n : ℕ) (t : State) → run s n ps ≡ Ok t → (m : ℕ) × (run s n (ps ++ rest) ≡ run t m rest)
run_more [] rest s n t h = (n, ap (λ r. run (result_unwrap_or r s) n rest) h)
run_more (p ∷ ps) rest s n t h = more_next s p ps rest n t (step s p) (λ u. run_more ps rest u (n + 1) t) h

-- no text of the form begins with pieces of which the last is refused
dead : (prefix : List (List ℕ)) (p : List ℕ) (t : State) → run start 1 prefix ≡ Ok t → step t p ≡ None → CanBegin (prefix ++ p ∷ []) → ⊥
dead prefix p t reached refused can =
    let form = can.form in
    let read = form_read form.sections form.known form.info form.is_sum in
    let same : pieces (text_with (sum_text form.known) form.sections) ≡ prefix ++ p ∷ can.rest = ap pieces (sym form.spelled) ∙ can.begins ∙ append_assoc prefix (p ∷ []) can.rest in
    let m = run_more prefix (p ∷ can.rest) start 1 t reached in
    let failed : run start 1 (prefix ++ p ∷ can.rest) ≡ Err (syntax m.0) = m.1 ∙ ap (λ o. option_map_or (λ x. run x (m.0 + 1) can.rest) o (Err (syntax m.0))) refused in
    cc (sym read ∙ ap (run start 1) same ∙ failed)

-- ---- prefixes

lines_prefix : (a b : List (List ℕ)) → AllByRecursion IsOneLine (a ++ b) → AllByRecursion IsOneLine a
lines_prefix [] b h = tt
lines_prefix (x ∷ a) b h = (h.0, lines_prefix a b h.1)

can_prefix : (a b : List (List ℕ)) → CanBegin (a ++ b) → CanBegin a
can_prefix a b can = record { text = can.text; form = can.form; rest = b ++ can.rest; begins = can.begins ∙ append_assoc a b can.rest }

can_take : (k : ℕ) (ps : List (List ℕ)) → CanBegin ps → CanBegin (take k ps)
can_take k ps can = can_prefix (take k ps) (drop k ps) (subst CanBegin (sym (take-append-drop k ps)) can)

-- what was read of some pieces can continue
read_begins : (ps : List (List ℕ)) (t : State) → AllByRecursion IsOneLine ps → run start 1 ps ≡ Ok t → CanBegin ps
read_begins ps t lines h = let r = run-led ps start 1 t h in subst CanBegin r.1 (live t (r.0 lines tt))

-- ---- the faults

stopped_fault : (bytes : List ℕ) (f : Fault) → Stops start 1 (pieces bytes) f → IsFault bytes f
stopped_fault bytes f s =
    let line = 1 + length s.prefix in
    let lines = lines_prefix s.prefix (s.piece ∷ s.back) (subst (AllByRecursion IsOneLine) s.whole (pieces-lines bytes)) in
    let less : line - 1 ≡ length s.prefix = omega arith in
    let prefix : take (line - 1) (pieces bytes) ≡ s.prefix = ap₂ take less s.whole ∙ take_at s.prefix (s.piece ∷ s.back) (length s.prefix) refl in
    let here : take line (pieces bytes) ≡ s.prefix ++ s.piece ∷ [] = ap (take line) s.whole ∙ one_more s.prefix s.piece s.back line (omega arith) in
    let fault : IsFirstFault bytes line = record {
      before = subst CanBegin (sym prefix) (read_begins s.prefix s.state lines s.reached);
      here = inl (λ can. dead s.prefix s.piece s.state s.reached s.refused (subst CanBegin here can));
    } in
    subst (IsFault bytes) (sym s.known) fault

abbrev IsOver : State → Type 0
IsOver start = ⊥
IsOver format = ⊥
IsOver gap = ⊥
IsOver (between done) = ⊥
IsOver (within done name keys) = ⊥
IsOver (check done) = ⊥
IsOver (closing done known) = ⊥
IsOver (over done known) = Unit {0}

-- the text ended in a state that isn't the last
short : (bytes : List ℕ) (t : State) (f : Fault) → run start 1 (pieces bytes) ≡ Ok t → (IsOver t → ⊥) → f ≡ syntax (length (pieces bytes)) → IsFault bytes f
short bytes t f h unended known =
    let can = read_begins (pieces bytes) t (pieces-lines bytes) h in
    let no_form : HasForm bytes → ⊥ = λ form.
    let read = form_read form.sections form.known form.info form.is_sum in
    let same : t ≡ over form.sections form.known = ap (λ r. result_unwrap_or r t) (sym h ∙ ap (λ b. run start 1 (pieces b)) form.spelled ∙ read) in
    unended (subst IsOver (sym same) tt) in
    let fault : IsFirstFault bytes (length (pieces bytes)) = record {
      before = can_take (length (pieces bytes) - 1) (pieces bytes) can;
      here = inr (refl, can, no_form);
    } in
    subst (IsFault bytes) (sym known) fault

wrong_sum : (bytes : List ℕ) (ss : List Section) (known : List ℕ) (f : Fault) (b : Bool) → bytes_eq known (sha1 (signed_text ss)) ≡ b → IsInfo ss → IsSum known → bytes ≡ text_with (sum_text known) ss
    → (if b then Ok ss else Err (sum known (sha1 (signed_text ss)))) ≡ Err f → IsFault bytes f
wrong_sum bytes ss known f true e info is text h = cc h
wrong_sum bytes ss known f false e info is text h =
    let wrong : IsWrongSum bytes known (sha1 (signed_text ss)) = record {
      sections = ss;
      info = info;
      is_sum = is;
      spelled = text;
      own = refl;
      differ = λ same. cc (sym e ∙ (bytes_eq-Decides known (sha1 (signed_text ss))).1 same);
    } in
    subst (IsFault bytes) (fault_of (sum known (sha1 (signed_text ss))) f h) wrong

at_end : (bytes : List ℕ) (t : State) (f : Fault) → run start 1 (pieces bytes) ≡ Ok t → ended (length (pieces bytes)) t ≡ Err f → IsFault bytes f
at_end bytes start f r h = short bytes start f r (λ x. x) (sym (fault_of _ f h))
at_end bytes format f r h = short bytes format f r (λ x. x) (sym (fault_of _ f h))
at_end bytes gap f r h = short bytes gap f r (λ x. x) (sym (fault_of _ f h))
at_end bytes (between done) f r h = short bytes (between done) f r (λ x. x) (sym (fault_of _ f h))
at_end bytes (within done name keys) f r h = short bytes (within done name keys) f r (λ x. x) (sym (fault_of _ f h))
at_end bytes (check done) f r h = short bytes (check done) f r (λ x. x) (sym (fault_of _ f h))
at_end bytes (closing done known) f r h = short bytes (closing done known) f r (λ x. x) (sym (fault_of _ f h))
at_end bytes (over ss known) f r h = let g = read_form bytes ss known r in wrong_sum bytes ss known f (bytes_eq known (sha1 (signed_text ss))) refl g.0 g.1 g.2 h

by_run : (bytes : List ℕ) (f : Fault) (r : Result State Fault) → run start 1 (pieces bytes) ≡ r → (r >>= ended (length (pieces bytes))) ≡ Err f → IsFault bytes f
by_run bytes f (Ok t) e h = at_end bytes t f e h
by_run bytes f (Err g) e h = subst (IsFault bytes) (fault_of g f h) (stopped_fault bytes g (stops (pieces bytes) start 1 g e))

-- the fault that reading gives is the text's
pub read_text-fault : (bytes : List ℕ) (f : Fault) → read_text bytes ≡ Err f → IsFault bytes f
read_text-fault bytes f h = by_run bytes f (run start 1 (pieces bytes)) refl h
