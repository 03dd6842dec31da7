-- Which entries are read, and which are kept.
use Rattle.std.proofs.Common.{ℕ, zero, suc, Bool, true, false, not, ◌≡◌, ◌≢◌, ◌⊎◌, inl, inr, ⊎_elim, ◌<◌, ◌+◌, ◌&&◌, refl, sym, ap, ◌∙◌, arith, add-one, List, [], ◌∷◌, ◌++◌, length, map, take, Option, Some, slice_get, bytes_eq, cond}
use Rattle.std.specs.Prelude.{nat_lt}
use Rattle.std.proofs.lemmas.Bool.{and_parts}
use Rattle.std.proofs.lemmas.Bool.Decides.{nat_tests}
use Rattle.std.proofs.lemmas.Slice.Eq.{bytes_eq-Decides}
use Rattle.base_devices.specs.Order.{are_in_order}
use Rattle.restore_make.specs.Recovered.{Recovery}
use Rattle.base_model.specs.Text.{Text, In}
use Rattle.base_model.specs.Values.{FileEntry}
use Rattle.restore_steps.specs.Clearing.{control_path}
use Rattle.restore_steps.proofs.Ordered.{one_name}
use Rattle.restore_make.specs.Options.{is_added, is_ordinary}
use Rattle.restore_make.specs.Kept.{mark_at, marked}
use Rattle.restore_make.specs.Entries.{is_read, reads_of}

pub not_true : (b : Bool) → not b ≡ true → b ≡ true → ⊥
not_true true e f = cc
not_true false e f = cc

pub is_false : (b : Bool) → (b ≡ true → ⊥) → not b ≡ true
is_false true never = absurd (never refl)
is_false false never = refl

pub both : (a b : Bool) → a ≡ true → b ≡ true → a && b ≡ true
both a b x y = cc

three_parts : (a b c : Bool) → a && b && c ≡ true → (a ≡ true) × (b ≡ true) × (c ≡ true)
three_parts true true true e = (refl, refl, refl)
three_parts true true false e = cc
three_parts true false c e = cc
three_parts false b c e = cc

three_by : (a b c : Bool) → a ≡ true → b ≡ true → c ≡ true → a && b && c ≡ true
three_by a b c x y z = cc

not_false : (b : Bool) → not b ≡ true → b ≡ false
not_false true e = cc
not_false false e = refl

false_not : (b : Bool) → b ≡ false → not b ≡ true
false_not true e = cc
false_not false e = refl

-- ---- ordinary entries

module _ (r : Recovery) (e : FileEntry) where
  ordinary_parts : is_ordinary r e ≡ true → (nat_lt 0 e.size ≡ true) × (not (bytes_eq e.path control_path) ≡ true) × (not (is_added r e.path) ≡ true)
  ordinary_parts is = three_parts (nat_lt 0 e.size) (not (bytes_eq e.path control_path)) (not (is_added r e.path)) is

  pub ordinary_some : is_ordinary r e ≡ true → 0 < e.size
  ordinary_some is = let h : nat_lt 0 e.size ≡ true = (ordinary_parts is).0 in grind (arith, nat_tests)

  pub ordinary_off : is_ordinary r e ≡ true → e.path ≢ control_path
  ordinary_off is at_control = not_true (bytes_eq e.path control_path) (ordinary_parts is).1 ((bytes_eq-Decides e.path control_path).1 at_control)

  pub ordinary_own : is_ordinary r e ≡ true → is_added r e.path ≡ false
  ordinary_own is = not_false (is_added r e.path) (ordinary_parts is).2

  pub ordinary_by : 0 < e.size → e.path ≢ control_path → is_added r e.path ≡ false → is_ordinary r e ≡ true
  ordinary_by some off own = three_by (nat_lt 0 e.size) (not (bytes_eq e.path control_path)) (not (is_added r e.path)) (grind (arith, nat_tests)) (is_false (bytes_eq e.path control_path) (λ t. off ((bytes_eq-Decides e.path control_path).0 t))) (false_not (is_added r e.path) own)

-- ---- marks

abbrev pub name_of : FileEntry × Bool → Text
name_of p = p.0.path

names_marked : (es : List FileEntry) (marks : List Bool) → map name_of (marked es marks) ≡ map (λ (e : FileEntry). e.path) es
names_marked [] marks = refl
names_marked (e ∷ es) [] = ap (λ l. e.path ∷ l) (names_marked es [])
names_marked (e ∷ es) (mark ∷ marks) = ap (λ l. e.path ∷ l) (names_marked es marks)

pub marked_order : (es : List FileEntry) (marks : List Bool) → are_in_order (map (λ (e : FileEntry). e.path) es) ≡ true → are_in_order (map name_of (marked es marks)) ≡ true
marked_order es marks order = ap are_in_order (names_marked es marks) ∙ order

-- an entry has one mark
pub one_mark : (es : List FileEntry) (marks : List Bool) (d e : FileEntry) (a b : Bool) → are_in_order (map (λ (x : FileEntry). x.path) es) ≡ true → In (d, a) (marked es marks) → In (e, b) (marked es marks) → d.path ≡ e.path → a ≡ b
one_mark es marks d e a b order i j same = ap (λ (p : FileEntry × Bool). p.1) (one_name name_of (marked es marks) (d, a) (e, b) (marked_order es marks order) i j same)

pub marked_in : (es : List FileEntry) (marks : List Bool) (p : FileEntry × Bool) → In p (marked es marks) → In p.0 es
marked_in [] marks p i = absurd i
marked_in (e ∷ es) [] p (inl is) = inl (ap (λ (q : FileEntry × Bool). q.0) is)
marked_in (e ∷ es) [] p (inr i) = inr (marked_in es [] p i)
marked_in (e ∷ es) (mark ∷ marks) p (inl is) = inl (ap (λ (q : FileEntry × Bool). q.0) is)
marked_in (e ∷ es) (mark ∷ marks) p (inr i) = inr (marked_in es marks p i)

-- each entry has a mark
pub in_marked : (es : List FileEntry) (marks : List Bool) (e : FileEntry) → In e es → In (e, true) (marked es marks) ⊎ In (e, false) (marked es marks)
in_marked [] marks e i = absurd i
in_marked (d ∷ es) [] e (inl is) = inr (inl (ap (λ (x : FileEntry). (x, false)) is))
in_marked (d ∷ es) [] e (inr i) = ⊎_elim (λ x. inl (inr x)) (λ x. inr (inr x)) (in_marked es [] e i)
in_marked (d ∷ es) (true ∷ marks) e (inl is) = inl (inl (ap (λ (x : FileEntry). (x, true)) is))
in_marked (d ∷ es) (false ∷ marks) e (inl is) = inr (inl (ap (λ (x : FileEntry). (x, false)) is))
in_marked (d ∷ es) (mark ∷ marks) e (inr i) = ⊎_elim (λ x. inl (inr x)) (λ x. inr (inr x)) (in_marked es marks e i)

-- the mark of a place is its entry's
pub marked_at : (es : List FileEntry) (marks : List Bool) (i : ℕ) (e : FileEntry) → slice_get es i ≡ Some e → In (e, mark_at marks i) (marked es marks)
marked_at [] marks i e is = cc
marked_at (d ∷ es) [] zero e is = let h : ◌≡◌ {A = Option FileEntry} (Some d) (Some e) = is in let same : d ≡ e = cc in inl (ap (λ (x : FileEntry). (x, false)) (sym same))
marked_at (d ∷ es) [] (suc i) e is = inr (marked_at es [] i e is)
marked_at (d ∷ es) (mark ∷ marks) zero e is = let h : ◌≡◌ {A = Option FileEntry} (Some d) (Some e) = is in let same : d ≡ e = cc in inl (ap (λ (x : FileEntry). (x, mark)) (sym same))
marked_at (d ∷ es) (mark ∷ marks) (suc i) e is = inr (marked_at es marks i e is)

-- and each entry with a mark has a place
pub at_marked : (es : List FileEntry) (marks : List Bool) (e : FileEntry) (mark : Bool) → In (e, mark) (marked es marks) → (i : ℕ) × (slice_get es i ≡ Some e) × (mark_at marks i ≡ mark)
at_marked [] marks e mark i = absurd i
at_marked (d ∷ es) [] e mark (inl is) = (0, ap (λ (p : FileEntry × Bool). Some p.0) (sym is), sym (ap (λ (p : FileEntry × Bool). p.1) is))
at_marked (d ∷ es) [] e mark (inr i) = let h = at_marked es [] e mark i in (suc h.0, h.1, h.2)
at_marked (d ∷ es) (m ∷ marks) e mark (inl is) = (0, ap (λ (p : FileEntry × Bool). Some p.0) (sym is), sym (ap (λ (p : FileEntry × Bool). p.1) is))
at_marked (d ∷ es) (m ∷ marks) e mark (inr i) = let h = at_marked es marks e mark i in (suc h.0, h.1, h.2)

marked_next : (es : List FileEntry) (marks : List Bool) (i : ℕ) (e : FileEntry) → slice_get es i ≡ Some e → take (suc i) (marked es marks) ≡ take i (marked es marks) ++ (e, mark_at marks i) ∷ []
marked_next [] marks i e is = cc
marked_next (d ∷ es) [] zero e is = let h : ◌≡◌ {A = Option FileEntry} (Some d) (Some e) = is in let same : d ≡ e = cc in ap (λ (x : FileEntry). (x, false) ∷ []) same
marked_next (d ∷ es) [] (suc i) e is = ap (λ l. (d, false) ∷ l) (marked_next es [] i e is)
marked_next (d ∷ es) (mark ∷ marks) zero e is = let h : ◌≡◌ {A = Option FileEntry} (Some d) (Some e) = is in let same : d ≡ e = cc in ap (λ (x : FileEntry). (x, mark) ∷ []) same
marked_next (d ∷ es) (mark ∷ marks) (suc i) e is = ap (λ l. (d, mark) ∷ l) (marked_next es marks i e is)

pub marked_more : (es : List FileEntry) (marks : List Bool) (i : ℕ) (e : FileEntry) → slice_get es i ≡ Some e → take (i + 1) (marked es marks) ≡ take i (marked es marks) ++ (e, mark_at marks i) ∷ []
marked_more es marks i e is = ap (λ n. take n (marked es marks)) (add-one i) ∙ marked_next es marks i e is

pub marked_long : (es : List FileEntry) (marks : List Bool) → length (marked es marks) ≡ length es
marked_long [] marks = refl
marked_long (e ∷ es) [] = ap (λ n. suc n) (marked_long es [])
marked_long (e ∷ es) (mark ∷ marks) = ap (λ n. suc n) (marked_long es marks)

-- ---- entries that are read

module _ (r : Recovery) where
  pub read_in : (ps : List (FileEntry × Bool)) (e : FileEntry) → In (e, false) ps → is_ordinary r e ≡ true → In e (reads_of r ps)
  read_in [] e i is = absurd i
  read_in (p ∷ ps) e i is = go (is_read r p) refl i (λ later. read_in ps e later is)
    where
      go : (b : Bool) → is_read r p ≡ b → In (e, false) (p ∷ ps) → (In (e, false) ps → In e (reads_of r ps)) → In e (cond b (p.0 ∷ []) [] ++ reads_of r ps)
      go true t (inl same) next = inl (ap (λ (q : FileEntry × Bool). q.0) same)
      go true t (inr later) next = inr (next later)
      go false t (inl same) next = let h : ◌≡◌ {A = Bool} true false = sym (both (is_ordinary r e) (not false) is refl) ∙ ap (is_read r) same ∙ t in cc
      go false t (inr later) next = next later

  pub in_read : (ps : List (FileEntry × Bool)) (e : FileEntry) → In e (reads_of r ps) → In (e, false) ps × (is_ordinary r e ≡ true)
  in_read [] e i = absurd i
  in_read (p ∷ ps) e i = go (is_read r p) refl i (λ later. in_read ps e later)
    where
      unmarked : (q : FileEntry × Bool) → is_read r q ≡ true → (q ≡ (q.0, false)) × (is_ordinary r q.0 ≡ true)
      unmarked (d, true) is = let h : not true ≡ true = (and_parts (is_ordinary r d) (not true) is).1 in cc
      unmarked (d, false) is = (refl, (and_parts (is_ordinary r d) (not false) is).0)

      go : (b : Bool) → is_read r p ≡ b → In e (cond b (p.0 ∷ []) [] ++ reads_of r ps) → (In e (reads_of r ps) → In (e, false) ps × (is_ordinary r e ≡ true)) → In (e, false) (p ∷ ps) × (is_ordinary r e ≡ true)
      go true t (inl same) next =
          let u = unmarked p t in
          (inl (ap (λ (x : FileEntry). (x, false)) same ∙ sym u.0), ap (is_ordinary r) same ∙ u.1)
      go true t (inr later) next = let h = next later in (inr h.0, h.1)
      go false t later next = let h = next later in (inr h.0, h.1)
