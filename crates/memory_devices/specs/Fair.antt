-- What a disk in memory holds may be left by a crash.
use Rattle.std.specs.Prelude.{◌≡◌, ◌⊎◌, ℕ, String, Vec, Bool, true, false, cond, ◌||◌, ◌&&◌, not, is_some, List, [], ◌∷◌, ◌++◌, length, Some, None, refl, bytes_eq, Decides, string_bytes, take}
use Rattle.std.proofs.Common.{inl, inr, ⊎_elim, sym, ◌∙◌, ap, subst, arith}
use Rattle.std.proofs.lemmas.List.{take_all}
use Rattle.std.proofs.lemmas.Slice.Eq.{bytes_eq-Decides}
use Rattle.base_devices.specs.Content.{Name, Value, set_at, put, lengthened, moved}
use Rattle.memory_devices.specs.declared.change.Change.{Change}
use Rattle.memory_devices.specs.declared.change.Change.TheVariants.{Begun, Appended, Unsynced, Synced, Renamed, Removed, Swept}
use Rattle.memory_devices.specs.declared.change.Sweep.TheVariants.{SyncFolders, SyncFolder, Sync}
use Rattle.std.specs.declared.alloc.Global.{Global}
use Rattle.memory_devices.specs.State.{State, step, after, first_state, Among, kept_at, has_unsynced_at, takes_in}

decided : {X : Type 0} (P : Type 0) (x y : X) (b : Bool) → Decides b P → (P × (cond b x y ≡ x)) ⊎ (cond b x y ≡ y)
decided P x y true d = inl (d.0 refl, refl)
decided P x y false d = inr refl

-- a list of names with one set anew, at each name; and the choices that a push adds
pub set_cases : {X : Type 0} (name : Name) (x : X) (f : Name → X) (q : Name)
    → ((name ≡ q) × (set_at name x f q ≡ x)) ⊎ (set_at name x f q ≡ f q)
set_cases name x f q = decided (name ≡ q) x (f q) (bytes_eq name q) (bytes_eq-Decides name q)

pub among_push : (v : Value) (xs : List Value) (x : Value) → Among v (xs ++ x ∷ []) → Among v xs ⊎ (v ≡ x)
among_push v [] x (inl is) = inr is
among_push v [] x (inr none) = absurd none
among_push v (y ∷ xs) x (inl is) = inl (inl is)
among_push v (y ∷ xs) x (inr there) = ⊎_elim (λ h. inl (inr h)) (λ h. inr h) (among_push v xs x there)

-- a set mark is an old one or the new name's
pub set_mark : (name : Name) (b : Bool) (f : Name → Bool) (q : Name) → set_at name b f q ≡ true
    → (f q ≡ true) ⊎ ((q ≡ name) × (b ≡ true))
set_mark name b f q is = ⊎_elim (λ h. inr (sym h.0, sym h.1 ∙ is)) (λ h. inl (sym h ∙ is)) (set_cases name b f q)

-- one value more at a name
pub more_kept : (name : Name) (x : Value) (kept : Name → List Value) (q : Name) (v : Value)
    → Among v (set_at name (kept name ++ x ∷ []) kept q) → Among v (kept q) ⊎ ((q ≡ name) × (v ≡ x))
more_kept name x kept q v had = ⊎_elim
    (λ h. ⊎_elim (λ old. inl (subst (λ (n : Name). Among v (kept n)) h.0 old)) (λ new. inr (sym h.0, new))
    (among_push v (kept name) x (subst (λ (l : List Value). Among v l) h.1 had)))
    (λ h. inl (subst (λ (l : List Value). Among v l) h had))
    (set_cases name (kept name ++ x ∷ []) kept q)

-- each name is unsynced, or has what it holds among what is kept
abbrev pub IsFair : State → Type 0
IsFair s = (n : Name) → (s.unsynced n ≡ true) ⊎ Among (s.now n) (s.kept n)

among_last : (xs : List Value) (x : Value) → Among x (xs ++ x ∷ [])
among_last [] x = inl refl
among_last (y ∷ xs) x = inr (among_last xs x)

among_more : (v : Value) (xs : List Value) (x : Value) → Among v xs → Among v (xs ++ x ∷ [])
among_more v [] x none = absurd none
among_more v (y ∷ xs) x (inl is) = inl is
among_more v (y ∷ xs) x (inr there) = inr (among_more v xs x there)

-- fair at one name
abbrev FairAt : (Name → Value) → (Name → List Value) → (Name → Bool) → Name → Type 0
FairAt now kept unsynced n = (unsynced n ≡ true) ⊎ Among (now n) (kept n)

two : (b : Bool) → (b ≡ true) ⊎ (b ≡ false)
two true = inl refl
two false = inr refl

set_yes : {X : Type 0} (m : Name) (x : X) (f : Name → X) (n : Name) → bytes_eq m n ≡ true → set_at m x f n ≡ x
set_yes m x f n e = ap (λ b. cond b x (f n)) e

set_no : {X : Type 0} (m : Name) (x : X) (f : Name → X) (n : Name) → bytes_eq m n ≡ false → set_at m x f n ≡ f n
set_no m x f n e = ap (λ b. cond b x (f n)) e

pub set_same : {X : Type 0} (m : Name) (x : X) (f : Name → X) → set_at m x f m ≡ x
set_same m x f = set_yes m x f m ((bytes_eq-Decides m m).1 refl)

fair_other : (now now' : Name → Value) (kept kept' : Name → List Value) (unsynced unsynced' : Name → Bool) (n : Name)
    → now' n ≡ now n → kept' n ≡ kept n → unsynced' n ≡ unsynced n → FairAt now kept unsynced n → FairAt now' kept'
    unsynced' n
fair_other now now' kept kept' unsynced unsynced' n a b c (inl l) = inl (c ∙ l)
fair_other now now' kept kept' unsynced unsynced' n a b c (inr among) =
    inr (subst (λ (x : Value). Among x (kept' n)) (sym a) (subst (λ (l : List Value). Among (now n) l) (sym b) among))

-- a value that was just added
fair_new : (now' : Name → Value) (kept' : Name → List Value) (unsynced' : Name → Bool) (n : Name) (xs : List Value)
    (x : Value) → now' n ≡ x → kept' n ≡ xs ++ x ∷ [] → FairAt now' kept' unsynced' n
fair_new now' kept' unsynced' n xs x a b =
    inr (subst (λ (v : Value). Among v (kept' n)) (sym a)
    (subst (λ (l : List Value). Among x l) (sym b) (among_last xs x)))

one_left : (b : Bool) (now : Value) (kept : List Value) → Among now kept → Among now (cond b (now ∷ []) kept)
one_left true now kept a = inl refl
one_left false now kept a = a

all_kept : (b : Bool) (now : Value) (kept : List Value) (unsynced : Bool) → (unsynced ≡ true) ⊎ Among now kept
    → (cond b false unsynced ≡ true) ⊎ Among now (cond b (kept ++ now ∷ []) kept)
all_kept true now kept unsynced fair = inr (among_last kept now)
all_kept false now kept unsynced fair = fair

pub fair_step : (c : Change) (s : State) → IsFair s → IsFair (step c s)
fair_step (Begun name) s fair n = let m = string_bytes name in
    ⊎_elim (λ y. inl (set_yes m true s.unsynced n y))
    (λ no. fair_other s.now (put m (Some []) s.now) s.kept s.kept s.unsynced (set_at m true s.unsynced) n
    (set_no m (Some []) s.now n no) refl (set_no m true s.unsynced n no) (fair n))
    (two (bytes_eq m n))
fair_step (Appended name bytes) s fair n = let m = string_bytes name in
    ⊎_elim (λ y. inl (set_yes m true s.unsynced n y))
    (λ no. fair_other s.now (lengthened m bytes.items s.now) s.kept s.kept s.unsynced (set_at m true s.unsynced) n
    (set_no m _ s.now n no) refl (set_no m true s.unsynced n no) (fair n))
    (two (bytes_eq m n))
fair_step (Unsynced name) s fair n = let m = string_bytes name in
    ⊎_elim (λ y. inl (set_yes m true s.unsynced n y))
    (λ no. fair_other s.now s.now s.kept s.kept s.unsynced (set_at m true s.unsynced) n refl refl (set_no m true
    s.unsynced n no)
    (fair n))
    (two (bytes_eq m n))
fair_step (Synced name) s fair n = let m = string_bytes name in
    let kept' = set_at m (s.kept m ++ s.now m ∷ []) s.kept in
    ⊎_elim (λ y. fair_new s.now kept' (set_at m false s.unsynced) n (s.kept m) (s.now m)
    (ap s.now (sym ((bytes_eq-Decides m n).0 y))) (set_yes m _ s.kept n y))
    (λ no. fair_other s.now s.now s.kept kept' s.unsynced (set_at m false s.unsynced) n refl (set_no m _ s.kept n no)
    (set_no m false s.unsynced n no) (fair n))
    (two (bytes_eq m n))
fair_step (Renamed from to) s fair n =
    let a = string_bytes from in let b = string_bytes to in
    let now' = moved a b s.now in
    let kept_a = set_at a (s.kept a ++ None ∷ []) s.kept in
    let kept' = set_at b (s.kept b ++ s.now a ∷ []) kept_a in
    let unsynced' = set_at b (s.unsynced b || s.unsynced a) s.unsynced in
    ⊎_elim (λ y. fair_new now' kept' unsynced' n (s.kept b) (s.now a) (set_yes b (s.now a) (put a None s.now) n y)
    (set_yes b _ kept_a n y))
    (λ no. ⊎_elim
    (λ y. fair_new now' kept' unsynced' n (s.kept a) None
    (set_no b (s.now a) (put a None s.now) n no ∙ set_yes a None s.now n y)
    (set_no b _ kept_a n no ∙ set_yes a _ s.kept n y))
    (λ no'. fair_other s.now now' s.kept kept' s.unsynced unsynced' n
    (set_no b (s.now a) (put a None s.now) n no ∙ set_no a None s.now n no')
    (set_no b _ kept_a n no ∙ set_no a _ s.kept n no') (set_no b _ s.unsynced n no) (fair n))
    (two (bytes_eq a n)))
    (two (bytes_eq b n))
fair_step (Removed name) s fair n = let m = string_bytes name in
    let kept' = set_at m (s.kept m ++ None ∷ []) s.kept in
    ⊎_elim (λ y. fair_new (put m None s.now) kept' s.unsynced n (s.kept m) None (set_yes m None s.now n y)
    (set_yes m _ s.kept n y))
    (λ no. fair_other s.now (put m None s.now) s.kept kept' s.unsynced s.unsynced n (set_no m None s.now n no)
    (set_no m _ s.kept n no) refl (fair n))
    (two (bytes_eq m n))
fair_step (Swept SyncFolders folder) s fair n =
    ⊎_elim (λ l. inl l) (λ a. inr (one_left (takes_in SyncFolders (string_bytes folder) n && not (s.unsynced n)) (s.now
    n)
    (s.kept n) a)) (fair n)
fair_step (Swept SyncFolder folder) s fair n =
    ⊎_elim (λ l. inl l) (λ a. inr (one_left (takes_in SyncFolder (string_bytes folder) n && not (s.unsynced n)) (s.now
    n)
    (s.kept n) a)) (fair n)
fair_step (Swept Sync folder) s fair n =
    all_kept (takes_in Sync (string_bytes folder) n && (s.unsynced n && is_some (s.now n))) (s.now n) (s.kept n)
    (s.unsynced n) (fair n)

pub fair_after : (cs : List Change) (s : State) → IsFair s → IsFair (after s cs)
fair_after [] s fair = fair
fair_after (c ∷ cs) s fair = fair_after cs (step c s) (fair_step c s fair)

pub fair_first : (given : List (String Global × Vec ℕ Global)) → IsFair (first_state given)
fair_first given n = inr (inl refl)

whole : (cs : List Change) → take (length cs) cs ≡ cs
whole cs = take_all (length cs) cs (omega arith)

pub may_be_left : (first : State) → IsFair first → (cs : List Change) (n : Name) (v : Value)
    → v ≡ (after first cs).now n → kept_at first cs (length cs) n v ⊎ (has_unsynced_at first cs (length cs) n ≡ true)
may_be_left first fair cs n v is = subst
    (λ (l : List Change). Among v ((after first l).kept n) ⊎ ((after first l).unsynced n ≡ true)) (sym (whole cs))
    (⊎_elim (λ l. inr l) (λ a. inl (subst (λ (x : Value). Among x ((after first cs).kept n)) (sym is) a))
    (fair_after cs first fair n))
