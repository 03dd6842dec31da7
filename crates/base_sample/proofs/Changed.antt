-- A sample cluster that changes.
use Rattle.std.proofs.Common.{ℕ, zero, suc, Bool, true, false, cond, ◌≡◌, inl, inr, ◌<◌, ◌≤◌, ◌+◌, ◌*◌, ◌^◌, add-one, refl, sym, ap, ◌∙◌, subst, arith, [], ◌∷◌, ◌++◌, Option, Some, None, Result, Ok, Err, option_map, bytes_eq}
use Rattle.std.specs.Prelude.{◌≢◌, IfSome, IsSome, OnOk}
use Rattle.base_devices.specs.Content.{Value, Content, SameBut, put, lengthened}
use Rattle.base_devices.specs.DataFolder.{Nodes, Held, file_bytes, with_node, lengthened_file, ChangesTree, ChangesFile, IsFileAt, IsBare}
use Rattle.base_model.specs.Text.{Text, In}
use Rattle.base_sample.specs.Bytes.{relation_path, relation_bytes, version_path, control_path, version_bytes, control_bytes}
use Rattle.base_sample.specs.Folder.{sample_folders, relations, made, grown_by, grown}
use Rattle.base_sample.specs.Having.{Has, HasFile}
use Rattle.base_sample.proofs.Paths.{relation_above}
use Rattle.base_sample.proofs.Holding.{has_more, has_none, has_file, same_of, relation_other}

-- ---- one call

pub grown_one : {E : Type 0} (p q more : Text) (result : Result (Unit {0}) E) (old new : Option Nodes) → q ≡ p → ¬ In p sample_folders → ChangesFile result q (lengthened_file q more) old new → OnOk result ((c : Content) → Has c old → Has (lengthened p more c) new)
grown_one p q more (Err e) old new is out changes = tt
grown_one p q more (Ok r) old new is out changes = λ c had.
    has_more c p more changes.0 old new out (subst (λ (t : Text). new ≡ option_map (lengthened_file t more changes.0) old) is changes.1) had

pub removed_one : {E : Type 0} (p q : Text) (result : Result (Unit {0}) E) (old new : Option Nodes) → q ≡ p → ¬ In p sample_folders → ChangesTree result (with_node q None) old new → OnOk result ((c : Content) → Has c old → Has (put p None c) new)
removed_one p q (Err e) old new is out changes = tt
removed_one p q (Ok r) old new is out changes = λ c had.
    has_none c p old new out (subst (λ (t : Text). new ≡ option_map (with_node t None) old) is changes) had

pub put_one : {E : Type 0} (p q b bytes : Text) (result : Result (Unit {0}) E) (old new : Option Nodes) → q ≡ p → bytes ≡ b → ¬ In p sample_folders → OnOk result (IfSome new (HasFile q bytes)) → SameBut q old new → OnOk result ((c : Content) → Has c old → Has (put p (Some b) c) new)
put_one p q b bytes (Err e) old new is same out has others = tt
put_one p q b bytes (Ok r) old new is same out has others = λ c had.
    has_file c p b old new out
    (subst (λ (t : Text). IfSome new (HasFile p t)) same (subst (λ (t : Text). IfSome new (HasFile t bytes)) is has))
    (subst (λ (t : Text). SameBut t old new) is others) had

-- ---- which paths have files

-- a path without a file is that of no relation file
pub made_other : (n k : ℕ) (q : Text) → k < 100 * n → made n q ≡ None → q ≢ relation_path k
made_other n k q lt none e = first (bytes_eq control_path q) none
  where
    second : (s : Bool) → cond s (Some version_bytes) (relations (100 * n) q) ≡ None → ⊥
    second true w = let h : ◌≡◌ {A = Value} (Some version_bytes) None = w in cc
    second false w = relation_other (100 * n) k q lt w e

    first : (s : Bool) → cond s (Some control_bytes) (put version_path (Some version_bytes) (relations (100 * n)) q) ≡ None → ⊥
    first true w = let h : ◌≡◌ {A = Value} (Some control_bytes) None = w in cc
    first false w = second (bytes_eq version_path q) w

-- where there is a file there is one when another, or it, has got longer
more_there : (p more : Text) (f : Content) (q : Text) → f q ≢ None → lengthened p more f q ≢ None
more_there p more f q there none = by (bytes_eq p q) refl none
  where
    lost : (v : Value) → option_map (λ (old : Text). old ++ more) v ≡ None → v ≡ None
    lost None w = refl
    lost (Some x) w = let h : ◌≡◌ {A = Value} (Some (x ++ more)) None = w in cc

    by : (s : Bool) → bytes_eq p q ≡ s → cond s (option_map (λ (old : Text). old ++ more) (f p)) (f q) ≡ None → ⊥
    by true alike w = there (ap f (sym (same_of p q alike)) ∙ lost (f p) w)
    by false unlike w = there w

pub grown_there : (k : ℕ) (c : Content) (q : Text) → c q ≢ None → grown_by k c q ≢ None
unfolding grown_by
grown_there zero c q there = there
grown_there (suc k) c q there = more_there (relation_path (10 * k)) (0 ∷ []) (grown_by k c) q (grown_there k c q there)

-- where there is none there is none
more_none : (p more : Text) (f : Content) (q : Text) → f q ≡ None → lengthened p more f q ≡ None
more_none p more f q none = by (bytes_eq p q) refl
  where
    by : (s : Bool) → bytes_eq p q ≡ s → cond s (option_map (λ (old : Text). old ++ more) (f p)) (f q) ≡ None
    by true alike = ap (option_map (λ (old : Text). old ++ more)) (ap f (same_of p q alike) ∙ none)
    by false unlike = none

grown_none : (k : ℕ) (c : Content) (q : Text) → c q ≡ None → grown_by k c q ≡ None
unfolding grown_by
grown_none zero c q none = none
grown_none (suc k) c q none = more_none (relation_path (10 * k)) (0 ∷ []) (grown_by k c) q (grown_none k c q none)

put_none : (p b : Text) (f : Content) (q : Text) → q ≢ p → f q ≡ None → put p (Some b) f q ≡ None
put_none p b f q off none = by (bytes_eq p q) refl
  where
    by : (s : Bool) → bytes_eq p q ≡ s → cond s (Some b) (f q) ≡ None
    by true alike = absurd (off (sym (same_of p q alike)))
    by false unlike = none

-- nothing lies below the first relation file
below : (n : ℕ) (rest : Text) → n < 2 ^ 31 → relations n (relation_path 0 ++ 47 ∷ rest) ≡ None
unfolding relations
below zero rest fits = refl
below (suc n) rest fits = put_none (relation_path n) (relation_bytes n) (relations n) (relation_path 0 ++ 47 ∷ rest) (relation_above 0 n rest (omega arith) (omega arith)) (below n rest (omega arith))

heads : (a b : ℕ) (xs ys : Text) → a ∷ xs ≡ b ∷ ys → a ≡ b
heads a b xs ys e = cc

made_below : (n : ℕ) (rest : Text) → n ≤ 64 → made n (relation_path 0 ++ 47 ∷ rest) ≡ None
unfolding relation_path
made_below n rest few = put_none control_path control_bytes (put version_path (Some version_bytes) (relations (100 * n))) (relation_path 0 ++ 47 ∷ rest) (λ e. omega (arith, heads 98 103 _ _ e))
    (put_none version_path version_bytes (relations (100 * n)) (relation_path 0 ++ 47 ∷ rest) (λ e. omega (arith, heads 98 80 _ _ e)) (below (100 * n) rest (omega arith)))

out_below : (rest : Text) → ¬ In (relation_path 0 ++ 47 ∷ rest) sample_folders
unfolding relation_path sample_folders
out_below rest (inl e) = cc
out_below rest (inr (inl e)) = cc
out_below rest (inr (inr (inl e))) = cc
out_below rest (inr (inr (inr none))) = absurd none

pub first_bare : (n : ℕ) (o : Option Nodes) → n ≤ 64 → Has (grown n) o → IsBare o (relation_path 0)
first_bare n None few had = tt
first_bare n (Some f) few had = λ rest. had.nothing (relation_path 0 ++ 47 ∷ rest) (grown_none (10 * n) (made n) (relation_path 0 ++ 47 ∷ rest) (made_below n rest few)) (out_below rest)

pub file_there : (c : Content) (p : Text) (o : Option Nodes) → c p ≢ None → Has c o → IsFileAt o p
file_there c p None there had = tt
file_there c p (Some f) there had = by (c p) refl
  where
    by : (v : Value) → c p ≡ v → IsSome (file_bytes (f p))
    by None e = absurd (there e)
    by (Some b) e = let h = had.file p b e in subst (λ (x : Option Held). IsSome (file_bytes x)) (sym h.1) refl

pub grown_more : (k : ℕ) (c : Content) (o : Option Nodes) → Has (lengthened (relation_path (10 * k)) (0 ∷ []) (grown_by k c)) o → Has (grown_by (k + 1) c) o
unfolding grown_by
grown_more k c o had = subst (λ (n : ℕ). Has (grown_by n c) o) (sym (add-one k)) had

pub none_grown : (c : Content) (o : Option Nodes) → Has c o → Has (grown_by 0 c) o
unfolding grown_by
none_grown c o had = had
