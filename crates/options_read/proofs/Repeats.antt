-- The keys of a configuration so far, as a set, and the first that its section has twice.
use Rattle.std.proofs.Common.{◌≡◌, ℕ, suc, ◌+◌, ◌<◌, Bool, true, false, not, cond, ◌&&◌, ◌||◌, List, [], ◌∷◌, ◌++◌, length, take, drop, get_or, drop-cons, string_bytes, bytes_eq, Result, Err, refl, sym, ap, ap₂, ◌∙◌, subst, arith}
use Rattle.std.proofs.Math.Seq.{take-suc}
use Rattle.std.proofs.lemmas.List.{map-append}
use Rattle.repo_ini.specs.Config.{Setting}
use Rattle.repo_ini.specs.declared.config.ConfigLine.{ConfigLine}
use Rattle.repo_ini.specs.Views.{setting_of, settings_of}
use Rattle.options_table.specs.declared.table.Opt.{Opt}
use Rattle.options_read.specs.Faults.{Fault, option_repeated}
use Rattle.options_read.specs.Settings.{is_set, none_twice}
use Rattle.options_read.specs.Words.{is_single}

abbrev pub Answer : Type 0
Answer = Result (Unit {0}) Fault

-- ---- the first of the settings that are left

abbrev after : (table : List Opt) (before : List Setting) (s : Setting) (ss : List Setting) → Bool → Answer
after table before s ss b = cond b (Err (option_repeated s.key)) (none_twice table (before ++ s ∷ []) ss)

repeats : (table : List Opt) (before : List Setting) (s : Setting) (ss : List Setting) (all : Answer) → none_twice table before (s ∷ ss) ≡ all → (is_single table s.key && is_set before s.section s.key) ≡ true → all ≡ Err (option_repeated s.key)
repeats table before s ss all h e = sym h ∙ ap (after table before s ss) e

goes_on : (table : List Opt) (before : List Setting) (s : Setting) (ss : List Setting) (all : Answer) → none_twice table before (s ∷ ss) ≡ all → (is_single table s.key && is_set before s.section s.key) ≡ false → none_twice table (before ++ s ∷ []) ss ≡ all
goes_on table before s ss all h e = sym (ap (after table before s ss) e) ∙ h

-- ---- the line at a place

here : (lines : List ConfigLine) (i : ℕ) (d : ConfigLine) → i < length lines → settings_of (drop i lines) ≡ setting_of (get_or lines i d) ∷ settings_of (drop (suc i) lines)
here lines i d h = ap settings_of (drop-cons lines i d h)

past : (lines : List ConfigLine) (i : ℕ) (d : ConfigLine) → i < length lines → settings_of (take (suc i) lines) ≡ settings_of (take i lines) ++ setting_of (get_or lines i d) ∷ []
past lines i d h = ap settings_of (take-suc lines i d h) ∙ map-append setting_of (take i lines) (get_or lines i d ∷ [])

abbrev pub Reads : List Opt → List ConfigLine → ℕ → Answer → Type 0
Reads table lines i all = none_twice table (settings_of (take i lines)) (settings_of (drop i lines)) ≡ all

abbrev pub is_repeated : List Opt → List ConfigLine → ℕ → ConfigLine → Bool
is_repeated table lines i l = is_single table (string_bytes l.key) && is_set (settings_of (take i lines)) (string_bytes l.section) (string_bytes l.key)

repeats_at : (table : List Opt) (lines : List ConfigLine) (i : ℕ) (d : ConfigLine) (all : Answer) → i < length lines → Reads table lines i all → is_repeated table lines i (get_or lines i d) ≡ true → all ≡ Err (option_repeated (string_bytes (get_or lines i d).key))
repeats_at table lines i d all h read e =
    repeats table (settings_of (take i lines)) (setting_of (get_or lines i d)) (settings_of (drop (suc i) lines)) all (sym (ap (none_twice table (settings_of (take i lines))) (here lines i d h)) ∙ read) e

goes_on_at : (table : List Opt) (lines : List ConfigLine) (i : ℕ) (d : ConfigLine) (all : Answer) → i < length lines → Reads table lines i all → is_repeated table lines i (get_or lines i d) ≡ false → Reads table lines (suc i) all
goes_on_at table lines i d all h read e =
    let next = goes_on table (settings_of (take i lines)) (setting_of (get_or lines i d)) (settings_of (drop (suc i) lines)) all (sym (ap (none_twice table (settings_of (take i lines))) (here lines i d h)) ∙ read) e in
    ap (λ before. none_twice table before (settings_of (drop (suc i) lines))) (past lines i d h) ∙ next

-- the line l is at i, and has these texts
pub record Represents (lines : List ConfigLine) (i : ℕ) (l : ConfigLine) (section key : List ℕ) : Type 0 where
  pub within : i < length lines
  pub line : l ≡ get_or lines i l
  pub section_is : section ≡ string_bytes l.section
  pub key_is : key ≡ string_bytes l.key

tested : (table : List Opt) (lines : List ConfigLine) (i : ℕ) (l : ConfigLine) (section key : List ℕ) → Represents lines i l section key → (is_single table key && is_set (settings_of (take i lines)) section key) ≡ is_repeated table lines i (get_or lines i l)
tested table lines i l section key s =
    ap₂ (λ (a b : List ℕ). is_single table b && is_set (settings_of (take i lines)) a b) s.section_is s.key_is ∙ ap (is_repeated table lines i) s.line

pub known_twice : (table : List Opt) (lines : List ConfigLine) (i : ℕ) (l : ConfigLine) (section key : List ℕ) (all : Answer) → Represents lines i l section key → Reads table lines i all → (is_single table key && is_set (settings_of (take i lines)) section key) ≡ true → all ≡ Err (option_repeated (string_bytes l.key))
known_twice table lines i l section key all s read e =
    repeats_at table lines i l all s.within read (sym (tested table lines i l section key s) ∙ e) ∙ ap (λ l. Err (option_repeated (string_bytes l.key))) (sym s.line)

pub known_once : (table : List Opt) (lines : List ConfigLine) (i : ℕ) (l : ConfigLine) (section key : List ℕ) (all : Answer) → Represents lines i l section key → Reads table lines i all → (is_single table key && is_set (settings_of (take i lines)) section key) ≡ false → Reads table lines (i + 1) all
known_once table lines i l section key all s read e =
    let next : suc i ≡ i + 1 = omega arith in
    subst (λ n. Reads table lines n all) next (goes_on_at table lines i l all s.within read (sym (tested table lines i l section key s) ∙ e))

-- ---- the set

or_last : (b : Bool) → (b || false) ≡ cond b true false
or_last true = refl
or_last false = refl

or_cond : (a x y : Bool) → (a || cond x true y) ≡ cond x true (a || y)
or_cond true true y = refl
or_cond true false y = refl
or_cond false true y = refl
or_cond false false y = refl

is_set-push : (ss : List Setting) (s : Setting) (section key : List ℕ) → is_set (ss ++ s ∷ []) section key ≡ cond (bytes_eq s.section section && bytes_eq s.key key) true (is_set ss section key)
is_set-push [] s section key = or_last (bytes_eq s.section section && bytes_eq s.key key)
is_set-push (x ∷ xs) s section key =
    ap (λ b. (bytes_eq x.section section && bytes_eq x.key key) || b) (is_set-push xs s section key)
    ∙ or_cond (bytes_eq x.section section && bytes_eq x.key key) (bytes_eq s.section section && bytes_eq s.key key) (is_set xs section key)

pub set_at : (lines : List ConfigLine) (i : ℕ) (l : ConfigLine) (section key q r : List ℕ) (old new : Bool) → Represents lines i l section key
    → new ≡ cond (bytes_eq section q && bytes_eq key r) true old
    → old ≡ is_set (settings_of (take i lines)) q r → new ≡ is_set (settings_of (take (i + 1) lines)) q r
set_at lines i l section key q r old new s put was =
    let t = setting_of (get_or lines i l) in
    let next : suc i ≡ i + 1 = omega arith in
    put ∙ ap₂ (λ (a b : List ℕ). cond (bytes_eq a q && bytes_eq b r) true old) (s.section_is ∙ ap (λ l. string_bytes l.section) s.line) (s.key_is ∙ ap (λ l. string_bytes l.key) s.line)
    ∙ ap (cond (bytes_eq t.section q && bytes_eq t.key r) true) was
    ∙ sym (ap (λ before. is_set before q r) (past lines i l s.within) ∙ is_set-push (settings_of (take i lines)) t q r)
    ∙ ap (λ n. is_set (settings_of (take n lines)) q r) next

pub and_false : (b : Bool) → (b && false) ≡ false
and_false true = refl
and_false false = refl

pub not_false : (b : Bool) → not b ≡ false → b ≡ true
not_false true h = refl
not_false false h = cc h

pub not_true : (b : Bool) → not b ≡ true → b ≡ false
not_true true h = cc h
not_true false h = refl
