-- The parts of a stored file's name.
use Rattle.std.proofs.Common.{ℕ, true, not, ◌≡◌, ◌≢◌, ◌<◌, ◌≤◌, ◌+◌, ◌/◌, ◌%◌, ◌^◌, refl, sym, ◌∙◌, subst, arith, [], ◌∷◌, ◌++◌, length, length-append, Option, Some, None, decimal}
use Rattle.std.specs.Prelude.{nat_lt, nat_le, IsUtf8}
use Rattle.std.specs.List.{list_all}
use Rattle.std.specs.Str.Parse.{AllDigits}
use Rattle.std.proofs.lemmas.Bool.{and_parts}
use Rattle.std.proofs.lemmas.Bool.Decides.{nat_tests}
use Rattle.std.proofs.lemmas.Fmt.{decimal_is_IsNumeral}
use Rattle.std.proofs.lemmas.List.Folds.{list_all-append}
use Rattle.std.proofs.lemmas.Str.Parse.{digit_from_value}
use Rattle.json.proofs.Printed.Utf8.{are_ascii, IsUtf8-are_ascii}
use Rattle.base_model.specs.declared.labels.Label.{Label}
use Rattle.base_model.specs.declared.labels.Later.{Later}
use Rattle.base_model.specs.declared.labels.BackupKind.{BackupKind}
use Rattle.base_model.specs.declared.labels.BackupKind.TheVariants.{Full, Diff, Incr}
use Rattle.base_model.specs.Dates.{two, date_digits, clock_digits, date_after, stamp}
use Rattle.base_model.specs.InfoFiles.{IsLabel}
use Rattle.base_model.specs.InfoText.{begins_well, is_key_byte}
use Rattle.base_model.specs.Names.{letter, later_text, label_text}
use Rattle.base_model.specs.Paths.{is_path_byte}
use Rattle.base_model.specs.Text.{Text}
use Rattle.repo_info.proofs.PlainTexts.{is_key-label_text, IsUtf8-label_text}
use Rattle.base_model.specs.StanzaName.{is_stanza_byte, is_stanza, begins_with_dash}
use Rattle.restore_steps.proofs.Parts.{IsPart, both, each_true, is_no_slash, one_part}

-- ---- bytes of a name that is letters, digits, dashes and underlines

record IsWord (c : ℕ) : Type 0 where
  from : 45 ≤ c
  before : c < 123
  dot : c ≢ 46
  slash : c ≢ 47
  equals : c ≢ 61
  bracket : c ≢ 91

path_byte : (c : ℕ) → IsWord c → is_path_byte c ≡ true
path_byte c w = grind (arith, nat_tests, w.from, w.before, w.equals)

off_slash : (c : ℕ) → c ≢ 47 → is_no_slash c ≡ true
off_slash c off = grind (arith, nat_tests, off)

ascii_byte : (c : ℕ) → IsWord c → nat_lt c 128 ≡ true
ascii_byte c w = grind (arith, nat_tests, w.before)

well : (c : ℕ) (cs : Text) → IsWord c → begins_well (c ∷ cs) ≡ true
well c cs w = grind (arith, nat_tests, w.from, w.bracket)

abbrev AreArguments : Text → Type 0
AreArguments [] = Unit {0}
AreArguments (c ∷ cs) = IsWord c × AreArguments cs

path_bytes : (cs : Text) → AreArguments cs → list_all is_path_byte cs ≡ true
path_bytes [] h = refl
path_bytes (c ∷ cs) h = both (is_path_byte c) (list_all is_path_byte cs) (path_byte c h.0) (path_bytes cs h.1)

no_slashes : (cs : Text) → AreArguments cs → list_all is_no_slash cs ≡ true
no_slashes [] h = refl
no_slashes (c ∷ cs) h = both (is_no_slash c) (list_all is_no_slash cs) (off_slash c h.0.slash) (no_slashes cs h.1)

ascii : (cs : Text) → AreArguments cs → are_ascii cs ≡ true
ascii [] h = refl
ascii (c ∷ cs) h = let low = ascii_byte c h.0 in rw low (ascii cs h.1)

word_part : (cs : Text) → 0 < length cs → AreArguments cs → IsPart cs
word_part [] some h = absurd (omega (arith, some))
word_part (c ∷ cs) some h = one_part c cs (IsUtf8-are_ascii (c ∷ cs) (ascii (c ∷ cs) h)) (path_bytes (c ∷ cs) h) (no_slashes (c ∷ cs) h) (well c cs h.0) h.0.dot

-- ---- a stanza

stanza_byte : (c : ℕ) → is_stanza_byte c ≡ true → IsWord c
stanza_byte c h = record {
  from = grind (arith, nat_tests, h);
  before = grind (arith, nat_tests, h);
  dot = λ e. grind (arith, nat_tests, h, e);
  slash = λ e. grind (arith, nat_tests, h, e);
  equals = λ e. grind (arith, nat_tests, h, e);
  bracket = λ e. grind (arith, nat_tests, h, e);
}

stanza_bytes : (cs : Text) → list_all is_stanza_byte cs ≡ true → AreArguments cs
stanza_bytes [] h = tt
stanza_bytes (c ∷ cs) h = let p = and_parts (is_stanza_byte c) (list_all is_stanza_byte cs) h in (stanza_byte c p.0, stanza_bytes cs p.1)

module _ (stanza : Text) (h : is_stanza stanza ≡ true) where
  rules_of : (nat_lt 0 (length stanza) ≡ true) × (nat_le (length stanza) 64 ≡ true) × (list_all is_stanza_byte stanza ≡ true) × (not (begins_with_dash stanza) ≡ true)
  rules_of = each_true (nat_lt 0 (length stanza)) (nat_le (length stanza) 64) (list_all is_stanza_byte stanza) (not (begins_with_dash stanza)) h

  pub short_stanza : length stanza ≤ 64
  short_stanza = let s : nat_le (length stanza) 64 ≡ true = rules_of.1 in grind (arith, nat_tests, s)

  pub stanza_part : IsPart stanza
  stanza_part =
      let s : nat_lt 0 (length stanza) ≡ true = rules_of.0 in
      word_part stanza (grind (arith, nat_tests, s)) (stanza_bytes stanza rules_of.2)

-- ---- a bundle's number

digits_arguments : (ds : Text) → AllDigits 10 ds → AreArguments ds
digits_arguments [] h = tt
digits_arguments (c ∷ cs) h =
    let r = digit_from_value c h.0 in
    (record { from = omega (arith, r); before = omega (arith, r); dot = λ e. omega (arith, r, e); slash = λ e. omega (arith, r, e); equals = λ e. omega (arith, r, e); bracket = λ e. omega (arith, r, e) }, digits_arguments cs h.1)

pub number_part : (n : ℕ) → n < 2 ^ 64 → IsPart (decimal n)
number_part n h = let d = (decimal_is_IsNumeral n h).0 in word_part (decimal n) d.0 (digits_arguments (decimal n) d.1)

-- ---- a label

two_off : (n : ℕ) → list_all is_no_slash (two n) ≡ true
two_off n =
    both (is_no_slash (48 + n / 10)) (list_all is_no_slash ((48 + n % 10) ∷ [])) (off_slash (48 + n / 10) (λ e. omega (arith, e)))
    (both (is_no_slash (48 + n % 10)) true (off_slash (48 + n % 10) (λ e. omega (arith, e))) refl)

append_off : (a b : Text) → list_all is_no_slash a ≡ true → list_all is_no_slash b ≡ true → list_all is_no_slash (a ++ b) ≡ true
append_off a b x y = list_all-append is_no_slash a b ∙ both (list_all is_no_slash a) (list_all is_no_slash b) x y

stamp_off : (t : ℕ) → list_all is_no_slash (stamp t) ≡ true
unfolding stamp
stamp_off t =
    let d = date_after (t / 86400) in
    let s = t % 86400 in
    append_off (date_digits d) (45 ∷ clock_digits s)
    (append_off (two (d.year / 100)) (two (d.year % 100) ++ two d.month ++ two d.day) (two_off (d.year / 100))
    (append_off (two (d.year % 100)) (two d.month ++ two d.day) (two_off (d.year % 100)) (append_off (two d.month) (two d.day) (two_off d.month) (two_off d.day))))
    (append_off (two (s / 3600)) (two (s % 3600 / 60) ++ two (s % 60)) (two_off (s / 3600)) (append_off (two (s % 3600 / 60)) (two (s % 60)) (two_off (s % 3600 / 60)) (two_off (s % 60))))

letter_off : (k : BackupKind) → list_all is_no_slash (letter k ∷ []) ≡ true
letter_off Full = refl
letter_off Diff = refl
letter_off Incr = refl

later_off : (o : Option Later) → list_all is_no_slash (later_text o) ≡ true
later_off None = refl
later_off (Some l) = append_off (stamp l.time) (letter l.kind ∷ []) (stamp_off l.time) (letter_off l.kind)

label_off : (l : Label) → list_all is_no_slash (label_text l) ≡ true
label_off l = append_off (stamp l.full) (70 ∷ later_text l.later) (stamp_off l.full) (later_off l.later)

stamp_long : (t : ℕ) → length (stamp t) ≡ 15
unfolding stamp
stamp_long t = refl

later_short : (o : Option Later) → length (later_text o) ≤ 17
later_short None = omega arith
later_short (Some l) = omega (arith, length-append (stamp l.time) (letter l.kind ∷ []), stamp_long l.time)

pub short_label : (l : Label) → length (label_text l) ≤ 33
short_label l = omega (arith, length-append (stamp l.full) (70 ∷ later_text l.later), stamp_long l.full, later_short l.later)

-- a label begins with a digit
begins : (l : Label) → (c : ℕ) × (cs : Text) × (label_text l ≡ c ∷ cs) × (48 ≤ c)
unfolding stamp
begins l = (_, _, refl, omega arith)

pub label_part : (l : Label) → IsLabel l → IsPart (label_text l)
label_part l h =
    let b = begins l in
    let key = and_parts (begins_well (label_text l)) (list_all is_key_byte (label_text l)) (is_key-label_text l h) in
    subst IsPart (sym b.2)
    (one_part b.0 b.1 (subst IsUtf8 b.2 (IsUtf8-label_text l h)) (subst (λ (t : Text). list_all is_path_byte t ≡ true) b.2 key.1)
    (subst (λ (t : Text). list_all is_no_slash t ≡ true) b.2 (label_off l)) (subst (λ (t : Text). begins_well t ≡ true) b.2 key.0) (λ e. let low = b.3 in omega (arith, e, low)))
