-- What lies at a place, judged.
use Rattle.std.proofs.Common.{◌≡◌, ◌≢◌, ℕ, Some, None, refl, sym, ap₂, ◌∙◌, arith}
use Rattle.std.specs.Prelude.{string_bytes}
use Rattle.base_devices.specs.Content.{Value}
use Rattle.base_model.specs.Text.{Text}
use Rattle.base_text.specs.declared.sum.Sum.{Sum}
use Rattle.cmd_verify.specs.declared.findings.place_sum.Lies.TheVariants.{Nothing, Few, All}
use Rattle.cmd_verify.specs.declared.findings.finding.Mark.{Mark}
use Rattle.cmd_verify.specs.What.{What, MemberAbsent, MemberBad, MembersDiffer, Absent, Short, Digest, Second, Gap, Reference, Unlike, Contradicts, kind_of, line_of}
use Rattle.cmd_verify.specs.Findings.{BytesDeviate}
use Rattle.cmd_verify.specs.Lies.{LiesSo, ShowsJustOne}

module _ (at size : ℕ) (sum : Text) (m : Mark) where
  pub shows_absent : (v : Value) → LiesSo v at size Nothing → m.kind ≡ kind_of Absent → string_bytes m.line ≡ line_of Absent → ShowsJustOne (BytesDeviate v at size sum) (Some m)
  shows_absent (Some whole) lies kind line = absurd lies
  shows_absent None lies kind line = (Absent, tt, kind, line, only)
    where
      only : (w : What) → BytesDeviate None at size sum w → w ≡ Absent
      only Absent d = refl
      only MemberAbsent d = absurd d
      only MemberBad d = absurd d
      only MembersDiffer d = absurd d
      only (Short t f) d = absurd d
      only (Digest t f) d = absurd d
      only (Second s) d = absurd d
      only (Gap s) d = absurd d
      only (Reference l) d = absurd d
      only Unlike d = absurd d
      only (Contradicts t) d = absurd d

  pub shows_short : (v : Value) (found : ℕ) → LiesSo v at size (Few found) → m.kind ≡ kind_of (Short size found) → string_bytes m.line ≡ line_of (Short size found) → ShowsJustOne (BytesDeviate v at size sum) (Some m)
  shows_short None found lies kind line = absurd lies
  shows_short (Some whole) found lies kind line = (Short size found, (refl, lies.0, lies.1), kind, line, only)
    where
      only : (w : What) → BytesDeviate (Some whole) at size sum w → w ≡ Short size found
      only (Short t f) d = ap₂ Short d.0 (d.1 ∙ sym lies.0)
      only (Digest t f) d = let a = d.0 in let b = lies.0 in let c = lies.1 in absurd (omega (arith, a, b, c))
      only Absent d = absurd d
      only MemberAbsent d = absurd d
      only MemberBad d = absurd d
      only MembersDiffer d = absurd d
      only (Second s) d = absurd d
      only (Gap s) d = absurd d
      only (Reference l) d = absurd d
      only Unlike d = absurd d
      only (Contradicts t) d = absurd d

  pub shows_digest : (v : Value) (found : Sum) → LiesSo v at size (All found) → found.0 ≢ sum → m.kind ≡ kind_of (Digest sum found.0) → string_bytes m.line ≡ line_of (Digest sum found.0) → ShowsJustOne (BytesDeviate v at size sum) (Some m)
  shows_digest None found lies other kind line = absurd lies
  shows_digest (Some whole) found lies other kind line = (Digest sum found.0, (lies.0, refl, lies.1, other), kind, line, only)
    where
      only : (w : What) → BytesDeviate (Some whole) at size sum w → w ≡ Digest sum found.0
      only (Short t f) d = let a = d.1 in let b = d.2 in let c = lies.0 in absurd (omega (arith, a, b, c))
      only (Digest t f) d = ap₂ Digest d.1 (d.2 ∙ sym lies.1)
      only Absent d = absurd d
      only MemberAbsent d = absurd d
      only MemberBad d = absurd d
      only MembersDiffer d = absurd d
      only (Second s) d = absurd d
      only (Gap s) d = absurd d
      only (Reference l) d = absurd d
      only Unlike d = absurd d
      only (Contradicts t) d = absurd d

pub shows_none : (at size : ℕ) (sum : Text) (v : Value) (found : Sum) → LiesSo v at size (All found) → found.0 ≡ sum → ShowsJustOne (BytesDeviate v at size sum) None
shows_none at size sum None found lies same = absurd lies
shows_none at size sum (Some whole) found lies same = by
  where
    by : (w : What) → ¬ BytesDeviate (Some whole) at size sum w
    by (Short t f) d = let a = d.1 in let b = d.2 in let c = lies.0 in omega (arith, a, b, c)
    by (Digest t f) d = d.3 (d.2 ∙ sym lies.1 ∙ same ∙ sym d.1)
    by Absent d = d
    by MemberAbsent d = d
    by MemberBad d = d
    by MembersDiffer d = d
    by (Second s) d = d
    by (Gap s) d = d
    by (Reference l) d = d
    by Unlike d = d
    by (Contradicts t) d = d
