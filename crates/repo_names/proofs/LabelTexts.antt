-- A label's text states the label.
use Rattle.std.proofs.Common.{◌≡◌, [], ◌∷◌, ◌++◌, Option, Some, None, refl, ap, arith}
use Rattle.std.specs.Prelude.{IfSome}
use Rattle.base_model.specs.declared.labels.BackupKind.{BackupKind}
use Rattle.base_model.specs.declared.labels.BackupKind.TheVariants.{Full, Diff, Incr}
use Rattle.base_model.specs.declared.labels.Later.{Later}
use Rattle.base_model.specs.declared.labels.Label.{Label}
use Rattle.base_model.specs.Dates.{stamp}
use Rattle.base_model.specs.Names.{letter, later_text, label_text}
use Rattle.base_model.specs.InfoFiles.{IsLabel}
use Rattle.repo_names.specs.Labels.{IsSecondPart}
use Rattle.repo_names.proofs.StampTexts.{same_stamp}

same_letter : (k m : BackupKind) → letter k ≡ letter m → k ≡ m
same_letter Full Full e = refl
same_letter Full Diff e = absurd (omega (arith, e))
same_letter Full Incr e = absurd (omega (arith, e))
same_letter Diff Full e = absurd (omega (arith, e))
same_letter Diff Diff e = refl
same_letter Diff Incr e = absurd (omega (arith, e))
same_letter Incr Full e = absurd (omega (arith, e))
same_letter Incr Diff e = absurd (omega (arith, e))
same_letter Incr Incr e = refl

same_later : (o p : Option Later) → IfSome o IsSecondPart → IfSome p IsSecondPart → later_text o ≡ later_text p → o ≡ p
same_later None None h g e = refl
same_later None (Some p) h g e = cc
same_later (Some o) None h g e = cc
same_later (Some o) (Some p) h g e =
    let following : stamp o.time ++ letter o.kind ∷ [] ≡ stamp p.time ++ letter p.kind ∷ [] = cc in
    let time = same_stamp o.time p.time (letter o.kind ∷ []) (letter p.kind ∷ []) h.0 g.0 following in
    let byte : letter o.kind ≡ letter p.kind = cc (time.1) in
    let kind = same_letter o.kind p.kind byte in
    let parts : ◌≡◌ {A = Later} (record { time = o.time; kind = o.kind }) (record { time = p.time; kind = p.kind }) = rw (time.0, kind) refl in
    ap (λ (l : Later). Some l) parts

-- one label has the text
pub label_text-injective : (l m : Label) → IsLabel l → IsLabel m → label_text l ≡ label_text m → l ≡ m
label_text-injective l m h g e =
    let first = same_stamp l.full m.full (70 ∷ later_text l.later) (70 ∷ later_text m.later) h.full g.full e in
    let following : later_text l.later ≡ later_text m.later = cc (first.1) in
    let later = same_later l.later m.later h.later g.later following in
    let parts : ◌≡◌ {A = Label} (record { full = l.full; later = l.later }) (record { full = m.full; later = m.later }) = rw (first.0, later) refl in
    parts
