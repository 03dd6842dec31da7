-- A place in the log is that of one segment.
use Rattle.std.proofs.Common.{◌≡◌, ℕ, ◌+◌, ◌*◌, ◌/◌, ◌<◌, sym, ap, ◌∙◌, arith}
use Rattle.std.proofs.lemmas.Nat.{div-mul-add}
use Rattle.base_model.specs.declared.wal.Segment.{Segment}
use Rattle.base_model.specs.ManifestText.{segments_per_log, position}
use Rattle.repo_names.specs.Next.{IsOfLog}

parts_same : (w a b x y : ℕ) → x < w → y < w → a * w + x ≡ b * w + y → (a ≡ b) × (x ≡ y)
parts_same w a b x y h g e =
    let same : a ≡ b = sym (div-mul-add a w x h) ∙ ap (λ n. n / w) e ∙ div-mul-add b w y g in
    let product : a * w ≡ b * w = ap (λ n. n * w) same in
    (same, omega arith)

pub same_place : (size : ℕ) (a b : Segment) → IsOfLog size a → IsOfLog size b → a.timeline ≡ b.timeline → position size a ≡ position size b → a ≡ b
same_place size a b h g timeline place =
    let parts = parts_same (segments_per_log size) a.log b.log a.seg b.seg h g place in
    λ i. record { timeline = timeline i; log = parts.0 i; seg = parts.1 i }

-- the first segment of the next log follows the last of a log
pub carried : (size : ℕ) (a : Segment) (log : ℕ) → log ≡ a.log + 1 → a.seg + 1 ≡ segments_per_log size → log * segments_per_log size + 0 ≡ position size a + 1
carried size a log is full = ap (λ n. n * segments_per_log size + 0) is ∙ omega arith
