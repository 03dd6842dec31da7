-- Segment sizes.
use Rattle.std.proofs.Common.{ℕ, ◌/◌, ◌<◌, ◌≤◌, ◌^◌, arith}
use Rattle.std.proofs.Math.Nat.{div-le_of_le-mul}
use Rattle.std.proofs.Math.Pow.{pow_mono}
use Rattle.base_model.specs.ManifestText.{IsSegSize, segments_per_log}

pub size_bounds : (size : ℕ) → IsSegSize size → (2 ^ 20 ≤ size) × (size ≤ 2 ^ 30)
size_bounds size (k, low, high, is) =
    let least : 2 ^ 20 ≤ 2 ^ k = pow_mono {i = 20} {j = k} low in
    let most : 2 ^ k ≤ 2 ^ 30 = pow_mono {i = k} {j = 30} high in
    (omega (arith, is), omega (arith, is))

pub segments_fit : (size : ℕ) → IsSegSize size → segments_per_log size < 2 ^ 32
segments_fit size h =
    let b = size_bounds size h in
    let few : 2 ^ 32 / size ≤ 4096 = div-le_of_le-mul size {m = 2 ^ 32} {n = 4096} (omega arith) in
    omega arith
