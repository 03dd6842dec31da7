-- How many links are used.
use Rattle.std.proofs.Common.{ℕ, ◌<◌, List, take, map, length, arith, length-take}
use Rattle.std.proofs.lemmas.List.{length-map}
use Rattle.base_devices.specs.Links.{LinkState}

pub used_few : {A : Type 0} (of : A → LinkState) (n most : ℕ) (xs : List A) → length xs < most → length (take n (map of xs)) < most
used_few of n most xs few = omega (arith, few, length-take n (map of xs), length-map xs of)
