-- What a fault reports.
use Rattle.std.proofs.Common.{◌≡◌, Bool, true, false}
use Rattle.std.specs.Prelude.{IsTrue}

pub no_truth : IsTrue false → ⊥
no_truth t = let e : ◌≡◌ {A = Bool} false true = t in cc

pub true_of : {b : Bool} → b ≡ true → IsTrue b
true_of e = e
