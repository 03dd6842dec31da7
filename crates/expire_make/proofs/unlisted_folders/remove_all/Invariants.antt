use Rattle.std.specs.Prelude.{IsTrue, nat_eq}
use Rattle.std.specs.List.{starts_with}
use Rattle.expire_make.specs.Losing.{TakesAway}
use Rattle.expire_make.proofs.Emptying.{AbsentBut}
use Rattle.expire_make.proofs.unlisted_folders.remove_all.Given as goal

abbrev pub invariant-loop-each : goal.invariant-loop-each
invariant-loop-each g l = let D = g.D.Disk in record {
  gone : AbsentBut l.prefix l.found l.each-index (D.state l.d).view.now;
  takes : TakesAway (λ n. IsTrue (starts_with nat_eq n l.prefix)) (D.state l.fn.d) (D.state l.d);
}
