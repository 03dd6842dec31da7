-- Which locks a program has.
use Rattle.std.specs.Prelude.{List, ◌∷◌, not, bytes_eq, filter}
use Rattle.base_devices.specs.Content.{Name}
use Rattle.base_devices.specs.declared.locks.LockAnswer.{LockAnswer}
use Rattle.base_devices.specs.declared.locks.LockAnswer.TheVariants.{Acquired, Busy}

-- one more where it was taken
abbrev pub with_lock : {X : Type 0} → LockAnswer → X → List X → List X
with_lock Acquired lock locks = lock ∷ locks
with_lock Busy lock locks = locks

-- those of other names
abbrev pub without : Name → List Name → List Name
without name names = filter (λ other. not (bytes_eq name other)) names
