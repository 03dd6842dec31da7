-- What calls leave of a device, one after another.
use Rattle.std.proofs.Common.{◌∙◌, arith}
use Rattle.base_devices.specs.States.{DiskState, OnlyReads}
use Rattle.base_devices.proofs.Steps.{goes_on}

pub looks_on : (a b c : DiskState) → OnlyReads a b → OnlyReads b c → OnlyReads a c
looks_on a b c p q = record {
  now = q.now ∙ p.now;
  time = goes_on (λ _ _. ⊥) (λ _. ⊥) a.view b.view c.view p.time q.time;
  opened = q.opened ∙ p.opened;
  proper = q.proper ∙ p.proper;
  later = omega (arith, p.later, q.later);
}
