use Rattle.std.proofs.Common.{◌≡◌, List, String, true, false, refl, sym, ◌∙◌, ap, bytes_eq, string_bytes}
use Rattle.std.specs.declared.alloc.Global.{Global}
use Rattle.std.specs.List.{list_any}
use Rattle.memory_devices.proofs.Names.{among}
use Rattle.memory_devices.proofs.locks.MemLocksLocks.take.Goals as goal

pub returns-then-has_name-clause-known : goal.returns-then-has_name-clause-known
returns-then-has_name-clause-known c =
    let name = c.args.name.now in
    let test = λ (l : List (String Global)). list_any (λ x. bytes_eq (string_bytes x) name) l in
    (λ _. (among name c.args.self.now.others.items).0 (ap test (sym c.deref.ensures.value) ∙ sym c.has_name.ensures ∙ c.if-has_name.true), λ _. refl)

pub returns-clause-known : goal.returns-clause-known
returns-clause-known c =
    let name = c.args.name.now in
    let test = λ (l : List (String Global)). list_any (λ x. bytes_eq (string_bytes x) name) l in
    let none : test c.args.self.now.others.items ≡ false = ap test (sym c.deref.ensures.value) ∙ sym c.has_name.ensures ∙ c.if-has_name.false in
    (λ held. cc, λ there. let some : test c.args.self.now.others.items ≡ true = (among name c.args.self.now.others.items).1 there in cc)
