-- How a command's own part ended, known by layers.
use Rattle.std.proofs.Common.{◌≡◌, ◌≤◌, Bool, Option, Result, Ok, Err, IfOk, IfErr, refl, ap, sym, subst}
use Rattle.std.specs.Prelude.{OnOk}
use Rattle.cmd_types.specs.declared.stages.object.Object.{Object}
use Rattle.cmd_types.specs.declared.stages.object.Object.TheVariants.{Repo, Spool, TheDataFolder, Server, Others, Clock, Locks, Config, Output}
use Rattle.cmd_types.specs.declared.stages.halt.Halt.{Halt}
use Rattle.cmd_types.specs.declared.stages.halt.Halt.TheVariants.{Refused, Failed as HaltFailed, NoMemory as HaltMemory}
use Rattle.cmd_types.specs.declared.stages.outcome.Outcome.{Outcome}
use Rattle.cmd_types.specs.declared.stages.outcome.Outcome.TheVariants.{Finished, Absent, FindingsFound}
use Rattle.cmd_types.specs.Halts.{Only}
use Rattle.cmd_types.specs.Reached.{reached_by}
use Rattle.cmd_types.specs.Risen.{Rose, rose_in}
use Rattle.cmd_types.specs.World.{World, Failed, AreLater}
use Rattle.cmd_trait.specs.declared.fault.Fault.{Fault}
use Rattle.cmd_trait.specs.Meaning.{Meaning}
use Rattle.cmd_trait.specs.Ends.{reached_of, ending_of}
use Rattle.cmd_trait.specs.Faults.{of_own, own_of}

pub reached_same : {F : Type 0} (m : Meaning F) (r : Result Outcome (Halt F)) → reached_of m (ending_of (own_of r)) ≡ reached_by m.early r
reached_same m (Ok (Finished lines)) = refl
reached_same m (Ok (Absent name)) = refl
reached_same m (Ok (FindingsFound lines count)) = refl
reached_same m (Err (Refused e)) = refl
reached_same m (Err (HaltFailed object)) = refl
reached_same m (Err HaltMemory) = refl

pub own_ok : {F : Type 0} (P : Outcome → Type 0) (r : Result Outcome (Halt F)) → IfOk r P → IfOk (own_of r) P
own_ok P (Ok x) h = h
own_ok P (Err e) h = tt

pub own_on : {F : Type 0} (P : Type 0) (r : Result Outcome (Halt F)) → OnOk r P → OnOk (own_of r) P
own_on P (Ok x) p = p
own_on P (Err e) p = tt

pub own_err : {F : Type 0} (P : Halt F → Type 0) (Q : Fault F → Type 0) → ((h : Halt F) → P h → Q (of_own h)) → (r : Result Outcome (Halt F)) → IfErr r P → IfErr (own_of r) Q
own_err P Q to (Ok x) h = tt
own_err P Q to (Err e) h = to e h

-- a count that rose in the call rose
pub rose_to : (rose : Rose) (b k : World) → (rose.repo → Failed b k Repo) → (rose.spool → Failed b k Spool) → (rose.tree → Failed b k TheDataFolder) → (rose.server → Failed b k Server) → (rose.others → Failed b k Others) → (rose.clock → Failed b k Clock) →
    (rose.locks → Failed b k Locks) → (rose.config → Failed b k Config) → (rose.out → Failed b k Output) → (object : Object) → rose_in rose object → Failed b k object
rose_to rose b k r s t v a c l i o Repo h = r h
rose_to rose b k r s t v a c l i o Spool h = s h
rose_to rose b k r s t v a c l i o TheDataFolder h = t h
rose_to rose b k r s t v a c l i o Server h = v h
rose_to rose b k r s t v a c l i o Others h = a h
rose_to rose b k r s t v a c l i o Clock h = c h
rose_to rose b k r s t v a c l i o Locks h = l h
rose_to rose b k r s t v a c l i o Config h = i h
rose_to rose b k r s t v a c l i o Output h = o h

-- each count is as it was or later
pub all_later : (b k : World) → b.repo.faults ≤ k.repo.faults → b.spool.faults ≤ k.spool.faults → b.tree.faults ≤ k.tree.faults → b.server.faults ≤ k.server.faults → b.others.faults ≤ k.others.faults → b.clock.faults ≤ k.clock.faults →
    b.locks.faults ≤ k.locks.faults → b.config.faults ≤ k.config.faults → b.out.faults ≤ k.out.faults → AreLater b k
all_later b k r s t v a c l i o Repo = r
all_later b k r s t v a c l i o Spool = s
all_later b k r s t v a c l i o TheDataFolder = t
all_later b k r s t v a c l i o Server = v
all_later b k r s t v a c l i o Others = a
all_later b k r s t v a c l i o Clock = c
all_later b k r s t v a c l i o Locks = l
all_later b k r s t v a c l i o Config = i
all_later b k r s t v a c l i o Output = o

-- only this object failed
pub only_rose : (b k : World) (which : Object) (rose : Type 0) → (rose → Failed b k which) → (object : Object) → Only which rose object → Failed b k object
only_rose b k which rose to object h = subst (λ (o : Object). Failed b k o) (sym h.0) (to h.1)
