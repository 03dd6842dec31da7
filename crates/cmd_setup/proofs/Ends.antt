-- How a stage's call ends, as the end of a call around it.
use Rattle.std.proofs.Common.{◌≡◌, Result, Ok, Err, IfErr, sym, subst}
use Rattle.std.specs.Prelude.{IsErrAnd}
use Rattle.cmd_types.specs.declared.stages.object.Object.{Object}
use Rattle.cmd_types.specs.declared.stages.object.Object.TheVariants.{Repo}
use Rattle.cmd_types.specs.declared.stages.halt.Halt.{Halt}
use Rattle.cmd_types.specs.declared.stages.halt.Halt.TheVariants.{Refused, Failed, NoMemory}
use Rattle.cmd_types.specs.Halts.{HaltCause, Only}
use Rattle.cmd_types.specs.Risen.{none, rose_in}

halt_as : {E : Type 0} (P Q : E → Type 0) (F G : Object → Type 0) → ((e : E) → P e → Q e) → ((o : Object) → F o → G o) → (h : Halt E) → HaltCause P F h → HaltCause Q G h
halt_as P Q F G refused failed (Refused e) h = refused e h
halt_as P Q F G refused failed (Failed o) h = failed o h
halt_as P Q F G refused failed NoMemory h = tt

-- a result that is this halt
pub ends_as : {T E : Type 0} (P Q : E → Type 0) (F G : Object → Type 0) → ((e : E) → P e → Q e) → ((o : Object) → F o → G o) →
    (result : Result T (Halt E)) (h : Halt E) → IsErrAnd result (λ x. x ≡ h) → HaltCause P F h → IfErr result (HaltCause Q G)
ends_as P Q F G refused failed (Ok x) h is cause = tt
ends_as P Q F G refused failed (Err x) h is cause = subst (HaltCause Q G) (sym is) (halt_as P Q F G refused failed h cause)

module _ (repo tree : Type 0) where
  -- the repository failed, or the data folder did
  abbrev pub Either : Object → Type 0
  Either = rose_in (record none { repo = repo; tree = tree })

  pub of_repo : (rose : Type 0) → (rose → repo) → (o : Object) → Only Repo rose o → Either o
  of_repo rose up o x = subst Either (sym x.0) (up x.1)
