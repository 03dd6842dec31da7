-- A cause of a call's failure is one of its caller's.
use Rattle.std.proofs.Common.{sym, subst}
use Rattle.cmd_types.specs.declared.stages.object.Object.{Object}
use Rattle.cmd_types.specs.declared.stages.object.Object.TheVariants.{Repo, Spool, TheDataFolder, Server, Others, Clock, Locks, Config, Output}
use Rattle.cmd_types.specs.declared.stages.halt.Halt.{Halt}
use Rattle.cmd_types.specs.declared.stages.halt.Halt.TheVariants.{Refused, Failed, NoMemory}
use Rattle.cmd_types.specs.Halts.{HaltCause, Only}
use Rattle.cmd_types.specs.Risen.{none, rose_in}
use Rattle.cmd_archive_get.specs.declared.fault.GetFault.{GetFault}

-- a count that rose in the call rose in its caller
rose_as : (repo spool tree up_repo up_spool up_tree : Type 0) → (repo → up_repo) → (spool → up_spool) → (tree → up_tree) → (object : Object) →
    rose_in (record none { repo = repo; spool = spool; tree = tree }) object → rose_in (record none { repo = up_repo; spool = up_spool; tree = up_tree }) object
rose_as repo spool tree up_repo up_spool up_tree f g h Repo x = f x
rose_as repo spool tree up_repo up_spool up_tree f g h Spool x = g x
rose_as repo spool tree up_repo up_spool up_tree f g h TheDataFolder x = h x
rose_as repo spool tree up_repo up_spool up_tree f g h Server x = absurd x
rose_as repo spool tree up_repo up_spool up_tree f g h Others x = absurd x
rose_as repo spool tree up_repo up_spool up_tree f g h Clock x = absurd x
rose_as repo spool tree up_repo up_spool up_tree f g h Locks x = absurd x
rose_as repo spool tree up_repo up_spool up_tree f g h Config x = absurd x
rose_as repo spool tree up_repo up_spool up_tree f g h Output x = absurd x

module _ (P Q : GetFault → Type 0) (to : (fault : GetFault) → P fault → Q fault) where
  pub halts_as : (repo spool tree up_repo up_spool up_tree : Type 0) → (repo → up_repo) → (spool → up_spool) → (tree → up_tree) → (halt : Halt GetFault) →
      HaltCause P (rose_in (record none { repo = repo; spool = spool; tree = tree })) halt → HaltCause Q (rose_in (record none { repo = up_repo; spool = up_spool; tree = up_tree })) halt
  halts_as repo spool tree up_repo up_spool up_tree f g h (Refused fault) x = to fault x
  halts_as repo spool tree up_repo up_spool up_tree f g h (Failed object) x = rose_as repo spool tree up_repo up_spool up_tree f g h object x
  halts_as repo spool tree up_repo up_spool up_tree f g h NoMemory x = tt

  -- the spool alone failed
  pub halts_spool : (spool up_repo up_spool up_tree : Type 0) → (spool → up_spool) → (halt : Halt GetFault) →
      HaltCause P (Only Spool spool) halt → HaltCause Q (rose_in (record none { repo = up_repo; spool = up_spool; tree = up_tree })) halt
  halts_spool spool up_repo up_spool up_tree g (Refused fault) x = to fault x
  halts_spool spool up_repo up_spool up_tree g (Failed object) x = subst (rose_in (record none { repo = up_repo; spool = up_spool; tree = up_tree })) (sym x.0) (g x.1)
  halts_spool spool up_repo up_spool up_tree g NoMemory x = tt
