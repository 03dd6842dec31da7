-- What a draft of a running server's folder takes of a listing, and why there is none.
use Rattle.std.proofs.Common.{◌≡◌, true, List, map, sym, subst}
use Rattle.std.specs.Prelude.{Result, Err}
use Rattle.base_devices.specs.declared.data_folder.FolderEntry as rust_seen
use Rattle.base_devices.specs.DataFolder.{Nodes, IsTreeListing}
use Rattle.base_model.specs.Text.{Text}
use Rattle.backup_plan.specs.declared.fault.PlanFault.{PlanFault}
use Rattle.backup_plan.specs.declared.fault.PlanFault.TheVariants as plans
use Rattle.backup_plan.specs.Filter.{ListedNode, kept, IsRefused, Takes}
use Rattle.backup_plan.specs.Listed.{Taken}
use Rattle.backup_plan.specs.Views.{seen_of}
use Rattle.cmd_types.specs.declared.stages.halt.Halt.{Halt}
use Rattle.cmd_types.specs.Halts.{HaltCause}
use Rattle.cmd_backup_common.specs.declared.parts.fault.BackupFault.{BackupFault}
use Rattle.cmd_backup_common.specs.PartsFaults.{of_plan}
use Rattle.cmd_backup_online.specs.Drafting.{ListingCause}

-- what is taken of the nodes that were handed over is taken of the listing
pub takes_of : (ns seen : List rust_seen.FolderEntry) → ns ≡ seen → (files : List Taken) (folders : List Text) → Takes true (map seen_of ns) files folders → Takes true (map seen_of seen) files folders
takes_of ns seen same files folders takes = subst (λ (xs : List rust_seen.FolderEntry). Takes true (map seen_of xs) files folders) same takes

-- no backup may be made of a listing that is refused so
pub plan_cause : {T : Type 0} (seen : List ListedNode) (result : Result T PlanFault) (fault : PlanFault) (h : Halt BackupFault) → h ≡ of_plan fault → IsRefused (kept true seen) fault → (result ≡ Err plans.Unordered → (nodes : Nodes) → ¬ IsTreeListing nodes seen) → result ≡ Err fault → HaltCause (ListingCause seen) (λ _. ⊥) h
plan_cause seen result fault h is refused orderly at = subst (HaltCause (ListingCause seen) (λ _. ⊥)) (sym is) (by fault refused at)
  where
    by : (f : PlanFault) → IsRefused (kept true seen) f → result ≡ Err f → HaltCause (ListingCause seen) (λ _. ⊥) (of_plan f)
    by (plans.LinkFound path) r at = r
    by (plans.NameRefused path fault) r at = (fault, r)
    by plans.Unordered r at = orderly at
    by (plans.ControlMissing path) r at = r
    by (plans.TooMany limit) r at = r
    by plans.NoMemory r at = tt
