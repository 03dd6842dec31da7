-- How the making of a backup ends the command, and why.
use Rattle.std.proofs.Common.{◌≡◌, inl, inr, ℕ, ◌<◌, ◌^◌, List, true, false, String, Global, string_bytes, refl, sym, subst, length}
use Rattle.std.specs.Prelude.{Result, Err}
use Rattle.std.specs.Result.{IsErrAnd, is_ok}
use Rattle.base_devices.specs.Cause.{Rises}
use Rattle.base_devices.specs.Links.{LinkState}
use Rattle.base_devices.specs.DataFolder.{Nodes, IsTreeListing}
use Rattle.base_model.specs.Text.{Text}
use Rattle.worker_pool.specs.declared.dispatch.fault.Lost.{Lost}
use Rattle.backup_plan.specs.declared.fault.PlanFault.{PlanFault}
use Rattle.backup_plan.specs.declared.fault.PlanFault.TheVariants as plans
use Rattle.backup_plan.specs.Filter.{ListedNode, kept, IsRefused}
use Rattle.backup_record.specs.Faults.{IsMissing}
use Rattle.backup_make.specs.declared.draft.Draft.{Draft}
use Rattle.backup_make.specs.declared.fault.MakeFault.{MakeFault}
use Rattle.backup_make.specs.Draft.{stanza_of, jobs_in, files_with}
use Rattle.backup_make.specs.Faults.{MakeFails, IsUnread}
use Rattle.backup_make.specs.Made.{MayBeListed}
use Rattle.cmd_types.specs.declared.stages.object.Object.{Object}
use Rattle.cmd_types.specs.declared.stages.halt.Halt.{Halt}
use Rattle.cmd_types.specs.declared.stages.outcome.Outcome.{Outcome}
use Rattle.cmd_types.specs.Halts.{HaltCause}
use Rattle.cmd_types.specs.Reached.{reached_by}
use Rattle.cmd_types.specs.Risen.{none, rose_in}
use Rattle.cmd_types.specs.DisksEffect.{to_end, turned_back, stopped}
use Rattle.cmd_backup_common.specs.declared.parts.fault.BackupFault.{BackupFault}
use Rattle.cmd_backup_common.specs.Drafting.{ListingCause}
use Rattle.cmd_backup_common.specs.PartsFaults.{backup_early, of_plan, IsHaltOf, NoneLeft, NotRead, Vanished, LongManifest, LongList, NoClock, NoDisk, Starved}
use Rattle.cmd_backup_common.specs.Making.{IsEndWith, Well, Ill, CannotRead, MakeCause}

-- ---- a draft

-- no backup may be made of a listing that is refused so
pub plan_cause : {T : Type 0} (seen : List ListedNode) (result : Result T PlanFault) (fault : PlanFault) (h : Halt BackupFault) → h ≡ of_plan fault → IsRefused (kept false seen) fault → (result ≡ Err plans.Unordered → (nodes : Nodes) → ¬ IsTreeListing nodes seen) → result ≡ Err fault → HaltCause (ListingCause seen) (λ _. ⊥) h
plan_cause seen result fault h is refused orderly at = subst (HaltCause (ListingCause seen) (λ _. ⊥)) (sym is) (by fault refused at)
  where
    by : (f : PlanFault) → IsRefused (kept false seen) f → result ≡ Err f → HaltCause (ListingCause seen) (λ _. ⊥) (of_plan f)
    by (plans.LinkFound path) r at = r
    by (plans.NameRefused path fault) r at = (fault, r)
    by plans.Unordered r at = orderly at
    by (plans.ControlMissing path) r at = r
    by (plans.TooMany limit) r at = r
    by plans.NoMemory r at = tt

-- the repository failed, or the clock did
abbrev pub Either : Type 0 → Type 0 → Object → Type 0
Either repo clock = rose_in (record none { repo = repo; clock = clock })

-- ---- the backup is made

module _ (d : Draft) (links left : List LinkState) (before after : List Lost) (old new known shows : ℕ) (lost : ℕ) (count : length after < 2 ^ 32 → lost ≡ length after) where
  unread : (path : String Global) → IsUnread (jobs_in d) links left (string_bytes path) → CannotRead d links path
  unread path h = record {
    link = h.link;
    from = h.from;
    from_is = h.from_is;
    job = h.job;
    job_is = h.asked;
    item = h.item;
    item_is = h.of_job;
    path_is = h.path_is;
    unread = h.unread;
  }

  -- why the command ends by that of the making
  pub made_cause : (fault : MakeFault) (h : Halt BackupFault) → IsHaltOf (stanza_of d) d.label lost fault h → MakeFails fault d links left before after old new known shows
      → HaltCause (MakeCause d links before) (Either (Rises old new) (Rises known shows)) h
  made_cause fault h NoneLeft k = record { after = after; all = k; count = count }
  made_cause fault h (NotRead path) k = unread path k
  made_cause fault h (Vanished path text same) k = (k.0, k.1, subst (λ (t : Text). IsMissing t (files_with d k.0)) (sym same) k.2)
  made_cause fault h (LongManifest n name is) k = inl (is, refl, (k.0, k.1, (n, k.2)))
  made_cause fault h (LongList n name is) k = inr (is, refl, (k.0, k.1, (n, k.2)))
  made_cause fault h NoClock k = k
  made_cause fault h NoDisk k = k
  made_cause fault h (Starved f) k = tt

-- ---- how far the command came by that

-- where it reached its end, the backup was made, with the line that states it
pub end_ok : (d : Draft) (line : Text) (made : Result (Unit {0}) MakeFault) (result : Result Outcome (Halt BackupFault)) → IsEndWith d line made result → reached_by backup_early result ≡ to_end → is_ok made ≡ true
end_ok d line made result (Well u lines is) at = refl
end_ok d line made result (Ill lost fault halt is) at = absurd (by lost fault halt is at)
  where
    by : (lost : ℕ) (fault : MakeFault) (halt : Halt BackupFault) → IsHaltOf (stanza_of d) d.label lost fault halt → reached_by backup_early (Err halt) ≡ to_end → ⊥
    by lost fault halt NoneLeft at = let e : turned_back ≡ to_end = at in cc
    by lost fault halt (NotRead path) at = let e : turned_back ≡ to_end = at in cc
    by lost fault halt (Vanished path text same) at = let e : turned_back ≡ to_end = at in cc
    by lost fault halt (LongManifest n name same) at = let e : turned_back ≡ to_end = at in cc
    by lost fault halt (LongList n name same) at = let e : turned_back ≡ to_end = at in cc
    by lost fault halt NoClock at = let e : stopped ≡ to_end = at in cc
    by lost fault halt NoDisk at = let e : stopped ≡ to_end = at in cc
    by lost fault halt (Starved f) at = let e : stopped ≡ to_end = at in cc

-- where the command was turned back, no backup may be listed
pub end_early : (d : Draft) (line : Text) (made : Result (Unit {0}) MakeFault) (result : Result Outcome (Halt BackupFault)) → IsEndWith d line made result → reached_by backup_early result ≡ turned_back → IsErrAnd made (λ e. ¬ MayBeListed e)
end_early d line made result (Well u lines is) at = absurd (let e : to_end ≡ turned_back = at in cc)
end_early d line made result (Ill lost fault halt is) at = by lost fault halt is at
  where
    by : (lost : ℕ) (fault : MakeFault) (halt : Halt BackupFault) → IsHaltOf (stanza_of d) d.label lost fault halt → reached_by backup_early (Err halt) ≡ turned_back → ¬ MayBeListed fault
    by lost fault halt NoneLeft at = λ h. h
    by lost fault halt (NotRead path) at = λ h. h
    by lost fault halt (Vanished path text same) at = λ h. h
    by lost fault halt (LongManifest n name same) at = λ h. h
    by lost fault halt (LongList n name same) at = λ h. h
    by lost fault halt NoClock at = absurd (let e : stopped ≡ turned_back = at in cc)
    by lost fault halt NoDisk at = absurd (let e : stopped ≡ turned_back = at in cc)
    by lost fault halt (Starved f) at = absurd (let e : stopped ≡ turned_back = at in cc)
