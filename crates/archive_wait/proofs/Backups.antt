-- A wait, and then the backup that it was for: one command of the log.
use Rattle.std.proofs.Common.{◌≡◌, List, [], ◌++◌, Option, Some, None, sym, ap, ◌∙◌, subst, Bool, true, false}
use Rattle.std.proofs.lemmas.List.{append-nil}
use Rattle.base_model.specs.Repository.{Backup, Stanza, Repository}
use Rattle.base_model.specs.Steps.{Step, Move, Turn, Retention, MakeBackup, IsPartOf, after, after_all, all_of, backup_moves, turn_moves}
use Rattle.base_model.specs.Log.{Done, IsDone, Leads}
use Rattle.base_model.proofs.Done.{part_none}
use Rattle.base_model.proofs.PushDone.{after_some}
use Rattle.archive_wait.proofs.EachImage.{entry, after_following, done_after, part_following, part_under}

module _ (ts : List Turn) (b : Backup) (kept : Option Retention) where
  abbrev made : List Turn → Bool → Done
  made us whole = record { command = MakeBackup us b kept; acknowledged = whole }

  -- ---- what is done

  -- the steps of others were waited for, and then the backup was made
  pub leads_made : (whole : Bool) (old mid new : Repository) → Leads (entry ts true) old mid →
      Leads (record { command = MakeBackup [] b kept; acknowledged = whole }) mid new →
      Leads (record { command = MakeBackup ts b kept; acknowledged = whole }) old new
  leads_made whole None mid new l k =
      let none : mid ≡ None = l.1 ∙ ap (λ (x : List Step). after None x) l.2 in
      subst (λ (m : Repository). Leads (made [] whole) m new) none k
  leads_made whole (Some s) mid new l k =
      let first = all_of (turn_moves s ts) in
      let is : mid ≡ Some (after_all s first) = l.1 ∙ ap (λ (x : List Step). after (Some s) x) l.2 ∙ after_some s first in
      let k2 = subst (λ (m : Repository). Leads (made [] whole) m new) is k in (
        first ++ k2.0,
        k2.1 ∙ ap (λ (m : Repository). after m k2.0) (sym (after_some s first)) ∙ sym (after_following (Some s) first k2.0),
        done_after whole (turn_moves s ts) (backup_moves [] b kept (after_all s first)) k2.0 k2.2,
      )

  -- the steps of others alone are a part of it
  part_waited : (s : Stanza) (whole : Bool) (done : List Step) → IsDone whole done (turn_moves s ts) →
      IsPartOf done (backup_moves ts b kept s)
  part_waited s true done is =
      let rest = backup_moves [] b kept (after_all s (all_of (turn_moves s ts))) in
      subst (λ (d : List Step). IsPartOf d (turn_moves s ts ++ rest)) (append-nil (all_of (turn_moves s ts)) ∙ sym is)
      (part_following (turn_moves s ts) rest [] (part_none rest))
  part_waited s false done is =
      let rest = backup_moves [] b kept (after_all s (all_of (turn_moves s ts))) in
      part_under (turn_moves s ts) [] rest done (λ d e. subst (λ (x : List Step). IsPartOf x rest) (sym e) (part_none rest))
      (subst (λ (m : List Move). IsPartOf done m) (sym (append-nil (turn_moves s ts))) is)

  pub leads_waited : (whole : Bool) (old new : Repository) → Leads (entry ts whole) old new →
      Leads (record { command = MakeBackup ts b kept; acknowledged = false }) old new
  leads_waited true None new l = (l.0, l.1, l.2)
  leads_waited false None new l = l
  leads_waited whole (Some s) new l = (l.0, l.1, part_waited s whole l.0 l.2)
