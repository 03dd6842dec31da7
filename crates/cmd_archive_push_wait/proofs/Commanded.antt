-- archive-push in the background: what is read, what it is in the log, and why it ends.
use Rattle.std.proofs.Common.{◌≡◌, inl, inr, ℕ, Option, Some, None, Err, refl, sym, ap, ◌∙◌, subst, Bool, true, false}
use Rattle.std.specs.Prelude.{IfSome}
use Rattle.sha1.specs.Sha1.{sha1}
use Rattle.base_text.specs.Sum.{IsSum}
use Rattle.base_text.proofs.Digests.{IsSum-sha1}
use Rattle.base_devices.specs.Moments.{View}
use Rattle.base_devices.specs.DataFolder.{Nodes}
use Rattle.base_model.specs.declared.wal.ArchiveName.{ArchiveName}
use Rattle.base_model.specs.Names.{wal_text}
use Rattle.base_model.specs.Steps.{ArchivePushAsync}
use Rattle.base_model.specs.Text.{Text}
use Rattle.base_crash_lists.specs.Beside.{StaysBeside}
use Rattle.cmd_types.specs.declared.stages.halt.Halt.{Halt}
use Rattle.cmd_types.specs.declared.stages.halt.Halt.TheVariants.{Refused, Failed, NoMemory}
use Rattle.cmd_types.specs.declared.stages.object.Object.TheVariants.{Repo, Spool, TheDataFolder, Server, Others, Clock, Locks, Config, Output}
use Rattle.cmd_types.specs.declared.stages.plan.SyncScope.TheVariants.{Looked}
use Rattle.cmd_types.specs.Halts.{HaltCause, Only}
use Rattle.cmd_types.specs.Reached.{back_if, reached_by}
use Rattle.cmd_types.specs.Risen.{none, rose_in}
use Rattle.cmd_types.specs.DisksEffect.{Reached, On, one, Takes, to_end}
use Rattle.cmd_types.proofs.Besides.{archive_beside}
use Rattle.archive_lookup.specs.Causes.{limit_of}
use Rattle.cmd_archive_push.specs.declared.fault.PushFault.{PushFault}
use Rattle.cmd_archive_push.specs.declared.fault.PushFault.TheVariants as files
use Rattle.cmd_archive_push.specs.LogFile.{known_file}
use Rattle.cmd_archive_push.specs.WalCause.{FileCause}
use Rattle.cmd_archive_push.specs.WalPath.{wal_path}
use Rattle.archive_lookup.specs.Turns.{Account}
use Rattle.archive_wait.specs.TurnsDone.{TurnsDone, turns_of}
use Rattle.cmd_archive_push_wait.specs.declared.fault.QueueFault.{QueueFault}
use Rattle.cmd_archive_push_wait.specs.Causes.{Call, QueueCause}
use Rattle.cmd_archive_push_wait.specs.Faults.{halt_of_file}
use Rattle.cmd_archive_push_wait.specs.Leaving.{IsAcknowledged}
use Rattle.cmd_archive_push_wait.specs.Pushing.{IsWaitOf, QueuePushCause, MissCause, queue_early}
use Rattle.cmd_archive_push_wait.proofs.Taken.{wait_takes}

-- ---- the file's sum

pub sum_known : (model : Option Text) (bytes sum : Text) → IfSome model (λ b. b ≡ bytes) → sum ≡ sha1 bytes → (o : Option Text) → o ≡ model → IfSome o (λ b. sum ≡ sha1 b)
sum_known None bytes sum known is o same = subst (λ (x : Option Text). IfSome x (λ b. sum ≡ sha1 b)) (sym same) tt
sum_known (Some b) bytes sum known is o same = subst (λ (x : Option Text). IfSome x (λ b. sum ≡ sha1 b)) (sym same) (is ∙ ap sha1 (sym known))

pub sum_is : (bytes sum : Text) → sum ≡ sha1 bytes → IsSum sum
sum_is bytes sum is = subst IsSum (sym is) (IsSum-sha1 bytes)

module _ (path name : Text) (limit : ℕ) (nodes : Option Nodes) (rose : Type 0) where
  pub file_cause : (halt : Halt PushFault) → HaltCause (FileCause path name limit nodes) (Only TheDataFolder rose) halt →
      HaltCause (MissCause path name limit nodes) (Only TheDataFolder rose) (halt_of_file halt)
  file_cause (Refused (files.SegmentMissing word)) cause = cause
  file_cause (Refused (files.TooLong word most)) cause = cause
  file_cause (Refused (files.SegmentName word)) cause = tt
  file_cause (Refused (files.PathOutside word)) cause = tt
  file_cause (Refused (files.StanzaMismatch kept found)) cause = tt
  file_cause (Refused (files.HeaderForm info)) cause = tt
  file_cause (Refused (files.SegmentSize known found)) cause = tt
  file_cause (Refused (files.HeaderMismatch kept found)) cause = tt
  file_cause (Refused (files.Ambiguous first second)) cause = tt
  file_cause (Refused (files.Duplicate kept found)) cause = tt
  file_cause (Failed object) cause = cause
  file_cause NoMemory cause = tt

-- the name and the limit as they are given
pub file_cause_as : (path name name2 : Text) (limit limit2 : ℕ) (nodes : Option Nodes) (rose : Type 0) → name ≡ name2 → limit ≡ limit2 → (halt : Halt PushFault) →
    (r : Halt QueueFault) → r ≡ halt_of_file halt → HaltCause (FileCause path name limit nodes) (Only TheDataFolder rose) halt → HaltCause (MissCause path name2 limit2 nodes) (Only TheDataFolder rose) r
file_cause_as path name name2 limit limit2 nodes rose same same_limit halt r is cause =
    subst (HaltCause (MissCause path name2 limit2 nodes) (Only TheDataFolder rose)) (sym is)
    (subst (λ (n : ℕ). HaltCause (MissCause path name2 n nodes) (Only TheDataFolder rose) (halt_of_file halt)) same_limit
    (subst (λ (t : Text). HaltCause (MissCause path t limit nodes) (Only TheDataFolder rose) (halt_of_file halt)) same
    (file_cause path name limit nodes rose halt cause)))

-- ---- the wait, as a command of the log

back_open : (b : Bool) → ¬ (back_if b ≡ to_end)
back_open true is = cc
back_open false is = cc

-- a refusal or a failure is no end
pub halt_open : (h : Halt QueueFault) → ¬ (reached_by queue_early (Err h) ≡ to_end)
halt_open (Refused e) is = back_open true is
halt_open (Failed Server) is = back_open true is
halt_open (Failed Repo) is = back_open false is
halt_open (Failed Spool) is = back_open false is
halt_open (Failed TheDataFolder) is = back_open false is
halt_open (Failed Others) is = back_open false is
halt_open (Failed Clock) is = back_open false is
halt_open (Failed Locks) is = back_open false is
halt_open (Failed Config) is = back_open false is
halt_open (Failed Output) is = back_open false is
halt_open NoMemory is = back_open false is

module _ (stanza : Text) (old : Option Account) (whole : Bool) (a b s t : View) where
  pub takes_of : (reached : Reached) → (reached ≡ to_end → whole ≡ true) → (o : Option Account) → IfSome o (λ k. k.stanza ≡ stanza → TurnsDone whole old k a b s t) →
      IfSome o (λ k. k.stanza ≡ stanza → On (one (IsWaitOf old k)) (λ command. Takes Looked stanza command reached a s b t))
  takes_of reached ends None h = tt
  takes_of reached ends (Some k) h = λ of.
      let p = h of in (
        ArchivePushAsync (turns_of p.turned),
        record { before = p.before; turned = p.turned; was = p.was; is = p.is; waits = refl },
        subst (λ (z : Text). Takes Looked z (ArchivePushAsync (turns_of p.turned)) reached a s b t) of (wait_takes whole old k a b s t p reached ends),
      )

  pub besides_of : (o : Option Account) → IfSome o (λ k. k.stanza ≡ stanza → TurnsDone whole old k a b s t) →
      IfSome o (λ k. k.stanza ≡ stanza → StaysBeside stanza a b × StaysBeside stanza s t)
  besides_of None h = tt
  besides_of (Some k) h = λ of.
      subst (λ (z : Text). StaysBeside z a b × StaysBeside z s t) of (archive_beside k.stanza a b (h of).repo_only, archive_beside k.stanza s t (h of).spool_only)

-- it is acknowledged with the sum of the bytes that the data folder has
pub stored_of : (stanza : Text) (name : ArchiveName) (sum : Text) (old o : Option Account) (a b s : View) (known : Option Text) → IfSome known (λ bytes. sum ≡ sha1 bytes) →
    IfSome o (λ k. k.stanza ≡ stanza → IsAcknowledged name sum old k a b s) →
    IfSome known (λ bytes. IfSome o (λ k. k.stanza ≡ stanza → IsAcknowledged name (sha1 bytes) old k a b s))
stored_of stanza name sum old o a b s None is h = tt
stored_of stanza name sum old o a b s (Some bytes) is h =
    subst (λ (z : Text). IfSome o (λ k. k.stanza ≡ stanza → IsAcknowledged name z old k a b s)) is h

-- ---- why it ends

module _ (path : Text) (nodes : Option Nodes) (name : ArchiveName) (call : Text → Call) (repo spool tree others : Type 0) where
  pub missed : (halt : Halt QueueFault) → HaltCause (MissCause path (wal_text name) (limit_of name) nodes) (Only TheDataFolder tree) halt →
      HaltCause (QueuePushCause path nodes name call) (rose_in (record none { repo = repo; spool = spool; tree = tree; others = others })) halt
  missed (Refused fault) cause = inl cause
  missed (Failed object) cause = subst (rose_in (record none { repo = repo; spool = spool; tree = tree; others = others })) (sym cause.0) cause.1
  missed NoMemory cause = tt

  pub left : (sum : Text) → IfSome (known_file nodes (wal_path (wal_text name))) (λ bytes. sum ≡ sha1 bytes) → (halt : Halt QueueFault) →
      HaltCause (QueueCause (call sum)) (rose_in (record none { repo = repo; spool = spool; others = others })) halt →
      HaltCause (QueuePushCause path nodes name call) (rose_in (record none { repo = repo; spool = spool; tree = tree; others = others })) halt
  left sum known (Refused fault) cause = inr (sum, known, cause)
  left sum known (Failed Repo) cause = cause
  left sum known (Failed Spool) cause = cause
  left sum known (Failed TheDataFolder) cause = absurd cause
  left sum known (Failed Server) cause = absurd cause
  left sum known (Failed Others) cause = cause
  left sum known (Failed Clock) cause = absurd cause
  left sum known (Failed Locks) cause = absurd cause
  left sum known (Failed Config) cause = absurd cause
  left sum known (Failed Output) cause = absurd cause
  left sum known NoMemory cause = tt
