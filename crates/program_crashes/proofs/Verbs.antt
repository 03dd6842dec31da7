-- Which calls are a push of the log, and what those promise.
use Rattle.std.proofs.Common.{◌≡◌, Bool, true, false, ℕ, List, [], Option, Some, None, ◌∙◌}
use Rattle.std.specs.Prelude.{IsSomeAnd}
use Rattle.base_devices.specs.Content.{Content}
use Rattle.base_devices.specs.DataFolder.{Nodes}
use Rattle.base_devices.specs.Links.{LinkState}
use Rattle.base_devices.specs.Moments.{View}
use Rattle.base_model.specs.declared.clusters.Cluster.{Cluster}
use Rattle.base_model.specs.declared.labels.BackupKind.{BackupKind}
use Rattle.base_model.specs.declared.labels.BackupKind.TheVariants.{Full, Diff, Incr}
use Rattle.base_model.specs.Repository.{Backup}
use Rattle.base_model.specs.Steps.{Command, StanzaCreate, StanzaUpgrade, ArchivePush, ArchivePushAsync, ArchivePushDrain, MakeBackup, Expire, Then, Reading, Named, Turn, Retention}
use Rattle.base_model.specs.Text.{Text}
use Rattle.cmd_archive_push.specs.Causes.{IsStored, IsLasting}
use Rattle.cmd_archive_push.specs.Commands.{IsPushOf}
use Rattle.cmd_archive_push_wait.specs.Pushing.{IsWaitOf}
use Rattle.cmd_backup_offline.specs.Kinds.{IsBackupBy}
use Rattle.cmd_backup_online.specs.Doing.{IsOnlineBy}
use Rattle.cmd_types.specs.declared.stages.outcome.Outcome.{Outcome}
use Rattle.cmd_types.specs.declared.stages.outcome.Outcome.TheVariants.{Finished, Absent, FindingsFound}
use Rattle.cmd_types.specs.Reached.{OnFinished}
use Rattle.cmd_trait.specs.CallEffect.{OnLasting}
use Rattle.cmd_trait.specs.InForce.{first_of, second_of, is_on}
use Rattle.cmd_trait.specs.KnownWorld.{KnownWorld}
use Rattle.cmd_trait.specs.Meaning.{Place, Meaning, IsOf}
use Rattle.expire_rules.specs.declared.rules.Rules.{Rules}
use Rattle.options_read.specs.Settings.{Source}
use Rattle.options_table.specs.declared.table.Opt.TheVariants.{ArchiveAsync, Online}
use Rattle.options_table.specs.declared.table.Verb.{Verb}
use Rattle.options_table.specs.declared.table.Verb.TheVariants as verb
use Rattle.program_run.specs.Asked.{asked_by, push_by, get_by, backup_by, expires_in}
use Rattle.run_backup.specs.Following.{WithExpiry}

-- ---- no other command is a push

abbrev MakesBackup : (Command → Type 0) → Type 0
MakesBackup Is = (command : Command) → Is command → (turns : List Turn) × (b : Backup) × (command ≡ MakeBackup turns b None)

module _ {X : Type 0} (n : Named) where
  on_some : {A : Type 0} (o : Option A) (P : A → Type 0) → ((a : A) → P a → X) → IsSomeAnd o P → X
  on_some None P to h = absurd h
  on_some (Some a) P to h = to a h

  not_read : ArchivePush n ≡ Reading → X
  not_read e = cc

  not_created : (c : Option Cluster) → ArchivePush n ≡ StanzaCreate c → X
  not_created c e = cc

  not_upgraded : (c : Option Cluster) → ArchivePush n ≡ StanzaUpgrade c → X
  not_upgraded c e = cc

  not_waited : (turns : List Turn) → ArchivePush n ≡ ArchivePushAsync turns → X
  not_waited turns e = cc

  not_drained : (files : List Named) → ArchivePush n ≡ ArchivePushDrain files → X
  not_drained files e = cc

  not_backed_up : (turns : List Turn) (b : Backup) (kept : Option Retention) → ArchivePush n ≡ MakeBackup turns b kept → X
  not_backed_up turns b kept e = cc

  not_expired : (kept : Retention) → ArchivePush n ≡ Expire kept → X
  not_expired kept e = cc

  not_both : (first next : Command) → ArchivePush n ≡ Then first next → X
  not_both first next e = cc

  not_followed : (rules : Option Rules) (first last : ℕ) (Is : Command → Type 0) → MakesBackup Is → WithExpiry rules first last Is (ArchivePush n) → X
  not_followed None first last Is makes x = let m = makes x.0 x.1 in not_backed_up m.0 m.1 None (x.2 ∙ m.2)
  not_followed (Some rules) first last Is makes x = not_backed_up x.2.0 x.2.1 _ x.2.5

makes_offline : (kind : BackupKind) (links : List LinkState) (stanza : Text) (old : Option Content) (command : Command) → IsBackupBy kind links stanza old command → (turns : List Turn) × (b : Backup) × (command ≡ MakeBackup turns b None)
makes_offline Full links stanza old command is = ([], is.0, is.1)
makes_offline Diff links stanza old command is = ([], is.0, is.1)
makes_offline Incr links stanza old command is = ([], is.0, is.1)

makes_online : (kind : BackupKind) (links : List LinkState) (turns : List Turn) (label : Option Text) (stanza : Text) (old : Option Content) (command : Command) → IsOnlineBy kind links turns label stanza old command →
    (turns : List Turn) × (b : Backup) × (command ≡ MakeBackup turns b None)
makes_online Full links turns label stanza old command is = (turns, is.0, is.1)
makes_online Diff links turns label stanza old command is = (turns, is.0, is.1)
makes_online Incr links turns label stanza old command is = (turns, is.0, is.1)

-- ---- a push

-- it is the push of the log, with what it promises
pub record IsPush (p : Place) (old new : KnownWorld) (begun : Content) (repo : View) (n : Named) : Type 0 where
  pub path : Text
  pub lines : Text
  pub is : IsSomeAnd old.nodes (λ f. IsPushOf f p.data_folder path (ArchivePush n))
  pub stored : IsStored p.stanza p.data_folder path old.nodes (Some begun) new.repo lines
  pub lasting : IsLasting p.stanza p.data_folder path repo

module _ (p : Place) (old new : KnownWorld) (begun : Content) (repo : View) (now_nodes : Option Nodes) (outcome : Outcome) (n : Named) where
  -- a command that means this is one, where it is the push of the log
  abbrev IsPushBy : {F : Type 0} → Meaning F → Type 0
  IsPushBy m = IsOf (m.manner p old new) (ArchivePush n) → m.promise p (record old { repo = Some begun }) new outcome
      → OnLasting m.plan.sync_scope m.plan.pairs (m.lasts p old.nodes repo now_nodes outcome) → IsPush p old new begun repo n

  finished : (path : Text) (o : Outcome) → IsSomeAnd old.nodes (λ f. IsPushOf f p.data_folder path (ArchivePush n)) → OnFinished o (IsStored p.stanza p.data_folder path old.nodes (Some begun) new.repo)
      → OnFinished o (λ lines. IsLasting p.stanza p.data_folder path repo) → IsPush p old new begun repo n
  finished path (Finished lines) is stored lasting = record { path = path; lines = _; is = is; stored = stored; lasting = lasting }
  finished path (Absent name) is stored lasting = absurd stored
  finished path (FindingsFound lines count) is stored lasting = absurd stored

  pushed_by : (async : Bool) (s : Source) (path : Text) → IsPushBy (push_by async s path).means
  pushed_by false s path is promise lasts = finished path outcome is promise lasts
  pushed_by true s path is promise lasts = on_some n new.others.account (λ k. IsWaitOf old.others.account k (ArchivePush n)) (λ k h. not_waited n _ h.waits) is

  got_by : (async : Bool) (s : Source) (name path : Text) → IsPushBy (get_by async s name path)
  got_by false s name path is promise lasts = not_read n is
  got_by true s name path is promise lasts = not_read n is

  backed_up_by : (online : Bool) (s : Source) → IsPushBy (backup_by online s).means
  backed_up_by false s is promise lasts = not_followed n (expires_in s) old.clock.least new.clock.least _ (λ command h. makes_offline _ _ _ _ command h) is
  backed_up_by true s is promise lasts = not_followed n (expires_in s) old.clock.least new.clock.least _
      (λ command h. on_some n new.others.account _ (λ k x. makes_online _ _ _ _ _ _ command x.4) h) is

  pub push_by_verb : (v : Verb) (s : Source) (given : List Text) → IsPushBy (asked_by v s given).means
  push_by_verb verb.StanzaCreate s given is promise lasts = on_some n old.nodes _ (λ f x. not_created n x.0 x.2) is
  push_by_verb verb.StanzaUpgrade s given is promise lasts = on_some n old.nodes _ (λ f x. not_upgraded n x.0 x.2) is
  push_by_verb verb.ArchivePush s given is promise lasts = pushed_by (is_on s ArchiveAsync) s (first_of given) is promise lasts
  push_by_verb verb.ArchivePushAsync s given is promise lasts = on_some n old.nodes _ (λ f x. not_drained n _ x.1.is) is
  push_by_verb verb.ArchiveGet s given is promise lasts = got_by (is_on s ArchiveAsync) s (first_of given) (second_of given) is promise lasts
  push_by_verb verb.ArchiveGetAsync s given is promise lasts = not_read n is
  push_by_verb verb.Backup s given is promise lasts = backed_up_by (is_on s Online) s is promise lasts
  push_by_verb verb.Restore s given is promise lasts = not_read n is
  push_by_verb verb.Info s given is promise lasts = not_read n is
  push_by_verb verb.Verify s given is promise lasts = not_read n is
  push_by_verb verb.Expire s given is promise lasts = not_expired n _ is.2
  push_by_verb verb.Rehearse s given is promise lasts = not_both n _ _ is.3
