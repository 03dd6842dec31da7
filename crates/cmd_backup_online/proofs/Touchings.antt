-- A running server's backup touches no names but those of its label, and those that others change in the archive.
use Rattle.std.proofs.Common.{◌≡◌, inl, inr, ℕ, Bool, Option, Some, None, refl, subst}
use Rattle.std.specs.Prelude.{IfSome, IsTrue, option_and_then}
use Rattle.base_devices.specs.Content.{Name, is_below}
use Rattle.base_devices.specs.Moments.{View}
use Rattle.base_model.specs.declared.clusters.Cluster.{Cluster}
use Rattle.base_model.specs.declared.labels.BackupKind.{BackupKind}
use Rattle.base_model.specs.declared.labels.Label.{Label}
use Rattle.base_model.specs.Fields.{at_number}
use Rattle.base_model.specs.InfoFiles.{IsBackupInfo, IsLabel}
use Rattle.base_model.specs.Names.{archive_folder}
use Rattle.base_model.specs.Text.{Text}
use Rattle.base_model.specs.Values.{BackupInfo, Entry}
use Rattle.archive_lookup.specs.Stored.{ChangesArchive}
use Rattle.archive_lookup.specs.Turns.{Account}
use Rattle.archive_store.specs.Still.{IsStill}
use Rattle.archive_wait.specs.TurnsDone.{TurnsDone}
use Rattle.backup_make.specs.declared.draft.Draft.{Draft}
use Rattle.backup_make.specs.Draft.{stanza_of}
use Rattle.backup_make.specs.Touched.{TouchesOnly, IsOfBackup}
use Rattle.backup_make.proofs.Touched.{touched_on, touched_only, touched_rests, touched_wide}
use Rattle.cmd_backup_common.specs.Priors.{made_label, prior_for}
use Rattle.cmd_backup_common.specs.Seconds.{IsNext}
use Rattle.cmd_backup_common.proofs.Priors.{label_rules}
use Rattle.cmd_backup_offline.specs.Basing.{base_in}
use Rattle.cmd_backup_offline.specs.Touching.{IsNewLabel, TouchesOneOf}
use Rattle.cmd_backup_online.specs.Touching.{IsOfRunning}
use Rattle.cmd_backup_online.proofs.Doings.{with_account}

-- the label of the next backup keeps the rules of labels
pub next_label : (kind : BackupKind) (list : BackupInfo) → IsBackupInfo list → (second : ℕ) → IsNext second list → IsLabel (made_label kind (base_in kind list) second)
next_label kind list rules second next = of_current (at_number list.current list.history)
  where
    full : IsLabel (record { full = second; later = None })
    full = record { full = next.in_range; later = tt }

    of_prior : (c : Cluster) (o : Option Entry) → prior_for kind c.id list.backups ≡ o → IsLabel (made_label kind o second)
    of_prior c None is = full
    of_prior c (Some e) is = label_rules kind second c.id list rules next e is

    of_current : (o : Option Cluster) → IsLabel (made_label kind (option_and_then (λ (c : Cluster). prior_for kind c.id list.backups) o) second)
    of_current None = full
    of_current (Some c) = of_prior c (prior_for kind c.id list.backups) refl

-- what is touched of a draft's backup is of its label
pub touched_as : (stanza : Text) (label : Label) (d : Draft) → stanza_of d ≡ stanza → d.label ≡ label → (a b : View) → TouchesOnly (IsOfBackup (stanza_of d) d.label) a b → TouchesOnly (IsOfBackup stanza label) a b
touched_as stanza label d stanza_is label_is a b h =
    subst (λ (l : Label). TouchesOnly (IsOfBackup stanza l) a b) label_is (subst (λ (s : Text). TouchesOnly (IsOfBackup s d.label) a b) stanza_is h)

-- the files of a draft with this label were read after calls that only read
module _ (stanza : Text) (label : Label) (rules : IsLabel label) (a b t : View) (still : IsStill a b) (new : IfSome a.now (IsNewLabel stanza label)) (talked : TouchesOnly (IsOfBackup stanza label) b t) where
  abbrev these : Name → Type 0
  these = IsOfBackup stanza label

  abbrev all : Name → Type 0
  all = IsOfRunning stanza label

  named : (d : View) → TouchesOnly (IsOfRunning stanza label) a d → TouchesOneOf stanza (IsOfRunning stanza) a d
  named d only = inr (label, record { is_label = rules; is_new = new; only = only })

  wide : (c d : View) → TouchesOnly (IsOfBackup stanza label) c d → TouchesOnly (IsOfRunning stanza label) c d
  wide c d h = touched_wide these all c d (λ n x. inl x) h

  read : TouchesOnly (IsOfBackup stanza label) a t
  read = touched_on these a b t (touched_rests these a b still.time still.now) talked

  pub read_only : TouchesOneOf stanza (IsOfRunning stanza) a t
  read_only = named t (wide a t read)

  -- then it stopped
  module _ (s : View) (closed : TouchesOnly (IsOfBackup stanza label) t s) where
    staged : TouchesOnly (IsOfRunning stanza label) a s
    staged = wide a s (touched_on these a t s read closed)

    pub staged_only : TouchesOneOf stanza (IsOfRunning stanza) a s
    staged_only = named s staged

    -- then steps of others were waited for
    module _ (whole : Bool) (old account : Option Account) (w spool spool2 : View) (went : IfSome account (λ k. TurnsDone whole old k s w spool spool2)) where
      waited : (k : Account) → TurnsDone whole old k s w spool spool2 → k.stanza ≡ stanza → TouchesOnly (IsOfRunning stanza label) a w
      waited k x of = touched_on all a s w staged
          (touched_only (λ n. IsTrue (is_below (archive_folder stanza) n)) all s w (λ n h. inr h) (subst (λ (y : Text). ChangesArchive y s w) of x.repo_only))

      pub waited_only : IfSome account (λ k. k.stanza ≡ stanza → TouchesOneOf stanza (IsOfRunning stanza) a w)
      waited_only = with_account account (λ k. TurnsDone whole old k s w spool spool2) _ went (λ k x of. named w (waited k x of))

      -- and it was listed, or wasn't
      pub listed_only : (e : View) → TouchesOnly (IsOfBackup stanza label) w e → IfSome account (λ k. k.stanza ≡ stanza → TouchesOneOf stanza (IsOfRunning stanza) a e)
      listed_only e last = with_account account (λ k. TurnsDone whole old k s w spool spool2) _ went (λ k x of. named e (touched_on all a w e (waited k x of) (wide w e last)))
