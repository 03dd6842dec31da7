-- What the proof of the stages needs of a backup of a stopped server. Own.
use Rattle.std.specs.Prelude.{◌≢◌, ℕ, None, Some, List, [], Option, IfSome, refl}
use Rattle.std.proofs.Common.{arith, inl, inr, subst}
use Rattle.base_devices.specs.Content.{Name, Content}
use Rattle.base_devices.specs.Links.{LinkState}
use Rattle.base_devices.specs.Moments.{View}
use Rattle.base_model.specs.declared.labels.BackupKind.{BackupKind}
use Rattle.base_model.specs.declared.labels.BackupKind.TheVariants.{Full, Diff, Incr}
use Rattle.base_model.specs.declared.labels.Label.{Label}
use Rattle.base_model.specs.Steps.{MakeBackup}
use Rattle.base_model.specs.Text.{Text}
use Rattle.archive_store.specs.Still.{IsStill}
use Rattle.backup_make.specs.Touched.{TouchesOnly, IsOfBackup}
use Rattle.backup_lemmas.proofs.Reading.{no_files, no_files_read, no_files_left}
use Rattle.cmd_backup_common.specs.declared.parts.fault.BackupFault.{BackupFault}
use Rattle.cmd_backup_common.specs.declared.parts.fault.BackupFault.TheVariants.{HistoryDiffers, StanzaMismatch, Running, TooMany, WorkersLost, ClockBehind, LinkFound, NameRefused, ListingUnordered, ControlMissing, Unread, TooLong}
use Rattle.cmd_backup_common.specs.Texts.{backup_status}
use Rattle.cmd_backup_offline.specs.declared.fault.OfflineFault.{OfflineFault}
use Rattle.cmd_backup_offline.specs.declared.fault.OfflineFault.TheVariants.{Take, PriorDamaged}
use Rattle.cmd_backup_offline.specs.Kinds.{IsBackupBy}
use Rattle.cmd_backup_offline.specs.Texts.{offline_status}
use Rattle.cmd_backup_offline.proofs.Statuses.{offline_within}
use Rattle.cmd_backup_offline.specs.Touching.{IsNewLabel}
use Rattle.expire_rules.specs.declared.rules.Rules.{Rules}
use Rattle.cmd_expire.proofs.Changing.{expires_on, expires_still, then_on}
use Rattle.cmd_trait.specs.Meaning.{IsLawful, quiet_talk}
use Rattle.run_backup.specs.Asking.{BackupHow}
use Rattle.run_backup.specs.Lawful.{IsBackupLawful, backup_lawful}
use Rattle.run_backup.specs.Offline.{MayChange, offline, backup_offline_meaning}
use Rattle.run_backup.specs.Touchings.{touched_frame, touches_after}

-- a backup of any kind that was never listed
nothing_by : (kind : BackupKind) (links : List LinkState) (stanza : Text) (old : Option Content)
    → IsBackupBy kind links stanza old (MakeBackup [] no_files None)
nothing_by Full links stanza old = (no_files, refl, no_files_read links)
nothing_by Diff links stanza old = (no_files, refl, no_files_left links stanza old)
nothing_by Incr links stanza old = (no_files, refl, no_files_left links stanza old)

-- no refusal has the status of a command that ended with findings
not_any : (fault : BackupFault) → backup_status fault ≢ 65
not_any (HistoryDiffers at) = λ e. absurd (omega (arith, e))
not_any (StanzaMismatch kept found) = λ e. absurd (omega (arith, e))
not_any Running = λ e. absurd (omega (arith, e))
not_any (TooMany limit) = λ e. absurd (omega (arith, e))
not_any (WorkersLost lost) = λ e. absurd (omega (arith, e))
not_any (ClockBehind latest now) = λ e. absurd (omega (arith, e))
not_any (LinkFound path) = λ e. absurd (omega (arith, e))
not_any (NameRefused path) = λ e. absurd (omega (arith, e))
not_any ListingUnordered = λ e. absurd (omega (arith, e))
not_any (ControlMissing path) = λ e. absurd (omega (arith, e))
not_any (Unread path) = λ e. absurd (omega (arith, e))
not_any (TooLong name limit) = λ e. absurd (omega (arith, e))

-- none of its refusals is one of findings
pub offline_not_found : (fault : OfflineFault) → offline_status fault ≢ 65
offline_not_found (Take fault) = not_any fault
offline_not_found (PriorDamaged label main copy) = λ e. absurd (omega (arith, e))

-- it changes nothing where only was read, and no more after calls that only read
pub change_none : (stanza : Text) (these : Label → Name → Type 0) (expires : Option Rules) (least : ℕ) (b k : View)
    → IsStill b k → MayChange stanza these expires least b k
change_none stanza these None least b k still = inl still
change_none stanza these (Some rules) least b k still = inl (expires_still stanza rules least b k still)

pub change_on : (stanza : Text) (these : Label → Name → Type 0) (expires : Option Rules) (least : ℕ) (b c k : View)
    → IsStill b c → MayChange stanza these expires least c k → MayChange stanza these expires least b k
change_on stanza these None least b c k still x = touches_after stanza these b c k still x
change_on stanza these (Some rules) least b c k still (inl x) = inl (expires_on stanza rules least b c k still x)
change_on stanza these (Some rules) least b c k still (inr (label, x)) = inr (
  label,
  record {
    is_label = x.is_label;
    is_new = subst (λ (n : Option Content). IfSome n (IsNewLabel stanza label)) still.now x.is_new;
    both = then_on stanza least TouchesOnly touched_frame (these label) (Some rules) b c k still x.both;
  },
)

offline_laws : (how : BackupHow) → IsBackupLawful (offline how)
offline_laws how = record {
  some = λ p old new same turns. nothing_by how.kind _ p.stanza old.repo;
  closes_more = λ p old new repo failed others to fault h. tt;
  talk = λ p old new failed fault is same closes.
      quiet_talk old new failed (offline_status fault) (offline_within fault).1 is same;
  changes_none = λ expires p least b k still. change_none p.stanza (IsOfBackup p.stanza) expires least b k still;
  changes_on = λ expires p least b c k still x.
      change_on p.stanza (IsOfBackup p.stanza) expires least b c k still x;
  over = λ fault. (offline_within fault).0;
  not_found = offline_not_found;
  others_none = λ p others. refl;
}

-- the laws of a stopped server's backup
pub backup_offline_lawful : (how : BackupHow) (expires : Option Rules) → IsLawful (backup_offline_meaning how expires)
backup_offline_lawful how expires = backup_lawful (offline how) (offline_laws how) expires
