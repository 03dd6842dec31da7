-- Which command of the log a rehearsal is: those that it is made of, one after another. Own.
use Rattle.std.specs.Prelude.{◌≡◌, ℕ, zero, suc, ◌*◌, ◌%◌, [], Some, None}
use Rattle.base_model.specs.declared.clusters.Cluster.{Cluster}
use Rattle.base_model.specs.declared.wal.ArchiveName.TheVariants.{Segment as Whole}
use Rattle.base_model.specs.declared.labels.BackupKind.TheVariants.{Full}
use Rattle.base_model.specs.Repository.{Backup}
use Rattle.base_model.specs.Steps.{Command, StanzaCreate, ArchivePush, MakeBackup, Expire, Then, Reading, Named, Retention}
use Rattle.base_sample.specs.Bytes.{segment_bytes}
use Rattle.repo_stanza.specs.declared.control.Control.{Control}
use Rattle.expire_rules.specs.declared.rules.FullRule.TheVariants.{Count}
use Rattle.expire_rules.specs.declared.rules.Rules.{Rules}
use Rattle.expire_make.specs.Expiry.{retention}

-- the segment of this number, in the first log of the first timeline
abbrev pub segment_named : ℕ → Named
segment_named k = record { name = Whole (record { timeline = 1; log = 0; seg = k }); bytes = segment_bytes (k % 256) }

-- the segments from 1 to this number, one after another
unfoldable pub pushed : ℕ → Command
pushed zero = Reading
pushed (suc k) = Then (pushed k) (ArchivePush (segment_named (suc k)))

-- the cluster that is rehearsed
abbrev pub sample_cluster : Cluster
sample_cluster = record { id = 1; system = 6917529027641081857; version = 16; control = 1300; catalog = 202307071 }

-- as its control file and its version file state it
abbrev pub sample : Control
sample = record { system = 6917529027641081857; control = 1300; catalog = 202307071; version = 16 }

abbrev pub created : Command
created = StanzaCreate (Some sample_cluster)

-- a backup of a stopped server, without an expiry after it
abbrev pub backed_up : Backup → Command
backed_up b = MakeBackup [] b None

-- the stanza and its segments
abbrev pub prepared : ℕ → Command
prepared n = Then created (pushed (2 * n))

-- with one backup, two of them, three of them, and with the expiry after them
abbrev pub with_first : ℕ → Backup → Command
with_first n first = Then (prepared n) (backed_up first)

abbrev pub with_second : ℕ → Backup → Backup → Command
with_second n first second = Then (with_first n first) (backed_up second)

abbrev pub with_third : ℕ → Backup → Backup → Backup → Command
with_third n first second third = Then (with_second n first second) (backed_up third)

abbrev pub rehearsed : ℕ → Retention → Backup → Backup → Backup → Command
rehearsed n kept first second third = Then (with_third n first second third) (Expire kept)

-- one full backup is kept
abbrev pub one_full : Rules
one_full = record { full = Count 1; diff = None; archive = None; archive_kind = Full }

abbrev pub keeps_one : Retention
keeps_one = retention one_full 0

-- a rehearsal of this number, of some three backups
abbrev pub IsRehearsal : ℕ → Command → Type 0
IsRehearsal n command = (b : Backup) × (c : Backup) × (d : Backup) × (command ≡ rehearsed n keeps_one b c d)
