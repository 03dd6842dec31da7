-- The options, a row for each: its name, the commands that use it, where it may be, its values, and what holds where
-- none is given.
use Rattle.std.specs.Prelude.{◌≡◌, ◌⊎◌, ◌==◌, ℕ, Bool, true, false, List, [], ◌∷◌, ◌++◌, codes, Option, Some, None}
use Rattle.std.specs.List.{list_any}
use Rattle.base_model.specs.Text.{Text}
use Rattle.options_table.specs.declared.table.Verb.{Verb}
use Rattle.options_table.specs.declared.table.Verb.TheVariants.{StanzaCreate, StanzaUpgrade, ArchivePush, ArchivePushAsync, ArchiveGet, ArchiveGetAsync, Backup, Expire, Restore, Verify, Info, Rehearse}
use Rattle.options_table.specs.declared.table.Place.{Place}
use Rattle.options_table.specs.declared.table.Place.TheVariants.{CommandLine, Anywhere}
use Rattle.options_table.specs.declared.table.Opt.{Opt}
use Rattle.options_table.specs.declared.table.Opt.TheVariants.{Stanza, Pg1Path, Pg1Port, Pg1SocketPath, Pg1User, Pg1Database, Repo1Path, Repo1Type, Repo1CipherType, CompressType, Repo1RetentionFull, Repo1RetentionFullType, Repo1RetentionDiff, Repo1RetentionArchive, Repo1RetentionArchiveType, Repo1Bundle, Repo1BundleSize, Repo1BundleLimit, ProcessMax, BackupType, RestoreType, Delta, Online, StartFast, ArchiveTimeout, ArchiveAsync, ArchiveGetQueueMax, SpoolPath, LockPath, Set, ExpireAuto, Output, Number, Config, LogLevelConsole, LogLevelFile, LogLevelStderr, LogPath, LogTimestamp, BufferSize, CompressLevel, CompressLevelNetwork, DbTimeout, ProtocolTimeout, IoTimeout, ArchiveModeCheck, Target, TargetExclusive, TargetAction, TargetTimeline, RecoveryOption}

-- which values an option takes
pub data OptionKind : Type 0 where
  stanza : OptionKind
  path : OptionKind
  text : OptionKind
  -- a value that isn't looked at
  anything : OptionKind
  -- a path, or none, as by `--no-config`
  file : OptionKind
  -- whole numbers; sizes in bytes; times in seconds
  number : (least most : ℕ) → OptionKind
  size : (least most : ℕ) → OptionKind
  time : (least most : ℕ) → OptionKind
  -- y or n
  flag : OptionKind
  words : (allowed : List Text) → OptionKind
  -- one of the words, or a whole number
  words_or : (allowed : List Text) (least most : ℕ) → OptionKind
  -- the name and the value of one of the server's settings
  setting : OptionKind

-- the default
pub data Fallback : Type 0 where
  required : Fallback
  unset : Fallback
  is : (value : Text) → Fallback

pub record Row : Type 0 where
  pub name : Text
  pub commands : List Verb
  pub place : Place
  pub kind : OptionKind
  pub fallback : Fallback

-- an option that may be in the arguments and in the configuration
abbrev pub option : Text → List Verb → OptionKind → Fallback → Row
option name commands kind fallback =
    record { name = name; commands = commands; place = Anywhere; kind = kind; fallback = fallback }

-- one that may be in the arguments alone
abbrev pub word_option : Text → List Verb → OptionKind → Fallback → Row
word_option name commands kind fallback =
    record { name = name; commands = commands; place = CommandLine; kind = kind; fallback = fallback }

-- the commands that have an option, by letters; c has both that change a stanza's clusters, p and g have their
-- asynchronous form too
abbrev pub c : List Verb
c = StanzaCreate ∷ StanzaUpgrade ∷ []

abbrev pub p : List Verb
p = ArchivePush ∷ ArchivePushAsync ∷ []

abbrev pub g : List Verb
g = ArchiveGet ∷ ArchiveGetAsync ∷ []

abbrev pub b : List Verb
b = Backup ∷ []

abbrev pub e : List Verb
e = Expire ∷ []

abbrev pub r : List Verb
r = Restore ∷ []

abbrev pub v : List Verb
v = Verify ∷ []

abbrev pub i : List Verb
i = Info ∷ []

abbrev pub h : List Verb
h = Rehearse ∷ []

abbrev pub every : List Verb
every = c ++ p ++ g ++ b ++ e ++ r ++ v ++ i ++ h

-- what a log has: nothing, errors, warnings too, and so on (manual, "Log Options")
abbrev pub log_levels : List Text
log_levels = codes "off" ∷ codes "error" ∷ codes "warn" ∷ codes "info" ∷ codes "detail" ∷ codes "debug"
    ∷ codes "trace" ∷ []

-- the types of a restore that recover up to a target (manual, "Recovery Target")
abbrev pub to_a_target : List Text
to_a_target = codes "time" ∷ codes "lsn" ∷ codes "xid" ∷ codes "name" ∷ []

-- the types of a restore after which the server recovers by the archive
abbrev pub recovering : List Text
recovering = codes "default" ∷ codes "immediate" ∷ codes "standby" ∷ to_a_target

unfoldable pub row : Opt → Row
row Stanza = word_option (codes "stanza") every stanza required
row Pg1Path = option (codes "pg1-path") (c ++ p ++ g ++ b ++ r ++ h) path required
row Pg1Port = option (codes "pg1-port") (c ++ b) (number 1 65535) (is (codes "5432"))
row Pg1SocketPath = option (codes "pg1-socket-path") (c ++ b) path (is (codes "/tmp"))
row Pg1User = option (codes "pg1-user") (c ++ b) text (is (codes "postgres"))
row Pg1Database = option (codes "pg1-database") (c ++ b) text (is (codes "postgres"))
row Repo1Path = option (codes "repo1-path") every path (is (codes "/var/lib/pgbackrest"))
row Repo1Type = option (codes "repo1-type") every (words (codes "posix" ∷ [])) (is (codes "posix"))
row Repo1CipherType = option (codes "repo1-cipher-type") every (words (codes "none" ∷ [])) (is (codes "none"))
row CompressType = option (codes "compress-type") (p ++ b) (words (codes "none" ∷ [])) (is (codes "none"))
row Repo1RetentionFull = option (codes "repo1-retention-full") (b ++ e) (number 1 9999999) unset
row Repo1RetentionFullType = option (codes "repo1-retention-full-type") (b ++ e)
    (words (codes "count" ∷ codes "time" ∷ [])) (is (codes "count"))
row Repo1RetentionDiff = option (codes "repo1-retention-diff") (b ++ e) (number 1 9999999) unset
row Repo1RetentionArchive = option (codes "repo1-retention-archive") (b ++ e) (number 1 9999999) unset
row Repo1RetentionArchiveType = option (codes "repo1-retention-archive-type") (b ++ e)
    (words (codes "full" ∷ codes "diff" ∷ codes "incr" ∷ [])) (is (codes "full"))
row Repo1Bundle = option (codes "repo1-bundle") b flag (is (codes "n"))
row Repo1BundleSize = option (codes "repo1-bundle-size") b (size 1048576 1073741824) (is (codes "20MiB"))
row Repo1BundleLimit = option (codes "repo1-bundle-limit") b (size 8192 1073741824) (is (codes "2MiB"))
row ProcessMax = option (codes "process-max") (b ++ r ++ h) (number 1 64) (is (codes "1"))
row BackupType = option (codes "type") b (words (codes "full" ∷ codes "diff" ∷ codes "incr" ∷ [])) (is (codes "incr"))
row RestoreType = option (codes "type") r (words (codes "default" ∷ codes "none" ∷ to_a_target ++ codes "immediate"
    ∷ codes "standby" ∷ [])) (is (codes "default"))
row Delta = option (codes "delta") (b ++ r) flag (is (codes "n"))
row Online = option (codes "online") (c ++ b) flag (is (codes "y"))
row StartFast = option (codes "start-fast") b flag (is (codes "n"))
row ArchiveTimeout = option (codes "archive-timeout") (p ++ b) (time 1 86400) (is (codes "60"))
row ArchiveAsync = option (codes "archive-async") (p ++ g) flag (is (codes "n"))
row ArchiveGetQueueMax = option (codes "archive-get-queue-max") g (size 0 1099511627776) (is (codes "128MiB"))
row SpoolPath = option (codes "spool-path") (p ++ g ++ b) path (is (codes "/var/spool/pgbackrest"))
row LockPath = option (codes "lock-path") (c ++ p ++ b ++ e ++ h) path (is (codes "/tmp/pgbackrest"))
row Set = option (codes "set") r text unset
row ExpireAuto = option (codes "expire-auto") b flag (is (codes "y"))
row Output = option (codes "output") i (words (codes "text" ∷ codes "json" ∷ [])) (is (codes "text"))
row Number = option (codes "number") h (number 1 64) required
row Config = word_option (codes "config") every file unset
row LogLevelConsole = option (codes "log-level-console") every anything unset
row LogLevelFile = option (codes "log-level-file") every (words log_levels) unset
row LogLevelStderr = option (codes "log-level-stderr") every (words log_levels) unset
row LogPath = option (codes "log-path") every path unset
row LogTimestamp = option (codes "log-timestamp") every flag unset
row BufferSize = option (codes "buffer-size") every anything unset
row CompressLevel = option (codes "compress-level") every anything unset
row CompressLevelNetwork = option (codes "compress-level-network") every anything unset
row DbTimeout = option (codes "db-timeout") every (time 1 604800) (is (codes "1800"))
row ProtocolTimeout = option (codes "protocol-timeout") every anything unset
row IoTimeout = option (codes "io-timeout") every (time 1 86400) (is (codes "1800"))
row ArchiveModeCheck = option (codes "archive-mode-check") every flag unset
row Target = option (codes "target") r text required
row TargetExclusive = option (codes "target-exclusive") r flag (is (codes "n"))
row TargetAction = option (codes "target-action") r
    (words (codes "pause" ∷ codes "promote" ∷ codes "shutdown" ∷ [])) (is (codes "pause"))
row TargetTimeline = option (codes "target-timeline") r
    (words_or (codes "current" ∷ codes "latest" ∷ []) 1 4294967295) unset
row RecoveryOption = option (codes "recovery-option") r setting unset

-- the types of a restore that use an option; none where it isn't bound to any
abbrev pub types_of : Opt → List Text
types_of Target = to_a_target
types_of TargetExclusive = codes "time" ∷ codes "lsn" ∷ codes "xid" ∷ []
types_of TargetAction = to_a_target ++ codes "immediate" ∷ []
types_of TargetTimeline = recovering
types_of RecoveryOption = recovering
types_of o = []

-- the groups in which the rows are looked up
abbrev pub IsOfServer : Opt → Type 0
IsOfServer o = (o ≡ Stanza) ⊎ (o ≡ Pg1Path) ⊎ (o ≡ Pg1Port) ⊎ (o ≡ Pg1SocketPath) ⊎ (o ≡ Pg1User) ⊎ (o ≡ Pg1Database)
    ⊎ (o ≡ DbTimeout)

abbrev pub IsOfRepository : Opt → Type 0
IsOfRepository o = (o ≡ Repo1Path) ⊎ (o ≡ Repo1Type) ⊎ (o ≡ Repo1CipherType) ⊎ (o ≡ CompressType)

abbrev pub IsOfRetention : Opt → Type 0
IsOfRetention o = (o ≡ Repo1RetentionFull) ⊎ (o ≡ Repo1RetentionFullType) ⊎ (o ≡ Repo1RetentionDiff)
    ⊎ (o ≡ Repo1RetentionArchive) ⊎ (o ≡ Repo1RetentionArchiveType)

abbrev pub IsOfBundle : Opt → Type 0
IsOfBundle o = (o ≡ Repo1Bundle) ⊎ (o ≡ Repo1BundleSize) ⊎ (o ≡ Repo1BundleLimit)

abbrev pub IsOfRun : Opt → Type 0
IsOfRun o = (o ≡ ProcessMax) ⊎ (o ≡ IoTimeout) ⊎ (o ≡ BackupType) ⊎ (o ≡ RestoreType) ⊎ (o ≡ Delta) ⊎ (o ≡ Online)
    ⊎ (o ≡ StartFast)

abbrev pub IsOfArchive : Opt → Type 0
IsOfArchive o = (o ≡ ArchiveTimeout) ⊎ (o ≡ ArchiveAsync) ⊎ (o ≡ ArchiveGetQueueMax) ⊎ (o ≡ SpoolPath) ⊎ (o ≡ LockPath)

abbrev pub IsOfCommand : Opt → Type 0
IsOfCommand o = (o ≡ Set) ⊎ (o ≡ ExpireAuto) ⊎ (o ≡ Output) ⊎ (o ≡ Number) ⊎ (o ≡ Config) ⊎ (o ≡ LogLevelStderr)
    ⊎ (o ≡ LogLevelFile) ⊎ (o ≡ LogPath)

abbrev pub IsOfTarget : Opt → Type 0
IsOfTarget o = (o ≡ Target) ⊎ (o ≡ TargetExclusive) ⊎ (o ≡ TargetAction) ⊎ (o ≡ TargetTimeline)
    ⊎ (o ≡ RecoveryOption)

abbrev pub IsIgnored : Opt → Type 0
IsIgnored o = (o ≡ LogLevelConsole) ⊎ (o ≡ LogTimestamp) ⊎ (o ≡ BufferSize) ⊎ (o ≡ CompressLevel)
    ⊎ (o ≡ CompressLevelNetwork) ⊎ (o ≡ ProtocolTimeout) ⊎ (o ≡ ArchiveModeCheck)

abbrev pub verb_word : Verb → Text
verb_word StanzaCreate = codes "stanza-create"
verb_word StanzaUpgrade = codes "stanza-upgrade"
verb_word ArchivePush = codes "archive-push"
verb_word ArchivePushAsync = codes "archive-push:async"
verb_word ArchiveGet = codes "archive-get"
verb_word ArchiveGetAsync = codes "archive-get:async"
verb_word Backup = codes "backup"
verb_word Expire = codes "expire"
verb_word Restore = codes "restore"
verb_word Verify = codes "verify"
verb_word Info = codes "info"
verb_word Rehearse = codes "rehearse"

-- ---- a row by itself

-- a number for each command
abbrev pub verb_code : Verb → ℕ
verb_code StanzaCreate = 0
verb_code StanzaUpgrade = 1
verb_code ArchivePush = 2
verb_code ArchivePushAsync = 3
verb_code ArchiveGet = 4
verb_code ArchiveGetAsync = 5
verb_code Backup = 6
verb_code Expire = 7
verb_code Restore = 8
verb_code Verify = 9
verb_code Info = 10
verb_code Rehearse = 11

abbrev pub verb_eq : Verb → Verb → Bool
verb_eq a b = verb_code a == verb_code b

-- the command has the option
abbrev pub is_for : Verb → Opt → Bool
is_for verb o = list_any (λ v. verb_eq v verb) (row o).commands

-- the default, where there is one
abbrev pub fallback_text : Fallback → Option Text
fallback_text required = None
fallback_text unset = None
fallback_text (is value) = Some value

-- a value has to be given
abbrev pub is_required : Fallback → Bool
is_required required = true
is_required unset = false
is_required (is value) = false

-- an option of this kind may be given more than once
abbrev pub is_repeatable : OptionKind → Bool
is_repeatable setting = true
is_repeatable kind = false
