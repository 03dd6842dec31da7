-- Why a file that is queued for other processes isn't acknowledged.
use Rattle.std.specs.Prelude.{◌≡◌, ◌⊎◌, ◌<◌, ◌++◌, ◌∷◌, [], ◌^◌, ℕ, true, List, length, Option, IfSome, IsSome, option_map, string_bytes}
use Rattle.base_devices.specs.Content.{Content}
use Rattle.base_devices.specs.Moments.{View}
use Rattle.base_model.specs.declared.wal.ArchiveName.{ArchiveName}
use Rattle.base_model.specs.Text.{Text, In}
use Rattle.archive_lookup.specs.Turns.{Turned, Account, ProcessesState}
use Rattle.archive_spool.specs.declared.spool_query.Asked.TheVariants.{NotYet as Nothing, Reported as Refusal}
use Rattle.archive_spool.specs.Asking.{Answers, IsLong, IsMarkName}
use Rattle.archive_wait.specs.TurnsDone.{Counts, TurnsDone}
use Rattle.cmd_archive_push_wait.specs.declared.fault.QueueFault.{QueueFault}
use Rattle.cmd_archive_push_wait.specs.declared.fault.QueueFault.TheVariants.{SegmentMissing, TooLong, Reported, NotYet}
use Rattle.cmd_archive_push_wait.specs.Leaving.{IsSilent, Shows}

-- of a look at the spool: a mark of the file is too long
abbrev pub LongCause : Text → ArchiveName → Option Content → QueueFault → Type 0
LongCause stanza name now (TooLong n limit) = IsLong (IsMarkName stanza name) now (string_bytes n) limit
LongCause stanza name now other = ⊥

-- this program was started once with these arguments
abbrev pub IsStarted : List Text → ProcessesState → ProcessesState → Type 0
IsStarted arguments old new = new.started ≡ option_map (λ past. past ++ arguments ∷ []) old.started

-- A call that queues a file for other processes. It has the stanza, the file's name and sum, the arguments of the
-- start, how many steps of others it may wait for, what other processes reported before and after, and the two disks.
pub record Call : Type 1 where
  pub stanza : Text
  pub name : ArchiveName
  pub sum : Text
  pub arguments : List Text
  pub most : ℕ
  pub others : ProcessesState
  pub new_others : ProcessesState
  pub repo : View
  pub new_repo : View
  pub spool : View
  pub new_spool : View

-- the spool said nothing of the file as the call began, and so this program was started once
pub record WasStarted (x : Call) : Type 0 where
  pub nothing : IfSome x.spool.now (λ f. Answers x.stanza f x.name x.sum Nothing)
  pub started : IsStarted x.arguments x.others x.new_others

-- where the account continues and is of the stanza
abbrev pub OnAccount : Call → (Account → Type 0) → Type 0
OnAccount x P = IfSome x.new_others.account (λ a. a.stanza ≡ x.stanza → P a)

-- The account continued by steps of others that succeeded, and these are all that was done. Where the spool's contents
-- are known, one of their marks is so.
pub record MarkedSo (name : ArchiveName) (P : Turned → Type 0) (old : Option Account) (new : Account)
    (repo new_repo spool new_spool : View) : Type 0 where
  pub went : TurnsDone true old new repo new_repo spool new_spool
  pub one : IsSome spool.now → (t : Turned) × In t went.turned × P t

-- after the start, one of the steps of others left such a mark
abbrev pub IsMarkedSo : Call → (Turned → Type 0) → Type 0
IsMarkedSo x P = WasStarted x × OnAccount x
    (λ a. MarkedSo x.name P x.others.account a x.repo x.new_repo x.spool x.new_spool)

-- the mark of a step of others is longer than the limit
abbrev pub IsLongMark : Text → ArchiveName → Text → ℕ → Turned → Type 0
IsLongMark stanza name n limit t = IsMarkName stanza name n × (limit ≡ 2 ^ 20)
    × ((bytes : Text) × In (n, bytes) t.marks × (limit < length bytes))

-- Why the file isn't acknowledged: it was refused so, as the spool said before the call or as the marks of a step of
-- others do; or after that many steps of others nothing is known of it.
abbrev pub QueueCause : Call → QueueFault → Type 0
QueueCause x (SegmentMissing path) = ⊥
QueueCause x (TooLong n limit) = IsLong (IsMarkName x.stanza x.name) x.spool.now (string_bytes n) limit
    ⊎ IsMarkedSo x (IsLongMark x.stanza x.name (string_bytes n) limit)
QueueCause x (Reported code text) = IfSome x.spool.now (λ f. Answers x.stanza f x.name x.sum (Refusal code text))
    ⊎ IsMarkedSo x (λ t. Shows x.stanza x.name x.sum t.marks (Refusal code text))
QueueCause x (NotYet turns) = (turns ≡ x.most) × Counts x.most x.others.turns x.new_others.turns × WasStarted x
    × OnAccount x (λ a. IsSilent x.name x.sum x.others.account a x.repo x.new_repo x.spool x.new_spool)
