-- Why a file isn't acknowledged, in terms of what was held and received: without the moments of the disks.
use Rattle.std.specs.Prelude.{◌≡◌, ◌⊎◌, ◌++◌, ℕ, List, Option, Some, IfSome, IsSome, string_bytes}
use Rattle.base_devices.specs.Content.{Content}
use Rattle.base_model.specs.declared.wal.ArchiveName.{ArchiveName}
use Rattle.base_model.specs.Text.{Text, In}
use Rattle.archive_spool.specs.declared.spool_query.Asked.TheVariants.{NotYet as Nothing, Reported as Refusal}
use Rattle.archive_spool.specs.Asking.{Answers, IsLong, IsMarkName}
use Rattle.archive_lookup.specs.Turns.{Turned, Account, ProcessesState}
use Rattle.archive_wait.specs.TurnsDone.{Counts}
use Rattle.cmd_archive_push_wait.specs.declared.fault.QueueFault.{QueueFault}
use Rattle.cmd_archive_push_wait.specs.declared.fault.QueueFault.TheVariants.{SegmentMissing, TooLong, Reported, NotYet}
use Rattle.cmd_archive_push_wait.specs.Causes.{Call, IsStarted, IsLongMark}
use Rattle.cmd_archive_push_wait.specs.Leaving.{Shows}

-- What a call that queues a file finds and receives. It has the stanza, the file's name and sum, the arguments of the
-- start, and how many steps of others it may wait for. It also has what other processes reported before and after, and
-- what the spool held.
pub record Received : Type 0 where
  pub stanza : Text
  pub name : ArchiveName
  pub sum : Text
  pub arguments : List Text
  pub most : ℕ
  pub others : ProcessesState
  pub new_others : ProcessesState
  pub spool : Option Content

-- what of a call is received
abbrev pub received_of : Call → Received
received_of x = record {
  stanza = x.stanza;
  name = x.name;
  sum = x.sum;
  arguments = x.arguments;
  most = x.most;
  others = x.others;
  new_others = x.new_others;
  spool = x.spool.now;
}

-- the spool said nothing of the file as the call began, and so this program was started once
pub record HasStarted (x : Received) : Type 0 where
  pub nothing : IfSome x.spool (λ f. Answers x.stanza f x.name x.sum Nothing)
  pub started : IsStarted x.arguments x.others x.new_others

-- the account continued by steps of others of which this holds
pub record WentBy (P : List Turned → Type 0) (old : Option Account) (new : Account) : Type 0 where
  pub before : List Turned
  pub turned : List Turned
  pub was : old ≡ Some (record { stanza = new.stanza; turns = before })
  pub is : new.turns ≡ before ++ turned
  pub so : P turned

-- where the account continues and is of the stanza, and the spool's contents are known, it continued by steps of others
-- of which this holds
abbrev pub OnTurns : Received → (List Turned → Type 0) → Type 0
OnTurns x P = IfSome x.new_others.account
    (λ a. a.stanza ≡ x.stanza → WentBy (λ ts. IsSome x.spool → P ts) x.others.account a)

-- after the start, one of the steps of others is so
abbrev pub IsOneSo : Received → (Turned → Type 0) → Type 0
IsOneSo x P = HasStarted x × OnTurns x (λ ts. (t : Turned) × In t ts × P t)

-- Why the file isn't acknowledged: it was refused so, as the spool said before the call or as the marks of a step of
-- others do; or after that many steps of others nothing is known of it.
abbrev pub ReceivedCause : Received → QueueFault → Type 0
ReceivedCause x (SegmentMissing path) = ⊥
ReceivedCause x (TooLong n limit) = IsLong (IsMarkName x.stanza x.name) x.spool (string_bytes n) limit
    ⊎ IsOneSo x (IsLongMark x.stanza x.name (string_bytes n) limit)
ReceivedCause x (Reported code text) = IfSome x.spool (λ f. Answers x.stanza f x.name x.sum (Refusal code text))
    ⊎ IsOneSo x (λ t. Shows x.stanza x.name x.sum t.marks (Refusal code text))
ReceivedCause x (NotYet turns) = (turns ≡ x.most) × Counts x.most x.others.turns x.new_others.turns × HasStarted x
    × OnTurns x (λ ts. (t : Turned) → In t ts → Shows x.stanza x.name x.sum t.marks Nothing)
