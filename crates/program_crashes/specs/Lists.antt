-- What a list of acts over devices in memory leads to.
use Rattle.std.specs.Prelude.{◌≡◌, ◌≤◌, ◌++◌, ℕ, true, false, List, [], ◌∷◌, Option, Some, None, map, drop, string_bytes, is_some, option_map, if◌then◌else◌}
use Rattle.base_devices.specs.Content.{Content}
use Rattle.base_devices.specs.Moments.{View, IsImage}
use Rattle.base_devices.specs.States.{DiskState, DataFolderState, ConnectionState, ClockState, InputState, OutputState}
use Rattle.memory_devices.specs.declared.clock.MemClock.{MemClock}
use Rattle.memory_devices.specs.declared.connection.MemConnection.{MemConnection}
use Rattle.memory_devices.specs.declared.disk.MemDisk.{MemDisk}
use Rattle.memory_devices.specs.declared.locks.MemLocks.{MemLocks}
use Rattle.memory_devices.specs.declared.sink.MemOutput.{MemOutput}
use Rattle.memory_devices.specs.declared.source.MemInputFiles.{MemInputFiles}
use Rattle.memory_devices.specs.declared.tree.MemDataFolder.{MemDataFolder}
use Rattle.memory_devices.specs.Held.{view_of}
use Rattle.memory_devices.specs.InputFiles.{left_of}
use Rattle.memory_devices.specs.Locks.{locks_in}
use Rattle.memory_devices.specs.Replay.{value_of}
use Rattle.memory_devices.specs.Nodes.{nodes_at}
use Rattle.memory_processes.specs.declared.others.MemProcesses.{MemProcesses}
use Rattle.memory_processes.specs.Others.{account_of}
use Rattle.memory_workers.specs.Workers.{state_of}
use Rattle.archive_lookup.specs.Turns.{ProcessesState}
use Rattle.base_model.proofs.Reopened.{IsReopened}
use Rattle.base_model.specs.Repository.{Repository}
use Rattle.base_model.specs.Text.{Text}
use Rattle.base_crash_lists.specs.Trace.{Call, Disks, stopped}
use Rattle.cmd_types.specs.World.{World, LocksSeen}
use Rattle.options_read.specs.Settings.{Resolved}
use Rattle.program_run.specs.Asked.{asked, MayAsk}
use Rattle.program_crashes.specs.declared.call_or_crash.Act.{Act}
use Rattle.program_crashes.specs.declared.call_or_crash.CrashPoint.{CrashPoint}
use Rattle.program_crashes.specs.declared.call_or_crash.Ended.{Ended}
use Rattle.program_crashes.specs.declared.disks.Disks.{Disks as Pair}
use Rattle.program_crashes.specs.Acts.{both, IsCall, IsMade, grown}
use Rattle.program_crashes.specs.Kept.{OnLogs, StandFor, KeepsCalls, AreThere}
use Rattle.program_crashes.specs.Led.{LeadsBetween}

-- ---- what objects in memory report

-- what the two disks in memory hold
abbrev pub views : Pair → Disks
views d = both (view_of d.repo.held) (view_of d.spool.held)

-- a disk
abbrev pub disk_of : MemDisk → DiskState
disk_of d = record {
  view = view_of d.held;
  opened = map string_bytes d.opened.items;
  faulty_calls = d.failing.faulty_calls;
  faults = d.failing.faults;
}

-- a data folder
abbrev pub folder_of : MemDataFolder → DataFolderState
folder_of t = record {
  nodes = Some (nodes_at t.nodes);
  unsynced = λ _. false;
  opened = map string_bytes t.opened.items;
  faulty_calls = t.failing.faulty_calls;
  faults = t.failing.faults;
}

-- a connection to a server
abbrev pub connection_of : MemConnection → ConnectionState
connection_of c = record {
  pending = Some (drop c.at c.input.items);
  sent = Some c.sent.items;
  place = string_bytes c.place;
  faults = c.failing.faults;
}

-- other processes
abbrev pub processes_of : MemProcesses → ProcessesState
processes_of o = record {
  account = Some (account_of (string_bytes o.stanza) o.list.items o.at o.following.numbers);
  turns = o.turns;
  started = Some (map (λ arguments. map string_bytes arguments.items) o.started.items);
  faults = o.faults;
}

-- a clock
abbrev pub clock_of : MemClock → ClockState
clock_of c = record { least = c.least; faults = c.failing.faults }

-- locks
abbrev pub locks_of : MemLocks → LocksSeen
locks_of l = record {
  ever_taken = Some (locks_in l.ever_taken.items);
  refusals = l.refusals;
  faults = l.failing.faults;
}

-- a configuration
abbrev pub config_of : MemInputFiles → InputState
config_of s = record {
  files = Some (λ _. value_of s.file);
  left = Some (left_of s);
  place = string_bytes s.place;
  faults = s.failing.faults;
}

-- an output
abbrev pub output_of : MemOutput → OutputState
output_of o = record { written = Some o.text.items; faults = o.failing.faults }

-- ---- an act

-- its arguments
abbrev pub arguments_of : Act → List Text
arguments_of x = map string_bytes x.arguments.items

-- what the objects report before the call of an act on the disks: no lock was taken, and nothing was written
abbrev pub world_before : Act → Pair → World
world_before x d = record {
  repo = disk_of d.repo;
  spool = disk_of d.spool;
  tree = folder_of x.tree;
  server = connection_of x.server;
  others = processes_of x.others;
  clock = clock_of x.clock;
  locks = record { ever_taken = Some []; refusals = 0; faults = 0 };
  config = config_of x.config;
  out = record { written = Some []; faults = 0 };
  links = map state_of x.workers.links.items;
}

-- and what they report after it, where the call left these disks
abbrev pub world_after : Ended → Pair → World
world_after e d = record {
  repo = disk_of d.repo;
  spool = disk_of d.spool;
  tree = folder_of e.tree;
  server = connection_of e.server;
  others = processes_of e.others;
  clock = clock_of e.clock;
  locks = locks_of e.locks;
  config = config_of e.config;
  out = output_of e.out;
  links = map state_of e.links.items;
}

-- the call of an act on the disks ended so, and left these
abbrev pub EndsCall : Act → Ended → Pair → Pair → Type 0
EndsCall x e old new = IsCall (arguments_of x) (world_before x old) (world_after e new) e.status

-- and from disks that keep some calls it led to disks that keep them with it
abbrev pub LeadsCall : Act → Ended → Pair → Pair → Type 0
LeadsCall x e old new = LeadsBetween (arguments_of x) (world_before x old) (world_after e new) e.status

-- other processes push for the same stanza still
abbrev pub KeepsStanza : Act → Ended → Type 0
KeepsStanza x e = string_bytes e.others.stanza ≡ string_bytes x.others.stanza

-- where the arguments ask for a command that waits for steps of others, these push for the stanza that it is asked for
abbrev pub HasOthers : Act → Type 0
HasOthers x = (s : Resolved) → MayAsk (arguments_of x) (config_of x.config).files s → (asked s).means.uses.turns ≡ true
    → string_bytes x.others.stanza ≡ (asked s).at.stanza

-- so it is for each of the acts
abbrev pub HaveOthers : List Act → Type 0
HaveOthers [] = Unit {0}
HaveOthers (x ∷ xs) = HasOthers x × HaveOthers xs

-- ---- a crash

-- the second disk was opened anew on what a crash of the first one left, at that moment, which isn't before this one
pub record IsLeft (v : View) (first moment : ℕ) (opened : View) : Type 0 where
  pub content : Content
  pub from : first ≤ moment
  pub to : moment ≤ v.moment
  pub image : IsImage v moment content
  pub reopened : IsReopened content opened

-- the same for disks in memory
abbrev pub IsDiskLeft : MemDisk → ℕ → ℕ → MemDisk → Type 0
IsDiskLeft disk first moment opened = IsLeft (view_of disk.held) first moment (view_of opened.held)

-- both were opened anew on what this crash left, in the call that led from old to left
pub record AreLeft (halt : CrashPoint) (old left opened : Pair) : Type 0 where
  pub repo : IsDiskLeft left.repo (view_of old.repo.held).moment halt.repo.moment opened.repo
  pub spool : IsDiskLeft left.spool (view_of old.spool.held).moment halt.spool.moment opened.spool

-- the disks are those that the call left; or, with a crash, they were opened anew on what that left
abbrev pub IsAfter : Option CrashPoint → Pair → Pair → Pair → Type 0
IsAfter None old left new = new ≡ left
IsAfter (Some halt) old left new = AreLeft halt old left new

-- ---- a list of acts

-- The act was played on the old disks, after these calls: its call ended so and left some disks, and made this call of
-- the log. The new disks are those, or what its crash made of them.
pub record IsPlayed (q : Text → Repository) (before : List Call) (x : Act) (e : Ended) (old new : Pair)
    (made : Option Call) : Type 0 where
  pub left : Pair
  pub call : EndsCall x e old left
  pub stanza : KeepsStanza x e
  pub is : IsMade q before (arguments_of x) (world_before x old) (world_after e left) e.status made
  pub next : IsAfter x.halt old left new

-- the call in the log of an act: stopped, where there was a crash
abbrev pub logged : Act → Option Call → Option Call
logged x made = if is_some x.halt then option_map stopped made else made

-- The acts were played one after another and ended so, each on the disks that the one before it left. From the old
-- disks and the calls so far they led to the new disks and these calls.
abbrev pub ArePlayed : (Text → Repository) → List Act → List Ended → Pair → Pair → List Call → List Call → Type 0
ArePlayed q [] [] old new before after = (new ≡ old) × (after ≡ before)
ArePlayed q (x ∷ xs) (e ∷ es) old new before after = (mid : Pair) × (made : Option Call)
    × IsPlayed q before x e old mid made × ArePlayed q xs es mid new (grown (logged x made) before) after
ArePlayed q xs es old new before after = ⊥

-- From disks that keep some calls an act that ended so leads to disks that keep them with its own.
abbrev pub PlaysOne : Act → Ended → Pair → Pair → Type 0
PlaysOne x e old new = HasOthers x → (q : Text → Repository) (earlier before : List Call)
    → KeepsCalls q earlier before (views old)
    → (made : Option Call) × IsPlayed q (before ++ earlier) x e old new made
    × KeepsCalls q earlier (grown (logged x made) before) (views new)

-- The acts were played on the old disks, which keep some calls, and ended so. The new disks keep these calls with those
-- of the acts, in their order; and each file is there of which one of all these is an acknowledged push.
pub record PlayedFrom (q : Text → Repository) (earlier before : List Call) (acts : List Act) (ended : List Ended)
    (old new : Pair) : Type 0 where
  pub after : List Call
  pub played : ArePlayed q acts ended old new (before ++ earlier) (after ++ earlier)
  pub keeps : KeepsCalls q earlier after (views new)
  pub there : AreThere after (views new).repo

-- So do acts from disks that keep any calls, where other processes push for the stanzas that are asked for.
abbrev pub Plays : List Act → List Ended → Pair → Pair → Type 0
Plays acts ended old new = HaveOthers acts → (q : Text → Repository) (earlier before : List Call)
    → KeepsCalls q earlier before (views old) → PlayedFrom q earlier before acts ended old new

-- ---- where a list begins

-- each list of calls of which these contents are is kept by the disks
abbrev pub KeepsHeld : Content → Content → Pair → Type 0
KeepsHeld repo spool d = (q : Text → Repository) (earlier calls : List Call)
    → OnLogs (StandFor repo spool) q earlier calls → KeepsCalls q earlier calls (views d)
