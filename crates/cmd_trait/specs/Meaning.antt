-- What a command means: all that `run` says of it, in one value that its own crate gives.
use Rattle.std.specs.Prelude.{◌≡◌, ◌≤◌, ◌⊎◌, ◌≢◌, ℕ, Bool, true, false, [], Option, None, IsSome, IsSomeAnd}
use Rattle.std.proofs.Common.{inl, inr, ap, arith}
use Rattle.base_devices.specs.Content.{Content}
use Rattle.base_devices.specs.Moments.{View}
use Rattle.base_devices.specs.DataFolder.{Nodes}
use Rattle.base_model.specs.Text.{Text}
use Rattle.base_model.specs.Steps.{Command, Reading}
use Rattle.archive_lookup.specs.Turns.{ProcessesState}
use Rattle.archive_store.specs.Still.{IsStill}
use Rattle.server_talk.specs.Sends.{Ended}
use Rattle.cmd_types.specs.declared.stages.object.Object.{Object}
use Rattle.cmd_types.specs.declared.stages.object.Object.TheVariants.{Server}
use Rattle.cmd_types.specs.declared.stages.outcome.Outcome.{Outcome}
use Rattle.cmd_types.specs.declared.stages.plan.Pairs.TheVariants.{Unread, ReadBoth}
use Rattle.cmd_types.specs.declared.stages.plan.Plan.{Plan}
use Rattle.cmd_types.specs.declared.stages.plan.SyncScope.TheVariants.{Whole, Looked}
use Rattle.cmd_types.specs.Plans.{Heals, OnReading}
use Rattle.cmd_types.specs.DisksEffect.{Manner, each, one, provided, On}
use Rattle.cmd_types.specs.World.{World, AreRead}
use Rattle.cmd_setup.specs.Calls.{LeavesPair}
use Rattle.cmd_trait.specs.KnownWorld.{KnownWorld}

-- what it uses, except for the repository and the data folder: steps of other processes, the spool (also where others are
-- handed it), a server, workers, the clock
pub record Uses : Type 0 where
  pub turns : Bool
  pub spool : Bool
  pub server : Bool
  pub workers : Bool
  pub clock : Bool

abbrev pub nothing : Uses
nothing = record { turns = false; spool = false; server = false; workers = false; clock = false }

-- where a command works
pub record Place : Type 0 where
  pub stanza : Text
  pub data_folder : Text
  pub repository : Text
  pub lock_folder : Text

-- what the disks and the data folder hold, and what other processes are at
pub record Disks : Type 1 where
  pub repo : View
  pub spool : View
  pub nodes : Option Nodes
  pub others : ProcessesState

abbrev pub disks_of : World → Disks
disks_of s = record { repo = s.repo.view; spool = s.spool.view; nodes = s.tree.nodes; others = s.others }

pub record Meaning (F : Type 0) : Type 1 where
  -- what the stages do for it; whether it goes through all of them, or only has its places opened; the spool that it
  -- opens; and what it uses
  pub plan : Plan
  pub staged : Bool
  pub spool : Option Text
  pub uses : Uses
  -- whether it may leave names unsynced that were synced, for all that is known of a repository that may be damaged
  pub unsyncs : Bool
  -- whether, where it succeeds, a crash may leave something else of the data folder than what is there
  pub folder_unsynced : Bool
  -- which command of the repository's log it is, from what the objects hold before and after it
  pub manner : Place → KnownWorld → KnownWorld → Manner
  -- Ok: what it promises; what of all that a crash leaves, where it syncs what it looks at alone; and what it
  -- acknowledges of what other processes did
  pub promise : Place → KnownWorld → KnownWorld → Outcome → Type 0
  pub lasts : Place → Option Nodes → View → Option Nodes → Outcome → Type 0
  pub acknowledges : Place → Disks → Disks → Type 0
  -- its own arguments name what they have to; and why they are refused
  pub arguments : Place → Type 0
  pub arguments_cause : Place → F → Type 0
  -- why it is refused, from what the objects hold as its own part begins and what they hold then, and which failed
  pub cause : Place → KnownWorld → KnownWorld → (Object → Type 0) → F → Type 0
  -- how the talk to a server was left that it then ended
  pub closes : Place → KnownWorld → KnownWorld → (Object → Type 0) → F → Type 0
  -- the refusal's status and message, whether it comes before the command's first step, and the lines before its own
  pub status : F → ℕ
  pub message : F → Text
  pub early : F → Bool
  pub lines : F → Text
  -- what it may change: in the repository, from the least second that the clock may show, with what others change there
  -- while it waits for them; in the data folder; and what other processes are at
  pub repo_effect : Place → ℕ → View → View → Type 0
  pub folder_effect : Place → KnownWorld → Option Nodes → Type 0
  pub others_effect : Place → ProcessesState → ProcessesState → Type 0
  -- and what it has left unchanged where it was refused early, with this status
  pub turned : Place → KnownWorld → KnownWorld → ℕ → Type 0

-- the places are opened, and nothing more is done before the command's own part
abbrev pub places_plan : Plan
places_plan = record {
  sync_scope = Looked;
  folder = true;
  backup_lock = false;
  archive_lock = false;
  control = false;
  pairs = Unread;
}

-- no folder, no lock: the stanza is synced, and both pairs are read
abbrev pub reading_plan : Plan
reading_plan = record places_plan { sync_scope = Whole; folder = false; pairs = ReadBoth }

-- What is usual of a command whose refusals have these statuses and messages: it only reads the repository, and changes
-- nothing else. A command's meaning says where it differs, and what it promises: here nothing is Ok.
abbrev pub usual_meaning : {F : Type 0} → (F → ℕ) → (F → Text) → Meaning F
usual_meaning status message = record {
  plan = reading_plan;
  staged = true;
  spool = None;
  uses = nothing;
  unsyncs = false;
  folder_unsynced = true;
  manner = λ p old new. each (λ command. command ≡ Reading);
  promise = λ p old new outcome. ⊥;
  lasts = λ p nodes repo now_nodes outcome. Unit {0};
  acknowledges = λ p old new. Unit {0};
  arguments = λ p. Unit {0};
  arguments_cause = λ p fault. ⊥;
  cause = λ p old new failed fault. ⊥;
  closes = λ p old new failed fault. Unit {0};
  status = status;
  message = message;
  early = λ fault. true;
  lines = λ fault. [];
  repo_effect = λ p least old new. IsStill old new;
  folder_effect = λ p old nodes. nodes ≡ old.nodes;
  others_effect = λ p old new. new ≡ old;
  turned = λ p old new n. new.nodes ≡ old.nodes;
}

-- this holds of a command that doesn't use it
abbrev pub Unless : Bool → Type 0 → Type 0
Unless true P = Unit {0}
Unless false P = P

-- what others did meanwhile is known of the stanza, where the command waits for steps of theirs
abbrev pub TurnsKnownIf : Bool → Text → KnownWorld → Type 0
TurnsKnownIf true stanza new = IsSomeAnd new.others.account (λ k. k.stanza ≡ stanza)
TurnsKnownIf false stanza new = Unit {0}

abbrev pub TurnsKnown : {F : Type 0} → Place → Meaning F → KnownWorld → Type 0
TurnsKnown p m new = TurnsKnownIf m.uses.turns p.stanza new

-- the command is of this kind
abbrev pub IsOf : Manner → Command → Type 0
IsOf (each Is) command = Is command
IsOf (one Is) command = Is command
IsOf (provided known Is) command = Is command

-- the statuses of a server's answer that is refused; 70 is also that of a file that is too long, and 71 of too many
abbrev pub IsServerRefusal : ℕ → Type 0
IsServerRefusal status = ((47 ≤ status) × (status ≤ 51)) ⊎ ((70 ≤ status) × (status ≤ 71))

-- The last message to the server is the end, unless the connection failed. At 70 and 71 it may have been something else
-- that was too long or too many, and then nothing was sent.
abbrev pub EndsTalk : KnownWorld → KnownWorld → (Object → Type 0) → ℕ → Type 0
EndsTalk old new failed status = Ended new.server.sent
    ⊎ (failed Server ⊎ ((70 ≤ status) × (new.server.sent ≡ old.server.sent)))

-- ---- what the proof of the stages needs

-- there is a command of this kind
abbrev pub HasOne : Manner → Type 0
HasOne (each Is) = Unit {0}
HasOne (one Is) = (command : Command) × Is command
HasOne (provided known Is) = known → (command : Command) × Is command

-- the statuses of a command that ends before its own first step: it was refused for what was found, or the connection
-- to its server failed
abbrev pub IsEarly : ℕ → Type 0
IsEarly status = ((1 ≤ status) × (status ≤ 72) × (status ≢ 65)) ⊎ (((101 ≤ status) × (status ≤ 104)) ⊎ (status ≡ 83))

-- true isn't false
pub apart : ◌≡◌ {A = Bool} true false → ⊥
apart e = cc

-- What the proof of the stages needs of a meaning.
pub record IsLawful {F : Type 0} (m : Meaning F) : Type 1 where
  -- where other processes did nothing there is a command that it may be
  pub some : (p : Place) → (old new : KnownWorld) → new.others ≡ old.others → HasOne (m.manner p old new)
  -- which command it is is known from what the repository held before pairs were healed
  pub healed : (p : Place) → (old new : KnownWorld) (repo : Option Content) → Heals m.plan.pairs p.stanza old.repo repo
      → (P : Command → Type 0) → On (m.manner p (record old { repo = repo }) new) P → On (m.manner p old new) P
  -- more objects may have failed
  pub more : (p : Place) → (old new : KnownWorld) (failed others : Object → Type 0) → ((object : Object) → failed object → others object)
      → (fault : F) → m.cause p old new failed fault → m.cause p old new others fault
  pub closes_more : (p : Place) → (old new : KnownWorld) (repo : Option Content) (failed others : Object → Type 0)
      → ((object : Object) → failed object → others object) → (fault : F)
      → m.closes p (record old { repo = repo }) new failed fault → m.closes p old new others fault
  -- arguments that are refused leave each talk unchanged
  pub arguments_closes : (p : Place) → (old : KnownWorld) (failed : Object → Type 0) (fault : F) → m.arguments_cause p fault
      → m.closes p old old failed fault
  -- stages that come before it change nothing that it leaves
  pub repo_none : (p : Place) → (least : ℕ) (b k : View) → LeavesPair m.plan.pairs p.stanza b k → m.repo_effect p least b k
  pub repo_on : (p : Place) → (least : ℕ) (b c k : View) → LeavesPair m.plan.pairs p.stanza b c → m.repo_effect p least c k
      → m.repo_effect p least b k
  pub folder_none : (p : Place) → (old : KnownWorld) → m.folder_effect p old old.nodes
  pub folder_on : (p : Place) → (old : KnownWorld) (repo : Option Content) (nodes : Option Nodes)
      → OnReading m.plan.pairs (repo ≡ old.repo) → m.folder_effect p (record old { repo = repo }) nodes
      → m.folder_effect p old nodes
  pub others_none : (p : Place) → (others : ProcessesState) → m.others_effect p others others
  pub turned_none : (p : Place) → (old new : KnownWorld) (n : ℕ) → new.nodes ≡ old.nodes → OnReading m.plan.pairs (new.repo ≡ old.repo)
      → m.turned p old new n
  pub turned_on : (p : Place) → (old new : KnownWorld) (repo : Option Content) (n : ℕ) → OnReading m.plan.pairs (repo ≡ old.repo)
      → m.turned p (record old { repo = repo }) new n → m.turned p old new n
  -- its statuses are those of refusals, and no other than an early one has an early status
  pub over : (fault : F) → 2 ≤ m.status fault
  pub not_found : (fault : F) → m.status fault ≢ 65
  pub early : (fault : F) → IsEarly (m.status fault) → m.early fault ≡ true
  -- what opens no data folder reads no control file
  pub no_control : m.plan.folder ≡ false → m.plan.control ≡ false
  pub no_spool : m.uses.spool ≡ false → m.spool ≡ None
  -- after a server's answer that is refused the talk was ended
  pub talk : (p : Place) (old new : KnownWorld) (failed : Object → Type 0) (fault : F) → IsServerRefusal (m.status fault)
      → Unless m.uses.server (new.server ≡ old.server) → m.closes p old new failed fault
      → EndsTalk old new failed (m.status fault)
  -- where the data folder is known, and what others did meanwhile, one command is the one that it is
  pub there : (p : Place) (old new : KnownWorld) → IsSome old.nodes → TurnsKnown p m new → (P : Command → Type 0)
      → On (m.manner p old new) P → (command : Command) × IsOf (m.manner p old new) command × P command
  -- what acknowledges something goes through no stage but the opening of its places, and says nothing else of crashes
  pub through : m.staged ≡ true → (p : Place) (old new : Disks) → m.acknowledges p old new
  pub opens_only : m.staged ≡ false → m.plan ≡ places_plan
  pub lasts_alone : m.staged ≡ false → (p : Place) (nodes : Option Nodes) (repo : View) (now_nodes : Option Nodes)
      → (outcome : Outcome) → m.lasts p nodes repo now_nodes outcome
  -- what was only opened before it doesn't matter
  pub acknowledges_on : (p : Place) (b c k : World) → AreRead b c → m.acknowledges p (disks_of c) (disks_of k)
      → m.acknowledges p (disks_of b) (disks_of k)

-- ---- for the laws of a command

-- a refusal of a command that asks no server is none of a server's answer
pub quiet_talk : (old new : KnownWorld) (failed : Object → Type 0) (status : ℕ) → (status ≤ 46) ⊎ (52 ≤ status)
    → IsServerRefusal status → new.server ≡ old.server → EndsTalk old new failed status
quiet_talk old new failed status (inl low) (inl is) same = absurd (omega (arith, low, is.0))
quiet_talk old new failed status (inl low) (inr is) same = absurd (omega (arith, low, is.0))
quiet_talk old new failed status (inr high) (inl is) same = absurd (omega (arith, high, is.1))
quiet_talk old new failed status (inr high) (inr is) same = inr (inr (is.0, ap (λ s. s.sent) same))
