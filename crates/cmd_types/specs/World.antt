-- What all handed-in objects report together, and which of them failed between two times.
use Rattle.std.specs.Prelude.{◌≡◌, ◌≤◌, ℕ, List, Option}
use Rattle.base_devices.specs.Cause.{Rises}
use Rattle.archive_store.specs.Still.{IsStill}
use Rattle.base_devices.specs.Content.{Name}
use Rattle.base_devices.specs.Links.{LinkState}
use Rattle.base_devices.specs.States.{DiskState, DataFolderState, ConnectionState, ClockState, InputState, OutputState}
use Rattle.archive_lookup.specs.Turns.{ProcessesState}
use Rattle.cmd_types.specs.declared.stages.object.Object.{Object}
use Rattle.cmd_types.specs.declared.stages.object.Object.TheVariants.{Repo, Spool, TheDataFolder, Server, Others, Clock, Locks, Config, Output}

-- the locks that were ever taken, how often one was held by another, and how often they failed
pub record LocksSeen : Type 0 where
  pub ever_taken : Option (List (Name × Name))
  pub refusals : ℕ
  pub faults : ℕ

pub record World : Type 1 where
  pub repo : DiskState
  pub spool : DiskState
  pub tree : DataFolderState
  pub server : ConnectionState
  pub others : ProcessesState
  pub clock : ClockState
  pub locks : LocksSeen
  pub config : InputState
  pub out : OutputState
  -- the workers that are left, in their order
  pub links : List LinkState

-- its count of faults
abbrev pub faults_of : Object → World → ℕ
faults_of Repo s = s.repo.faults
faults_of Spool s = s.spool.faults
faults_of TheDataFolder s = s.tree.faults
faults_of Server s = s.server.faults
faults_of Others s = s.others.faults
faults_of Clock s = s.clock.faults
faults_of Locks s = s.locks.faults
faults_of Config s = s.config.faults
faults_of Output s = s.out.faults

-- its count of faults rose
abbrev pub Failed : World → World → Object → Type 0
Failed before after object = Rises (faults_of object before) (faults_of object after)

-- no count of faults falls
abbrev pub AreLater : World → World → Type 0
AreLater before after = (object : Object) → faults_of object before ≤ faults_of object after

-- All that is known of contents stays; places, and the counts of faults and of held locks, may change.
pub record AreRead (before after : World) : Type 0 where
  pub repo : IsStill before.repo.view after.repo.view
  pub spool : IsStill before.spool.view after.spool.view
  pub nodes : after.tree.nodes ≡ before.tree.nodes
  pub server : after.server ≡ before.server
  pub others : after.others ≡ before.others
  pub clock : after.clock ≡ before.clock
  pub links : after.links ≡ before.links
  pub files : after.config.files ≡ before.config.files
  pub out : after.out ≡ before.out
  pub refusals : before.locks.refusals ≤ after.locks.refusals
  pub later : AreLater before after
