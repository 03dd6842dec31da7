-- Which objects of a call failed.
use Rattle.cmd_types.specs.declared.stages.object.Object.{Object}
use Rattle.cmd_types.specs.declared.stages.object.Object.TheVariants.{Repo, Spool, TheDataFolder, Server, Others, Clock, Locks, Config, Output}

-- for each object whether its count of faults rose
pub record Rose : Type 1 where
  pub repo : Type 0
  pub spool : Type 0
  pub tree : Type 0
  pub server : Type 0
  pub others : Type 0
  pub clock : Type 0
  pub locks : Type 0
  pub config : Type 0
  pub out : Type 0

abbrev pub none : Rose
none = record { repo = ⊥; spool = ⊥; tree = ⊥; server = ⊥; others = ⊥; clock = ⊥; locks = ⊥; config = ⊥; out = ⊥ }

abbrev pub rose_in : Rose → Object → Type 0
rose_in rose Repo = rose.repo
rose_in rose Spool = rose.spool
rose_in rose TheDataFolder = rose.tree
rose_in rose Server = rose.server
rose_in rose Others = rose.others
rose_in rose Clock = rose.clock
rose_in rose Locks = rose.locks
rose_in rose Config = rose.config
rose_in rose Output = rose.out
