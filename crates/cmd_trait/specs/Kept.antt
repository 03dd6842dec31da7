-- Which objects a command, or one of its stages, leaves unchanged. Own.
use Rattle.std.specs.Prelude.{◌≡◌}
use Rattle.cmd_trait.specs.declared.outside.Outside.{Outside}

module _ {D S T V A C K I O L U : Type 0} where
  -- the configuration and the output
  abbrev pub KeepsInAndOut : Outside D S T V A C K I O L U → Outside D S T V A C K I O L U → Type 0
  KeepsInAndOut old new = new ≡ record old {
    repo = new.repo;
    spool = new.spool;
    tree = new.tree;
    server = new.server;
    processes = new.processes;
    clock = new.clock;
    locks = new.locks;
    pool = new.pool;
  }

  -- these, and the locks
  abbrev pub KeepsLocked : Outside D S T V A C K I O L U → Outside D S T V A C K I O L U → Type 0
  KeepsLocked old new = new ≡ record old {
    repo = new.repo;
    spool = new.spool;
    tree = new.tree;
    server = new.server;
    processes = new.processes;
    clock = new.clock;
    pool = new.pool;
  }

  -- the workers
  abbrev pub KeepsWorkers : Outside D S T V A C K I O L U → Outside D S T V A C K I O L U → Type 0
  KeepsWorkers old new = new.pool ≡ old.pool

  -- the connection to the server
  abbrev pub KeepsServer : Outside D S T V A C K I O L U → Outside D S T V A C K I O L U → Type 0
  KeepsServer old new = new.server ≡ old.server

  -- the spool, and other processes
  abbrev pub KeepsSpool : Outside D S T V A C K I O L U → Outside D S T V A C K I O L U → Type 0
  KeepsSpool old new = (new.spool ≡ old.spool) × (new.processes ≡ old.processes)

  -- the data folder and the locks
  abbrev pub KeepsFolder : Outside D S T V A C K I O L U → Outside D S T V A C K I O L U → Type 0
  KeepsFolder old new = (new.tree ≡ old.tree) × (new.locks ≡ old.locks)

  -- all but the configuration and the output
  abbrev pub OnlyAnswers : Outside D S T V A C K I O L U → Outside D S T V A C K I O L U → Type 0
  OnlyAnswers old new = new ≡ record old { config = new.config; out = new.out }

  -- all but the repository, the spool and the data folder
  abbrev pub OnlyPlaces : Outside D S T V A C K I O L U → Outside D S T V A C K I O L U → Type 0
  OnlyPlaces old new = new ≡ record old { repo = new.repo; spool = new.spool; tree = new.tree }

  -- all but these and other processes
  abbrev pub OnlyThroughSpool : Outside D S T V A C K I O L U → Outside D S T V A C K I O L U → Type 0
  OnlyThroughSpool old new = new ≡ record old {
    repo = new.repo;
    spool = new.spool;
    tree = new.tree;
    processes = new.processes;
  }

  -- all but the repository, the data folder and the workers
  abbrev pub OnlyRestoring : Outside D S T V A C K I O L U → Outside D S T V A C K I O L U → Type 0
  OnlyRestoring old new = new ≡ record old { repo = new.repo; tree = new.tree; pool = new.pool }

  -- all but these and the clock
  abbrev pub OnlyStoring : Outside D S T V A C K I O L U → Outside D S T V A C K I O L U → Type 0
  OnlyStoring old new = new ≡ record old { repo = new.repo; tree = new.tree; clock = new.clock; pool = new.pool }
