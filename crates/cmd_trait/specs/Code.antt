-- What the code's places represent.
use Rattle.std.specs.Prelude.{◌<◌, ◌^◌, List, length}
use Rattle.base_devices.specs.Links.{LinkState}
use Rattle.worker_pool.specs.Run.{AreReady}
use Rattle.cmd_trait.specs.declared.places.Places.{Places}
use Rattle.cmd_trait.specs.Meaning.{Place}

-- the place that they are
abbrev pub place_of : Places → Place
place_of p = record {
  stanza = p.stanza.now;
  data_folder = p.data_folder.now;
  repository = p.repository.now;
  lock_folder = p.lock_folder.now;
}

-- the workers can be numbered, and none has bytes of an earlier answer to give
pub record AreWorkers (links : List LinkState) : Type 0 where
  pub few : length links < 2 ^ 32
  pub ready : AreReady links
