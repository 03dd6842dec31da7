-- What the objects hold, as far as that is known.
use Rattle.std.specs.Prelude.{List, Option}
use Rattle.base_devices.specs.Content.{Content}
use Rattle.base_devices.specs.Links.{LinkState}
use Rattle.base_devices.specs.DataFolder.{Nodes}
use Rattle.base_devices.specs.States.{ConnectionState, ClockState}
use Rattle.archive_lookup.specs.Turns.{ProcessesState}
use Rattle.cmd_types.specs.World.{World}

-- what they hold
pub record KnownWorld : Type 0 where
  pub repo : Option Content
  pub spool : Option Content
  pub nodes : Option Nodes
  pub server : ConnectionState
  pub others : ProcessesState
  pub clock : ClockState
  pub links : List LinkState

-- what is known of the world
abbrev pub known_world : World → KnownWorld
known_world s = record {
  repo = s.repo.view.now;
  spool = s.spool.view.now;
  nodes = s.tree.nodes;
  server = s.server;
  others = s.others;
  clock = s.clock;
  links = s.links;
}
