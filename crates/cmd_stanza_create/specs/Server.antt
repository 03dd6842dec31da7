-- A server that is asked for its system (pgBackRest command reference, "Stanza Create Command").
use Rattle.std.specs.Prelude.{ℕ, ◌++◌, codes, decimal}
use Rattle.base_model.specs.Text.{Text}
use Rattle.cmd_stanza_create.specs.declared.server.Server as code

-- the folder of a server's socket, its port, and the user and the database of the session
pub record Server : Type 0 where
  pub folder : Text
  pub port : ℕ
  pub user : Text
  pub database : Text

abbrev pub server_view : code.Server → Server
server_view s = record { folder = s.folder.now; port = s.port; user = s.user.now; database = s.database.now }

abbrev pub socket_path : Server → Text
socket_path s = s.folder ++ (codes "/.s.PGSQL." ++ decimal s.port)
