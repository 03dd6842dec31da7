-- A server that may be asked, as the code has it and as it is known.
use Rattle.std.proofs.Common.{◌≡◌, Option, Some, None, Result, Ok, Err, refl, false}
use Rattle.std.specs.Prelude.{is_some, option_map, IfSome, OnOk}
use Rattle.cmd_stanza_create.specs.declared.server.Server as code
use Rattle.cmd_stanza_create.specs.Server.{server_view}

-- where the meaning uses no server, none is given
pub no_server : (o : Option code.Server) → is_some (option_map server_view o) ≡ false → o ≡ None
no_server None is = refl
no_server (Some s) is = cc

-- what holds where one is asked
pub as_server : {T E : Type 0} (r : Result T E) (o : Option code.Server) (P : Type 0) → OnOk r (IfSome o (λ _. P)) → OnOk r (IfSome (option_map server_view o) (λ _. P))
as_server (Ok x) None P h = h
as_server (Ok x) (Some s) P h = h
as_server (Err e) o P h = h
