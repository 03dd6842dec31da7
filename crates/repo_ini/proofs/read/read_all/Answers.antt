use Rattle.repo_ini.specs.States.{state_of}
use Rattle.repo_ini.proofs.Ends.{ends_whole}
use Rattle.repo_ini.proofs.Laws.{reached}
use Rattle.repo_ini.proofs.read.read_all.Goals as goal

pub end-requires : goal.end-requires
end-requires c = ends_whole c.in_ok-state.state (reached c.args.bytes.now (state_of c.in_ok-state.state) c.in_ok-state.ensures.state).0
