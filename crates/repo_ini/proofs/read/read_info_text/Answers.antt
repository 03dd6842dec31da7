use Rattle.std.proofs.Common.{subst}
use Rattle.repo_ini.specs.Parts.{sections_of}
use Rattle.repo_ini.specs.Answers.{Gives}
use Rattle.repo_ini.proofs.Laws.{read_text-only, read_text-wrong}
use Rattle.repo_ini.proofs.Ends.{found_of, fault_of}
use Rattle.repo_ini.proofs.read.read_info_text.Goals as goal

pub returns-clause-found : goal.returns-clause-found
returns-clause-found c = found_of c.args.bytes.now c.read_all.result c.read_all.ensures

pub returns-clause-only : goal.returns-clause-only
returns-clause-only c ss info h = subst (Gives (λ v. sections_of v.items) c.read_all.result) (read_text-only c.args.bytes.now ss info h) c.read_all.ensures

pub returns-clause-wrong : goal.returns-clause-wrong
returns-clause-wrong c ss known info is differ h = subst (Gives (λ v. sections_of v.items) c.read_all.result) (read_text-wrong c.args.bytes.now ss known info is differ h) c.read_all.ensures

pub returns-clause-fault : goal.returns-clause-fault
returns-clause-fault c = fault_of c.args.bytes.now c.read_all.result c.read_all.ensures
