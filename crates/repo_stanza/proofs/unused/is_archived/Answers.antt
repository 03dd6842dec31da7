use Rattle.std.proofs.Common.{◌∙◌, sym}
use Rattle.repo_stanza.proofs.Leftovers.{archived_of, not_archived}
use Rattle.repo_stanza.proofs.unused.is_archived.Goals as goal

pub returns-clause-archived : goal.returns-clause-archived
returns-clause-archived c = λ on stanza is. archived_of c.read_path.result stanza c.args.prefix.now c.args.path.now c.read_path.ensures.value c.read_path.ensures.fits (sym c.is_some.ensures ∙ on) is

pub returns-clause-other : goal.returns-clause-other
returns-clause-other c = λ off stanza is. not_archived c.read_path.result stanza c.args.prefix.now c.args.path.now c.read_path.ensures.none (sym c.is_some.ensures ∙ off) is
