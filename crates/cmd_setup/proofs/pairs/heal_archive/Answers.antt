use Rattle.base_disk.proofs.Changes.{only_none}
use Rattle.cmd_setup.proofs.HealedPair.{still_heals}
use Rattle.cmd_setup.proofs.pairs.heal_archive.Goals as goal

pub returns-in_err-name-clause-heals_pair : goal.returns-in_err-name-clause-heals_pair
returns-in_err-name-clause-heals_pair g c = still_heals c.args.stanza.now (g.D.Disk.state c.args.repo.now).view

pub returns-in_err-name-clause-changes : goal.returns-in_err-name-clause-changes
returns-in_err-name-clause-changes g c = only_none _ (g.D.Disk.state c.args.repo.now).view
