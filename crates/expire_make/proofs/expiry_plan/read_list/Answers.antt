use Rattle.std.proofs.Common.{Option, subst}
use Rattle.std.specs.Prelude.{IfSome}
use Rattle.base_devices.specs.Content.{Content}
use Rattle.base_model.specs.InfoFiles.{IsBackupText}
use Rattle.base_model.specs.Names.{backup_info}
use Rattle.base_model.specs.Pair.{PairIs}
use Rattle.base_model.specs.Values.{archive_info_of, backup_info_of}
use Rattle.expire_make.proofs.Planned.{have_list}
use Rattle.expire_make.proofs.Spelled.{fits_less}
use Rattle.expire_make.proofs.expiry_plan.read_list.Goals as goal

pub returns-clause-found : goal.returns-clause-found
returns-clause-found g c = have_list c.args.stanza.now (g.D.Disk.state c.args.d.now).view.now (archive_info_of c.in_ok-archive.archive) (backup_info_of c.in_ok-backup.backup) (backup_info_of c.in_ok-list.list) c.in_ok-archive.ensures.found
    (subst (λ (o : Option Content). IfSome o (λ f. PairIs IsBackupText f (backup_info c.args.stanza.now) (backup_info_of c.in_ok-backup.backup))) c.clusters.ensures.looks.now c.in_ok-backup.ensures.found) c.in_ok-list.ensures.settled

pub returns-clause-within : goal.returns-clause-within
returns-clause-within g c = fits_less (backup_info_of c.in_ok-backup.backup) (backup_info_of c.in_ok-list.list) c.in_ok-list.ensures.shorter c.in_ok-backup.ensures.within
