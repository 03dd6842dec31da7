use Rattle.base_disk.proofs.Changes.{only_none, only_on, only_rests}
use Rattle.base_model.proofs.Walking.{rests_synced}
use Rattle.archive_store.specs.Still.{still_on}
use Rattle.cmd_setup.proofs.Found.{backup_ends}
use Rattle.cmd_setup.proofs.Readings.{reading_as}
use Rattle.cmd_setup.proofs.HealedPair.{still_heals, heals_on, members_then}
use Rattle.cmd_setup.proofs.preparation.find.Goals as goal

pub returns-in_err-control-clause-heals_pair : goal.returns-in_err-control-clause-heals_pair
returns-in_err-control-clause-heals_pair g c = still_heals c.args.stanza.now (g.D.Disk.state c.args.repo.now).view

pub returns-in_err-backup-clause-heals_pair : goal.returns-in_err-backup-clause-heals_pair
returns-in_err-backup-clause-heals_pair g c = let h = c.backup_by.ensures.looks in heals_on c.args.stanza.now _ _ _ c.archive_by.ensures.heals_pair h.time h.now

pub returns-in_err-backup-clause-cause : goal.returns-in_err-backup-clause-cause
returns-in_err-backup-clause-cause g c = let h = c.archive_by.ensures in
    backup_ends c.args.plan.now c.args.stanza.now (g.D.Disk.state c.args.repo.now) (g.D.Disk.state c.archive_by.new.repo) (g.D.Disk.state c.backup_by.new.repo)
    (g.T.DataFolder.state c.args.tree.now) (g.T.DataFolder.state c.cluster_by.new.tree) c.in_ok-control.control c.in_ok-archive.archive
    c.in_ok-control.ensures.known h.frame.later h.still c.in_ok-archive.ensures.found
    c.from_residual-in_err-backup.result c.in_err-backup.field-0.0 c.from_residual-in_err-backup.ensures.1 c.in_err-backup.ensures.cause

pub returns-clause-heals_pair : goal.returns-clause-heals_pair
returns-clause-heals_pair g c = let h = c.backup_by.ensures.looks in heals_on c.args.stanza.now _ _ _ c.archive_by.ensures.heals_pair h.time h.now

pub returns-clause-lasts : goal.returns-clause-lasts
returns-clause-lasts g c = let h = c.backup_by.ensures.looks in members_then c.args.stanza.now (g.D.Disk.state c.args.repo.now).view (g.D.Disk.state c.archive_by.new.repo).view (g.D.Disk.state c.backup_by.new.repo).view c.in_ok-archive.ensures.lasts h.time h.now

pub returns-in_err-backup-clause-still : goal.returns-in_err-backup-clause-still
returns-in_err-backup-clause-still g c = let h = c.backup_by.ensures.looks in
    reading_as c.args.plan.now.pairs _ _ (λ still. still_on (g.D.Disk.state c.args.repo.now).view (g.D.Disk.state c.archive_by.new.repo).view (g.D.Disk.state c.backup_by.new.repo).view still (record { now = h.now; time = h.time })) c.archive_by.ensures.still

pub returns-clause-still : goal.returns-clause-still
returns-clause-still g c = let h = c.backup_by.ensures.looks in
    reading_as c.args.plan.now.pairs _ _ (λ still. still_on (g.D.Disk.state c.args.repo.now).view (g.D.Disk.state c.archive_by.new.repo).view (g.D.Disk.state c.backup_by.new.repo).view still (record { now = h.now; time = h.time })) c.archive_by.ensures.still

pub returns-in_err-backup-clause-synced : goal.returns-in_err-backup-clause-synced
returns-in_err-backup-clause-synced g c = λ synced some. let h = c.backup_by.ensures.looks in rests_synced c.args.stanza.now _ _ h.time h.now (c.archive_by.ensures.synced synced some)

pub returns-clause-synced : goal.returns-clause-synced
returns-clause-synced g c = λ synced some. let h = c.backup_by.ensures.looks in rests_synced c.args.stanza.now _ _ h.time h.now (c.archive_by.ensures.synced synced some)

pub returns-in_err-control-clause-changes : goal.returns-in_err-control-clause-changes
returns-in_err-control-clause-changes g c = only_none _ (g.D.Disk.state c.args.repo.now).view

pub returns-in_err-backup-clause-changes : goal.returns-in_err-backup-clause-changes
returns-in_err-backup-clause-changes g c = let h = c.backup_by.ensures.looks in only_on _ _ _ _ c.archive_by.ensures.changes (only_rests _ _ _ h.time h.now)

pub returns-clause-changes : goal.returns-clause-changes
returns-clause-changes g c = let h = c.backup_by.ensures.looks in only_on _ _ _ _ c.archive_by.ensures.changes (only_rests _ _ _ h.time h.now)
