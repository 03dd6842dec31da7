use Rattle.base_disk.proofs.Changes.{only_none, only_rests}
use Rattle.base_model.proofs.Walking.{rests_synced}
use Rattle.cmd_setup.proofs.HealedPair.{still_heals, rests_heals, rests_members}
use Rattle.cmd_setup.proofs.pairs.archive_by.Goals as goal

pub returns-in-Unread-clause-heals_pair : goal.returns-in-Unread-clause-heals_pair
returns-in-Unread-clause-heals_pair g c = still_heals c.args.stanza.now (g.D.Disk.state c.args.repo.now).view

pub returns-in_err-read_archive-in-ReadArchive-clause-heals_pair : goal.returns-in_err-read_archive-in-ReadArchive-clause-heals_pair
returns-in_err-read_archive-in-ReadArchive-clause-heals_pair g c = rests_heals c.args.stanza.now _ _ c.read_archive.ensures.looks.time c.read_archive.ensures.looks.now

pub returns-in_ok-read_archive-in-ReadArchive-clause-heals_pair : goal.returns-in_ok-read_archive-in-ReadArchive-clause-heals_pair
returns-in_ok-read_archive-in-ReadArchive-clause-heals_pair g c = rests_heals c.args.stanza.now _ _ c.read_archive.ensures.looks.time c.read_archive.ensures.looks.now

pub returns-in_ok-read_archive-in-ReadArchive-clause-lasts : goal.returns-in_ok-read_archive-in-ReadArchive-clause-lasts
returns-in_ok-read_archive-in-ReadArchive-clause-lasts g c = rests_members c.args.stanza.now (g.D.Disk.state c.args.repo.now).view (g.D.Disk.state c.read_archive.new.repo).view c.read_archive.ensures.looks.time c.read_archive.ensures.looks.now

pub returns-in_err-read_archive-in-ReadArchive-clause-synced : goal.returns-in_err-read_archive-in-ReadArchive-clause-synced
returns-in_err-read_archive-in-ReadArchive-clause-synced g c = λ synced some. rests_synced c.args.stanza.now _ _ c.read_archive.ensures.looks.time c.read_archive.ensures.looks.now synced

pub returns-in_ok-read_archive-in-ReadArchive-clause-synced : goal.returns-in_ok-read_archive-in-ReadArchive-clause-synced
returns-in_ok-read_archive-in-ReadArchive-clause-synced g c = λ synced some. rests_synced c.args.stanza.now _ _ c.read_archive.ensures.looks.time c.read_archive.ensures.looks.now synced

pub returns-in-Unread-clause-changes : goal.returns-in-Unread-clause-changes
returns-in-Unread-clause-changes g c = only_none _ (g.D.Disk.state c.args.repo.now).view

pub returns-in_err-read_archive-in-ReadArchive-clause-changes : goal.returns-in_err-read_archive-in-ReadArchive-clause-changes
returns-in_err-read_archive-in-ReadArchive-clause-changes g c = only_rests _ _ _ c.read_archive.ensures.looks.time c.read_archive.ensures.looks.now

pub returns-in_ok-read_archive-in-ReadArchive-clause-changes : goal.returns-in_ok-read_archive-in-ReadArchive-clause-changes
returns-in_ok-read_archive-in-ReadArchive-clause-changes g c = only_rests _ _ _ c.read_archive.ensures.looks.time c.read_archive.ensures.looks.now
