use Rattle.std.proofs.lemmas.Result.{on_ok_weaker}
use Rattle.archive_store.specs.Still.{still_on}
use Rattle.base_model.proofs.Walking.{rests_synced}
use Rattle.cmd_types.proofs.Lifted.{rests_quiet}
use Rattle.cmd_setup.proofs.Readings.{found_leaves, reading_as, still_leaves}
use Rattle.cmd_setup.proofs.Begun.{prepared_quiet, prepared_begins, prepared_lasts, prepared_synced}
use Rattle.cmd_setup.proofs.preparation.prepare.Goals as goal

pub returns-in_err-sync_directories-clause-quiet : goal.returns-in_err-sync_directories-clause-quiet
returns-in_err-sync_directories-clause-quiet g c = rests_quiet c.args.stanza.now _ _ c.sync_directories.ensures.looks.time c.sync_directories.ensures.looks.now

pub returns-clause-quiet : goal.returns-clause-quiet
returns-clause-quiet g c = let h = c.sync_directories.ensures.looks in prepared_quiet c.args.stanza.now _ _ h.time h.now _ c.find.ensures.heals_pair c.args.plan.now.sync_scope c.in_ok-sync_directories.ensures.settled

pub returns-clause-begun : goal.returns-clause-begun
returns-clause-begun g c = let h = c.sync_directories.ensures.looks in
    on_ok_weaker c.find.result (λ keeps. prepared_begins c.args.stanza.now (g.D.Disk.state c.args.repo.now).view (g.D.Disk.state c.sync_directories.new.repo).view h.time h.now (g.D.Disk.state c.find.new.repo).view c.find.ensures.heals_pair c.args.plan.now.sync_scope c.in_ok-sync_directories.ensures.settled c.in_ok-sync_directories.ensures.members keeps) c.find.ensures.lasts

pub returns-clause-lasts : goal.returns-clause-lasts
returns-clause-lasts g c = let h = c.sync_directories.ensures.looks in
    on_ok_weaker c.find.result (λ keeps. prepared_lasts c.args.stanza.now (g.D.Disk.state c.args.repo.now).view (g.D.Disk.state c.sync_directories.new.repo).view h.time h.now (g.D.Disk.state c.find.new.repo).view c.in_ok-sync_directories.ensures.members keeps c.args.plan.now.pairs) c.find.ensures.lasts

pub returns-clause-still : goal.returns-clause-still
returns-clause-still g c = let h = c.sync_directories.ensures.looks in
    reading_as c.args.plan.now.pairs _ _ (λ still. still_on (g.D.Disk.state c.args.repo.now).view (g.D.Disk.state c.sync_directories.new.repo).view (g.D.Disk.state c.find.new.repo).view (record { now = h.now; time = h.time }) still) c.find.ensures.still

pub returns-in_err-sync_directories-clause-synced : goal.returns-in_err-sync_directories-clause-synced
returns-in_err-sync_directories-clause-synced g c = λ synced some. rests_synced c.args.stanza.now _ _ c.sync_directories.ensures.looks.time c.sync_directories.ensures.looks.now synced

pub returns-clause-synced : goal.returns-clause-synced
returns-clause-synced g c = let h = c.sync_directories.ensures.looks in prepared_synced c.args.stanza.now _ _ h.time h.now _ c.find.ensures.synced

pub returns-in_err-sync_directories-clause-leaves : goal.returns-in_err-sync_directories-clause-leaves
returns-in_err-sync_directories-clause-leaves g c = let h = c.sync_directories.ensures.looks in still_leaves c.args.plan.now.pairs c.args.stanza.now _ _ (record { now = h.now; time = h.time })

pub returns-clause-leaves : goal.returns-clause-leaves
returns-clause-leaves g c = let h = c.sync_directories.ensures.looks in
    found_leaves c.args.plan.now.pairs c.args.stanza.now (g.D.Disk.state c.args.repo.now).view (g.D.Disk.state c.sync_directories.new.repo).view (g.D.Disk.state c.find.new.repo).view (record { now = h.now; time = h.time }) c.find.ensures.still c.find.ensures.heals_pair.now.known c.find.ensures.changes
