use Rattle.std.proofs.Common.{inl, map}
use Rattle.base_devices.specs.Cause.{Rises}
use Rattle.base_model.specs.Values.{backup_info_of, file_entry_of}
use Rattle.backup_plan.specs.Views.{seen_of}
use Rattle.cmd_backup_common.specs.Drafting.{ListingCause}
use Rattle.cmd_backup_common.specs.Seconds.{StatesSecond}
use Rattle.cmd_backup_common.proofs.Beginnings.{halt_as}
use Rattle.cmd_backup_common.proofs.Makings.{Either, plan_cause}
use Rattle.cmd_backup_offline.specs.Drafting.{StopCause}
use Rattle.cmd_backup_offline.proofs.Causes.{listing_draft}
use Rattle.cmd_backup_offline.proofs.offline_draft.draft_offline.Goals as goal

pub returns-in-Err-filter-clause-cause : goal.returns-in-Err-filter-clause-cause
returns-in-Err-filter-clause-cause g c =
    let seen = map seen_of c.args.seen.now in
    let least = (g.C.Clock.state c.args.clock.now).least in
    let Stated = StatesSecond c.args.basis.now.stanza.now (backup_info_of c.args.list) (g.D.Disk.state c.args.repo.now).view.now in
    halt_as (ListingCause seen) (StopCause seen least Stated (map g.L.Link.link_state c.args.pool.now.links.items) c.args.pool.now.lost.items (map file_entry_of c.args.basis.now.old.now)) (λ _. ⊥)
    (Either (Rises (g.D.Disk.state c.args.repo.now).faults (g.D.Disk.state c.next_second.new.d).faults) (Rises (g.C.Clock.state c.args.clock.now).faults (g.C.Clock.state c.next_second.new.clock).faults))
    (λ e h. inl (listing_draft seen least Stated e h)) (λ o h. absurd h) c.of_plan.result
    (plan_cause seen c.filter.result c.in-Err-filter.fault c.of_plan.result c.of_plan.ensures c.in-Err-filter.ensures.refused c.filter.ensures.orderly c.in-Err-filter.is)
