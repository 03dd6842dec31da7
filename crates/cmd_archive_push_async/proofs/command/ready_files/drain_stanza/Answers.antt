use Rattle.std.proofs.Common.{rules, refl, inl, subst, sym, Option}
use Rattle.base_devices.specs.DataFolder.{Nodes}
use Rattle.base_model.specs.declared.wal.ArchiveId.{ArchiveId}
use Rattle.base_model.specs.Values.{archive_info_of}
use Rattle.archive_store.specs.Still.{still_self}
use Rattle.cmd_archive_push.specs.Causes.{IsCurrent}
use Rattle.cmd_types.specs.Current.{id_kept}
use Rattle.cmd_types.proofs.Besides.{archive_beside, still_beside}
use Rattle.cmd_archive_push.proofs.Putting.{kept_current}
use Rattle.cmd_archive_push_async.specs.Between.{PutsSome}
use Rattle.cmd_archive_push_async.proofs.Paired.{pair_same}
use Rattle.cmd_archive_push_async.proofs.Putting.{some_none}
use Rattle.cmd_archive_push_async.proofs.Drains.{all_drained, all_lasting, all_runs, each_held, each_put, ends_for, if_known, is_current, none_held, none_put, none_runs, part_runs, stops, under}
use Rattle.cmd_archive_push_async.proofs.command.ready_files.drain_stanza.Goals as goal

pub returns-in-Err-clause-runs : goal.returns-in-Err-clause-runs
returns-in-Err-clause-runs g c = λ f is. none_runs c.args.stanza.now f _ _ c.in-Err.halt

pub returns-in-Err-clause-beside : goal.returns-in-Err-clause-beside
returns-in-Err-clause-beside g c = still_beside c.args.stanza.now _ _ (still_self (g.D.Disk.state c.args.repo.now).view)

pub returns-in-Err-clause-pair : goal.returns-in-Err-clause-pair
returns-in-Err-clause-pair g c = pair_same c.args.stanza.now _

pub returns-in-Err-clause-spool_beside : goal.returns-in-Err-clause-spool_beside
returns-in-Err-clause-spool_beside g c = still_beside c.args.stanza.now _ _ (still_self (g.S.Disk.state c.args.spool.now).view)

pub returns-in-Ok-drain-clause-runs : goal.returns-in-Ok-drain-clause-runs
returns-in-Ok-drain-clause-runs g c = λ f is.
    all_runs c.args.stanza.now c.in-Ok.id c.args.known.now.system f _ _ _ _ c.drain.result (c.drain.ensures.drains f is)
    (under c.args.stanza.now (g.D.Disk.state c.args.repo.now).view.now (g.T.DataFolder.state c.args.tree.now).nodes c.args.known.now c.in-Ok.id
    (archive_info_of c.args.info.now) c.requires.shows c.requires.pair c.in-Ok.ensures.id) _ c.in-Ok-drain.is

pub returns-in-Ok-drain-clause-drained : goal.returns-in-Ok-drain-clause-drained
returns-in-Ok-drain-clause-drained g c = λ f is.
    let at = c.in-Ok.ensures.id in
    let current = is_current c.args.stanza.now (g.D.Disk.state c.args.repo.now).view.now (g.T.DataFolder.state c.args.tree.now).nodes c.args.known.now c.in-Ok.id
    (archive_info_of c.args.info.now) c.requires.shows c.requires.pair at in
    all_drained c.args.stanza.now c.in-Ok.id c.args.known.now.system f _ _ _ _ c.drain.result (c.drain.ensures.drains f is)
    (under c.args.stanza.now (g.D.Disk.state c.args.repo.now).view.now (g.T.DataFolder.state c.args.tree.now).nodes c.args.known.now c.in-Ok.id
    (archive_info_of c.args.info.now) c.requires.shows c.requires.pair at) c.args.known.now refl at.0 at.2
    (subst (λ (o : Option Nodes). IsCurrent c.args.stanza.now (g.D.Disk.state c.args.repo.now).view.now o c.args.known.now at.0) is current) _ c.in-Ok-drain.is _ (search rules)

pub returns-in-Ok-drain-clause-beside : goal.returns-in-Ok-drain-clause-beside
returns-in-Ok-drain-clause-beside g c = archive_beside c.args.stanza.now _ _ c.drain.ensures.repo_only

pub returns-in-Ok-drain-clause-spool_beside : goal.returns-in-Ok-drain-clause-spool_beside
returns-in-Ok-drain-clause-spool_beside g c = archive_beside c.args.stanza.now _ _ c.drain.ensures.spool_only

pub returns-in-Err-drain-clause-runs : goal.returns-in-Err-drain-clause-runs
returns-in-Err-drain-clause-runs g c = λ f is.
    part_runs c.args.stanza.now c.in-Ok.id c.args.known.now.system f _ _ _ _ c.drain.result (c.drain.ensures.drains f is)
    (under c.args.stanza.now (g.D.Disk.state c.args.repo.now).view.now (g.T.DataFolder.state c.args.tree.now).nodes c.args.known.now c.in-Ok.id
    (archive_info_of c.args.info.now) c.requires.shows c.requires.pair c.in-Ok.ensures.id) c.in-Err-drain.halt c.in-Err-drain.is _
    (stops _ _ _ _ _ _ _ c.in-Err-drain.halt c.in-Err-drain.ensures.cause)

pub returns-in-Err-drain-clause-beside : goal.returns-in-Err-drain-clause-beside
returns-in-Err-drain-clause-beside g c = archive_beside c.args.stanza.now _ _ c.drain.ensures.repo_only

pub returns-in-Err-drain-clause-spool_beside : goal.returns-in-Err-drain-clause-spool_beside
returns-in-Err-drain-clause-spool_beside g c = archive_beside c.args.stanza.now _ _ c.drain.ensures.spool_only

pub returns-in-Err-drain-clause-cause : goal.returns-in-Err-drain-clause-cause
returns-in-Err-drain-clause-cause g c =
    let at = c.in-Ok.ensures.id in
    ends_for _ _ _ _ _ _ _ _ c.args.known.now at.0 at.2
    (is_current c.args.stanza.now (g.D.Disk.state c.args.repo.now).view.now (g.T.DataFolder.state c.args.tree.now).nodes c.args.known.now c.in-Ok.id
    (archive_info_of c.args.info.now) c.requires.shows c.requires.pair at) c.in-Err-drain.halt c.in-Err-drain.ensures.cause

-- ---- where the current cluster is another one

pub returns-in-Err-clause-receipts : goal.returns-in-Err-clause-receipts
returns-in-Err-clause-receipts g c =
    let at = c.in-Err.ensures.mismatch in (
      at.0,
      kept_current c.args.stanza.now (g.D.Disk.state c.args.repo.now).view.now (archive_info_of c.args.info.now) c.requires.pair at.0 at.1,
      none_held c.args.stanza.now (id_kept at.0) (g.T.DataFolder.state c.args.tree.now).nodes (g.D.Disk.state c.args.repo.now).view (g.S.Disk.state c.args.spool.now).view,
    )

pub returns-in-Err-clause-puts : goal.returns-in-Err-clause-puts
returns-in-Err-clause-puts g c =
    let at = c.in-Err.ensures.mismatch in (
      at.0,
      kept_current c.args.stanza.now (g.D.Disk.state c.args.repo.now).view.now (archive_info_of c.args.info.now) c.requires.pair at.0 at.1,
      none_put c.args.stanza.now (id_kept at.0) (g.T.DataFolder.state c.args.tree.now).nodes (g.D.Disk.state c.args.repo.now).view,
    )

-- ---- what the drain gives and puts

pub returns-in-Ok-drain-clause-receipts : goal.returns-in-Ok-drain-clause-receipts
returns-in-Ok-drain-clause-receipts g c =
    let at = c.in-Ok.ensures.id in (
      at.0,
      kept_current c.args.stanza.now (g.D.Disk.state c.args.repo.now).view.now (archive_info_of c.args.info.now) c.requires.pair at.0 at.1,
      if_known (g.T.DataFolder.state c.args.tree.now).nodes _ (λ f is. each_held c.args.stanza.now c.in-Ok.id c.args.known.now.system f _ _ _ _ c.drain.result (c.drain.ensures.drains f is)
          (under c.args.stanza.now (g.D.Disk.state c.args.repo.now).view.now (g.T.DataFolder.state c.args.tree.now).nodes c.args.known.now c.in-Ok.id
          (archive_info_of c.args.info.now) c.requires.shows c.requires.pair at) at.0 at.2),
    )

pub returns-in-Ok-drain-clause-puts : goal.returns-in-Ok-drain-clause-puts
returns-in-Ok-drain-clause-puts g c =
    let at = c.in-Ok.ensures.id in (
      at.0,
      kept_current c.args.stanza.now (g.D.Disk.state c.args.repo.now).view.now (archive_info_of c.args.info.now) c.requires.pair at.0 at.1,
      if_known (g.T.DataFolder.state c.args.tree.now).nodes _ (λ f is. each_put c.args.stanza.now c.in-Ok.id c.args.known.now.system f _ _ _ _ c.drain.result (c.drain.ensures.drains f is)
          (under c.args.stanza.now (g.D.Disk.state c.args.repo.now).view.now (g.T.DataFolder.state c.args.tree.now).nodes c.args.known.now c.in-Ok.id
          (archive_info_of c.args.info.now) c.requires.shows c.requires.pair at) at.0 at.2),
    )

pub returns-in-Err-drain-clause-receipts : goal.returns-in-Err-drain-clause-receipts
returns-in-Err-drain-clause-receipts g c =
    let at = c.in-Ok.ensures.id in (
      at.0,
      kept_current c.args.stanza.now (g.D.Disk.state c.args.repo.now).view.now (archive_info_of c.args.info.now) c.requires.pair at.0 at.1,
      if_known (g.T.DataFolder.state c.args.tree.now).nodes _ (λ f is. each_held c.args.stanza.now c.in-Ok.id c.args.known.now.system f _ _ _ _ c.drain.result (c.drain.ensures.drains f is)
          (under c.args.stanza.now (g.D.Disk.state c.args.repo.now).view.now (g.T.DataFolder.state c.args.tree.now).nodes c.args.known.now c.in-Ok.id
          (archive_info_of c.args.info.now) c.requires.shows c.requires.pair at) at.0 at.2),
    )

pub returns-in-Err-drain-clause-puts : goal.returns-in-Err-drain-clause-puts
returns-in-Err-drain-clause-puts g c =
    let at = c.in-Ok.ensures.id in (
      at.0,
      kept_current c.args.stanza.now (g.D.Disk.state c.args.repo.now).view.now (archive_info_of c.args.info.now) c.requires.pair at.0 at.1,
      if_known (g.T.DataFolder.state c.args.tree.now).nodes _ (λ f is. each_put c.args.stanza.now c.in-Ok.id c.args.known.now.system f _ _ _ _ c.drain.result (c.drain.ensures.drains f is)
          (under c.args.stanza.now (g.D.Disk.state c.args.repo.now).view.now (g.T.DataFolder.state c.args.tree.now).nodes c.args.known.now c.in-Ok.id
          (archive_info_of c.args.info.now) c.requires.shows c.requires.pair at) at.0 at.2),
    )

pub returns-in-Ok-drain-clause-stays : goal.returns-in-Ok-drain-clause-stays
returns-in-Ok-drain-clause-stays g c = λ synced some.
    let at = c.in-Ok.ensures.id in
    let current = is_current c.args.stanza.now (g.D.Disk.state c.args.repo.now).view.now (g.T.DataFolder.state c.args.tree.now).nodes c.args.known.now c.in-Ok.id
    (archive_info_of c.args.info.now) c.requires.shows c.requires.pair at in
    if_known (g.T.DataFolder.state c.args.tree.now).nodes _ (λ f is. all_lasting c.args.stanza.now c.in-Ok.id c.args.known.now.system f _ _ _ _ c.drain.result (c.drain.ensures.drains f is)
    (under c.args.stanza.now (g.D.Disk.state c.args.repo.now).view.now (g.T.DataFolder.state c.args.tree.now).nodes c.args.known.now c.in-Ok.id
    (archive_info_of c.args.info.now) c.requires.shows c.requires.pair at) c.args.known.now refl at.0 at.2
    (subst (λ (o : Option Nodes). IsCurrent c.args.stanza.now (g.D.Disk.state c.args.repo.now).view.now o c.args.known.now at.0) is current) _ c.in-Ok-drain.is synced some)

-- ---- whatever is known of the data folder

pub returns-in-Err-clause-puts_only : goal.returns-in-Err-clause-puts_only
returns-in-Err-clause-puts_only g c =
    let at = c.in-Err.ensures.mismatch in (
      at.0,
      kept_current c.args.stanza.now (g.D.Disk.state c.args.repo.now).view.now (archive_info_of c.args.info.now) c.requires.pair at.0 at.1,
      some_none c.args.stanza.now (id_kept at.0) (g.D.Disk.state c.args.repo.now).view,
    )

pub returns-in-Ok-drain-clause-puts_only : goal.returns-in-Ok-drain-clause-puts_only
returns-in-Ok-drain-clause-puts_only g c =
    let at = c.in-Ok.ensures.id in (
      at.0,
      kept_current c.args.stanza.now (g.D.Disk.state c.args.repo.now).view.now (archive_info_of c.args.info.now) c.requires.pair at.0 at.1,
      subst (λ (i : ArchiveId). PutsSome c.args.stanza.now i (g.D.Disk.state c.args.repo.now) (g.D.Disk.state c.drain.new.repo)) at.2 c.drain.ensures.puts_only,
    )

pub returns-in-Err-drain-clause-puts_only : goal.returns-in-Err-drain-clause-puts_only
returns-in-Err-drain-clause-puts_only g c =
    let at = c.in-Ok.ensures.id in (
      at.0,
      kept_current c.args.stanza.now (g.D.Disk.state c.args.repo.now).view.now (archive_info_of c.args.info.now) c.requires.pair at.0 at.1,
      subst (λ (i : ArchiveId). PutsSome c.args.stanza.now i (g.D.Disk.state c.args.repo.now) (g.D.Disk.state c.drain.new.repo)) at.2 c.drain.ensures.puts_only,
    )
