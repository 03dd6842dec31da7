use Rattle.std.proofs.Common.{[], ◌∷◌, ◌∙◌, sym, subst}
use Rattle.std.specs.Prelude.{Option}
use Rattle.base_devices.specs.DataFolder.{Nodes}
use Rattle.base_disk.proofs.Changes.{only_none}
use Rattle.base_model.specs.Names.{wal_text}
use Rattle.base_model.specs.Text.{Text}
use Rattle.cmd_archive_push.specs.LogFile.{IsOpened}
use Rattle.cmd_archive_push.specs.WalPath.{wal_path}
use Rattle.cmd_archive_push_async.proofs.Following.{drains_not, look_drains, look_ends, skips_few, later_ends}
use Rattle.cmd_archive_push_async.proofs.Paired.{pair_same}
use Rattle.cmd_archive_push_async.proofs.Putting.{some_none}
use Rattle.cmd_archive_push_async.proofs.files.marked_store.store_file.Goals as goal

pub returns-in_default-clause-drains : goal.returns-in_default-clause-drains
returns-in_default-clause-drains g c = λ f is. drains_not c.args.to.now.stanza.now c.args.to.now.id c.args.to.now.system f (c.args.name ∷ []) _ _

pub returns-in_default-clause-repo_only : goal.returns-in_default-clause-repo_only
returns-in_default-clause-repo_only g c = only_none _ _

pub returns-in_default-clause-spool_only : goal.returns-in_default-clause-spool_only
returns-in_default-clause-spool_only g c = only_none _ _

pub store_log-requires : goal.store_log-requires
store_log-requires g c = record {
  opened =
      subst (λ (o : Option Nodes). IsOpened o (wal_path (wal_text c.args.name)) c.in-Ok-open_log_file.log) (sym c.open_log_file.ensures.looks.nodes)
      (subst (λ (t : Text). IsOpened (g.T.DataFolder.state c.args.tree.now).nodes (wal_path t) c.in-Ok-open_log_file.log) (c.as_str-2.ensures.value ∙ c.in-Ok.ensures) c.in-Ok-open_log_file.ensures.opened);
}

pub returns-clause-drains : goal.returns-clause-drains
returns-clause-drains g c = λ f is. c.store_log.ensures.drains f (c.open_log_file.ensures.looks.nodes ∙ is)

pub returns-clause-cause : goal.returns-clause-cause
returns-clause-cause g c =
    later_ends c.args.to.now.stanza.now c.args.to.now.id _ _ _ c.args.name _ _ _ _ _ c.open_log_file.ensures.looks.nodes c.open_log_file.ensures.looks.later c.store_log.result c.store_log.ensures.cause

pub returns-in-Err-clause-drains : goal.returns-in-Err-clause-drains
returns-in-Err-clause-drains g c = λ f is.
    look_drains c.args.to.now.stanza.now c.args.to.now.id (g.T.DataFolder.state c.args.tree.now).nodes (g.D.Disk.state c.args.repo.now).view.now c.args.name c.as_str.result.now c.as_str-2.result.now c.limit_of-limit.result ⊥ ⊥ _
    (c.as_str-2.ensures.value ∙ c.in-Ok.ensures) c.limit_of-limit.ensures.limit c.args.to.now.system f is c.in-Err.halt c.in-Err.ensures.cause c.skip_missing.result c.skip_missing.ensures _ _

pub returns-in-Err-clause-cause : goal.returns-in-Err-clause-cause
returns-in-Err-clause-cause g c =
    look_ends c.args.to.now.stanza.now c.args.to.now.id (g.T.DataFolder.state c.args.tree.now).nodes (g.D.Disk.state c.args.repo.now).view.now c.args.name c.as_str.result.now c.as_str-2.result.now c.limit_of-limit.result _ _ _
    (c.as_str-2.ensures.value ∙ c.in-Ok.ensures) c.limit_of-limit.ensures.limit c.in-Err.halt c.in-Err.ensures.cause c.skip_missing.result c.skip_missing.ensures

pub returns-in-Err-clause-few : goal.returns-in-Err-clause-few
returns-in-Err-clause-few g c = skips_few c.in-Err.halt c.skip_missing.result c.skip_missing.ensures

pub returns-in-Err-clause-repo_only : goal.returns-in-Err-clause-repo_only
returns-in-Err-clause-repo_only g c = only_none _ _

pub returns-in-Err-clause-spool_only : goal.returns-in-Err-clause-spool_only
returns-in-Err-clause-spool_only g c = only_none _ _

pub returns-in_default-clause-pair : goal.returns-in_default-clause-pair
returns-in_default-clause-pair g c = pair_same c.args.to.now.stanza.now _

pub returns-in-Err-clause-pair : goal.returns-in-Err-clause-pair
returns-in-Err-clause-pair g c = pair_same c.args.to.now.stanza.now _

pub returns-in_default-clause-puts_only : goal.returns-in_default-clause-puts_only
returns-in_default-clause-puts_only g c = some_none c.args.to.now.stanza.now c.args.to.now.id (g.D.Disk.state c.args.repo.now).view

pub returns-in-Err-clause-puts_only : goal.returns-in-Err-clause-puts_only
returns-in-Err-clause-puts_only g c = some_none c.args.to.now.stanza.now c.args.to.now.id (g.D.Disk.state c.args.repo.now).view
