use Rattle.std.proofs.Common.{◌∙◌, map}
use Rattle.std.proofs.lemmas.List.{length-map}
use Rattle.std.proofs.lemmas.Result.{IfOk-weaker}
use Rattle.base_model.specs.Values.{file_entry_of}
use Rattle.backup_plan.specs.Views.{taken_of}
use Rattle.worker_pool.proofs.Links.{left_all}
use Rattle.cmd_backup_offline.proofs.Left.{left_ready, on_ok_as}
use Rattle.cmd_backup_offline.proofs.Marks.{marked_length}
use Rattle.cmd_backup_offline.proofs.equal.find_equal.Goals as goal

pub returns-then-delta-clause-same : goal.returns-then-delta-clause-same
returns-then-delta-clause-same g c =
    let files = c.args.listing.now.files.items in
    IfOk-weaker c.digest_files.result _ _
    (λ equal marked. marked_length (map g.L.Link.link_state c.args.pool.now.links.items) (map file_entry_of c.args.old.now) (map taken_of files) equal.items marked ∙ length-map files taken_of)
    c.digest_files.ensures.marked

pub returns-then-delta-clause-ready : goal.returns-then-delta-clause-ready
returns-then-delta-clause-ready g c =
    on_ok_as c.digest_files.result _ _
    (left_ready (map g.L.Link.link_state c.args.pool.now.links.items) (map g.L.Link.link_state c.digest_files.new.pool.links.items) c.args.pool.now.lost.items c.digest_files.new.pool.lost.items)
    c.digest_files.ensures.left

pub returns-clause-left : goal.returns-clause-left
returns-clause-left g c = left_all (map g.L.Link.link_state c.args.pool.now.links.items) c.args.pool.now.lost.items c.requires.ready
