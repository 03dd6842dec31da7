use Rattle.std.proofs.Common.{true, inl, map, List, subst}
use Rattle.base_devices.specs.declared.data_folder.FolderEntry as rust_seen
use Rattle.base_model.specs.Values.{file_entry_of}
use Rattle.backup_plan.specs.Views.{seen_of}
use Rattle.cmd_types.specs.Halts.{HaltCause}
use Rattle.cmd_backup_common.proofs.Free.{label_free}
use Rattle.cmd_backup_common.proofs.Beginnings.{halt_as}
use Rattle.cmd_backup_online.specs.Drafting.{ListingCause, UndraftedCause}
use Rattle.cmd_backup_online.proofs.Draftings.{plan_cause, takes_of}
use Rattle.cmd_backup_online.proofs.running_draft.draft_running.Goals as goal

pub returns-in-Err-clause-cause : goal.returns-in-Err-clause-cause
returns-in-Err-clause-cause g c =
    let seen = map seen_of c.nodes_of.result.now in
    let links = map g.L.Link.link_state c.args.pool.now.links.items in
    let before = c.args.pool.now.lost.items in
    let files = map file_entry_of c.args.basis.now.old.now in
    subst (λ (ns : List rust_seen.FolderEntry). HaltCause (UndraftedCause (map seen_of ns) links before files) (λ _. ⊥) c.of_plan.result) c.nodes_of.ensures
    (halt_as (ListingCause seen) (UndraftedCause seen links before files) (λ _. ⊥) (λ _. ⊥) (λ e h. inl h) (λ o h. h) c.of_plan.result
    (plan_cause seen c.filter.result c.in-Err.fault c.of_plan.result c.of_plan.ensures c.in-Err.ensures.refused c.filter.ensures.orderly c.in-Err.is))

pub returns-in-Ok-draft_listed-clause-free : goal.returns-in-Ok-draft_listed-clause-free
returns-in-Ok-draft_listed-clause-free g c =
    let seen = map seen_of c.args.seen.now.nodes.items in
    let takes = takes_of c.nodes_of.result.now c.args.seen.now.nodes.items c.nodes_of.ensures _ _ c.in-Ok.ensures.takes in
    label_free c.in-Ok-draft_listed.draft seen (c.in-Ok-draft_listed.ensures.later true seen takes).takes

pub returns-in-Ok-draft_listed-clause-later : goal.returns-in-Ok-draft_listed-clause-later
returns-in-Ok-draft_listed-clause-later g c =
    let takes = takes_of c.nodes_of.result.now c.args.seen.now.nodes.items c.nodes_of.ensures _ _ c.in-Ok.ensures.takes in
    c.in-Ok-draft_listed.ensures.later true (map seen_of c.args.seen.now.nodes.items) takes
