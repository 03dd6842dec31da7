use Rattle.std.proofs.Common.{◌≡◌, ◌∙◌, sym, map}
use Rattle.std.proofs.lemmas.Result.{on_ok_weaker}
use Rattle.restore_steps.specs.Clearing.{control_path, seen_of}
use Rattle.restore_make.specs.Listed.{is_control_node}
use Rattle.restore_make.proofs.Finished.{on_removed, stops_safely, but_control, listed_but, listed_none, none_there, none_after, any_map}
use Rattle.restore_make.proofs.Proper.{control_bare}
use Rattle.restore_make.proofs.HeldRead.{on_ok}
use Rattle.restore_make.proofs.folder_restore.remove_control.Goals as goal

pub returns-then-has_control-clause-listed : goal.returns-then-has_control-clause-listed
returns-then-has_control-clause-listed g c = on_removed c.remove_synced.result _ (g.T.DataFolder.state c.args.tree.now).nodes (g.T.DataFolder.state c.remove_synced.new.self).nodes c.remove_synced.ensures.nodes
    (λ is. listed_but (map seen_of c.args.seen.now) (g.T.DataFolder.state c.args.tree.now).nodes (g.T.DataFolder.state c.remove_synced.new.self).nodes c.requires.seen is)

pub returns-then-has_control-clause-none : goal.returns-then-has_control-clause-none
returns-then-has_control-clause-none g c = on_removed c.remove_synced.result _ (g.T.DataFolder.state c.args.tree.now).nodes (g.T.DataFolder.state c.remove_synced.new.self).nodes c.remove_synced.ensures.nodes
    (none_after (g.T.DataFolder.state c.args.tree.now).nodes (g.T.DataFolder.state c.remove_synced.new.self).nodes)

pub returns-then-has_control-clause-gone : goal.returns-then-has_control-clause-gone
returns-then-has_control-clause-gone g c = on_ok_weaker c.remove_synced.result (λ synced was. synced) c.remove_synced.ensures.gone

pub returns-then-has_control-clause-safe : goal.returns-then-has_control-clause-safe
returns-then-has_control-clause-safe g c = stops_safely c.remove_synced.result (g.T.DataFolder.state c.args.tree.now) (g.T.DataFolder.state c.remove_synced.new.self) c.remove_synced.ensures.nodes

pub returns-clause-listed : goal.returns-clause-listed
returns-clause-listed g c = listed_none (map seen_of c.args.seen.now) (g.T.DataFolder.state c.args.tree.now).nodes (any_map is_control_node seen_of c.args.seen.now ∙ sym c.has_control.ensures ∙ c.if-has_control.false) c.requires.seen

pub returns-clause-none : goal.returns-clause-none
returns-clause-none g c = none_there (map seen_of c.args.seen.now) (g.T.DataFolder.state c.args.tree.now).nodes (any_map is_control_node seen_of c.args.seen.now ∙ sym c.has_control.ensures ∙ c.if-has_control.false) c.requires.seen

pub returns-then-has_control-clause-others : goal.returns-then-has_control-clause-others
returns-then-has_control-clause-others g c = on_ok c.remove_synced.result _ (but_control c.remove_synced.result (g.T.DataFolder.state c.args.tree.now).nodes (g.T.DataFolder.state c.remove_synced.new.self).nodes c.remove_synced.ensures.nodes)

pub returns-then-has_control-clause-proper : goal.returns-then-has_control-clause-proper
returns-then-has_control-clause-proper g c = c.remove_synced.ensures.proper (control_bare (map seen_of c.args.seen.now) (g.T.DataFolder.state c.args.tree.now).nodes (any_map is_control_node seen_of c.args.seen.now ∙ sym c.has_control.ensures ∙ c.if-has_control.true) c.requires.seen)
