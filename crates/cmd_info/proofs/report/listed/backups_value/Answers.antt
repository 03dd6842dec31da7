use Rattle.std.proofs.Common.{◌≡◌, ◌++◌, [], map, ap, sym, ◌∙◌, arith, append-nil}
use Rattle.std.specs.Vec.Iter.{into_iter_items}
use Rattle.std.proofs.lemmas.List.{nil_from_length}
use Rattle.serde_json.proofs.Views.{view-Array}
use Rattle.base_model.specs.Fields.{list_of}
use Rattle.base_model.specs.Values.{entry_of}
use Rattle.repo_ini.specs.Parts.{key_of}
use Rattle.cmd_info.specs.Labelled.{labelled_data}
use Rattle.cmd_info.proofs.Sections.{labelled_entries, taken_prefix}
use Rattle.cmd_info.proofs.report.listed.backups_value.Goals as goal

pub returns : goal.returns
returns c =
    let it = c.loop-label.label-iterator in
    let rest : into_iter_items it ≡ [] = nil_from_length (into_iter_items it) (omega (arith, it.rest.ok.0, c.in-None.ensures.steps.0)) in
    let all : c.in_ok-items.items.items ≡ c.loop-label.yielded =
    sym c.into_iter-label-iterator.ensures.into_iter_gives.0
    ∙ taken_prefix c.into_iter-label-iterator.result c.loop-label.yielded it c.loop-label.yielded_by
    ∙ ap (λ xs. c.loop-label.yielded ++ xs) rest
    ∙ append-nil c.loop-label.yielded in
    view-Array c.loop-label.backups ∙ ap list_of (c.loop-label.invariant
    ∙ ap (λ ks. map labelled_data (map key_of ks)) (sym all)
    ∙ ap (map labelled_data) c.in_ok-items.ensures
    ∙ labelled_entries (map entry_of c.args.info.now.backups.items))
