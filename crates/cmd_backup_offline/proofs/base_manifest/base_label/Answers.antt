use Rattle.std.proofs.Common.{sym, ◌∙◌, ap, map, subst, option_map, List, Option, Bor}
use Rattle.std.specs.Prelude.{IfSome}
use Rattle.base_model.specs.declared.labels.Entry as rust_entry
use Rattle.base_model.specs.InfoFiles.{IsLabel}
use Rattle.base_model.specs.Values.{Entry, backup_info_of, entry_of}
use Rattle.cmd_backup_common.specs.Priors.{prior_for}
use Rattle.cmd_backup_offline.proofs.Bases.{base_rules}
use Rattle.cmd_backup_offline.proofs.base_manifest.base_label.Goals as goal

pub returns-in-Some-clause-rules : goal.returns-in-Some-clause-rules
returns-in-Some-clause-rules c =
    let cluster = c.current_cluster-cluster.result in
    let view = λ (o : Option (Bor rust_entry.Entry)). option_map (λ e. entry_of e.now) o in
    let listed = ap (λ (es : List rust_entry.Entry). prior_for c.args.kind cluster.id (map entry_of es)) c.deref.ensures.value in
    let is = sym (c.prior_of.ensures ∙ listed) ∙ ap view c.in-Some.is in
    subst (λ (o : Option Entry). IfSome (option_map (λ (e : Entry). e.label) o) IsLabel) is (base_rules c.args.kind (backup_info_of c.args.list.now) c.requires cluster c.current_cluster-cluster.ensures.current)
