use Rattle.std.proofs.Common.{Some, sym, ap, ◌∙◌, arith}
use Rattle.std.specs.Prelude.{codes}
use Rattle.serde_json.specs.View.{view}
use Rattle.serde_json.specs.Find.{get}
use Rattle.base_model.specs.declared.clusters.Cluster.{Cluster}
use Rattle.base_model.specs.Fields.{whole}
use Rattle.base_model.specs.InfoFiles.{version_value}
use Rattle.repo_info.proofs.ClusterFields.{same_parts}
use Rattle.repo_keys.proofs.Scalars.{same_number, same_version, same_data}
use Rattle.repo_info.proofs.cluster_reader.members_in.Goals as goal

pub returns-clause-only : goal.returns-clause-only
returns-clause-only c = λ e rules id is.
    let catalog = same_number c.in_ok-catalog.catalog e.catalog (sym c.in_ok-catalog.ensures.some ∙ same_data (view c.in_ok-get.field-0.now) (whole e.catalog) (c.in_ok-get.ensures ∙ ap (get (codes "db-catalog-version")) is)) in
    let control = same_number c.in_ok-control.control e.control (sym c.in_ok-control.ensures.some ∙ same_data (view c.in_ok-get-2.field-0.now) (whole e.control) (c.in_ok-get-2.ensures ∙ ap (get (codes "db-control-version")) is)) in
    let system = same_number c.in_ok-system.system e.system (sym c.in_ok-system.ensures.some ∙ same_data (view c.in_ok-get-3.field-0.now) (whole e.system) (c.in_ok-get-3.ensures ∙ ap (get (codes "db-system-id")) is)) in
    let version = same_version c.in_ok-version.version e.version (omega arith) (omega (arith, rules.version)) (sym c.in_ok-version.ensures.some ∙ same_data (view c.in_ok-get-4.field-0.now) (version_value e.version) (c.in_ok-get-4.ensures ∙ ap (get (codes "db-version")) is)) in
    ap (λ (x : Cluster). Some x) (same_parts (record { id = c.args.id; system = c.in_ok-system.system; version = c.in_ok-version.version; control = c.in_ok-control.control; catalog = c.in_ok-catalog.catalog }) e (sym id) system version control catalog)
