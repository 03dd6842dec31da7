-- What a backup takes of a running server leaves the path of the label file free.
use Rattle.std.proofs.Common.{true, refl, subst, List}
use Rattle.base_devices.specs.declared.data_folder.Node.TheVariants as nodes
use Rattle.base_model.specs.Text.{Text, In}
use Rattle.backup_plan.specs.Filter.{ListedNode, Takes, kept}
use Rattle.backup_plan.specs.Listed.{Taken}
use Rattle.backup_plan.proofs.Kept.{kept_is, not_omitted, not_named, file_node, folder_node}
use Rattle.backup_plan.proofs.Lists.{of_map}
use Rattle.backup_make.specs.declared.draft.Draft.{Draft}
use Rattle.backup_make.specs.Draft.{taken_in, folders_in, IsFree}
use Rattle.backup_make.specs.Online.{label_path}

pub label_free : (d : Draft) (seen : List ListedNode) → Takes true seen (taken_in d) (folders_in d) → IsFree d
label_free d seen takes = record {
  file = λ at. (
      let r = of_map (λ (f : Taken). f.path) (taken_in d) label_path at in
      let node = nodes.File r.0.size r.0.time in
      let k = kept_is true seen (r.0.path, node) (file_node (kept true seen) r.0 (subst (λ (fs : List Taken). In r.0 fs) takes.files r.1)) in
      not_named true label_path r.0.path node refl (not_omitted true (r.0.path, node) k.0) r.2
      );
  folder = λ at. (
      let k = kept_is true seen (label_path, nodes.Folder) (folder_node (kept true seen) label_path (subst (λ (ps : List Text). In label_path ps) takes.folders_are at)) in
      not_named true label_path label_path nodes.Folder refl (not_omitted true (label_path, nodes.Folder) k.0) refl
      );
}
