use Rattle.std.proofs.Common.{List, Option, map, sym, subst}
use Rattle.std.specs.Prelude.{IfSome}
use Rattle.base_devices.specs.declared.data_folder.FolderEntry.{FolderEntry}
use Rattle.base_devices.specs.DataFolder.{Nodes, IsTreeListing}
use Rattle.restore_steps.specs.Clearing.{seen_of}
use Rattle.test_backup_offline.proofs.restores.restored.Goals as goal

pub restore_files-ending-requires-clause-seen : goal.restore_files-ending-requires-clause-seen
restore_files-ending-requires-clause-seen g c =
    let seen = c.deref-2.result.now in
    subst (λ (o : Option Nodes). IfSome o (λ f. IsTreeListing f (map seen_of seen))) (sym c.list.ensures.looks.nodes)
    (subst (λ (ss : List FolderEntry). IfSome (g.T.DataFolder.state c.args.tree.now).nodes (λ f. IsTreeListing f (map seen_of ss))) (sym c.deref-2.ensures.value) c.in-Ok-list.ensures.listing)
