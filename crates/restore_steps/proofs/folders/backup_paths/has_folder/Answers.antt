use Rattle.std.proofs.Common.{rules, nat_cmp, ◌∙◌, string_bytes, map}
use Rattle.std.specs.Option.{is_some}
use Rattle.std.specs.Prelude.{is_ok}
use Rattle.std.specs.Cmp.Lexicographic.{slice_cmp}
use Rattle.std.proofs.lemmas.Fn.{always_returns_same}
use Rattle.worker_protocol.proofs.ItemPaths.{agree}
use Rattle.backup_plan.proofs.Among.{known}
use Rattle.restore_steps.specs.Clearing.{has_path}
use Rattle.restore_steps.proofs.Paths.{has_in, in_has}
use Rattle.restore_steps.proofs.folders.backup_paths.has_folder.Goals as goal

pub returns : goal.returns
returns c =
    let key = c.args.path.now in
    let xs = c.args.folders.now in
    let facts = c.binary_search_by.ensures.position (λ x. slice_cmp nat_cmp (string_bytes x) key) (always_returns_same _ _ _ (λ a r g called. (search rules, search rules))) in
    let among = known string_bytes key xs c.requires c.binary_search_by.result facts c.binary_search_by.ensures.bound in
    c.is_ok.ensures.value
    ∙ agree (is_ok c.binary_search_by.result) (has_path (map string_bytes xs) key) (λ t. in_has (map string_bytes xs) key (among.0 t)) (λ h. among.1 (has_in (map string_bytes xs) key h))
