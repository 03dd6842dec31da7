use Rattle.std.proofs.Common.{map, string_bytes, refl, ap, subst}
use Rattle.base_model.specs.ManifestText.{data_path, HasItsFolders}
use Rattle.repo_keys.proofs.Seeking.{here, whole_next, others_next, others_end}
use Rattle.repo_manifest.specs.Sections.{target_path, Lacks, IsUnplacedFolder}
use Rattle.repo_keys.proofs.Forms.{form_as}
use Rattle.repo_manifest.proofs.cross_rules.check_folders.Goals as goal

pub returns-then-lacks_folder-clause-fault : goal.returns-then-lacks_folder-clause-fault
returns-then-lacks_folder-clause-fault c =
    let xs = c.args.folders.now in
    let folder = c.folder-item.result in
    let folders = map string_bytes xs in
    let there = here string_bytes xs c.loop-folder.folder-index folder c.loop-folder-test.true c.folder-item.is c.loop-folder.invariant.whole in
    let lost = subst (Lacks folders) c.as_str.ensures.value (c.lacks_folder.ensures.lacks c.if-lacks_folder.true) in
    form_as c.fault_at.result target_path (data_path c.as_str-then-lacks_folder.result.now) (IsUnplacedFolder folders) c.fault_at.ensures
    (string_bytes folder, there, ap data_path c.as_str-then-lacks_folder.ensures.value, refl, lost)

pub loop-folder-preserved : goal.loop-folder-preserved
loop-folder-preserved c =
    let xs = c.args.folders.now in
    let folder = c.folder-item.result in
    let folders = map string_bytes xs in
    let placed = subst (HasItsFolders folders) c.as_str.ensures.value (c.lacks_folder.ensures.has c.if-lacks_folder.false) in
    record {
      whole = whole_next string_bytes xs c.loop-folder.folder-index folder c.loop-folder-test.true c.folder-item.is c.loop-folder.invariant.whole;
      others = others_next string_bytes (HasItsFolders folders) xs c.loop-folder.folder-index folder c.loop-folder-test.true c.folder-item.is placed c.loop-folder.invariant.others;
    }

pub returns-clause-placed : goal.returns-clause-placed
returns-clause-placed c = others_end string_bytes (HasItsFolders (map string_bytes c.args.folders.now)) c.args.folders.now c.loop-folder.folder-index c.loop-folder-test.false c.loop-folder.invariant.others
