use Rattle.std.proofs.Common.{inl, inr, map, string_bytes, refl, sym, ap, subst}
use Rattle.std.specs.Prelude.{IsTrue}
use Rattle.base_model.specs.Text.{Text, In}
use Rattle.base_model.specs.ManifestText.{data_path, HasItsFolders}
use Rattle.base_model.specs.Values.{file_entry_of}
use Rattle.repo_keys.proofs.Seeking.{here, whole_next, others_next, others_end}
use Rattle.repo_manifest.specs.Sections.{target_file, target_path, Lacks, IsPlaced, IsUnplacedFile}
use Rattle.repo_keys.proofs.Forms.{form_as}
use Rattle.repo_manifest.proofs.Forms.{no_truth}
use Rattle.repo_manifest.proofs.cross_rules.check_files.Goals as goal

pub returns-then-lacks_folder-clause-fault : goal.returns-then-lacks_folder-clause-fault
returns-then-lacks_folder-clause-fault c =
    let files = c.args.files.now in
    let file = c.file-item.result in
    let folders = map string_bytes c.args.folders.now in
    let there = here file_entry_of files c.loop-file.file-index file c.loop-file-test.true c.file-item.is c.loop-file.invariant.whole in
    let lost = subst (Lacks folders) c.as_str.ensures.value (c.lacks_folder.ensures.lacks c.if-lacks_folder.true) in
    form_as c.fault_at.result target_file (data_path c.as_str-then-lacks_folder.result.now) (IsUnplacedFile (map file_entry_of files) folders) c.fault_at.ensures
    (file_entry_of file, there, ap data_path c.as_str-then-lacks_folder.ensures.value, inl (refl, lost))

pub returns-then-is_listed-clause-fault : goal.returns-then-is_listed-clause-fault
returns-then-is_listed-clause-fault c =
    let files = c.args.files.now in
    let file = c.file-item.result in
    let folders = map string_bytes c.args.folders.now in
    let there = here file_entry_of files c.loop-file.file-index file c.loop-file-test.true c.file-item.is c.loop-file.invariant.whole in
    let listed = subst (λ (p : Text). In p folders) c.as_bytes.ensures.value (c.is_listed.ensures.0 c.if-is_listed.true) in
    form_as c.fault_at-then-is_listed.result target_path (data_path c.as_str-then-is_listed.result.now) (IsUnplacedFile (map file_entry_of files) folders) c.fault_at-then-is_listed.ensures
    (file_entry_of file, there, ap data_path c.as_str-then-is_listed.ensures.value, inr (refl, listed))

pub loop-file-preserved : goal.loop-file-preserved
loop-file-preserved c =
    let files = c.args.files.now in
    let file = c.file-item.result in
    let folders = map string_bytes c.args.folders.now in
    let placed = subst (HasItsFolders folders) c.as_str.ensures.value (c.lacks_folder.ensures.has c.if-lacks_folder.false) in
    let other = λ (i : In (string_bytes file.path) folders). no_truth (subst IsTrue c.if-is_listed.false (c.is_listed.ensures.1 (subst (λ (p : Text). In p folders) (sym c.as_bytes.ensures.value) i))) in
    record {
      whole = whole_next file_entry_of files c.loop-file.file-index file c.loop-file-test.true c.file-item.is c.loop-file.invariant.whole;
      others = others_next file_entry_of (IsPlaced folders) files c.loop-file.file-index file c.loop-file-test.true c.file-item.is (placed, other) c.loop-file.invariant.others;
    }

pub returns-clause-placed : goal.returns-clause-placed
returns-clause-placed c = others_end file_entry_of (IsPlaced (map string_bytes c.args.folders.now)) c.args.files.now c.loop-file.file-index c.loop-file-test.false c.loop-file.invariant.others
