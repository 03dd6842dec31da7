use Rattle.std.proofs.Common.{◌∙◌, List, length, sym, ap, map, option_map, string_bytes, subst}
use Rattle.std.proofs.lemmas.List.{length-map}
use Rattle.base_devices.specs.Order.{are_in_order}
use Rattle.base_model.specs.Values.{FileEntry, Manifest, backup_info_of, manifest_of, file_entry_of}
use Rattle.backup_plan.specs.declared.values.Taken as rust
use Rattle.backup_plan.specs.Views.{taken_of}
use Rattle.backup_record.specs.Entries.{entries}
use Rattle.backup_record.specs.Faults.{HasControl}
use Rattle.backup_record.specs.Further.{with_further}
use Rattle.backup_record.specs.Making as making
use Rattle.backup_record.specs.Views.{went_of}
use Rattle.backup_record.proofs.Whole.{count, order, small_manifest, manifest_rules, info_rules, still_control}
use Rattle.backup_record.proofs.Extended.{each_added}
use Rattle.backup_record.proofs.manifest_record.record_of.Goals as goal

pub entries_of-requires : goal.entries_of-requires
entries_of-requires c = count (went_of c.args.ran.now) (map taken_of c.args.listing.files.items) c.args.choices.now (map string_bytes c.args.listing.folders.items) c.requires.listing c.requires.came
    ∙ length-map c.args.listing.files.items taken_of ∙ ap (λ (fs : List rust.Taken). length fs) (sym c.deref.ensures.value)

pub check_control-requires : goal.check_control-requires
check_control-requires c =
    let w = went_of c.args.ran.now in
    let files = ap (map file_entry_of) c.deref-2.ensures.value ∙ c.in_ok-entries.ensures ∙ ap (λ (fs : List rust.Taken). entries w (map taken_of fs) c.args.choices.now) c.deref.ensures.value in
    ap (λ (es : List FileEntry). are_in_order (map (λ (e : FileEntry). e.path) es)) files ∙ order w (map taken_of c.args.listing.files.items) c.args.choices.now (map string_bytes c.args.listing.folders.items) c.requires.listing c.requires.came

pub list_with-requires : goal.list_with-requires
list_with-requires c =
    let w = went_of c.args.ran.now in
    let x = option_map file_entry_of c.args.further in
    let may = each_added c.args.further (map taken_of c.args.listing.files.items) (map string_bytes c.args.listing.folders.items) c.requires.further in
    let files = c.in_ok-add_further.ensures ∙ ap (with_further x) (c.in_ok-entries.ensures ∙ ap (λ (fs : List rust.Taken). entries w (map taken_of fs) c.args.choices.now) c.deref.ensures.value) in
    let is = c.manifest_with-manifest.ensures ∙ ap (λ (es : List FileEntry). making.manifest_with c.args.head.now es (map string_bytes c.args.listing.folders.items)) files in
    small_manifest w (map taken_of c.args.listing.files.items) c.args.choices.now (map string_bytes c.args.listing.folders.items) c.requires.listing c.requires.came x may c.args.head.now (backup_info_of c.args.before) c.requires.list c.requires.follows (manifest_of c.manifest_with-manifest.result) is

pub returns-clause-manifest_rules : goal.returns-clause-manifest_rules
returns-clause-manifest_rules c =
    let w = went_of c.args.ran.now in
    let x = option_map file_entry_of c.args.further in
    let may = each_added c.args.further (map taken_of c.args.listing.files.items) (map string_bytes c.args.listing.folders.items) c.requires.further in
    let files = c.in_ok-add_further.ensures ∙ ap (with_further x) (c.in_ok-entries.ensures ∙ ap (λ (fs : List rust.Taken). entries w (map taken_of fs) c.args.choices.now) c.deref.ensures.value) in
    let is = c.manifest_with-manifest.ensures ∙ ap (λ (es : List FileEntry). making.manifest_with c.args.head.now es (map string_bytes c.args.listing.folders.items)) files in
    manifest_rules w (map taken_of c.args.listing.files.items) c.args.choices.now (map string_bytes c.args.listing.folders.items) c.requires.listing c.requires.came x may c.args.head.now (backup_info_of c.args.before) c.requires.list c.requires.follows (manifest_of c.manifest_with-manifest.result) is

pub returns-clause-info_rules : goal.returns-clause-info_rules
returns-clause-info_rules c =
    let w = went_of c.args.ran.now in
    let x = option_map file_entry_of c.args.further in
    let may = each_added c.args.further (map taken_of c.args.listing.files.items) (map string_bytes c.args.listing.folders.items) c.requires.further in
    let files = c.in_ok-add_further.ensures ∙ ap (with_further x) (c.in_ok-entries.ensures ∙ ap (λ (fs : List rust.Taken). entries w (map taken_of fs) c.args.choices.now) c.deref.ensures.value) in
    let is = c.manifest_with-manifest.ensures ∙ ap (λ (es : List FileEntry). making.manifest_with c.args.head.now es (map string_bytes c.args.listing.folders.items)) files in
    info_rules w (map taken_of c.args.listing.files.items) c.args.choices.now (map string_bytes c.args.listing.folders.items) c.requires.listing c.requires.came x may c.args.head.now (backup_info_of c.args.before) c.requires.list c.requires.follows (manifest_of c.manifest_with-manifest.result) is (backup_info_of c.in_ok-info.info) c.in_ok-info.ensures

pub returns-clause-control : goal.returns-clause-control
returns-clause-control c =
    let w = went_of c.args.ran.now in
    let fs = map taken_of c.args.listing.files.items in
    let x = option_map file_entry_of c.args.further in
    let may = each_added c.args.further fs (map string_bytes c.args.listing.folders.items) c.requires.further in
    let found = c.in_ok-entries.ensures ∙ ap (λ (fs : List rust.Taken). entries w (map taken_of fs) c.args.choices.now) c.deref.ensures.value in
    let has = subst HasControl (ap (map file_entry_of) c.deref-2.ensures.value ∙ found) c.in_ok-check_control.ensures.there in
    let files = ap (λ (m : Manifest). m.files) c.manifest_with-manifest.ensures ∙ c.in_ok-add_further.ensures ∙ ap (with_further x) found in
    subst HasControl (sym files) (still_control w fs c.args.choices.now (map string_bytes c.args.listing.folders.items) c.requires.listing c.requires.came x may has)
