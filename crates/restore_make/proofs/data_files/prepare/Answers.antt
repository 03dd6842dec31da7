use Rattle.std.proofs.Common.{◌≡◌, ◌∙◌, true, sym, ap, subst, List, map, option_map, string_bytes}
use Rattle.std.proofs.lemmas.Result.{on_ok_weaker}
use Rattle.base_devices.specs.Order.{are_in_order}
use Rattle.base_model.specs.ManifestText.{HasItsFolders}
use Rattle.base_model.specs.Text.{Text, In}
use Rattle.base_model.specs.Values.{FileEntry, file_entry_of, manifest_of}
use Rattle.restore_steps.specs.Clearing.{control_path, seen_of, with_folders, ArePlaced, Bares}
use Rattle.restore_steps.proofs.Nodes.{none_at}
use Rattle.restore_make.proofs.Plain.{bare_no_control}
use Rattle.restore_make.proofs.Prepared.{are_placed, have_folders, then_folders}
use Rattle.restore_make.proofs.data_files.prepare.Goals as goal

pub begin_bare-requires : goal.begin_bare-requires
begin_bare-requires g c = record { order = subst (λ (es : List FileEntry). are_in_order (map (λ (e : FileEntry). e.path) es) ≡ true) (sym (ap (map file_entry_of) c.deref-2.ensures.value)) c.requires.rules.file_order }

pub returns-clause-control : goal.returns-clause-control
returns-clause-control g c = λ was. none_at control_path (g.T.DataFolder.state c.make_folders.new.tree).nodes (g.T.DataFolder.state c.begin_bare.new.tree).nodes (c.begin_bare.ensures.others control_path (λ e i bare is. bare_no_control e bare (sym is))) (c.make_folders.ensures.control (c.clear.ensures.control was))

pub returns-in_err-clear-clause-proper : goal.returns-in_err-clear-clause-proper
returns-in_err-clear-clause-proper g c = λ listed. c.clear.ensures.proper listed (have_folders (manifest_of c.args.manifest.now) c.requires.rules)

pub returns-in_err-make_folders-clause-proper : goal.returns-in_err-make_folders-clause-proper
returns-in_err-make_folders-clause-proper g c = λ listed.
    let m = manifest_of c.args.manifest.now in
    let folders : map string_bytes c.deref.result.now ≡ m.folders = ap (map string_bytes) c.deref.ensures.value in
    c.make_folders.ensures.proper (ap are_in_order folders ∙ c.requires.rules.folder_order) (subst (λ (ps : List Text). (p : Text) → In p ps → HasItsFolders ps p) (sym folders) (λ p i. (c.requires.rules.folders p i).placed))
    ∙ c.clear.ensures.proper listed (have_folders m c.requires.rules)

pub returns-clause-proper : goal.returns-clause-proper
returns-clause-proper g c = λ listed.
    let m = manifest_of c.args.manifest.now in
    let folders : map string_bytes c.deref.result.now ≡ m.folders = ap (map string_bytes) c.deref.ensures.value in
    let files : map file_entry_of c.deref-2.result.now ≡ m.files = ap (map file_entry_of) c.deref-2.ensures.value in
    let mid = (g.T.DataFolder.state c.clear.new.tree).nodes in
    let made = (g.T.DataFolder.state c.make_folders.new.tree).nodes in
    c.begin_bare.ensures.proper
    (subst (λ (es : List FileEntry). ArePlaced es made) (sym files) (are_placed m c.requires.rules mid made (c.in_ok-make_folders.ensures.made ∙ ap (λ (ps : List Text). option_map (with_folders ps) mid) folders)))
    ∙ c.make_folders.ensures.proper (ap are_in_order folders ∙ c.requires.rules.folder_order) (subst (λ (ps : List Text). (p : Text) → In p ps → HasItsFolders ps p) (sym folders) (λ p i. (c.requires.rules.folders p i).placed))
    ∙ c.clear.ensures.proper listed (have_folders m c.requires.rules)

pub returns-clause-ready : goal.returns-clause-ready
returns-clause-ready g c =
    let m = manifest_of c.args.manifest.now in
    let ss = map seen_of c.args.seen.now in
    let old = (g.T.DataFolder.state c.args.tree.now).nodes in
    let mid = (g.T.DataFolder.state c.clear.new.tree).nodes in
    let made = (g.T.DataFolder.state c.make_folders.new.tree).nodes in
    let new = (g.T.DataFolder.state c.begin_bare.new.tree).nodes in
    let folders : map string_bytes c.deref.result.now ≡ m.folders = ap (map string_bytes) c.deref.ensures.value in
    let files : map file_entry_of c.deref-2.result.now ≡ m.files = ap (map file_entry_of) c.deref-2.ensures.value in
    let made_is = then_folders m.folders m ss old mid made c.in_ok-clear.ensures.cleared (c.in_ok-make_folders.ensures.made ∙ ap (λ (ps : List Text). option_map (with_folders ps) mid) folders) in
    on_ok_weaker c.begin_bare.result
    (λ bares. record { mid = made; mid_is = made_is; bares = subst (λ (es : List FileEntry). Bares es made new) files bares })
    c.begin_bare.ensures.bares
