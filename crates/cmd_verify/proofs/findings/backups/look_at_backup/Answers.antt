use Rattle.std.proofs.Common.{◌↔◌, ◌∙◌, sym, subst, map, Option, Some, None}
use Rattle.std.specs.Prelude.{IfSome}
use Rattle.base_devices.specs.Content.{Content}
use Rattle.base_model.specs.declared.labels.Label.{Label}
use Rattle.base_model.specs.Log.{Lists}
use Rattle.base_model.specs.Text.{In}
use Rattle.base_model.specs.ManifestText.{IsManifest}
use Rattle.base_model.specs.Values.{manifest_of, file_entry_of}
use Rattle.cmd_verify.specs.References.{RefersTo}
use Rattle.base_model.specs.Names.{manifest_name}
use Rattle.cmd_verify.proofs.Listed.{value_at}
use Rattle.cmd_verify.proofs.Values.{if_at}
use Rattle.cmd_verify.proofs.Whole.{unread_known, read_as_known, label_of}
use Rattle.repo_text_lemmas.proofs.Manifests.{one_manifest}
use Rattle.cmd_verify.proofs.findings.backups.look_at_backup.Goals as goal

pub returns-in_default-clause-adds : goal.returns-in_default-clause-adds
returns-in_default-clause-adds g c =
    let D = g.D.Disk in
    unread_known c.args.stanza.now c.args.own.now (D.state c.args.d.now).view.now c.as_str.result.now (c.as_str.ensures.value ∙ c.in_ok-name.ensures) c.in_ok-manifest.field-0 c.in_ok-manifest.ensures.value c.args.found.now.items _ c.in_ok-manifest.ensures.adds c.in_default.is

pub look_for_references-requires : goal.look_for_references-requires
look_for_references-requires g c = λ l at.
    let rules : IsManifest (manifest_of c.in-Some.manifest) = if_at (λ m. IsManifest (manifest_of m)) c.in_ok-manifest.field-0 c.in-Some.manifest c.in-Some.is c.in_ok-manifest.ensures.rules in
    label_of (manifest_of c.in-Some.manifest) rules l (subst (λ fs. RefersTo (map file_entry_of fs) l) c.deref-2.ensures.value at)

pub look_at_files-requires-clause-listed : goal.look_at_files-requires-clause-listed
look_at_files-requires-clause-listed g c =
    subst (λ (o : Option Content). IfSome o (λ f. (k : Label) → In k c.args.lists.now.labels.now ↔ Lists c.args.stanza.now f k)) (sym c.in_ok-manifest.ensures.looks.now) c.requires.listed

pub returns-clause-adds : goal.returns-clause-adds
returns-clause-adds g c =
    let D = g.D.Disk in
    read_as_known c.args.stanza.now c.args.own.now (D.state c.args.d.now).view.now c.as_str.result.now (c.as_str.ensures.value ∙ c.in_ok-name.ensures) c.in_ok-manifest.field-0 c.in_ok-manifest.ensures.value c.args.found.now.items _ c.in_ok-manifest.ensures.adds
    c.in-Some.manifest c.in-Some.is one_manifest (D.state c.look_at_manifest.new.d).view.now c.in_ok-manifest.ensures.looks.now c.deref.result.now c.deref.ensures.value c.args.lists.now.files.now c.args.lists.now.labels.now
    _ _ _ c.requires.stored c.requires.listed c.in_ok-look_at_files.ensures.adds c.in_ok-look_for_gaps.ensures c.as_str-2.result.now (c.as_str-2.ensures.value ∙ sym c.as_str.ensures.value) c.deref-2.result.now c.deref-2.ensures.value c.in_ok-look_for_references.ensures

pub returns-in_default-clause-value : goal.returns-in_default-clause-value
returns-in_default-clause-value g c =
    let D = g.D.Disk in
    value_at (D.state c.args.d.now).view.now c.as_str.result.now (manifest_name c.args.stanza.now c.args.own.now) (c.as_str.ensures.value ∙ c.in_ok-name.ensures) c.in_ok-manifest.field-0 None c.in_default.is c.in_ok-manifest.ensures.value

pub returns-clause-value : goal.returns-clause-value
returns-clause-value g c =
    let D = g.D.Disk in
    value_at (D.state c.args.d.now).view.now c.as_str.result.now (manifest_name c.args.stanza.now c.args.own.now) (c.as_str.ensures.value ∙ c.in_ok-name.ensures) c.in_ok-manifest.field-0 (Some c.in-Some.manifest) c.in-Some.is c.in_ok-manifest.ensures.value
