use Rattle.std.proofs.Common.{option_map, take, refl, subst}
use Rattle.repo_stanza.specs.declared.control.ControlFault.TheVariants.{ControlShort, VersionText, VersionUnsupported}
use Rattle.repo_stanza.specs.ControlFile.{IsRefused}
use Rattle.cmd_types.specs.Cluster.{control_bytes, version_bytes}
use Rattle.cmd_setup.proofs.Prefixes.{as_read, folder_shows, folder_refuses}
use Rattle.cmd_setup.proofs.cluster.read_cluster.Goals as goal

pub returns-in-Ok-clause-known : goal.returns-in-Ok-clause-known
returns-in-Ok-clause-known g c = folder_shows (g.T.DataFolder.state c.args.tree.now).nodes c.deref.result.now c.deref-2.result.now c.in-Ok.known
    (as_read _ _ (λ f. option_map (take 16) (control_bytes f)) _ _ refl c.deref.ensures.value c.in_ok-control.ensures.bytes)
    (as_read _ _ (λ f. option_map (take 33) (version_bytes f)) _ _ c.read_control_file.ensures.looks.nodes c.deref-2.ensures.value c.in_ok-version.ensures.bytes)
    c.in-Ok.ensures.known

pub returns-in-Err-ControlShort-clause-cause : goal.returns-in-Err-ControlShort-clause-cause
returns-in-Err-ControlShort-clause-cause g c = folder_refuses (g.T.DataFolder.state c.args.tree.now).nodes c.deref.result.now c.deref-2.result.now (ControlShort c.in-Err-ControlShort.length)
    (as_read _ _ (λ f. option_map (take 16) (control_bytes f)) _ _ refl c.deref.ensures.value c.in_ok-control.ensures.bytes)
    (as_read _ _ (λ f. option_map (take 33) (version_bytes f)) _ _ c.read_control_file.ensures.looks.nodes c.deref-2.ensures.value c.in_ok-version.ensures.bytes)
    (subst (IsRefused c.deref.result.now c.deref-2.result.now) c.in-Err-ControlShort.field-0-is c.in-Err-ControlShort.ensures.refused)

pub returns-in-Err-VersionText-clause-cause : goal.returns-in-Err-VersionText-clause-cause
returns-in-Err-VersionText-clause-cause g c = folder_refuses (g.T.DataFolder.state c.args.tree.now).nodes c.deref.result.now c.deref-2.result.now VersionText
    (as_read _ _ (λ f. option_map (take 16) (control_bytes f)) _ _ refl c.deref.ensures.value c.in_ok-control.ensures.bytes)
    (as_read _ _ (λ f. option_map (take 33) (version_bytes f)) _ _ c.read_control_file.ensures.looks.nodes c.deref-2.ensures.value c.in_ok-version.ensures.bytes)
    (subst (IsRefused c.deref.result.now c.deref-2.result.now) c.in-Err-VersionText.field-0-is c.in-Err-VersionText.ensures.refused)

pub returns-clause-cause : goal.returns-clause-cause
returns-clause-cause g c = folder_refuses (g.T.DataFolder.state c.args.tree.now).nodes c.deref.result.now c.deref-2.result.now (VersionUnsupported c.in-Err-VersionUnsupported.version)
    (as_read _ _ (λ f. option_map (take 16) (control_bytes f)) _ _ refl c.deref.ensures.value c.in_ok-control.ensures.bytes)
    (as_read _ _ (λ f. option_map (take 33) (version_bytes f)) _ _ c.read_control_file.ensures.looks.nodes c.deref-2.ensures.value c.in_ok-version.ensures.bytes)
    (subst (IsRefused c.deref.result.now c.deref-2.result.now) c.in-Err-VersionUnsupported.field-0-is c.in-Err-VersionUnsupported.ensures.refused)
