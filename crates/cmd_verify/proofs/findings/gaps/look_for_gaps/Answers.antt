use Rattle.std.proofs.Common.{◌↔◌, ◌∙◌, List, subst, sym}
use Rattle.base_model.specs.declared.wal.Segment.{Segment}
use Rattle.base_model.specs.Text.{In}
use Rattle.base_model.specs.ManifestText.{IsWalPart}
use Rattle.base_model.specs.Repository.{id_of}
use Rattle.base_model.specs.Values.{manifest_of}
use Rattle.cmd_verify.specs.Gaps.{HasWhole}
use Rattle.cmd_verify.proofs.Values.{if_at}
use Rattle.cmd_verify.proofs.Spanned.{spans_none, spans_known}
use Rattle.cmd_verify.proofs.findings.gaps.look_for_gaps.Goals as goal

pub returns-in_default : goal.returns-in_default
returns-in_default c = λ f are. spans_none c.args.stanza.now f c.args.own.now (manifest_of c.args.manifest.now) c.args.files.now are c.in_default.is c.args.found.now.items

pub tell_gaps-requires : goal.tell_gaps-requires
tell_gaps-requires c = if_at IsWalPart c.args.manifest.now.wal c.in-Some.wal c.in-Some.is c.requires.rules.wal

pub returns : goal.returns
returns c = λ f are.
    let m = manifest_of c.args.manifest.now in
    spans_known c.args.stanza.now f c.args.own.now m c.args.files.now are c.in-Some.wal (if_at IsWalPart c.args.manifest.now.wal c.in-Some.wal c.in-Some.is c.requires.rules.wal) c.in-Some.is c.as_str.result.now (c.as_str.ensures.value ∙ c.in_ok-name.ensures) c.deref.result.now
    (λ s. subst (λ (ss : List Segment). In s ss ↔ HasWhole (id_of m.cluster) c.in-Some.wal.span c.args.files.now s) (sym c.deref.ensures.value) (c.in_ok-stored.ensures s)) c.args.found.now.items c.tell_gaps.new.found.items c.in_ok-tell_gaps.ensures
