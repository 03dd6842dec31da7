use Rattle.std.proofs.Common.{◌↔◌, map, List, subst, sym}
use Rattle.base_model.specs.declared.labels.Label.{Label}
use Rattle.base_model.specs.Text.{In}
use Rattle.base_model.specs.Values.{file_entry_of}
use Rattle.cmd_verify.specs.References.{RefersTo}
use Rattle.cmd_verify.proofs.Referring.{references_known}
use Rattle.cmd_verify.proofs.findings.references.look_for_references.Goals as goal

pub tell_unlisted-requires : goal.tell_unlisted-requires
tell_unlisted-requires c = λ l at. c.requires l ((c.in_ok-labels.ensures l).0 (subst (λ (ls : List Label). In l ls) c.deref.ensures.value at))

pub returns : goal.returns
returns c =
    references_known c.args.name.now (map file_entry_of c.args.files.now) c.deref.result.now c.args.listed.now
    (λ l. subst (λ (ls : List Label). In l ls ↔ RefersTo (map file_entry_of c.args.files.now) l) (sym c.deref.ensures.value) (c.in_ok-labels.ensures l)) c.args.found.now.items c.tell_unlisted.new.found.items c.in_ok-tell_unlisted.ensures
