use Rattle.std.proofs.Common.{subst, sym, map, List, Option}
use Rattle.std.specs.Prelude.{IfSome}
use Rattle.std.proofs.lemmas.List.{take_all}
use Rattle.base_devices.specs.Content.{Content}
use Rattle.base_model.specs.declared.files.FileEntry.{FileEntry as RustEntry}
use Rattle.base_model.specs.Values.{FileEntry, file_entry_of}
use Rattle.cmd_verify.specs.Adding.{AddsMost, OfSome, Never}
use Rattle.cmd_verify.specs.Sharing.{ReferredDeviates, IsElsewhere, AreFilesOf}
use Rattle.cmd_verify.proofs.Adding.{item_in}
use Rattle.cmd_verify.proofs.Most.{most_start, most_step}
use Rattle.cmd_verify.proofs.Shared.{never_own}
use Rattle.base_devices.proofs.States.{looks_on}
use Rattle.cmd_verify.proofs.Looking.{looks_still}
use Rattle.cmd_verify.proofs.findings.shared_files.look_at_label.Goals as goal

pub loop-file-init : goal.loop-file-init
loop-file-init g c = let D = g.D.Disk in record {
  adds = most_start (λ (f : Content) (e : FileEntry). ReferredDeviates c.args.stanza.now f c.args.backup.now.label.now c.args.other.now.label.now e) (λ (f : Content) (e : FileEntry). Never) (IsElsewhere c.args.stanza.now) (D.state c.args.d.now).view.now c.args.found.now.items;
  looks = looks_still (D.state c.args.d.now);
}

pub look_at_referring-requires-clause-reference : goal.look_at_referring-requires-clause-reference
look_at_referring-requires-clause-reference g c =
    c.requires.references (file_entry_of c.file-item.result) (item_in file_entry_of c.args.backup.now.files.now c.loop-file.file-index c.file-item.result c.loop-file-test.true c.file-item.is)

pub look_at_referring-requires-clause-others : goal.look_at_referring-requires-clause-others
look_at_referring-requires-clause-others g c =
    subst (λ (o : Option Content). IfSome o (λ f. AreFilesOf c.args.stanza.now f c.args.other.now.label.now (map file_entry_of c.args.other.now.files.now))) (sym c.loop-file.invariant.looks.now) c.requires.others

pub loop-file-preserved : goal.loop-file-preserved
loop-file-preserved g c =
    let D = g.D.Disk in
    let l = c.loop-file in
    let i = l.invariant in
    record {
      adds = most_step (λ (f : Content) (e : FileEntry). ReferredDeviates c.args.stanza.now f c.args.backup.now.label.now c.args.other.now.label.now e) (λ (f : Content) (e : FileEntry). Never) (IsElsewhere c.args.stanza.now) file_entry_of (D.state c.args.d.now).view.now (D.state l.d).view.now
          c.args.backup.now.files.now l.file-index c.file-item.result c.args.found.now.items l.found.items c.look_at_referring.new.found.items c.loop-file-test.true c.file-item.is i.looks.now i.adds c.in_ok-look_at_referring.ensures.adds;
      looks = looks_on (D.state c.args.d.now) (D.state l.d) (D.state c.look_at_referring.new.d) i.looks c.look_at_referring.ensures.looks;
    }

pub returns-clause-adds : goal.returns-clause-adds
returns-clause-adds g c = let D = g.D.Disk in
    let l = c.loop-file in
    never_own (λ f. OfSome (ReferredDeviates c.args.stanza.now f c.args.backup.now.label.now c.args.other.now.label.now) (map file_entry_of c.args.backup.now.files.now)) (IsElsewhere c.args.stanza.now) (map file_entry_of c.args.backup.now.files.now) (D.state c.args.d.now).view.now c.args.found.now.items l.found.items
    (subst (λ (es : List RustEntry). IfSome (D.state c.args.d.now).view.now (λ f. AddsMost (OfSome (ReferredDeviates c.args.stanza.now f c.args.backup.now.label.now c.args.other.now.label.now) (map file_entry_of es)) (OfSome (λ (e : FileEntry). Never) (map file_entry_of es)) (IsElsewhere c.args.stanza.now f) c.args.found.now.items l.found.items))
    (take_all l.file-index c.args.backup.now.files.now c.loop-file-test.false) l.invariant.adds)
