use Rattle.std.proofs.Common.{subst, map, List}
use Rattle.std.specs.Prelude.{IfSome}
use Rattle.std.proofs.lemmas.List.{take_all}
use Rattle.base_devices.specs.Content.{Content}
use Rattle.base_model.specs.declared.labels.Entry.{Entry as RustEntry}
use Rattle.base_model.specs.Values.{Entry, entry_of}
use Rattle.cmd_verify.specs.Adding.{AddsMost, OfSome}
use Rattle.cmd_verify.specs.Sharing.{OwnDeviates, IsElsewhere}
use Rattle.cmd_verify.specs.Findings.{ListedDeviates}
use Rattle.cmd_verify.proofs.Adding.{item_in}
use Rattle.cmd_verify.proofs.Most.{most_start, most_step}
use Rattle.base_devices.proofs.States.{looks_on}
use Rattle.cmd_verify.proofs.Looking.{looks_still}
use Rattle.cmd_verify.proofs.findings.whole_check.look_at_backups.Goals as goal

pub loop-entry-init : goal.loop-entry-init
loop-entry-init g c = let D = g.D.Disk in record {
  adds = most_start (λ (f : Content) (e : Entry). ListedDeviates c.args.stanza.now f c.args.history.now e) (λ (f : Content) (e : Entry). OwnDeviates c.args.stanza.now f e.label) (IsElsewhere c.args.stanza.now) (D.state c.args.d.now).view.now c.args.found.now.items;
  looks = looks_still (D.state c.args.d.now);
}

pub look_at_listed-requires-clause-own : goal.look_at_listed-requires-clause-own
look_at_listed-requires-clause-own g c =
    c.requires.labels (entry_of c.entry-item.result) (item_in entry_of c.args.entries.now c.loop-entry.entry-index c.entry-item.result c.loop-entry-test.true c.entry-item.is)

pub loop-entry-preserved : goal.loop-entry-preserved
loop-entry-preserved g c =
    let D = g.D.Disk in
    let l = c.loop-entry in
    let i = l.invariant in
    let r = c.look_at_listed.ensures in
    record {
      adds = most_step (λ (f : Content) (e : Entry). ListedDeviates c.args.stanza.now f c.args.history.now e) (λ (f : Content) (e : Entry). OwnDeviates c.args.stanza.now f e.label) (IsElsewhere c.args.stanza.now) entry_of (D.state c.args.d.now).view.now (D.state l.d).view.now c.args.entries.now l.entry-index c.entry-item.result
          c.args.found.now.items l.found.items c.look_at_listed.new.found.items c.loop-entry-test.true c.entry-item.is i.looks.now i.adds c.in_ok-look_at_listed.ensures.adds;
      looks = looks_on (D.state c.args.d.now) (D.state l.d) (D.state c.look_at_listed.new.d) i.looks r.looks;
    }

pub returns-clause-adds : goal.returns-clause-adds
returns-clause-adds g c = let D = g.D.Disk in
    subst (λ (es : List RustEntry). IfSome (D.state c.args.d.now).view.now (λ f. AddsMost (OfSome (ListedDeviates c.args.stanza.now f c.args.history.now) (map entry_of es)) (OfSome (λ (e : Entry). OwnDeviates c.args.stanza.now f e.label) (map entry_of es)) (IsElsewhere c.args.stanza.now f) c.args.found.now.items c.loop-entry.found.items))
    (take_all c.loop-entry.entry-index c.args.entries.now c.loop-entry-test.false) c.loop-entry.invariant.adds
