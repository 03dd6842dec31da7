use Rattle.std.proofs.Common.{◌↔◌, get_or, subst, sym, map, List, Option, None}
use Rattle.std.specs.Prelude.{IfSome}
use Rattle.std.proofs.lemmas.List.{get_or_default, take_all}
use Rattle.base_devices.specs.Content.{Content}
use Rattle.base_model.specs.declared.labels.Label.{Label}
use Rattle.base_model.specs.Log.{Lists}
use Rattle.base_model.specs.Text.{In}
use Rattle.base_model.specs.Values.{file_entry_of}
use Rattle.cmd_verify.specs.Adding.{AddsMost, OfSome, Never}
use Rattle.cmd_verify.specs.Sharing.{SharedDeviates, IsElsewhere}
use Rattle.cmd_verify.proofs.Adding.{at_place}
use Rattle.cmd_verify.proofs.Most.{most_start, most_own_step}
use Rattle.cmd_verify.proofs.Shared.{never_own, files_at}
use Rattle.base_devices.proofs.States.{looks_on}
use Rattle.cmd_verify.proofs.Looking.{looks_still}
use Rattle.cmd_verify.proofs.findings.shared_files.look_at_labels.Goals as goal

abbrev none : Label
none = record { full = 0; later = None }

pub loop-label-init : goal.loop-label-init
loop-label-init g c = let D = g.D.Disk in record {
  adds = most_start (λ (f : Content) (r : Label). SharedDeviates c.args.stanza.now f c.args.backup.now.label.now (map file_entry_of c.args.backup.now.files.now) r) (λ (f : Content) (r : Label). Never) (IsElsewhere c.args.stanza.now) (D.state c.args.d.now).view.now c.args.found.now.items;
  looks = looks_still (D.state c.args.d.now);
}

pub files_of-requires-clause-label : goal.files_of-requires-clause-label
files_of-requires-clause-label g c =
    let l = c.loop-label in
    let x = get_or c.args.labels.now l.label-index none in
    c.requires.labels x (at_place c.args.labels.now l.label-index x c.loop-label-test.true (get_or_default c.args.labels.now l.label-index none x c.loop-label-test.true))

pub files_of-requires-clause-listed : goal.files_of-requires-clause-listed
files_of-requires-clause-listed g c =
    subst (λ (o : Option Content). IfSome o (λ f. (k : Label) → In k c.args.listed.now ↔ Lists c.args.stanza.now f k)) (sym c.loop-label.invariant.looks.now) c.requires.listed

pub look_at_label-requires-clause-others : goal.look_at_label-requires-clause-others
look_at_label-requires-clause-others g c =
    let D = g.D.Disk in
    let x = get_or c.args.labels.now c.loop-label.label-index none in
    files_at c.args.stanza.now x (D.state c.loop-label.d).view.now (D.state c.files_of.new.d).view.now c.files_of.ensures.looks.now c.in_ok-others.others.items c.deref.result.now c.deref.ensures.value c.in_ok-others.ensures.files

pub loop-label-preserved : goal.loop-label-preserved
loop-label-preserved g c =
    let D = g.D.Disk in
    let l = c.loop-label in
    let i = l.invariant in
    let x = get_or c.args.labels.now l.label-index none in
    let looked = looks_on (D.state c.args.d.now) (D.state l.d) (D.state c.files_of.new.d) i.looks c.files_of.ensures.looks in
    record {
      adds = most_own_step (λ (f : Content) (r : Label). SharedDeviates c.args.stanza.now f c.args.backup.now.label.now (map file_entry_of c.args.backup.now.files.now) r) (λ (f : Content) (r : Label). Never) (IsElsewhere c.args.stanza.now) (D.state c.args.d.now).view.now (D.state c.files_of.new.d).view.now
          c.args.labels.now l.label-index x c.args.found.now.items l.found.items c.look_at_label.new.found.items c.loop-label-test.true (get_or_default c.args.labels.now l.label-index none x c.loop-label-test.true) looked.now i.adds c.in_ok-look_at_label.ensures.adds;
      looks = looks_on (D.state c.args.d.now) (D.state c.files_of.new.d) (D.state c.look_at_label.new.d) looked c.look_at_label.ensures.looks;
    }

pub returns-clause-adds : goal.returns-clause-adds
returns-clause-adds g c = let D = g.D.Disk in
    let l = c.loop-label in
    never_own (λ f. OfSome (SharedDeviates c.args.stanza.now f c.args.backup.now.label.now (map file_entry_of c.args.backup.now.files.now)) c.args.labels.now) (IsElsewhere c.args.stanza.now) c.args.labels.now (D.state c.args.d.now).view.now c.args.found.now.items l.found.items
    (subst (λ (ls : List Label). IfSome (D.state c.args.d.now).view.now (λ f. AddsMost (OfSome (SharedDeviates c.args.stanza.now f c.args.backup.now.label.now (map file_entry_of c.args.backup.now.files.now)) ls) (OfSome (λ (r : Label). Never) ls) (IsElsewhere c.args.stanza.now f) c.args.found.now.items l.found.items))
    (take_all l.label-index c.args.labels.now c.loop-label-test.false) l.invariant.adds)
