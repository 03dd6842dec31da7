use Rattle.std.proofs.Common.{get_or, None}
use Rattle.std.proofs.lemmas.List.{get_or_default}
use Rattle.base_model.specs.declared.labels.Label.{Label}
use Rattle.cmd_verify.proofs.Adding.{at_place}
use Rattle.cmd_verify.proofs.Referring.{labels_none, labels_next}
use Rattle.cmd_verify.proofs.findings.references.tell_unlisted.Goals as goal

abbrev none : Label
none = record { full = 0; later = None }

pub loop-label-init : goal.loop-label-init
loop-label-init c = labels_none c.args.name.now c.args.listed.now c.args.found.now.items

pub tell_label-requires : goal.tell_label-requires
tell_label-requires c =
    let x = get_or c.args.labels.now c.loop-label.label-index none in
    c.requires x (at_place c.args.labels.now c.loop-label.label-index x c.loop-label-test.true (get_or_default c.args.labels.now c.loop-label.label-index none x c.loop-label-test.true))

pub loop-label-preserved : goal.loop-label-preserved
loop-label-preserved c =
    let l = c.loop-label in
    let x = get_or c.args.labels.now l.label-index none in
    labels_next c.args.name.now c.args.listed.now c.args.labels.now l.label-index x c.args.found.now.items l.found.items c.tell_label.new.found.items c.loop-label-test.true (get_or_default c.args.labels.now l.label-index none x c.loop-label-test.true) l.invariant c.in_ok-tell_label.ensures
