use Rattle.std.proofs.Common.{List, map, ap, ◌∙◌}
use Rattle.base_model.specs.declared.labels.Entry as rust_entry
use Rattle.base_model.specs.Values.{entry_of, backup_info_of}
use Rattle.expire_rules.specs.Condemned.{condemned_labels}
use Rattle.expire_make.proofs.Planned.{labels_gone, value_left}
use Rattle.expire_make.proofs.Remaining.{gone_labels, left_rules_as, left_fits_as}
use Rattle.expire_make.proofs.expiry_plan.shorten.Goals as goal

pub returns-clause-labels : goal.returns-clause-labels
returns-clause-labels c = c.in_ok-labels.ensures.condemned ∙ ap (λ (es : List rust_entry.Entry). condemned_labels c.args.rules.now c.args.moment (map entry_of es)) c.deref.ensures.value

pub returns-clause-left : goal.returns-clause-left
returns-clause-left c =
    let are = c.in_ok-labels.ensures.condemned ∙ ap (λ (es : List rust_entry.Entry). condemned_labels c.args.rules.now c.args.moment (map entry_of es)) c.deref.ensures.value in
    value_left c.args.rules.now c.args.moment (backup_info_of c.args.value) _ (labels_gone c.args.rules.now c.args.moment _ (map entry_of c.args.value.backups.items) _ (c.deref-2.ensures.value ∙ are) c.without-backups.ensures)

pub returns-clause-valid : goal.returns-clause-valid
returns-clause-valid c = left_rules_as c.args.rules.now c.args.moment (backup_info_of c.args.value) c.requires.valid _ (
    let are = c.in_ok-labels.ensures.condemned ∙ ap (λ (es : List rust_entry.Entry). condemned_labels c.args.rules.now c.args.moment (map entry_of es)) c.deref.ensures.value in
    value_left c.args.rules.now c.args.moment (backup_info_of c.args.value) _ (labels_gone c.args.rules.now c.args.moment _ (map entry_of c.args.value.backups.items) _ (c.deref-2.ensures.value ∙ are) c.without-backups.ensures))

pub returns-clause-within : goal.returns-clause-within
returns-clause-within c = left_fits_as c.args.rules.now c.args.moment (backup_info_of c.args.value) c.requires.valid _ (
    let are = c.in_ok-labels.ensures.condemned ∙ ap (λ (es : List rust_entry.Entry). condemned_labels c.args.rules.now c.args.moment (map entry_of es)) c.deref.ensures.value in
    value_left c.args.rules.now c.args.moment (backup_info_of c.args.value) _ (labels_gone c.args.rules.now c.args.moment _ (map entry_of c.args.value.backups.items) _ (c.deref-2.ensures.value ∙ are) c.without-backups.ensures)) c.requires.within

pub returns-clause-are_labels : goal.returns-clause-are_labels
returns-clause-are_labels c =
    let are = c.in_ok-labels.ensures.condemned ∙ ap (λ (es : List rust_entry.Entry). condemned_labels c.args.rules.now c.args.moment (map entry_of es)) c.deref.ensures.value in
    gone_labels c.args.rules.now c.args.moment (backup_info_of c.args.value) c.requires.valid _ are
