use Rattle.std.proofs.Common.{◌≡◌, sym, ◌∙◌, ap, map, take, option_map, Bool, Option, Some, Bor}
use Rattle.std.specs.Prelude.{if◌then◌else◌}
use Rattle.base_model.specs.declared.labels.Entry as rust_entry
use Rattle.base_model.specs.Values.{Entry, entry_of}
use Rattle.cmd_backup_common.specs.Priors.{may_base, last_of}
use Rattle.cmd_backup_common.proofs.Priors.{last_passed}
use Rattle.cmd_backup_common.proofs.drafts.prior_backup.prior_of.Goals as goal
use Rattle.cmd_backup_common.proofs.drafts.prior_backup.prior_of.Goals.{then-may_base, else-may_base}

pub loop-entry-preserved : goal.loop-entry-preserved
loop-entry-preserved c =
    let x = c.entry-item.result in
    let test : Entry → Bool = may_base c.args.kind c.args.cluster c.latest_full-full.result in
    let before = last_of test (map entry_of (take c.loop-entry.entry-index c.args.backups.now)) in
    let step = last_passed test c.args.backups.now c.loop-entry.entry-index x c.loop-entry-test.true c.entry-item.is in
    let view = λ (o : Option (Bor rust_entry.Entry)). option_map (λ e. entry_of e.now) o in
    let chosen = λ (b : Bool). if b then Some (entry_of x) else before in
    elim c.if-may_base.branch [
      | then-may_base w ↦ ap view w.prior-is ∙ sym (step ∙ ap chosen (sym c.may_base.ensures ∙ w.if-may_base.true))
      | else-may_base w ↦ ap view w.prior-is ∙ c.loop-entry.invariant ∙ sym (step ∙ ap chosen (sym c.may_base.ensures ∙ w.if-may_base.false))
    ]
