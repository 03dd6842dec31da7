use Rattle.std.proofs.Common.{map, option_map, subst, Option}
use Rattle.std.specs.Prelude.{IfSome}
use Rattle.base_devices.specs.Cause.{Rises}
use Rattle.base_devices.specs.Content.{Content}
use Rattle.base_model.specs.Values.{entry_of}
use Rattle.cmd_types.specs.declared.stages.object.Object.TheVariants.{Repo}
use Rattle.cmd_types.specs.Halts.{HaltCause, Only}
use Rattle.restore_choice.specs.Judging.{SearchCause, FindCause}
use Rattle.restore_choice.specs.Views.{ancestry_of}
use Rattle.restore_choice.proofs.Causing.{search_finds}
use Rattle.restore_choice.proofs.Halts.{halt_after, ends_with}
use Rattle.restore_choice.proofs.backup_choice.find_last.Goals as goal

pub returns-in_err-chosen-clause-cause : goal.returns-in_err-chosen-clause-cause
returns-in_err-chosen-clause-cause g c =
    let stanza = c.args.stanza.now in
    let bounds = c.args.bounds.now in
    let entries = map entry_of c.args.backups.now in
    let line = option_map ancestry_of c.in_ok-ancestry.ancestry in
    let a = g.D.Disk.state c.args.repo.now in
    let b = g.D.Disk.state c.read_ancestry.new.repo in
    let d = g.D.Disk.state c.find.new.repo in
    let repo = a.view.now in
    let halt = c.in_err-chosen.field-0.0 in
    ends_with (HaltCause (λ fault. IfSome repo (λ f. FindCause stanza f bounds entries fault)) (Only Repo (Rises a.faults d.faults))) c.from_residual-in_err-chosen.result halt c.from_residual-in_err-chosen.ensures.1
    (halt_after (λ fault. IfSome b.view.now (λ f. SearchCause stanza f bounds.deadline line entries fault)) (λ fault. IfSome repo (λ f. FindCause stanza f bounds entries fault)) Repo a.faults b.faults d.faults c.read_ancestry.ensures.looks.later
    (λ e x. search_finds stanza repo bounds entries line c.in_ok-ancestry.ensures.ancestry e (subst (λ (o : Option Content). IfSome o (λ f. SearchCause stanza f bounds.deadline line entries e)) c.read_ancestry.ensures.looks.now x))
    halt c.in_err-chosen.ensures.cause)
