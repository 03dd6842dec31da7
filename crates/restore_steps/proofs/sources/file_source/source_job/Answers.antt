use Rattle.std.proofs.Common.{◌≡◌, ◌∙◌, ◌++◌, ◌∷◌, [], sym, ap, subst}
use Rattle.base_model.specs.Values.{file_entry_of}
use Rattle.worker_protocol.specs.declared.frames.frames.JobKind.TheVariants.{Read}
use Rattle.worker_protocol.specs.Frames.{Job, FitsJob}
use Rattle.worker_protocol.specs.Views.{items_of}
use Rattle.restore_steps.specs.Sources.{source}
use Rattle.restore_steps.proofs.Fitting.{fits_reading}
use Rattle.restore_steps.proofs.sources.file_source.source_job.Goals as goal

pub returns-clause-fits : goal.returns-clause-fits
returns-clause-fits c =
    let e = file_entry_of c.args.file.now in
    let items : items_of c.push.new.self.items ≡ source c.args.stanza.now c.args.own.now e ∷ [] = ap items_of (c.in_ok-push.ensures.items ∙ ap (λ l. l ++ c.in_ok-source_item.field-0 ∷ []) c.new-items.ensures.items) ∙ ap (λ i. i ∷ []) c.in_ok-source_item.ensures.item in
    subst FitsJob (sym (ap (λ is. let j : Job = record { kind = Read; items = is } in j) items)) (fits_reading c.args.stanza.now c.requires.stanza c.args.own.now c.requires.own e c.requires.entry)
