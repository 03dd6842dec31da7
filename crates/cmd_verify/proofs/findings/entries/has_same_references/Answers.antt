use Rattle.std.proofs.Common.{◌↔◌, ◌∙◌, map, subst, sym, List}
use Rattle.base_model.specs.declared.labels.Label.{Label}
use Rattle.base_model.specs.declared.files.FileEntry.{FileEntry as RustEntry}
use Rattle.base_model.specs.Text.{In}
use Rattle.base_model.specs.Values.{file_entry_of}
use Rattle.cmd_verify.specs.References.{RefersTo}
use Rattle.cmd_verify.proofs.Listed.{fewer_references, more_references, same_references}
use Rattle.cmd_verify.proofs.findings.entries.has_same_references.Goals as goal

abbrev Are : List Label → List RustEntry → Type 0
Are labels files = (l : Label) → In l labels ↔ RefersTo (map file_entry_of files) l

pub returns-then-not-has_all-clause-no : goal.returns-then-not-has_all-clause-no
returns-then-not-has_all-clause-no c = λ _.
    fewer_references c.in_ok-labels.labels.items c.args.entry.now.references.items (map file_entry_of c.args.manifest.now.files.items)
    (subst (Are c.in_ok-labels.labels.items) c.deref.ensures.value c.in_ok-labels.ensures) c.deref-2.result.now c.deref-3.result.now c.deref-2.ensures.value c.deref-3.ensures.value
    (c.has_all.ensures.no c.if-not-has_all.true)

pub returns-clause-no : goal.returns-clause-no
returns-clause-no c = λ no.
    more_references c.in_ok-labels.labels.items c.args.entry.now.references.items (map file_entry_of c.args.manifest.now.files.items)
    (subst (Are c.in_ok-labels.labels.items) c.deref.ensures.value c.in_ok-labels.ensures) c.deref-5.result.now c.deref-4.result.now c.deref-5.ensures.value c.deref-4.ensures.value
    (c.has_all-has_no_more.ensures.no no)

pub returns-clause-yes : goal.returns-clause-yes
returns-clause-yes c = λ yes.
    same_references c.in_ok-labels.labels.items c.args.entry.now.references.items (map file_entry_of c.args.manifest.now.files.items)
    (subst (Are c.in_ok-labels.labels.items) c.deref.ensures.value c.in_ok-labels.ensures) c.deref-5.result.now c.deref-4.result.now c.deref-5.ensures.value c.deref-4.ensures.value
    (λ l at. subst (λ (ls : List Label). In l ls) c.deref-2.ensures.value (c.has_all.ensures.yes c.if-not-has_all.false l (subst (λ (ls : List Label). In l ls) (c.deref-4.ensures.value ∙ sym c.deref-3.ensures.value) at)))
    (c.has_all-has_no_more.ensures.yes yes)
