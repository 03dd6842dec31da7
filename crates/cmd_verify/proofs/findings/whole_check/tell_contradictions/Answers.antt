use Rattle.std.proofs.Common.{◌∙◌, map, List, ap, subst}
use Rattle.base_model.specs.declared.labels.Entry.{Entry as RustEntry}
use Rattle.base_model.specs.Values.{entry_of, backup_info_of}
use Rattle.repo_text_lemmas.proofs.Lists.{one_list}
use Rattle.cmd_verify.specs.Adding.{Adds, OfSome}
use Rattle.cmd_verify.specs.Contradictions.{EntryContradicts}
use Rattle.cmd_verify.proofs.Whole.{contradictions_known, entries_fit}
use Rattle.cmd_verify.proofs.findings.whole_check.tell_contradictions.Goals as goal

pub tell_entries-requires : goal.tell_entries-requires
tell_entries-requires c = entries_fit (backup_info_of c.args.listed.now) c.requires.rules (map entry_of c.deref.result.now) (ap (map entry_of) c.deref.ensures.value)

pub returns : goal.returns
returns c =
    contradictions_known c.args.stanza.now (backup_info_of c.args.listed.now) c.args.pairs c.args.files.now c.as_str.result.now (c.as_str.ensures.value ∙ c.in_ok-name.ensures.ok) one_list c.args.found.now.items c.tell_outside.new.found.items c.tell_histories.new.found.items c.tell_entries.new.found.items
    c.in_ok-tell_outside.ensures c.in_ok-tell_histories.ensures
    (subst (λ (es : List RustEntry). Adds (OfSome (EntryContradicts c.args.stanza.now (map entry_of es)) (map entry_of es)) c.tell_histories.new.found.items c.tell_entries.new.found.items) c.deref.ensures.value c.in_ok-tell_entries.ensures)
