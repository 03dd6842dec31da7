use Rattle.std.proofs.Common.{map}
use Rattle.base_model.specs.Values.{entry_of}
use Rattle.cmd_verify.specs.Contradictions.{EntryContradicts}
use Rattle.cmd_verify.proofs.Adding.{item_in}
use Rattle.cmd_verify.proofs.Contradicted.{each_none, made_next, made_all}
use Rattle.cmd_verify.proofs.findings.priors.tell_entries.Goals as goal

pub loop-entry-init : goal.loop-entry-init
loop-entry-init c = each_none (EntryContradicts c.args.stanza.now (map entry_of c.args.entries.now)) c.args.found.now.items

pub tell_entry-requires : goal.tell_entry-requires
tell_entry-requires c = c.requires (entry_of c.entry-item.result) (item_in entry_of c.args.entries.now c.loop-entry.entry-index c.entry-item.result c.loop-entry-test.true c.entry-item.is)

pub loop-entry-preserved : goal.loop-entry-preserved
loop-entry-preserved c =
    let l = c.loop-entry in
    made_next entry_of (EntryContradicts c.args.stanza.now (map entry_of c.args.entries.now)) c.args.entries.now l.entry-index c.entry-item.result c.args.found.now.items l.found.items c.tell_entry.new.found.items c.loop-entry-test.true c.entry-item.is l.invariant c.in_ok-tell_entry.ensures

pub returns : goal.returns
returns c = made_all entry_of (EntryContradicts c.args.stanza.now (map entry_of c.args.entries.now)) c.args.entries.now c.loop-entry.entry-index c.args.found.now.items c.loop-entry.found.items c.loop-entry-test.false c.loop-entry.invariant
