use Rattle.std.proofs.Common.{◌≡◌, ◌∙◌, map, sym, ap}
use Rattle.base_model.specs.Values.{file_entry_of, manifest_of}
use Rattle.backup_record.proofs.Listing.{listed_with}
use Rattle.backup_record.proofs.manifest_record.list_with.Goals as goal

pub returns : goal.returns
returns c = listed_with c.args.before (manifest_of c.args.manifest.now) c.deref-2.result.now c.deref.result.now c.in_ok-labels.labels.items c.deref-3.result.now c.in_ok-references.references.items c.push.new.self.items c.entry_with-entry.result
    c.deref-2.ensures.value (ap (map file_entry_of) c.deref.ensures.value) c.deref-3.ensures.value c.in_ok-labels.ensures c.in_ok-references.ensures.each c.in_ok-references.ensures.order c.entry_with-entry.ensures c.in_ok-push.ensures.items
