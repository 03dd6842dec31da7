use Rattle.std.proofs.Common.{◌∙◌, map, string_bytes, subst, sym, Option}
use Rattle.base_devices.specs.Content.{Content}
use Rattle.base_disk.specs.Dropped.{IsAbsent}
use Rattle.base_model.specs.Text.{In}
use Rattle.base_model.specs.Names.{backup_folder}
use Rattle.base_model.specs.Values.{entry_of}
use Rattle.expire_rules.specs.Labels.{labels_of}
use Rattle.expire_make.specs.Losing.{IsUnlisted}
use Rattle.base_devices.proofs.States.{looks_on}
use Rattle.expire_make.proofs.Losses.{takes_none, takes_looks}
use Rattle.expire_make.proofs.Droppings.{dropped_takes, dropped_looks, read_settled, taken_settled}
use Rattle.expire_make.proofs.Emptying.{unlisted_gone}
use Rattle.expire_make.proofs.unlisted_folders.drop_unlisted.Goals as goal

pub returns-in_err-folder-clause-takes : goal.returns-in_err-folder-clause-takes
returns-in_err-folder-clause-takes g c = takes_none (IsUnlisted c.args.stanza.now (labels_of (map entry_of c.args.entries.now))) _

pub returns-in_err-names-clause-takes : goal.returns-in_err-names-clause-takes
returns-in_err-names-clause-takes g c = takes_looks (IsUnlisted c.args.stanza.now (labels_of (map entry_of c.args.entries.now))) _ _ c.folders.ensures.looks

pub returns-in_err-is_dropped-clause-takes : goal.returns-in_err-is_dropped-clause-takes
returns-in_err-is_dropped-clause-takes g c = dropped_takes c.args.stanza.now (labels_of (map entry_of c.args.entries.now)) _ _ _ c.folders.ensures.looks c.drop_each.ensures.takes

pub returns-clause-takes : goal.returns-clause-takes
returns-clause-takes g c = dropped_takes c.args.stanza.now (labels_of (map entry_of c.args.entries.now)) _ _ _ c.folders.ensures.looks c.drop_each.ensures.takes

pub returns-clause-settled : goal.returns-clause-settled
returns-clause-settled g c = read_settled (backup_folder c.args.stanza.now) _ _ (looks_on _ _ _ c.folders.ensures.looks (c.in_ok-is_dropped.ensures.idle c.if-is_dropped.false))

pub returns-in_err-sync_directories-clause-takes : goal.returns-in_err-sync_directories-clause-takes
returns-in_err-sync_directories-clause-takes g c = dropped_looks c.args.stanza.now (labels_of (map entry_of c.args.entries.now)) _ _ _ _ c.folders.ensures.looks c.drop_each.ensures.takes c.sync_directories.ensures.looks

pub returns-then-is_dropped-clause-takes : goal.returns-then-is_dropped-clause-takes
returns-then-is_dropped-clause-takes g c = dropped_looks c.args.stanza.now (labels_of (map entry_of c.args.entries.now)) _ _ _ _ c.folders.ensures.looks c.drop_each.ensures.takes c.sync_directories.ensures.looks

pub returns-then-is_dropped-clause-settled : goal.returns-then-is_dropped-clause-settled
returns-then-is_dropped-clause-settled g c = taken_settled c.args.stanza.now (labels_of (map entry_of c.args.entries.now)) _ _ _ (g.D.Disk.state c.sync_directories.new.self) (c.as_str-then-is_dropped.ensures.value ∙ c.in_ok-folder.ensures.ok)
    (dropped_takes c.args.stanza.now (labels_of (map entry_of c.args.entries.now)) _ _ _ c.folders.ensures.looks c.drop_each.ensures.takes) c.sync_directories.ensures.looks.now c.in_ok-sync_directories.ensures.settled

pub returns-then-is_dropped-clause-gone : goal.returns-then-is_dropped-clause-gone
returns-then-is_dropped-clause-gone g c = λ n u. subst (λ (o : Option Content). IsAbsent o n) (sym c.sync_directories.ensures.looks.now) (unlisted_gone c.args.stanza.now (labels_of (map entry_of c.args.entries.now)) _ (map string_bytes c.in_ok-names.names.items) (g.D.Disk.state c.args.d.now) (g.D.Disk.state c.folders.new.self) (g.D.Disk.state c.drop_each.new.d) (c.as_str.ensures.value ∙ c.in_ok-folder.ensures.ok) c.folders.ensures.looks c.in_ok-names.ensures.folders c.drop_each.ensures.takes
    (λ x i. c.in_ok-is_dropped.ensures.gone x (subst (λ xs. In x (map string_bytes xs)) (sym c.deref.ensures.value) i)) n u)

pub returns-clause-gone : goal.returns-clause-gone
returns-clause-gone g c = unlisted_gone c.args.stanza.now (labels_of (map entry_of c.args.entries.now)) _ (map string_bytes c.in_ok-names.names.items) (g.D.Disk.state c.args.d.now) (g.D.Disk.state c.folders.new.self) (g.D.Disk.state c.drop_each.new.d) (c.as_str.ensures.value ∙ c.in_ok-folder.ensures.ok) c.folders.ensures.looks c.in_ok-names.ensures.folders c.drop_each.ensures.takes
    (λ x i. c.in_ok-is_dropped.ensures.gone x (subst (λ xs. In x (map string_bytes xs)) (sym c.deref.ensures.value) i))
