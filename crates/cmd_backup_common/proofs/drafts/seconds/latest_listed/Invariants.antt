use Rattle.std.proofs.Common.{◌≡◌, ◌⊎◌, ◌+◌, map, take}
use Rattle.base_model.specs.Values.{entry_of}
use Rattle.backup_record.specs.Making.{labels_of}
use Rattle.cmd_backup_common.specs.Seconds.{AreBefore, ListsSecond}
use Rattle.cmd_backup_common.proofs.drafts.seconds.latest_listed.Given as goal

abbrev pub invariant-loop-entry : goal.invariant-loop-entry
invariant-loop-entry l = record {
  before : AreBefore (labels_of (map entry_of (take l.entry-index l.backups))) (l.latest + 1);
  listed : (l.latest ≡ 0) ⊎ ListsSecond (labels_of (map entry_of (take l.entry-index l.backups))) l.latest;
}
