use Rattle.std.proofs.Common.{◌≡◌, ◌++◌, List, length, option_map}
use Rattle.base_devices.specs.States.{OnlyReads}
use Rattle.base_model.specs.declared.labels.Entry as rust_entry
use Rattle.restore_choice.specs.Views.{ancestry_of}
use Rattle.restore_choice.proofs.Searches.{NoneIn}
use Rattle.restore_choice.proofs.backup_choice.find.Given as goal

abbrev pub invariant-loop-last : goal.invariant-loop-last
invariant-loop-last g l = record {
  parts : (seen : List rust_entry.Entry) × (l.backups ≡ l.rest ++ seen)
      × NoneIn l.stanza l.deadline (option_map ancestry_of l.ancestry) (g.D.Disk.state l.initial.repo).view.now seen;
  looks : OnlyReads (g.D.Disk.state l.initial.repo) (g.D.Disk.state l.repo);
}

abbrev pub decreases-loop-last : goal.decreases-loop-last
decreases-loop-last g l = length l.rest
