use Rattle.std.proofs.Common.{refl, string_bytes}
use Rattle.archive_lookup.specs.Turns.{GoesByTurn, LeavesMarks}
use Rattle.memory_processes.specs.Others.{idle_turn}
use Rattle.memory_processes.proofs.Known.{on_turn, goes_after}
use Rattle.memory_processes.proofs.Pushed.{turn_idle}
use Rattle.memory_processes.proofs.Receipts.{marks_idle}
use Rattle.memory_processes.proofs.others.MemProcessesOtherProcesses.turn.Goals as goal

pub returns-then-self-len-clause-account : goal.returns-then-self-len-clause-account
returns-then-self-len-clause-account g c = λ some. (
  string_bytes c.args.self.now.stanza,
  idle_turn,
  goes_after (string_bytes c.args.self.now.stanza) c.args.self.now.list.items c.args.self.now.at c.args.self.now.following.numbers c.of.result.numbers c.of.ensures,
  refl,
)

pub returns-then-self-len-clause-repository : goal.returns-then-self-len-clause-repository
returns-then-self-len-clause-repository g c =
    on_turn (string_bytes c.args.self.now.stanza) idle_turn _ _ (goes_after (string_bytes c.args.self.now.stanza) c.args.self.now.list.items c.args.self.now.at c.args.self.now.following.numbers c.of.result.numbers c.of.ensures)
    (λ stanza t. GoesByTurn stanza t.turn (g.D.Disk.state c.args.repo.now).view (g.D.Disk.state c.args.repo.now).view) (turn_idle (string_bytes c.args.self.now.stanza) (g.D.Disk.state c.args.repo.now).view)

pub returns-then-self-len-clause-marks : goal.returns-then-self-len-clause-marks
returns-then-self-len-clause-marks g c =
    on_turn (string_bytes c.args.self.now.stanza) idle_turn _ _ (goes_after (string_bytes c.args.self.now.stanza) c.args.self.now.list.items c.args.self.now.at c.args.self.now.following.numbers c.of.result.numbers c.of.ensures)
    (λ stanza t. LeavesMarks stanza t.marks (g.S.Disk.state c.args.spool.now).view.now (g.S.Disk.state c.args.spool.now).view.now) (marks_idle (string_bytes c.args.self.now.stanza) (g.S.Disk.state c.args.spool.now).view.now)
