use Rattle.std.proofs.Common.{◌≡◌, rules}
use Rattle.memory_devices.specs.State.{given_at}
use Rattle.memory_workers.specs.declared.mem.MemLink.{MemLink}
use Rattle.memory_workers.specs.Workers.{known_first, known_of}
use Rattle.memory_workers.proofs.Answered.{reads_files, is_worker}
use Rattle.memory_workers.proofs.mem.MemLink.new.Goals as goal

pub returns-clause-reads : goal.returns-clause-reads
returns-clause-reads c =
    let made : MemLink = record { worker = c.in_ok-new.field-0; raw = c.new-3.result } in
    let known : known_of made ≡ known_first (given_at c.args.tree.items) (given_at c.args.repo.items) c.args.fail.items = search rules in
    reads_files (given_at c.args.tree.items) (given_at c.args.repo.items) c.args.fail.items (known_of made) known

pub returns-clause-worker : goal.returns-clause-worker
returns-clause-worker c =
    let made : MemLink = record { worker = c.in_ok-new.field-0; raw = c.new-3.result } in
    let known : known_of made ≡ known_first (given_at c.args.tree.items) (given_at c.args.repo.items) c.args.fail.items = search rules in
    is_worker (given_at c.args.tree.items) (given_at c.args.repo.items) c.args.fail.items (known_of made) known
