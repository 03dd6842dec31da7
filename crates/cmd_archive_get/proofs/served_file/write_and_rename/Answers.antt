use Rattle.std.proofs.Common.{◌≡◌}
use Rattle.cmd_archive_get.proofs.Folders.{begins, appends, changes_on, written, renamed}
use Rattle.cmd_archive_get.proofs.served_file.write_and_rename.Goals as goal

pub returns-in_err-begin-clause-changes : goal.returns-in_err-begin-clause-changes
returns-in_err-begin-clause-changes g c = begins c.args.path.now (λ b. b ≡ c.args.bytes.now) c.begin.result c.args.temporary.now _ _ c.requires c.begin.ensures.nodes

pub returns-in_err-append-clause-changes : goal.returns-in_err-append-clause-changes
returns-in_err-append-clause-changes g c = changes_on c.args.path.now (λ b. b ≡ c.args.bytes.now) _ _ _ (begins c.args.path.now (λ b. b ≡ c.args.bytes.now) c.begin.result c.args.temporary.now _ _ c.requires c.begin.ensures.nodes) (appends c.args.path.now (λ b. b ≡ c.args.bytes.now) c.append.result c.args.temporary.now c.args.bytes.now _ _ c.requires c.append.ensures.nodes)

pub returns-clause-holds : goal.returns-clause-holds
returns-clause-holds g c = renamed c.args.path.now c.args.bytes.now c.args.temporary.now _ _ c.requires
    (written c.args.temporary.now c.args.bytes.now c.in_ok-begin.ensures.nodes.0 c.in_ok-append.ensures.nodes.0 _ _ _ c.in_ok-begin.ensures.nodes.1 c.in_ok-append.ensures.nodes.1) c.in_ok-rename.ensures.nodes
