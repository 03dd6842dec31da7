use Rattle.std.proofs.Common.{◌≡◌, rules}
use Rattle.memory_devices.specs.Image.{named}
use Rattle.memory_devices.specs.State.{given_at}
use Rattle.memory_workers.specs.declared.meet.MeetLink.{MeetLink}
use Rattle.memory_workers.proofs.Copied.{same_files, begins_as}
use Rattle.memory_workers.proofs.meet.MeetLink.two.Goals as goal

pub returns-clause-other : goal.returns-clause-other
returns-clause-other c =
    let made : MeetLink = record { link = c.in_ok-new-2.field-0; own = c.in_ok-second.second; other = c.in_ok-first.first } in
    let tree_too = c.in_ok-tree_too.tree_too.items in
    let repo_too = c.in_ok-repo_too.repo_too.items in
    let tree : named tree_too ≡ named c.args.tree.items = search rules in
    let repo : named repo_too ≡ named c.args.repo.items = search rules in
    begins_as (given_at c.args.tree.items) (given_at c.args.repo.items) (given_at tree_too) (given_at repo_too) made (same_files tree_too c.args.tree.items tree) (same_files repo_too c.args.repo.items repo)
    (record { state = search rules; link = search rules })
