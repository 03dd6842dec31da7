use Rattle.std.proofs.Common.{◌≡◌, ◌∙◌}
use Rattle.cmd_archive_get.proofs.Folders.{changes_on}
use Rattle.cmd_archive_get.proofs.Passes.{changes_only}
use Rattle.cmd_archive_get.proofs.served_file.put_file.Goals as goal

pub returns-clause-changes : goal.returns-clause-changes
returns-clause-changes g c = changes_on c.args.path.now (λ b. b ≡ c.args.bytes.now) _ _ _ c.write_and_rename.ensures.changes
    (changes_only c.args.path.now c.deref-in-Err.result.now (c.deref-in-Err.ensures ∙ c.in_ok-temporary.ensures) (λ b. b ≡ c.args.bytes.now) _ _ c.give_up.ensures.nodes)
