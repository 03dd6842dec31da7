use Rattle.std.proofs.Common.{refl, arith}
use Rattle.cmd_trait.specs.Code.{place_of}
use Rattle.cmd_trait.proofs.Ends.{rose_to, all_later}
use Rattle.run_archive_push.proofs.PartEffects.{order_effect, pushed_ran}
use Rattle.run_archive_push.proofs.push.ArchivePushCommand.run.Goals as goal

pub returns-clause-ran : goal.returns-clause-ran
returns-clause-ran g c =
    let e = c.push_file.ensures in
    pushed_ran (place_of c.args.places.now) _ _ refl e.looks.nodes c.args.order.folder.now c.args.order.path.now c.push_file.result c.args.self.now.path.now c.requires.order.0 c.requires.order.1
    (order_effect (place_of c.args.places.now) c.args.order _ _ (g.T.DataFolder.state c.args.outside.now.tree).nodes e.puts) e.beside e.does e.stored e.lasts e.synced e.agrees e.alike
    _ (rose_to _ _ _ (λ h. h) (λ h. absurd h) (λ h. h) (λ h. absurd h) (λ h. absurd h) (λ h. absurd h) (λ h. absurd h) (λ h. absurd h) (λ h. absurd h)) e.cause
    (record { spool = refl; repo = e.frame.opened; tree = e.looks.opened })
    (all_later _ _ e.frame.later (omega arith) e.looks.later (omega arith) (omega arith) (omega arith) (omega arith) (omega arith) (omega arith))
