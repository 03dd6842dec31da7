use Rattle.std.proofs.Common.{refl, arith}
use Rattle.cmd_trait.specs.Code.{place_of}
use Rattle.cmd_trait.proofs.Ends.{rose_to, all_later}
use Rattle.cmd_trait.proofs.PartEffects.{both_ok}
use Rattle.run_archive_get.proofs.PartEffects.{got_ran}
use Rattle.run_archive_get.proofs.get.ArchiveGetCommand.run.Goals as goal

pub returns-clause-ran : goal.returns-clause-ran
returns-clause-ran g c =
    let e = c.get_file.ensures in
    let o = c.args.order in
    let asked = c.args.self.now in
    let is = c.requires.order in
    got_ran (place_of c.args.places.now) _ _ refl (record { now = e.looks.now; time = e.looks.time }) o.folder.now o.word.now o.path.now c.get_file.result asked.name.now asked.path.now is.0 is.1 is.2
    (both_ok c.get_file.result _ _ e.got e.given) e.lasts e.changes e.none
    _ (rose_to _ _ _ (λ h. h) (λ h. absurd h) (λ h. h) (λ h. absurd h) (λ h. absurd h) (λ h. absurd h) (λ h. absurd h) (λ h. absurd h) (λ h. absurd h)) e.cause
    (record { spool = refl; repo = e.looks.opened; tree = e.opened })
    (all_later _ _ e.looks.later (omega arith) e.later (omega arith) (omega arith) (omega arith) (omega arith) (omega arith) (omega arith))
