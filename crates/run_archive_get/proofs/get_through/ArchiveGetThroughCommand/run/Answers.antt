use Rattle.std.proofs.Common.{◌∙◌, ap, refl, arith}
use Rattle.std.specs.Prelude.{map, string_bytes}
use Rattle.cmd_trait.specs.Code.{place_of}
use Rattle.cmd_trait.proofs.Ends.{rose_to, all_later}
use Rattle.run_archive_get.proofs.PartEffects.{shows}
use Rattle.run_archive_get.proofs.Through.{through_ran, through_starved}
use Rattle.run_archive_get.proofs.get_through.ArchiveGetThroughCommand.run.Goals as goal

pub returns-in_err-arguments-clause-ran : goal.returns-in_err-arguments-clause-ran
returns-in_err-arguments-clause-ran g c =
    let asked = c.args.self.now in
    through_starved (place_of c.args.places.now) _ asked.name.now asked.path.now asked.spool.now asked.queue c.from_residual.result c.from_residual.ensures.1

pub returns-clause-ran : goal.returns-clause-ran
returns-clause-ran g c =
    let e = c.get_ahead.ensures in
    let o = c.args.order in
    let asked = c.args.self.now in
    let is = c.requires.order in
    let known = c.in-Some-Some.control in
    let shown = shows c.args.places.now.stanza.now _ _ c.args.ready c.requires.ready known c.in-Some-Some.is-0 in
    through_ran (place_of c.args.places.now) _ _ refl (record { now = e.looks.now; time = e.looks.time }) (g.met.S.Disk.now_may_be_left c.args.outside.now.spool) (g.met.S.Disk.now_may_be_left c.get_ahead.new.spool) e.marks e.known e.beside
    o.folder.now o.word.now o.path.now asked.spool.now asked.queue c.get_ahead.result asked.name.now asked.path.now is.0 is.1 is.2 o.name o.wanted known shown e.got e.lasts e.given e.changes e.none
    (map string_bytes c.deref.result.now) (ap (map string_bytes) c.deref.ensures.value ∙ c.in_ok-arguments.ensures) e.follows e.others
    _ (rose_to _ _ _ (λ h. h) (λ h. h) (λ h. h) (λ h. absurd h) (λ h. absurd h) (λ h. absurd h) (λ h. absurd h) (λ h. absurd h) (λ h. absurd h)) e.cause
    (record { spool = e.frame.opened; repo = e.looks.opened; tree = e.opened })
    (all_later _ _ e.looks.later e.frame.later e.later (omega arith) e.others.later (omega arith) (omega arith) (omega arith) (omega arith))
