use Rattle.std.proofs.Common.{refl, arith}
use Rattle.cmd_verify.specs.Texts.{verify_status, verify_message}
use Rattle.cmd_trait.specs.Code.{place_of}
use Rattle.cmd_trait.proofs.Ends.{all_later, only_rose}
use Rattle.cmd_trait.proofs.PartEffects.{both_ok, reader_ran}
use Rattle.run_verify.specs.Verifying.{Verifies, VerifyCause, over, apart, no_server}
use Rattle.run_verify.proofs.verify.VerifyCommand.run.Goals as goal

pub returns-clause-ran : goal.returns-clause-ran
returns-clause-ran g c =
    let e = c.verify_stanza.ensures in
    reader_ran Verifies VerifyCause verify_status verify_message over apart no_server (place_of c.args.places.now) _ _ refl (record { now = e.looks.now; time = e.looks.time }) c.verify_stanza.result
    _ (only_rose _ _ _ _ (λ h. h)) (both_ok c.verify_stanza.result _ _ e.examined e.sound) e.cause
    (record { spool = refl; repo = e.looks.opened; tree = refl })
    (all_later _ _ e.looks.later (omega arith) (omega arith) (omega arith) (omega arith) (omega arith) (omega arith) (omega arith) (omega arith))
