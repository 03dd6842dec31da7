-- What the status of a refusal says about it.
use Rattle.std.proofs.Common.{◌≡◌, refl}
use Rattle.cmd_verify.specs.declared.command.fault.VerifyCommandFault.{VerifyCommandFault}
use Rattle.cmd_verify.specs.declared.command.fault.VerifyCommandFault.TheVariants.{TooMany}
use Rattle.cmd_verify.specs.Texts.{verify_status}

-- there is one status
pub examine_is : (fault : VerifyCommandFault) → verify_status fault ≡ 71
examine_is (TooMany limit) = refl
