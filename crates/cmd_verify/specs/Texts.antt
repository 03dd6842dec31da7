-- The status and the message of a refusal (own).
use Rattle.std.specs.Prelude.{ℕ, ◌++◌, codes, decimal}
use Rattle.base_model.specs.Text.{Text}
use Rattle.cmd_verify.specs.declared.command.fault.VerifyCommandFault.{VerifyCommandFault}
use Rattle.cmd_verify.specs.declared.command.fault.VerifyCommandFault.TheVariants.{TooMany}

-- the status and the line of what a verification is refused for
abbrev pub verify_status : VerifyCommandFault → ℕ
verify_status (TooMany limit) = 71

abbrev pub verify_message : VerifyCommandFault → Text
verify_message (TooMany limit) = codes "more than " ++ decimal limit
