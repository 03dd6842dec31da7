-- What verify means.
use Rattle.std.specs.Prelude.{◌≤◌, ◌≢◌, ◌⊎◌}
use Rattle.std.proofs.Common.{inr, arith}
use Rattle.cmd_types.specs.declared.stages.outcome.Outcome.{Outcome}
use Rattle.cmd_verify.specs.declared.command.fault.VerifyCommandFault.{VerifyCommandFault}
use Rattle.cmd_verify.specs.declared.command.fault.VerifyCommandFault.TheVariants.{TooMany}
use Rattle.cmd_verify.specs.Verifying.{VerifyCommandCause, IsVerified, EndsWithNone}
use Rattle.cmd_verify.specs.Texts.{verify_status, verify_message}
use Rattle.cmd_trait.specs.KnownWorld.{KnownWorld}
use Rattle.cmd_trait.specs.Meaning.{Place, Meaning, IsLawful}
use Rattle.cmd_trait.specs.Readers.{reader_meaning, reader_lawful}

-- Ok of verify: exactly what deviates is reported, and of a sound repository whose members agree nothing
abbrev pub Verifies : Place → KnownWorld → Outcome → Type 0
Verifies p old outcome = IsVerified p.stanza old.repo outcome × EndsWithNone p.stanza old.repo outcome

abbrev pub VerifyCause : Place → KnownWorld → VerifyCommandFault → Type 0
VerifyCause p old fault = VerifyCommandCause p.stanza old.repo fault

abbrev pub verify_meaning : Meaning VerifyCommandFault
verify_meaning = reader_meaning Verifies VerifyCause verify_status verify_message

pub over : (fault : VerifyCommandFault) → 2 ≤ verify_status fault
over (TooMany limit) = omega arith

pub apart : (fault : VerifyCommandFault) → verify_status fault ≢ 65
apart (TooMany limit) = λ e. absurd (omega (arith, e))

pub no_server : (fault : VerifyCommandFault) → (verify_status fault ≤ 46) ⊎ (52 ≤ verify_status fault)
no_server (TooMany limit) = inr (omega arith)

pub verify_lawful : IsLawful verify_meaning
verify_lawful = reader_lawful Verifies VerifyCause verify_status verify_message over apart no_server
