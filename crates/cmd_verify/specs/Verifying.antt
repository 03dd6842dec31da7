-- What verify reports (pgBackRest command reference, "Verify Command").
use Rattle.std.specs.Prelude.{◌≡◌, ◌<◌, List, [], ◌∷◌, ◌++◌, length, codes, Bool, true, Option, IfSome, string_bytes}
use Rattle.std.specs.List.{flat_map}
use Rattle.base_devices.specs.Content.{Content}
use Rattle.base_devices.specs.States.{DiskState, DiskFailed}
use Rattle.base_model.specs.Text.{Text}
use Rattle.base_model.specs.Repository.{Stanza, IsSoundStanza}
use Rattle.base_model.specs.Represents.{HasStanza}
use Rattle.archive_lookup.specs.declared.stored.files.Stored.{Stored}
use Rattle.archive_lookup.specs.Causes.{most_files}
use Rattle.archive_lookup.specs.Stored.{AreStored}
use Rattle.cmd_verify.specs.declared.findings.finding.Finding.{Finding}
use Rattle.cmd_verify.specs.declared.findings.finding.VerifyFault.{VerifyFault}
use Rattle.cmd_verify.specs.declared.findings.finding.VerifyFault.TheVariants as verifies
use Rattle.cmd_verify.specs.Clean.{MembersAgree}
use Rattle.cmd_verify.specs.Exact.{AreFindings}
use Rattle.cmd_types.specs.declared.stages.halt.Halt.{Halt}
use Rattle.cmd_types.specs.declared.stages.halt.Halt.TheVariants.{Refused, Failed, NoMemory}
use Rattle.cmd_types.specs.declared.stages.object.Object.TheVariants.{Repo}
use Rattle.cmd_types.specs.declared.stages.outcome.Outcome.{Outcome}
use Rattle.cmd_types.specs.declared.stages.outcome.Outcome.TheVariants.{Finished, FindingsFound}
use Rattle.cmd_types.specs.Halts.{HaltCause, Only}
use Rattle.cmd_types.specs.Reached.{OnFinished}
use Rattle.cmd_verify.specs.declared.command.fault.VerifyCommandFault.{VerifyCommandFault}
use Rattle.cmd_verify.specs.declared.command.fault.VerifyCommandFault.TheVariants.{TooMany}

-- ---- the lines

-- the line of a finding: the name, and what deviates there
abbrev pub finding_line : Finding → Text
finding_line x = string_bytes x.name ++ (codes ": " ++ (string_bytes x.line ++ codes "\n"))

-- A command that found these ends with a line for each and their number, and with none where nothing was found.
abbrev pub EndsBy : List Finding → Outcome → Type 0
EndsBy [] (Finished lines) = string_bytes lines ≡ []
EndsBy (x ∷ xs) (FindingsFound lines count) =
    (string_bytes lines ≡ flat_map finding_line (x ∷ xs)) × (count ≡ length (x ∷ xs))
EndsBy found outcome = ⊥

-- exactly the ways in which the repository deviates are reported, each once, in order
pub record IsVerified (stanza : Text) (repo : Option Content) (outcome : Outcome) : Type 0 where
  pub found : List Finding
  pub are : IfSome repo (λ f. AreFindings stanza f found)
  pub ends : EndsBy found outcome

-- of a sound repository whose members agree nothing is reported
abbrev pub EndsWithNone : Text → Option Content → Outcome → Type 0
EndsWithNone stanza repo outcome = IfSome repo (λ f. (s : Stanza) → HasStanza stanza f s → IsSoundStanza s
    → MembersAgree stanza f s → OnFinished outcome (λ lines. lines ≡ []))

-- ---- refusals

-- more files are archived than can be listed
abbrev pub VerifyCommandCause : Text → Option Content → VerifyCommandFault → Type 0
VerifyCommandCause stanza repo (TooMany limit) = (limit ≡ most_files)
    × IfSome repo (λ f. (files : List Stored) × AreStored stanza f files × (limit < length files))

-- it comes before the command's first step, since there is none
abbrev pub verify_early : VerifyCommandFault → Bool
verify_early fault = true

-- what a fault of the verification is
abbrev pub of_verify : VerifyFault → Halt VerifyCommandFault
of_verify (verifies.TooMany limit) = Refused (TooMany limit)
of_verify verifies.Disk = Failed Repo
of_verify verifies.NoMemory = NoMemory

-- why the command ends without its result
abbrev pub VerifyCommandFails : Text → DiskState → DiskState → Halt VerifyCommandFault → Type 0
VerifyCommandFails stanza old new = HaltCause (VerifyCommandCause stanza old.view.now) (Only Repo (DiskFailed old new))
