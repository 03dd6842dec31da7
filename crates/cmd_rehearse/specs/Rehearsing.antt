-- The result of a rehearsal, and what it reports. Own.
use Rattle.std.specs.Prelude.{◌≡◌, ◌++◌, ℕ, List, length, Option, None, Some, IfSome, IsSome, string_bytes}
use Rattle.base_devices.specs.Content.{Content}
use Rattle.base_devices.specs.DataFolder.{Nodes}
use Rattle.base_model.specs.declared.labels.BackupKind.TheVariants.{Full, Incr}
use Rattle.base_model.specs.Now.{NowRepresents}
use Rattle.base_model.specs.Repository.{Backup, Stanza}
use Rattle.base_model.specs.Text.{Text}
use Rattle.archive_lookup.specs.declared.stored.files.Stored.{Stored}
use Rattle.archive_lookup.specs.Stored.{AreStored}
use Rattle.expire_rules.specs.Condemned.{condemned_labels}
use Rattle.expire_make.specs.Expiry.{listed}
use Rattle.restore_choice.specs.declared.choice.Choice.TheVariants.{Last}
use Rattle.restore_choice.specs.Choosing.{unbounded}
use Rattle.cmd_restore.specs.Restoring.{Before, Recovers}
use Rattle.cmd_verify.specs.Verifying.{IsVerified, EndsWithNone}
use Rattle.cmd_types.specs.declared.stages.halt.Halt.{Halt}
use Rattle.cmd_types.specs.declared.stages.halt.Halt.TheVariants.{Refused}
use Rattle.cmd_types.specs.declared.stages.outcome.Outcome.{Outcome}
use Rattle.cmd_types.specs.declared.stages.outcome.Outcome.TheVariants.{Finished, Absent, FindingsFound}
use Rattle.cmd_rehearse.specs.declared.backup_totals.Amount.{Amount}
use Rattle.cmd_rehearse.specs.declared.backup_totals.Counted.TheVariants.{All, Own, Filled}
use Rattle.cmd_rehearse.specs.declared.fault.RehearseFault.{RehearseFault}
use Rattle.cmd_rehearse.specs.declared.fault.RehearseFault.TheVariants.{Step}
use Rattle.cmd_rehearse.specs.declared.cluster_life.Lived.{Lived}
use Rattle.cmd_rehearse.specs.declared.telling.Summary.{Summary}
use Rattle.cmd_rehearse.specs.Advancing.{Had}
use Rattle.cmd_rehearse.specs.Commands.{prepared, with_first, with_second, with_third, one_full}
use Rattle.cmd_rehearse.specs.Backups.{IsStep}
use Rattle.cmd_rehearse.specs.Counting.{ShowsLast}
use Rattle.cmd_rehearse.specs.Telling.{summary_of}

-- of the stanza that the disk represents this many backups expire where one full one is kept
abbrev pub CountsExpired : Text → Option Content → ℕ → Type 0
CountsExpired stanza now n = (s : Stanza) → IsSome now → NowRepresents stanza (Some s) now
    → n ≡ length (condemned_labels one_full 0 (listed s))

-- this many files are archived
abbrev pub CountsStored : Text → Option Content → ℕ → Type 0
CountsStored stanza now n = IfSome now (λ f. (files : List Stored) × AreStored stanza f files × (n ≡ length files))

-- Each backup was made after the commands before it. Its numbers are those of the files that it stored itself, as its
-- manifest then reported; of the second, which isn't full, those with bytes. What was removed is what the rules expire
-- after the third.
pub record IsLived (stanza : Text) (number : ℕ) (b c d : Backup) (old : Option Content) (lived : Lived) : Type 0 where
  pub first : Had stanza (with_first number b) old (λ now. IsStep stanza (prepared number) Full Own old now lived.first)
  pub second : Had stanza (with_second number b c) old
      (λ now. IsStep stanza (with_first number b) Incr Filled old now lived.second)
  pub third : Had stanza (with_third number b c d) old
      (λ now. IsStep stanza (with_second number b c) Full Own old now lived.third
      × CountsExpired stanza now lived.expired)

-- how many findings a verification reported
abbrev pub count_of : Outcome → ℕ
count_of (FindingsFound lines count) = count
count_of other = 0

-- a verification ends with what it found, or with nothing
abbrev pub IsKnown : Outcome → Type 0
IsKnown (Absent name) = ⊥
IsKnown other = Unit {0}

-- what was found is reported, and then these lines
abbrev pub IsKnownBehind : Text → Outcome → Outcome → Type 0
IsKnownBehind lines (Finished known) (Finished all) = string_bytes all ≡ string_bytes known ++ lines
IsKnownBehind lines (FindingsFound known count) (FindingsFound all number) =
    (string_bytes all ≡ string_bytes known ++ lines) × (number ≡ count)
IsKnownBehind lines found other = ⊥

-- the last backup was restored into the data folder
pub record IsRestoredLast (stanza : Text) (repo : Option Content) (nodes : Option Nodes) : Type 0 where
  pub before : Before
  pub stanza_is : before.stanza ≡ stanza
  pub choice_is : before.choice ≡ Last unbounded
  pub repo_is : before.repo ≡ repo
  pub lines : Text
  pub recovers : Recovers before nodes lines

-- The state that the disk reaches: this many files are archived, this many are in the last backup, and this is what a
-- verification finds.
pub record ComesTo (stanza : Text) (new : Option Content) (kept : ℕ) (restored : Amount) (found : Outcome) : Type
    0 where
  pub stored : CountsStored stanza new kept
  pub files : ShowsLast stanza All new restored
  pub examined : IsVerified stanza new found
  -- nothing where the repository is sound and its members agree
  pub sound : EndsWithNone stanza new found

-- and the last backup is in the data folder
pub record IsEnded (stanza : Text) (new : Option Content) (nodes : Option Nodes) (kept : ℕ) (restored : Amount)
    (found : Outcome) : Type 0 where
  pub given : IsRestoredLast stanza new nodes
  pub comes : ComesTo stanza new kept restored found

-- Ok of a rehearsal: what a verification found is reported, and then the summary.
pub record IsRehearsed (stanza : Text) (number : ℕ) (b c d : Backup) (old new : Option Content) (nodes : Option Nodes)
    (outcome : Outcome) : Type 0 where
  pub summary : Summary
  pub lived : IsLived stanza number b c d old
      (record { first = summary.first; second = summary.second; third = summary.third; expired = summary.expired })
  pub found : Outcome
  pub ended : IsEnded stanza new nodes summary.kept summary.restored found
  pub findings : summary.findings ≡ count_of found
  pub lines : IsKnownBehind (summary_of number summary) found outcome

-- this holds of a refusal before the first step
abbrev pub IfEarly : Type 0 → Halt RehearseFault → Type 0
IfEarly P (Refused (Step fault)) = Unit {0}
IfEarly P (Refused other) = P
IfEarly P other = Unit {0}
