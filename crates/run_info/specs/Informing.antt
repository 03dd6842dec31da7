-- What info means.
use Rattle.std.specs.Prelude.{◌≤◌, ◌≢◌, ◌⊎◌, Some, IsSome}
use Rattle.std.proofs.Common.{inl, inr, arith}
use Rattle.base_model.specs.Now.{NowRepresents}
use Rattle.base_model.specs.Repository.{Stanza}
use Rattle.options_read.specs.declared.options.OutputWord.{OutputWord}
use Rattle.cmd_types.specs.declared.stages.fault.StageFault.{StageFault}
use Rattle.cmd_types.specs.declared.stages.fault.StageFault.TheVariants as stage
use Rattle.cmd_types.specs.declared.stages.outcome.Outcome.{Outcome}
use Rattle.cmd_types.specs.Reached.{OnFinished}
use Rattle.cmd_types.specs.StagesTexts.{stage_status, stage_message}
use Rattle.cmd_info.specs.Reporting.{IsReported, ReportsStanza}
use Rattle.cmd_trait.specs.KnownWorld.{KnownWorld}
use Rattle.cmd_trait.specs.Meaning.{Place, Meaning, IsLawful}
use Rattle.cmd_trait.specs.Readers.{reader_meaning, reader_lawful}

-- Ok of info: the lines are the report on what the repository holds, and on the stanza that it represents
abbrev pub Informs : OutputWord → Place → KnownWorld → Outcome → Type 0
Informs form p old outcome = OnFinished outcome (IsReported p.stanza form old.repo)
    × ((s : Stanza) → IsSome old.repo → NowRepresents p.stanza (Some s) old.repo
    → OnFinished outcome (ReportsStanza form p.stanza s))

-- it is refused for nothing of its own
abbrev pub InformCause : Place → KnownWorld → StageFault → Type 0
InformCause p old fault = ⊥

abbrev pub info_meaning : OutputWord → Meaning StageFault
info_meaning form = reader_meaning (Informs form) InformCause stage_status stage_message

pub over : (e : StageFault) → 2 ≤ stage_status e
over (stage.ConfigMissing a) = omega arith
over (stage.ConfigLong a b) = omega arith
over (stage.Held a) = omega arith
over (stage.ControlMissing a) = omega arith
over (stage.ControlShort a) = omega arith
over stage.VersionText = omega arith
over (stage.VersionUnsupported a) = omega arith
over (stage.StanzaMissing a) = omega arith
over (stage.InfoDamaged a b c) = omega arith

pub apart : (e : StageFault) → stage_status e ≢ 65
apart (stage.ConfigMissing a) = λ e. absurd (omega (arith, e))
apart (stage.ConfigLong a b) = λ e. absurd (omega (arith, e))
apart (stage.Held a) = λ e. absurd (omega (arith, e))
apart (stage.ControlMissing a) = λ e. absurd (omega (arith, e))
apart (stage.ControlShort a) = λ e. absurd (omega (arith, e))
apart stage.VersionText = λ e. absurd (omega (arith, e))
apart (stage.VersionUnsupported a) = λ e. absurd (omega (arith, e))
apart (stage.StanzaMissing a) = λ e. absurd (omega (arith, e))
apart (stage.InfoDamaged a b c) = λ e. absurd (omega (arith, e))

pub no_server : (e : StageFault) → (stage_status e ≤ 46) ⊎ (52 ≤ stage_status e)
no_server (stage.ConfigMissing a) = inl (omega arith)
no_server (stage.ConfigLong a b) = inr (omega arith)
no_server (stage.Held a) = inl (omega arith)
no_server (stage.ControlMissing a) = inl (omega arith)
no_server (stage.ControlShort a) = inl (omega arith)
no_server stage.VersionText = inl (omega arith)
no_server (stage.VersionUnsupported a) = inl (omega arith)
no_server (stage.StanzaMissing a) = inl (omega arith)
no_server (stage.InfoDamaged a b c) = inl (omega arith)

pub info_lawful : (form : OutputWord) → IsLawful (info_meaning form)
info_lawful form = reader_lawful (Informs form) InformCause stage_status stage_message over apart no_server
