-- Which refusal of expire a fault below is, and why it is refused.
use Rattle.std.specs.Prelude.{Bool, true, Option, IfSome}
use Rattle.base_devices.specs.Content.{Content}
use Rattle.base_devices.specs.States.{DiskState, DiskFailed, ClockState, ClockFailed}
use Rattle.base_model.specs.Text.{Text}
use Rattle.repo_stanza.specs.declared.fault.StanzaFault.{StanzaFault}
use Rattle.repo_stanza.specs.declared.fault.StanzaFault.TheVariants as stanzas
use Rattle.repo_stanza.specs.Causes.{HistoriesDiffer}
use Rattle.expire_make.specs.declared.fault.ExpireFault.{ExpireFault}
use Rattle.expire_make.specs.declared.fault.ExpireFault.TheVariants as expiries
use Rattle.cmd_types.specs.declared.stages.object.Object.TheVariants.{Repo, Clock as TheClock}
use Rattle.cmd_types.specs.declared.stages.halt.Halt.{Halt}
use Rattle.cmd_types.specs.declared.stages.halt.Halt.TheVariants.{Refused, Failed, NoMemory}
use Rattle.cmd_types.specs.Halts.{HaltCause, Never, Only}
use Rattle.cmd_types.specs.Risen.{none, rose_in}
use Rattle.cmd_expire.specs.declared.fault.ExpireCommandFault.{ExpireCommandFault}
use Rattle.cmd_expire.specs.declared.fault.ExpireCommandFault.TheVariants.{HistoryDiffers}

-- it comes before the command's first step
abbrev pub expire_early : ExpireCommandFault → Bool
expire_early (HistoryDiffers at) = true

-- why expire is refused, from what the repository held
abbrev pub ExpireCommandCause : Text → Option Content → ExpireCommandFault → Type 0
ExpireCommandCause stanza repo (HistoryDiffers at) = IfSome repo (λ f. HistoriesDiffer stanza f at)

-- of two values that were read: their histories may differ
abbrev pub of_stanza : StanzaFault → Halt ExpireCommandFault
of_stanza (stanzas.InfoDamaged name main copy) = NoMemory
of_stanza (stanzas.HistoryDiffers at) = Refused (HistoryDiffers at)
of_stanza (stanzas.StanzaMismatch kept found) = NoMemory
of_stanza (stanzas.ArchiveLost label) = NoMemory
of_stanza (stanzas.FilesFound name) = NoMemory
of_stanza stanzas.Disk = NoMemory
of_stanza stanzas.NoMemory = NoMemory

-- of an expiry of a list that was read
abbrev pub of_expire : ExpireFault → Halt ExpireCommandFault
of_expire (expiries.Info fault) = NoMemory
of_expire (expiries.HistoryDiffers at) = NoMemory
of_expire expiries.Disk = Failed Repo
of_expire expiries.NoMemory = NoMemory

-- why the clock isn't read
abbrev pub ClockHalts : ClockState → ClockState → Halt ExpireCommandFault → Type 0
ClockHalts old new = HaltCause Never (Only TheClock (ClockFailed old new))

-- why the command ends without its result
abbrev pub ExpireCommandFails : Text → DiskState → DiskState → ClockState → ClockState → Halt ExpireCommandFault
    → Type 0
ExpireCommandFails stanza repo new_repo clock new_clock = HaltCause (ExpireCommandCause stanza repo.view.now)
    (rose_in (record none { repo = DiskFailed repo new_repo; clock = ClockFailed clock new_clock }))
