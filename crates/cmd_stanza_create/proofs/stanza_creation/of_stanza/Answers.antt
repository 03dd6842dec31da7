use Rattle.std.proofs.Common.{sym, subst}
use Rattle.repo_stanza.specs.declared.fault.StanzaFault.{StanzaFault}
use Rattle.cmd_types.specs.declared.stages.object.Object.TheVariants.{Repo}
use Rattle.cmd_types.specs.declared.stages.halt.Halt.TheVariants.{Refused, Failed, NoMemory}
use Rattle.cmd_stanza_create.specs.declared.fault.CreateFault.TheVariants.{InfoDamaged, HistoryDiffers, StanzaMismatch, ArchiveLost, FilesFound}
use Rattle.cmd_stanza_create.specs.Creating.{IsStanzaFault, Damaged, Differs, Mismatch, Lost, Found, Unsaid, Broken, Starved}
use Rattle.cmd_stanza_create.proofs.stanza_creation.of_stanza.Goals as goal

pub returns-in-InfoDamaged : goal.returns-in-InfoDamaged
returns-in-InfoDamaged c = subst (λ (e : StanzaFault). IsStanzaFault e
    (Refused (InfoDamaged c.in-InfoDamaged.name c.in-InfoDamaged.main c.in-InfoDamaged.copy)))
    (sym c.in-InfoDamaged.is) (Damaged c.in-InfoDamaged.name c.in-InfoDamaged.main c.in-InfoDamaged.copy)

pub returns-in-HistoryDiffers : goal.returns-in-HistoryDiffers
returns-in-HistoryDiffers c = subst (λ (e : StanzaFault). IsStanzaFault e
    (Refused (HistoryDiffers c.in-HistoryDiffers.at))) (sym c.in-HistoryDiffers.is) (Differs c.in-HistoryDiffers.at)

pub returns-in-StanzaMismatch : goal.returns-in-StanzaMismatch
returns-in-StanzaMismatch c = subst (λ (e : StanzaFault). IsStanzaFault e
    (Refused (StanzaMismatch c.in-StanzaMismatch.kept c.in-StanzaMismatch.found))) (sym c.in-StanzaMismatch.is)
    (Mismatch c.in-StanzaMismatch.kept c.in-StanzaMismatch.found)

pub returns-in-Ok : goal.returns-in-Ok
returns-in-Ok c = subst (λ (e : StanzaFault). IsStanzaFault e (Refused (ArchiveLost c.in-Ok.label)))
    (sym c.in-ArchiveLost.is) (Lost c.in-ArchiveLost.label c.in-Ok.label c.in-Ok.ensures)

pub returns-in-Err : goal.returns-in-Err
returns-in-Err c = subst (λ (e : StanzaFault). IsStanzaFault e NoMemory) (sym c.in-ArchiveLost.is)
    (Unsaid c.in-ArchiveLost.label)

pub returns-in-FilesFound : goal.returns-in-FilesFound
returns-in-FilesFound c = subst (λ (e : StanzaFault). IsStanzaFault e (Refused (FilesFound c.in-FilesFound.name)))
    (sym c.in-FilesFound.is) (Found c.in-FilesFound.name)

pub returns-in-Disk : goal.returns-in-Disk
returns-in-Disk c = subst (λ (e : StanzaFault). IsStanzaFault e (Failed Repo)) (sym c.in-Disk.is) Broken

pub returns-in-NoMemory : goal.returns-in-NoMemory
returns-in-NoMemory c = subst (λ (e : StanzaFault). IsStanzaFault e NoMemory) (sym c.in-NoMemory.is) Starved
