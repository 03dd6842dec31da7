-- What is written of a stanza's pairs, from one state of the disk to another.
use Rattle.std.specs.Prelude.{IfSome, IsSome}
use Rattle.base_devices.specs.Crash.{Write, Crash, Ends, NowChanges, AllOf, FirstOf, SomeOf}
use Rattle.base_devices.specs.States.{DiskState}
use Rattle.base_model.specs.declared.clusters.ArchiveInfo.{ArchiveInfo}
use Rattle.base_model.specs.declared.clusters.BackupInfo.{BackupInfo}
use Rattle.base_model.specs.declared.clusters.Cluster.{Cluster}
use Rattle.base_model.specs.Text.{Text}
use Rattle.base_model.specs.Names.{archive_info, backup_info}
use Rattle.base_model.specs.Values.{archive_info_of, backup_info_of}
use Rattle.base_model.specs.Create.{first_archive_text, first_backup_text, pair_writes}
use Rattle.repo_pair.specs.Writes.{HealsBoth, HealsNow, SavesBoth, SavesNow, EndsBoth, EndsNow}
use Rattle.repo_stanza.specs.declared.pair_rules.PairValues.{PairValues}
use Rattle.repo_stanza.specs.Synced.{AreSynced}
use Rattle.repo_stanza.specs.HealingPair.{archive_text, backup_text, mending_writes, HoldBoth, HaveTexts}
use Rattle.repo_stanza.specs.Upgrading.{upgrade_writes}

-- ---- one pair: its main member's name, and the text of both members

-- the pairs of a new stanza
abbrev pub new_archive : Text → Cluster → Write
new_archive stanza c = (archive_info stanza, first_archive_text c)

abbrev pub new_backup : Text → Cluster → Write
new_backup stanza c = (backup_info stanza, first_backup_text c)

-- the pairs with these values
abbrev pub archive_write : Text → ArchiveInfo → Write
archive_write stanza v = (archive_info stanza, archive_text (archive_info_of v))

abbrev pub backup_write : Text → BackupInfo → Write
backup_write stanza v = (backup_info stanza, backup_text (backup_info_of v))

-- the first member or both have the text, at each crash and now
abbrev pub SavesPair : Write → DiskState → DiskState → Type 0
SavesPair w old new = SavesBoth w.0 w.1 old.view new.view

abbrev pub SavesPairNow : Write → DiskState → DiskState → Type 0
SavesPairNow w old new = SavesNow w.0 w.1 old.view new.view

-- both have it at the end, after each crash and now
abbrev pub EndsPair : Write → DiskState → DiskState → Type 0
EndsPair w old new = EndsBoth w.0 w.1 old.view new.view

abbrev pub EndsPairNow : Write → DiskState → DiskState → Type 0
EndsPairNow w old new = EndsNow w.0 w.1 old.view new.view

-- any of the members have it anew, at each crash and now
abbrev pub MendsPair : Write → DiskState → DiskState → Type 0
MendsPair w old new = HealsBoth w.0 w.1 old.view new.view

abbrev pub MendsPairNow : Write → DiskState → DiskState → Type 0
MendsPairNow w old new = HealsNow w.0 w.1 old.view new.view

-- both members have it
abbrev pub PairHasText : Write → DiskState → Type 0
PairHasText w d = IfSome d.view.now (HoldBoth w.0 w.1)

-- ---- both pairs

-- those of a new stanza: first ones of its writes are made, or at the end all
abbrev pub SavesPairs : Text → Cluster → DiskState → DiskState → Type 0
SavesPairs stanza c old new = AreSynced stanza old.view → Crash (FirstOf (pair_writes stanza c)) old.view new.view

abbrev pub SavesPairsNow : Text → Cluster → DiskState → DiskState → Type 0
SavesPairsNow stanza c old new = NowChanges (FirstOf (pair_writes stanza c)) old.view.now new.view.now

abbrev pub EndsPairs : Text → Cluster → DiskState → DiskState → Type 0
EndsPairs stanza c old new = AreSynced stanza old.view → Ends (AllOf (pair_writes stanza c)) old.view new.view

abbrev pub EndsPairsNow : Text → Cluster → DiskState → DiskState → Type 0
EndsPairsNow stanza c old new = NowChanges (AllOf (pair_writes stanza c)) old.view.now new.view.now

-- those with these values: any of the members have their texts anew
abbrev pub MendsPairs : Text → PairValues → DiskState → DiskState → Type 0
MendsPairs stanza k old new = AreSynced stanza old.view
    → Crash (SomeOf (mending_writes stanza (archive_text (archive_info_of k.archive))
    (backup_text (backup_info_of k.backup)))) old.view new.view

abbrev pub MendsPairsNow : Text → PairValues → DiskState → DiskState → Type 0
MendsPairsNow stanza k old new = NowChanges
    (SomeOf (mending_writes stanza (archive_text (archive_info_of k.archive))
    (backup_text (backup_info_of k.backup)))) old.view.now new.view.now

-- and at the end all have them
abbrev pub PairsHaveTexts : Text → PairValues → DiskState → DiskState → Type 0
PairsHaveTexts stanza k old new = IsSome old.view.now
    → IfSome new.view.now
    (HaveTexts stanza (archive_text (archive_info_of k.archive)) (backup_text (backup_info_of k.backup)))

-- ---- both pairs, with these texts

-- the members of one of them
abbrev pub archive_of : Text → Text → Write
archive_of stanza text = (archive_info stanza, text)

abbrev pub backup_of : Text → Text → Write
backup_of stanza text = (backup_info stanza, text)

-- first ones of the writes are made, or at the end all
abbrev pub SavesTexts : Text → Text → Text → DiskState → DiskState → Type 0
SavesTexts stanza backup archive old new = AreSynced stanza old.view
    → Crash (FirstOf (upgrade_writes stanza backup archive)) old.view new.view

abbrev pub SavesTextsNow : Text → Text → Text → DiskState → DiskState → Type 0
SavesTextsNow stanza backup archive old new =
    NowChanges (FirstOf (upgrade_writes stanza backup archive)) old.view.now new.view.now

abbrev pub EndsTexts : Text → Text → Text → DiskState → DiskState → Type 0
EndsTexts stanza backup archive old new = AreSynced stanza old.view
    → Ends (AllOf (upgrade_writes stanza backup archive)) old.view new.view

abbrev pub EndsTextsNow : Text → Text → Text → DiskState → DiskState → Type 0
EndsTextsNow stanza backup archive old new =
    NowChanges (AllOf (upgrade_writes stanza backup archive)) old.view.now new.view.now
