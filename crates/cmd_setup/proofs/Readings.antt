-- What holds where the plan reads the backup pair: it heals none.
use Rattle.std.proofs.Common.{false, Option, Some, None, sym, subst}
use Rattle.std.specs.Prelude.{IfSome, IsSome, IsTrue, IsSomeAnd}
use Rattle.base_devices.specs.Content.{Content}
use Rattle.base_devices.specs.Moments.{View}
use Rattle.base_disk.proofs.Changes.{only_on, only_rests}
use Rattle.base_model.specs.Names.{archive_info}
use Rattle.base_model.specs.Text.{Text}
use Rattle.base_model.specs.declared.clusters.ArchiveInfo.{ArchiveInfo}
use Rattle.base_model.specs.InfoFiles.{IsArchiveInfo}
use Rattle.base_model.specs.Values.{archive_info_of}
use Rattle.archive_store.specs.Still.{IsStill, still_on}
use Rattle.cmd_types.specs.declared.stages.fault.StageFault.{StageFault}
use Rattle.cmd_types.specs.declared.stages.plan.Pairs.{Pairs}
use Rattle.cmd_types.specs.declared.stages.plan.Pairs.TheVariants.{Unread, ReadArchive, HealArchive, ReadBoth}
use Rattle.cmd_types.specs.Current.{HasValue, HasArchive, BackupCause}
use Rattle.cmd_types.specs.Plans.{OnReading}
use Rattle.repo_pair.specs.Member.{IsOfPair}
use Rattle.cmd_setup.specs.Calls.{ChangesPair, LeavesPair}
use Rattle.cmd_setup.specs.Readies.{has_archive, has_backup}

never : IsTrue false → ⊥
never is = cc

-- a plan that reads the backup pair heals none
both_reads : (pairs : Pairs) (P : Type 0) → IsTrue (has_backup pairs) → OnReading pairs P → P
both_reads Unread P reads h = absurd (never reads)
both_reads ReadArchive P reads h = absurd (never reads)
both_reads HealArchive P reads h = absurd (never reads)
both_reads ReadBoth P reads h = h

both_has : (pairs : Pairs) → IsTrue (has_backup pairs) → IsTrue (has_archive pairs)
both_has Unread reads = absurd (never reads)
both_has ReadArchive reads = absurd (never reads)
both_has HealArchive reads = absurd (never reads)
both_has ReadBoth reads = reads

-- the value that the archive pair has
value_of : (stanza : Text) (now : Option Content) (archive : Option ArchiveInfo) →
    IsSomeAnd archive (λ v. IfSome now (λ f. HasValue stanza f (archive_info_of v)) × IsArchiveInfo (archive_info_of v)) → HasArchive stanza now
value_of stanza now (Some v) h = (archive_info_of v, h.0)
value_of stanza now None h = absurd h

-- why the backup pair has no value, after the archive pair
pub backup_refuses : (pairs : Pairs) (stanza : Text) (a b : View) (archive : Option ArchiveInfo) (e : StageFault) → OnReading pairs (IsStill a b) →
    (IsTrue (has_archive pairs) → IsSomeAnd archive (λ v. IfSome b.now (λ f. HasValue stanza f (archive_info_of v)) × IsArchiveInfo (archive_info_of v))) →
    IsTrue (has_backup pairs) × BackupCause stanza b.now e → IsTrue (has_backup pairs) × HasArchive stanza a.now × BackupCause stanza a.now e
backup_refuses pairs stanza a b archive e still found cause =
    let same = (both_reads pairs (IsStill a b) cause.0 still).now in (
      cause.0,
      subst (λ (o : Option Content). HasArchive stanza o) same (value_of stanza b.now archive (found (both_has pairs cause.0))),
      subst (λ (o : Option Content). BackupCause stanza o e) same cause.1,
    )

-- what holds where no pair is healed leads to this there
pub reading_as : (pairs : Pairs) (P Q : Type 0) → (P → Q) → OnReading pairs P → OnReading pairs Q
reading_as Unread P Q to h = to h
reading_as ReadArchive P Q to h = to h
reading_as HealArchive P Q to h = tt
reading_as ReadBoth P Q to h = to h

-- ---- what the stages leave

-- only was read
pub still_leaves : (pairs : Pairs) (stanza : Text) (a b : View) → IsStill a b → LeavesPair pairs stanza a b
still_leaves Unread stanza a b still = still
still_leaves ReadArchive stanza a b still = still
still_leaves HealArchive stanza a b still = record {
  known = λ some. subst (λ (o : Option Content). IsSome o) (sym still.now) some;
  only = only_rests (IsOfPair (archive_info stanza)) a b still.time still.now;
}
still_leaves ReadBoth stanza a b still = still

-- the pairs were read or healed after that
pub found_leaves : (pairs : Pairs) (stanza : Text) (a b c : View) → IsStill a b → OnReading pairs (IsStill b c) → (IsSome b.now → IsSome c.now) → ChangesPair stanza b c → LeavesPair pairs stanza a c
found_leaves Unread stanza a b c first still known only = still_on a b c first still
found_leaves ReadArchive stanza a b c first still known only = still_on a b c first still
found_leaves HealArchive stanza a b c first still known only = record {
  known = λ some. known (subst (λ (o : Option Content). IsSome o) (sym first.now) some);
  only = only_on (IsOfPair (archive_info stanza)) a b c (only_rests (IsOfPair (archive_info stanza)) a b first.time first.now) only;
}
found_leaves ReadBoth stanza a b c first still known only = still_on a b c first still

-- where no pair is healed only was read
pub leaves_reading : (pairs : Pairs) (stanza : Text) (a b : View) → LeavesPair pairs stanza a b → OnReading pairs (IsStill a b)
leaves_reading Unread stanza a b h = h
leaves_reading ReadArchive stanza a b h = h
leaves_reading HealArchive stanza a b h = tt
leaves_reading ReadBoth stanza a b h = h
