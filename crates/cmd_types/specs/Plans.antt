-- What a plan asks of the stages (pgBackRest command reference; own which locks).
use Rattle.std.specs.Prelude.{◌≡◌, ◌≢◌, ◌⊎◌, ◌++◌, Bool, List, [], ◌∷◌, codes, Option, Some, None, option_map, IsSome, if◌then◌else◌, IfSome}
use Rattle.base_devices.specs.Content.{Content, Name, at}
use Rattle.base_devices.specs.Crash.{IsTemporary, IsAlikeAt}
use Rattle.base_devices.specs.Moments.{View}
use Rattle.base_model.specs.Text.{Text}
use Rattle.base_model.specs.Names.{archive_info, copy_of}
use Rattle.base_model.specs.Values.{ArchiveInfo}
use Rattle.repo_pair.specs.Member.{IsMember}
use Rattle.repo_stanza.specs.Pairs.{AgreeAt}
use Rattle.cmd_types.specs.Current.{HasValue}
use Rattle.cmd_types.specs.declared.stages.plan.Plan.{Plan}
use Rattle.cmd_types.specs.declared.stages.plan.Pairs.{Pairs}
use Rattle.cmd_types.specs.declared.stages.plan.Pairs.TheVariants.{HealArchive}

-- ---- locks

-- the lock of commands that write backups, and that of commands that write the archive
abbrev pub backup_lock : Text → Text
backup_lock stanza = stanza ++ codes "-backup.lock"

abbrev pub archive_lock : Text → Text
archive_lock stanza = stanza ++ codes "-archive.lock"

abbrev pub when : Bool → Text → Option Text
when b name = if b then Some name else None

abbrev pub first_lock : Plan → Text → Option Text
first_lock plan stanza = when plan.backup_lock (backup_lock stanza)

abbrev pub second_lock : Plan → Text → Option Text
second_lock plan stanza = when plan.archive_lock (archive_lock stanza)

-- one more lock was taken, the last one first
abbrev pub with_one : Text → Option Text → List (Text × Text) → List (Text × Text)
with_one folder None locks = locks
with_one folder (Some name) locks = (folder, name) ∷ locks

-- the plan's locks, in their order
abbrev pub with_locks : Plan → Text → Text → List (Text × Text) → List (Text × Text)
with_locks plan folder stanza locks =
    with_one folder (second_lock plan stanza) (with_one folder (first_lock plan stanza) locks)

abbrev pub TakesLocks : Plan → Text → Text → Option (List (Text × Text)) → Option (List (Text × Text)) → Type 0
TakesLocks plan folder stanza old new = new ≡ option_map (with_locks plan folder stanza) old

-- one more lock is held
abbrev pub with_held : Option Text → List Name → List Name
with_held None held = held
with_held (Some name) held = name ∷ held

-- the locks that are held are the plan's
abbrev pub AreHeld : Plan → Text → List Name → Type 0
AreHeld plan stanza held = held ≡ with_held (second_lock plan stanza) (with_held (first_lock plan stanza) [])

-- the name is that of one of the plan's locks
abbrev pub IsLockOf : Plan → Text → Text → Type 0
IsLockOf plan stanza name = (first_lock plan stanza ≡ Some name) ⊎ (second_lock plan stanza ≡ Some name)

-- ---- pairs

-- both members of each pair that is healed are there and have the same text
abbrev pub AreHealed : Pairs → Text → Content → Type 0
AreHealed HealArchive stanza f = AgreeAt (archive_info stanza) f
AreHealed other stanza f = Unit {0}

-- all that a crash leaves has of both members of each pair that is healed what the disk holds
abbrev pub HealsToLast : Pairs → Text → View → Type 0
HealsToLast HealArchive stanza v = IsAlikeAt (IsMember (archive_info stanza)) v
HealsToLast other stanza v = Unit {0}

-- The disk holds what it held, except for the members of the archive pair and temporary names; and the pair has the
-- value that it had.
pub record HealsArchive (stanza : Text) (old new : Option Content) : Type 0 where
  pub others : (n : Name) → n ≢ archive_info stanza → n ≢ copy_of (archive_info stanza) → ¬ IsTemporary n
      → at n new ≡ at n old
  pub value : ArchiveInfo
  pub was : IfSome old (λ f. HasValue stanza f value)
  pub is : IfSome new (λ f. HasValue stanza f value)

-- What the disk holds as the command's own part begins. (A disk whose contents are unknown says nothing of what is
-- healed.)
abbrev pub Heals : Pairs → Text → Option Content → Option Content → Type 0
Heals HealArchive stanza old new = IsSome old → HealsArchive stanza old new
Heals other stanza old new = new ≡ old

-- this holds where no pair is healed
abbrev pub OnReading : Pairs → Type 0 → Type 0
OnReading HealArchive P = Unit {0}
OnReading other P = P
