-- Where a call of `run` leads, by what the objects report.
use Rattle.std.specs.Prelude.{◌++◌, ℕ, List, Option, option_map, IsSome}
use Rattle.base_model.specs.Text.{Text}
use Rattle.base_model.specs.Repository.{Repository}
use Rattle.base_crash_lists.specs.Trace.{Call, stopped}
use Rattle.cmd_types.specs.World.{World}
use Rattle.cmd_trait.specs.KnownWorld.{known_world}
use Rattle.program_crashes.specs.Acts.{disks_in, ShowsTurns, IsShown, IsMade, grown}
use Rattle.program_crashes.specs.Kept.{KeepsCalls, LeaveCalls, AreThere}

-- From disks that keep these calls a call of `run` leads to disks that keep them with the one that it makes, and each
-- file is there that one of them pushed. All that a crash within it leaves is of these calls with a part of it.
pub record Went (q : Text → Repository) (earlier before : List Call) (arguments : List Text) (old new : World)
    (status : ℕ) : Type 0 where
  pub made : Option Call
  pub is : IsMade q (before ++ earlier) arguments old new status made
  pub keeps : KeepsCalls q earlier (grown made before) (disks_in new)
  pub there : AreThere (grown made before) new.repo.view
  pub leaves : LeaveCalls q earlier (grown (option_map stopped made) before) (disks_in old) (disks_in new)

-- the data folder's contents are known; and what others did meanwhile, where the call waits for steps of theirs
abbrev pub OnKnownFolder : List Text → World → World → Type 0 → Type 0
OnKnownFolder arguments old new P = IsSome old.tree.nodes → ShowsTurns arguments old.config.files (known_world new) → P

-- so the call is shown
abbrev pub ShowsBetween : List Text → World → World → ℕ → Type 0
ShowsBetween arguments old new status = OnKnownFolder arguments old new
    (IsShown arguments old.config.files (known_world old) (known_world new) status (disks_in old) (disks_in new))

-- and it leads from disks that keep some calls to disks that keep them with it
pub record LeadsBetween (arguments : List Text) (old new : World) (status : ℕ) : Type 0 where
  pub went : OnKnownFolder arguments old new ((q : Text → Repository) (earlier before : List Call)
      → KeepsCalls q earlier before (disks_in old) → Went q earlier before arguments old new status)
