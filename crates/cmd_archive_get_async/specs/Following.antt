-- Which segment is fetched next, and what starts the fetching.
use Rattle.std.specs.Prelude.{◌≡◌, ◌⊎◌, ◌≤◌, ◌++◌, ◌∷◌, ℕ, List, [], Option, IfSome, codes, option_map}
use Rattle.base_devices.specs.Cause.{Rises}
use Rattle.base_devices.specs.Content.{Content}
use Rattle.base_model.specs.declared.wal.Segment.{Segment}
use Rattle.base_model.specs.ManifestText.{IsSegSize}
use Rattle.base_model.specs.Text.{Text}
use Rattle.repo_names.specs.Next.{IsOfLog, IsNext, IsLast}
use Rattle.archive_lookup.specs.Turns.{ProcessesState}
use Rattle.cmd_archive_get_async.specs.Taking.{IsAhead}

-- a segment of this length is one of those that a log has
pub record HasSize (segment : Segment) (size : ℕ) : Type 0 where
  pub valid : IsSegSize size
  pub of_log : IsOfLog size segment

-- the segment that follows one of this length
pub record IsFollowing (segment : Segment) (size : ℕ) (s : Segment) : Type 0 where
  pub sized : HasSize segment size
  pub follows : IsNext size segment s

-- what follows the segment isn't in the spool
pub record IsWanting (stanza : Text) (segment : Segment) (size : ℕ) (spool : Option Content) : Type 0 where
  pub next : Segment
  pub following : IsFollowing segment size next
  pub lacks : IfSome spool (λ f. ¬ IsAhead stanza next f)

-- nothing follows one of this length: no log has it, or it is the last of its timeline
abbrev pub HasNoneAfter : Segment → ℕ → Type 0
HasNoneAfter segment size = HasSize segment size → IsLast size segment

-- nothing follows the segment, or it is in the spool
abbrev pub IsSated : Text → Segment → ℕ → Option Content → Type 0
IsSated stanza segment size spool = HasNoneAfter segment size
    ⊎ ((s : Segment) × IsFollowing segment size s × IfSome spool (IsAhead stanza s))

-- this program was started once with these arguments
abbrev pub IsStartedWith : List Text → ProcessesState → ProcessesState → Type 0
IsStartedWith arguments old new = new.started ≡ option_map (λ past. past ++ arguments ∷ []) old.started

-- the line where this program can't be started
abbrev pub unstarted : Text
unstarted = codes "WARN: unable to start archive-get:async\n"

-- This program was started with these arguments; or it couldn't be, which the line states.
abbrev pub Starts : List Text → ProcessesState → ProcessesState → Text → Type 0
Starts arguments old new lines = (IsStartedWith arguments old new × (lines ≡ []))
    ⊎ ((new.started ≡ old.started) × (lines ≡ unstarted) × Rises old.faults new.faults)

-- A fetch is started exactly where what follows the segment isn't in the spool.
abbrev pub Follows : Text → Segment → ℕ → List Text → Option Content → ProcessesState → ProcessesState → Text → Type 0
Follows stanza segment size arguments spool old new lines =
    (IsWanting stanza segment size spool × Starts arguments old new lines)
    ⊎ (IsSated stanza segment size spool × (new.started ≡ old.started) × (lines ≡ []))

-- Other processes took no step, and this program was started with these arguments at most.
pub record QuietOthers (arguments : List Text) (old new : ProcessesState) : Type 0 where
  pub account : new.account ≡ old.account
  pub turns : new.turns ≡ old.turns
  pub started : (new.started ≡ old.started) ⊎ IsStartedWith arguments old new
  pub later : old.faults ≤ new.faults
