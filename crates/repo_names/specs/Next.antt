-- The order of segments, at a segment size (PostgreSQL manual, "WAL Internals").
use Rattle.std.specs.Prelude.{◌≡◌, ℕ, ◌+◌, ◌*◌, ◌^◌, ◌<◌}
use Rattle.base_model.specs.declared.wal.Segment.{Segment}
use Rattle.base_model.specs.ManifestText.{segments_per_log, position}

-- the segment is one of those that a log has
abbrev pub IsOfLog : ℕ → Segment → Type 0
IsOfLog size s = s.seg < segments_per_log size

-- b follows a on its timeline, with none between
pub record IsNext (size : ℕ) (a b : Segment) : Type 0 where
  pub timeline : b.timeline ≡ a.timeline
  pub of_log : IsOfLog size b
  pub place : position size b ≡ position size a + 1

-- none follows: a timeline has 2^32 logs
abbrev pub IsLast : ℕ → Segment → Type 0
IsLast size s = position size s + 1 ≡ 2 ^ 32 * segments_per_log size

-- of all segments of logs b follows a alone
abbrev pub FollowsOnly : ℕ → Segment → Segment → Type 0
FollowsOnly size a b = (other : Segment) → IsOfLog size other → IsNext size other b → other ≡ a
