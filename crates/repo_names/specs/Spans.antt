-- A part of the log (PostgreSQL manual, "WAL Internals").
use Rattle.std.specs.Prelude.{◌≡◌, ℕ, ◌+◌, ◌<◌, ◌≤◌}
use Rattle.base_model.specs.declared.wal.Span.{Span}
use Rattle.base_model.specs.ManifestText.{segments_per_log, position}

-- segments of logs of this segment size and of one timeline, in their order, and not too many (own)
pub record IsSpanOf (size : ℕ) (s : Span) : Type 0 where
  pub start : s.start.seg < segments_per_log size
  pub stop : s.stop.seg < segments_per_log size
  pub timeline : s.start.timeline ≡ s.stop.timeline
  pub order : position size s.start ≤ position size s.stop
  pub short : position size s.stop ≤ position size s.start + 65536
