-- The part of the log that an online backup needs (PostgreSQL manual, "Making a Base Backup Using the Low Level API").
use Rattle.std.specs.Prelude.{◌≡◌}
use Rattle.base_model.specs.declared.wal.Lsn.{Lsn}
use Rattle.base_model.specs.declared.wal.SegSize.{SegSize}
use Rattle.base_model.specs.declared.wal.Segment.{Segment}
use Rattle.base_model.specs.declared.wal.WalPart.{WalPart}

-- the part of the log begins at this position, in this segment
pub record StartsAt (size : SegSize) (from : Lsn) (segment : Segment) (w : WalPart) : Type 0 where
  pub size_is : w.size ≡ size
  pub from_is : w.from ≡ from
  pub segment_is : w.span.start ≡ segment

-- the part of the log between these ends
abbrev pub wal_of : SegSize → Segment → Segment → Lsn → Lsn → WalPart
wal_of size start stop from to =
    record { span = record { start = start; stop = stop }; from = from; to = to; size = size }
