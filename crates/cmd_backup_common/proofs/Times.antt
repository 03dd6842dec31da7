-- The two seconds of a backup.
use Rattle.std.proofs.Common.{◌≤◌, ℕ, arith}
use Rattle.base_devices.specs.States.{ClockState, ShowsSecond}
use Rattle.cmd_backup_common.specs.Seconds.{ShowsTimes}

-- the one was shown, and then the other
pub times_shown : (start stop : ℕ) (a b c : ClockState) → ShowsSecond start a b → ShowsSecond stop b c → ShowsTimes start stop a c
times_shown start stop a b c p q =
    let begins = p.later in
    let left = p.least in
    let ends = q.later in
    let last = q.least in
    record {
      began = record { later = p.later; in_range = p.in_range; least = omega (arith, left, ends, last) };
      stopped = record { later = omega (arith, begins, left, ends); in_range = q.in_range; least = q.least };
      order = omega (arith, left, ends);
    }

-- so they were between an earlier state and a later one
pub times_within : (start stop : ℕ) (a b c d : ClockState) → a.least ≤ b.least → c.least ≤ d.least → ShowsTimes start stop b c → ShowsTimes start stop a d
times_within start stop a b c d before after h =
    let began = h.began.later in
    let begun = h.began.least in
    let stopped = h.stopped.later in
    let ended = h.stopped.least in
    record {
      began = record { later = omega (arith, before, began); in_range = h.began.in_range; least = omega (arith, begun, after) };
      stopped = record { later = omega (arith, before, stopped); in_range = h.stopped.in_range; least = omega (arith, ended, after) };
      order = h.order;
    }
