use Rattle.std.proofs.Common.{◌≡◌, ◌<◌, ℕ, None, get_or, string_bytes}
use Rattle.base_devices.specs.declared.disk.Found.{Found}
use Rattle.archive_lookup.specs.Listing.{sum_after}
use Rattle.cmd_archive_get_async.proofs.ahead.prefetched.any_of.Given as goal

abbrev pub invariant-loop-each : goal.invariant-loop-each
invariant-loop-each l = (k : ℕ) (x : Found) → k < l.each-index → sum_after l.prefix (string_bytes (get_or l.found k x).name) ≡ None
