use Rattle.std.proofs.Common.{◌≡◌, ◌+◌, drop, string_bytes}
use Rattle.std.specs.List.{position_or_len}
use Rattle.base_devices.specs.Order.{is_before}
use Rattle.backup_record.proofs.further_file.place_of.Given as goal

-- the place is that among the files to come
abbrev pub invariant-loop-i : goal.invariant-loop-i
invariant-loop-i l =
    l.i + position_or_len (λ e. is_before l.path (string_bytes e.path)) (drop l.i l.files) ≡ position_or_len (λ e. is_before l.path (string_bytes e.path)) l.files
