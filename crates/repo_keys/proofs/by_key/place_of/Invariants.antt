use Rattle.std.proofs.Common.{◌≡◌, ◌+◌, drop, string_bytes}
use Rattle.std.specs.List.{position_or_len}
use Rattle.base_devices.specs.Order.{is_before}
use Rattle.repo_keys.proofs.by_key.place_of.Given as goal

-- the place is that among the keys to come
abbrev pub invariant-loop-i : goal.invariant-loop-i
invariant-loop-i l =
    l.i + position_or_len (λ k. is_before l.key (string_bytes k.0)) (drop l.i l.keys) ≡ position_or_len (λ k. is_before l.key (string_bytes k.0)) l.keys
