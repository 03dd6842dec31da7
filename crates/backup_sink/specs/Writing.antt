-- What a name of a disk has after bytes were written there.
use Rattle.std.specs.Prelude.{◌≡◌, Bool, Some, option_map}
use Rattle.base_devices.specs.Content.{Name, at}
use Rattle.base_devices.specs.Moments.{GrowsBy}
use Rattle.base_devices.specs.States.{DiskState}
use Rattle.base_model.specs.Text.{Text}
use Rattle.backup_sink.specs.Keeping.{lengthened_from}

-- these bytes more, where it was begun, or them alone
abbrev pub AddsBytes : Name → Bool → Text → DiskState → DiskState → Type 0
AddsBytes name begun bytes old new = at name new.view.now ≡ lengthened_from begun bytes (at name old.view.now)

-- a crash may leave no more than before but at this name
abbrev pub GrowsAt : Name → DiskState → DiskState → Type 0
GrowsAt name old new = GrowsBy (λ n _. n ≡ name) (λ n. n ≡ name) old.view new.view

-- these bytes, in place of what it had
abbrev pub Replaces : Name → Text → DiskState → DiskState → Type 0
Replaces name bytes old new = at name new.view.now ≡ option_map (λ _. Some bytes) old.view.now
