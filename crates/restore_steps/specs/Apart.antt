-- Which files one keeper may write. Own.
use Rattle.std.specs.Prelude.{ℕ, ◌≡◌, ◌≢◌, ◌+◌, ◌-◌, ◌^◌, min, List, length, Some, slice_get}
use Rattle.base_devices.specs.declared.device_error.DeviceError.{DeviceError}
use Rattle.base_devices.specs.declared.device_error.DeviceError.TheVariants.{Failed, NoMemory}
use Rattle.base_model.specs.Text.{Text}
use Rattle.worker_protocol.specs.Frames.{Job}
use Rattle.restore_steps.specs.Files.{temporary_path}

-- no path is there twice, and none is the temporary name of another
pub record AreApart (paths : List Text) : Type 0 where
  pub once : (i j : ℕ) (p : Text) → slice_get paths i ≡ Some p → slice_get paths j ≡ Some p → i ≡ j
  pub lasting : (i j : ℕ) (p q : Text) → slice_get paths i ≡ Some p → slice_get paths j ≡ Some q → p ≢ temporary_path q

-- a job of one item
abbrev pub HasOneItem : Job → Type 0
HasOneItem j = length j.items ≡ 1

-- a failure is counted
abbrev pub counted : DeviceError → ℕ → ℕ
counted Failed n = min (n + 1) (2 ^ 64 - 1)
counted NoMemory n = n
