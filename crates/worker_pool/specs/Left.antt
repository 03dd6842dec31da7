-- Which links are left after some jobs. Own.
use Rattle.std.specs.Prelude.{ℕ, ◌≡◌, ◌+◌, List, ◌++◌, length, Some, slice_get}
use Rattle.base_devices.specs.Links.{LinkState}
use Rattle.worker_pool.specs.Going.{IsSame}
use Rattle.worker_pool.specs.Reads.{IsSteadyWorker}
use Rattle.worker_pool.specs.Run.{IsReady}
use Rattle.worker_pool.specs.declared.dispatch.fault.Lost.{Lost}

-- a link that is ready, and reads what one of those reads
pub record IsOneOf (links : List LinkState) (s : LinkState) : Type 0 where
  pub ready : IsReady s
  pub link : ℕ
  pub from : LinkState
  pub is : slice_get links link ≡ Some from
  pub same : IsSame from.known s.known

-- one of these links reads what that one reads
abbrev pub HasSame : List LinkState → LinkState → Type 0
HasSame now s = (k : ℕ) × (t : LinkState) × (slice_get now k ≡ Some t) × IsSame s.known t.known

-- Each link that is left is one of those, and ready for further jobs. Each of the others has an entry, and no steady
-- worker is one of them.
pub record IsLeft (links now : List LinkState) (before after : List Lost) : Type 0 where
  pub entries : List Lost
  pub is : after ≡ before ++ entries
  pub count : length entries + length now ≡ length links
  pub each : (k : ℕ) (s : LinkState) → slice_get now k ≡ Some s → IsOneOf links s
  pub steady : (i : ℕ) (s : LinkState) → slice_get links i ≡ Some s → IsSteadyWorker s.known → HasSame now s
