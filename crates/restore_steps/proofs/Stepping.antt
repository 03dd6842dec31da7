-- What a call leaves of a keeper.
use Rattle.std.proofs.Common.{ℕ, ◌≡◌, ◌⊎◌, inl, inr, ◌<◌, ◌≤◌, refl, ap, ◌∙◌, subst, arith, List, map, set, get_or, length, Option, Some, Err, slice_get}
use Rattle.std.proofs.Math.Nat.{le_refl}
use Rattle.std.proofs.lemmas.List.{length-map}
use Rattle.base_devices.specs.Cause.{HasCause}
use Rattle.base_devices.specs.declared.device_error.DeviceError.{DeviceError}
use Rattle.base_devices.specs.declared.device_error.DeviceError.TheVariants.{Failed, NoMemory}
use Rattle.base_devices.specs.States.{DataFolderState}
use Rattle.base_devices.specs.DataFolder.{Nodes, IsPlaced}
use Rattle.worker_protocol.specs.PartSinkState.{JobItems}
use Rattle.restore_steps.specs.declared.contents.files.Filed.{Filed}
use Rattle.restore_steps.specs.declared.contents.keeper.FileKeeper.{FileKeeper}
use Rattle.restore_steps.specs.Files.{wanted_of, kept_of, SameBeside}
use Rattle.restore_steps.specs.Apart.{counted}
use Rattle.restore_steps.specs.Keeping.{RoseWithin, Later}
use Rattle.restore_steps.proofs.Listing.{map_stays, some_within}
use Rattle.restore_steps.proofs.Placing.{in_at, placed_at}

pub within : (nodes : Option Nodes) (fs : List Filed) (i : ℕ) (k : JobItems) → slice_get (map (kept_of nodes) fs) i ≡ Some k → i < length fs
within nodes fs i k is = omega (arith, some_within (map (kept_of nodes) fs) i k is, length-map fs (kept_of nodes))

module _ (a : FileKeeper) (u v : DataFolderState) (i : ℕ) (x y : Filed) (lt : i < length a.files.items) (is : x ≡ get_or a.files.items i x) (same : y.wanted ≡ x.wanted) (beside : SameBeside x.wanted.path.now u.nodes v.nodes) (opened : v.opened ≡ u.opened) (proper : IsPlaced u.nodes x.wanted.path.now → v.faulty_calls ≡ u.faulty_calls) (later : u.faults ≤ v.faults) where
  pub later_at : (b : FileKeeper) → b.jobs ≡ a.jobs → b.files.items ≡ set a.files.items i y → (0 < b.faults → (0 < a.faults) ⊎ RoseWithin u.faults v.faults) → Later a b u v
  later_at b jobs files failed = record {
    jobs = jobs;
    wanted = ap (map wanted_of) files ∙ map_stays wanted_of a.files.items i x y is same;
    others = λ q none. let off = none x.wanted (in_at x a.files.items i lt is) in beside q off.0 off.1;
    opened = opened;
    proper = λ have. proper (placed_at (map wanted_of a.files.items) x.wanted u.nodes (in_at x a.files.items i lt is) have);
    later = later;
    failed = failed;
  }

-- a failure that was counted is the tree's
pub failed_by : {T : Type 0} (stop : DeviceError) (n m f g : ℕ) → HasCause {T = T} f g (Err stop) → m ≡ counted stop n → 0 < m → (0 < n) ⊎ RoseWithin f g
failed_by Failed n m f g cause is some = inr (record { before = f; after = g; from = le_refl f; rose = cause.failed refl; to = le_refl g })
failed_by NoMemory n m f g cause is some = inl (subst (λ (k : ℕ). 0 < k) is some)
