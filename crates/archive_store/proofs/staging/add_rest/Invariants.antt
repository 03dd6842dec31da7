use Rattle.std.proofs.Common.{◌+◌, ◌-◌, ◌≡◌, ◌≤◌, Some, length}
use Rattle.std.specs.Prelude.{option_map}
use Rattle.sha1.specs.Sha1.{Holds}
use Rattle.base_devices.specs.Content.{put, SameBut}
use Rattle.base_devices.specs.Moments.{GrowsBy}
use Rattle.base_disk.specs.Staged.{staging_name, staging_length, HasLength}
use Rattle.base_model.specs.Text.{Text}
use Rattle.archive_store.specs.ByteSource.{IsReadTo}
use Rattle.archive_store.proofs.staging.add_rest.Given as goal

abbrev pub invariant-loop-piece : goal.invariant-loop-piece
invariant-loop-piece g l = let D = g.D.Disk in let P = g.P.ByteSource in record {
  name : staging_name l.staging ≡ staging_name l.fn.staging;
  holds : HasLength (D.state l.d).view.now (staging_name l.staging) (staging_length l.staging);
  others : SameBut (staging_name l.fn.staging) (D.state l.fn.d).view.now (D.state l.d).view.now;
  time : GrowsBy (λ _ _. ⊥) (λ n. n ≡ staging_name l.fn.staging) (D.state l.fn.d).view (D.state l.d).view;
  place : (D.state l.d).opened ≡ (D.state l.fn.d).opened;
  proper : (D.state l.d).faulty_calls ≡ (D.state l.fn.d).faulty_calls;
  later : (D.state l.fn.d).faults ≤ (D.state l.d).faults;
  same : P.same l.fn.device l.device;
  holder_later : P.faults l.fn.device ≤ P.faults l.device;
  so_far : (bytes : Text) × IsReadTo (P.bytes l.pieces l.fn.device) l.prefix.bytes.now bytes × (length bytes ≡ staging_length l.staging) × Holds l.digest bytes
      × ((D.state l.d).view.now ≡ option_map (put (staging_name l.fn.staging) (Some bytes)) (D.state l.fn.d).view.now);
}

abbrev pub decreases-loop-piece : goal.decreases-loop-piece
decreases-loop-piece g l = l.prefix.length + 1 - staging_length l.staging
