use Rattle.std.proofs.Common.{◌≡◌, ◌≤◌, ◌+◌, ◌-◌, ◌⊎◌, ◌^◌, List, ℕ, Some, length}
use Rattle.std.specs.Prelude.{IfSome, option_map}
use Rattle.sha1.specs.Sha1.{Holds}
use Rattle.base_devices.specs.Content.{SameBut, put}
use Rattle.base_devices.specs.Moments.{GrowsBy}
use Rattle.base_devices.specs.States.{OnlyReads}
use Rattle.base_disk.specs.Staged.{staging_name, staging_length, HasLength}
use Rattle.base_disk.proofs.Read.{IsPrefixOf}
use Rattle.cmd_archive_get_async.proofs.ahead.spool_copy.copy.Given as goal

abbrev pub invariant-loop-room : goal.invariant-loop-room
invariant-loop-room g l = let D = g.D.Disk in let S = g.S.Disk in record {
  named : staging_name l.staging ≡ l.name;
  holds : HasLength (S.state l.spool).view.now (staging_name l.staging) (staging_length l.staging);
  small : staging_length l.staging ≤ 2 ^ 30 + 65536;
  others : SameBut l.name (S.state l.fn.spool).view.now (S.state l.spool).view.now;
  time : GrowsBy (λ _ _. ⊥) (λ n. n ≡ l.name) (S.state l.fn.spool).view (S.state l.spool).view;
  place : (S.state l.spool).opened ≡ (S.state l.fn.spool).opened;
  proper : (S.state l.spool).faulty_calls ≡ (S.state l.fn.spool).faulty_calls;
  later : (S.state l.fn.spool).faults ≤ (S.state l.spool).faults;
  looks : OnlyReads (D.state l.fn.repo) (D.state l.repo);
  copied : (bytes : List ℕ) × Holds l.digest bytes × (length bytes ≡ staging_length l.staging) × ((staging_length l.staging ≡ 0) ⊎ IfSome (D.state l.fn.repo).view.now (λ f. IsPrefixOf (f l.from) bytes (staging_length l.staging)))
      × ((S.state l.spool).view.now ≡ option_map (put l.name (Some bytes)) (S.state l.fn.spool).view.now);
}

abbrev pub decreases-loop-room : goal.decreases-loop-room
decreases-loop-room g l = 2 ^ 30 + 1 - staging_length l.staging
