use Rattle.std.proofs.Common.{◌≡◌, ◌<◌, ◌≤◌, ◌+◌, ◌-◌, ◌^◌, Some, length, take, drop, string_bytes}
use Rattle.std.specs.Prelude.{IfSome}
use Rattle.sha1.specs.Sha1.{Holds}
use Rattle.base_model.specs.Text.{Text}
use Rattle.worker_protocol.specs.Frames.{part_size}
use Rattle.worker_protocol.specs.Views.{item_of}
use Rattle.worker_protocol.specs.Replies.{payload}
use Rattle.worker_process.proofs.BytesKnown.{IsKnown}
use Rattle.worker_process.proofs.item_answer.answer_bytes.Given as goal

abbrev pub invariant-loop-count : goal.invariant-loop-count
invariant-loop-count g l = let F = g.F.Files in let O = g.O.OutputStream in record {
  long : length l.room ≡ 32773;
  small : l.count ≤ 32768;
  size : l.known + l.count ≤ l.item.size;
  within : l.item.at + l.known + l.count < 2 ^ 64;
  files : F.files l.files ≡ F.files l.fn.files;
  place : F.place l.files ≡ F.place l.fn.files;
  failed : F.faults l.fn.files ≤ F.faults l.files;
  later : (O.state l.fn.out).faults ≤ (O.state l.out).faults;
  so_far : IfSome (F.files l.fn.files) (λ f. (bytes : Text) → f (string_bytes l.item.path) ≡ Some bytes → take l.first (drop 5 l.fn.room) ≡ take part_size (payload (item_of l.item) bytes)
      → IsKnown l.kind (item_of l.item) bytes l.known l.count l.room (O.state l.fn.out).written (O.state l.out).written × Holds l.digest (take l.known (payload (item_of l.item) bytes)));
}

abbrev pub decreases-loop-count : goal.decreases-loop-count
decreases-loop-count g l = l.item.size - l.known
