-- How the items of a backup's jobs ended. Own.
use Rattle.std.specs.Prelude.{◌≡◌, ◌≤◌, ℕ, List, [], ◌∷◌, length, take, Option, Some, option_map, option_and_then, unwrap_or, slice_get}
use Rattle.sha1.specs.Sha1.{sha1}
use Rattle.base_text.specs.declared.sum.Sum.{Sum}
use Rattle.base_model.specs.Text.{Text}
use Rattle.worker_protocol.specs.Frames.{Item, Job}
use Rattle.worker_protocol.specs.declared.sinks.ItemEnd.{ItemEnd}
use Rattle.worker_protocol.specs.declared.sinks.ItemEnd.TheVariants.{Whole, Vanished}
use Rattle.worker_protocol.specs.PartSinkState.{Done, JobItems}
use Rattle.backup_sink.specs.declared.keeper.EndedItem.{EndedItem}
use Rattle.backup_sink.specs.Keeping.{total}

-- how an item of a job ended
abbrev pub end_at : List (List EndedItem) → ℕ → ℕ → Option EndedItem
end_at ends job item = option_and_then (λ (es : List EndedItem). slice_get es item) (slice_get ends job)

-- how many bytes lie before it at its job's name
abbrev pub bytes_before : List (List EndedItem) → ℕ → ℕ → ℕ
bytes_before ends job item = unwrap_or (option_map (λ (es : List EndedItem). total (take item es)) (slice_get ends job))
    0

-- what is held of a job are the items that ended so, each with its bytes
abbrev pub AreEnds : List EndedItem → List Done → Type 0
AreEnds [] [] = Unit {0}
AreEnds [] (d ∷ ds) = ⊥
AreEnds (e ∷ es) [] = ⊥
AreEnds (e ∷ es) (d ∷ ds) = (d.held.count ≡ e.count) × (d.end ≡ e.how) × AreEnds es ds

abbrev pub AreAllEnds : List (List EndedItem) → List JobItems → Type 0
AreAllEnds [] [] = Unit {0}
AreAllEnds [] (k ∷ ks) = ⊥
AreAllEnds (es ∷ ess) [] = ⊥
AreAllEnds (es ∷ ess) (k ∷ ks) = AreEnds es k.done × AreAllEnds ess ks

-- these bytes are held of the item, and their number and sum are those that were received
pub record IsReceived (d : Done) (n : ℕ) (sum bytes : Text) : Type 0 where
  pub known : d.held.known ≡ Some bytes
  pub number : n ≡ length bytes
  pub digest : sum ≡ sha1 bytes

-- the same for each item that was read to its end
abbrev pub AreReceived : List JobItems → Type 0
AreReceived kept = (j i : ℕ) (k : JobItems) (d : Done) (n : ℕ) (sum : Sum) → slice_get kept j ≡ Some k
    → slice_get k.done i ≡ Some d → d.end ≡ Whole n sum → (bytes : Text) × IsReceived d n sum.0 bytes

-- ---- what was asked for

-- this many bytes of an item were received, no more than were asked for, and these are their number and sum
pub record HasCome (x : Item) (count n : ℕ) (sum : Text) : Type 0 where
  pub bytes : Text
  pub number : n ≡ length bytes
  pub digest : sum ≡ sha1 bytes
  pub counted : count ≡ n
  pub within : n ≤ x.size

-- an item ended so, of which this many bytes were received
abbrev pub ComesAs : Item → ℕ → ItemEnd → Type 0
ComesAs x count (Whole n sum) = HasCome x count n sum.0
ComesAs x count Vanished = count ≡ 0

-- each item of a job ended
abbrev pub AllCome : List Item → List EndedItem → Type 0
AllCome [] [] = Unit {0}
AllCome [] (e ∷ es) = ⊥
AllCome (x ∷ xs) [] = ⊥
AllCome (x ∷ xs) (e ∷ es) = ComesAs x e.count e.how × AllCome xs es

-- each item of each job
abbrev pub JobsCome : List Job → List (List EndedItem) → Type 0
JobsCome [] [] = Unit {0}
JobsCome [] (es ∷ ess) = ⊥
JobsCome (j ∷ js) [] = ⊥
JobsCome (j ∷ js) (es ∷ ess) = AllCome j.items es × JobsCome js ess
