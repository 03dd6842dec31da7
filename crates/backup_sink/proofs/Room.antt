-- An item's size is a number that the program reads.
use Rattle.std.specs.Prelude.{option_map}
use Rattle.std.proofs.Common.{◌≡◌, ◌<◌, ◌≤◌, ◌+◌, ℕ, List, Option, Some, length, map, get_or, refl, sym, ◌∙◌, ap, subst, arith, slice_get}
use Rattle.std.proofs.lemmas.List.{length-map}
use Rattle.std.proofs.lemmas.Option.{slice_get-map, slice_get-get_or, slice_get_within}
use Rattle.base_devices.specs.Content.{Name, Content, at}
use Rattle.worker_protocol.specs.declared.frames.frames.Item as rust_item
use Rattle.worker_protocol.specs.declared.frames.frames.Job as rust_job
use Rattle.worker_protocol.specs.Frames.{Item, Job}
use Rattle.worker_protocol.specs.Views.{item_of, job_of}
use Rattle.worker_protocol.specs.PartSinkState.{JobItems, HasRoom}
use Rattle.backup_sink.specs.declared.keeper.BackupKeeper.{BackupKeeper}
use Rattle.backup_sink.specs.Keeping.{Progress, keeps, kept_of}
use Rattle.backup_sink.specs.Keeper.{names_of, progress_in, state_of, HasSpace}
use Rattle.backup_sink.proofs.JobItems.{keeps_at, model}

-- what a list of values has at an index, of what they represent
module _ {A X : Type 0} (f : A → X) (xs : List A) (i : ℕ) (x : X) (is : slice_get (map f xs) i ≡ Some x) where
  pub map_within : i < length xs
  map_within = let lt = slice_get_within (map f xs) i x is in omega (arith, lt, length-map xs f)

  pub map_at : (d : A) → x ≡ f (get_or xs i d)
  map_at d =
      let both : ◌≡◌ {A = Option X} (Some x) (Some (f (get_or xs i d))) = sym is ∙ slice_get-map f xs i ∙ ap (λ (o : Option A). option_map f o) (slice_get-get_or xs i d map_within) in cc

module _ (jobs : List rust_job.Job) (j i : ℕ) (asked : Job) (next : Item) (d : rust_job.Job) (asked_is : slice_get (map job_of jobs) j ≡ Some asked) (next_is : slice_get asked.items i ≡ Some next) where
  item_is : slice_get (map item_of (get_or jobs j d).items.items) i ≡ Some next
  item_is = subst (λ (a : Job). slice_get a.items i ≡ Some next) (map_at job_of jobs j asked asked_is d) next_is

  pub item_within : i < length (get_or jobs j d).items.items
  item_within = map_within item_of (get_or jobs j d).items.items i next item_is

  pub size_is : (e : rust_item.Item) → next.size ≡ (get_or (get_or jobs j d).items.items i e).size
  size_is e = ap (λ (x : Item). x.size) (map_at item_of (get_or jobs j d).items.items i next item_is e)

-- what is held of a job counts the result of its next item
pub has_space : (k : BackupKeeper) (now : Option Content) (job item : ℕ) (bytes : List ℕ) → HasRoom (state_of k now) job item bytes → HasSpace k job item (length bytes)
has_space k now job item bytes h =
    let here = model (names_of k) (progress_in k) now job h.kept h.kept_is in
    let same : ◌≡◌ {A = Option JobItems} (Some h.kept) (Some (kept_of here.1 (at here.0 now))) = sym h.kept_is ∙ keeps_at (names_of k) (progress_in k) now job here.0 here.1 here.2 here.3 in
    let kept : h.kept ≡ kept_of here.1 (at here.0 now) = cc in
    record {
      asked = h.asked;
      asked_is = h.asked_is;
      next = h.next;
      next_is = h.next_is;
      progress = here.1;
      progress_is = here.3;
      room = subst (λ (x : JobItems). x.held.count + length bytes ≤ h.next.size) kept h.room;
    }
