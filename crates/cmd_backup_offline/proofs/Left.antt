-- Links that are left after digest jobs, and what they read.
use Rattle.std.proofs.Common.{◌≡◌, inl, inr, ◌<◌, ◌^◌, ◌+◌, ℕ, Bool, true, false, List, [], ◌∷◌, ◌++◌, length, Option, Some, None, sym, ap, ◌∙◌, subst, arith, slice_get, length-append, string_bytes}
use Rattle.std.specs.Prelude.{IfSome, OnOk, Result, Ok, Err}
use Rattle.std.proofs.lemmas.Option.{slice_get_within}
use Rattle.base_devices.specs.Content.{Content}
use Rattle.base_devices.specs.Links.{LinkState, Modelled}
use Rattle.base_model.specs.Text.{Text}
use Rattle.base_model.specs.Values.{FileEntry}
use Rattle.worker_protocol.specs.declared.frames.frames.Root.TheVariants.{Repo}
use Rattle.worker_protocol.specs.Frames.{Item, Job}
use Rattle.worker_pool.specs.Going.{IsSame as ReadsSame, IsDrained}
use Rattle.worker_pool.specs.Reads.{Reads, IsSteadyWorker, IsPayload, IsSumOf, file_of}
use Rattle.worker_pool.specs.declared.dispatch.fault.Lost.{Lost}
use Rattle.worker_pool.specs.Run.{AllLost, AreReady, begun}
use Rattle.worker_pool.specs.Digests.{IsDigestedBy, IsAbsentBy}
use Rattle.worker_pool.specs.Left.{IsLeft}
use Rattle.worker_pool.proofs.Links.{reads_as, steady_as, unsteady_loss, left_beyond}
use Rattle.backup_plan.specs.Layout.{item_for}
use Rattle.backup_plan.specs.Listed.{Taken}
use Rattle.backup_record.specs.Faults.{IsMissing}
use Rattle.backup_make.specs.declared.draft.Draft.{Draft}
use Rattle.backup_make.specs.Draft.{jobs_in, files_with}
use Rattle.backup_make.specs.Faults.{IsManifestTooLong, IsListTooLong}
use Rattle.backup_make.specs.Kept.{IsKeptUnlessAbsent}
use Rattle.cmd_backup_common.specs.declared.parts.fault.BackupFault.{BackupFault}
use Rattle.cmd_backup_common.specs.declared.parts.fault.BackupFault.TheVariants as faults
use Rattle.cmd_backup_common.specs.Beginning.{AreLost}
use Rattle.cmd_backup_common.specs.Causes.{Before, CauseBy}
use Rattle.cmd_backup_common.specs.Making.{MakeCause}
use Rattle.cmd_backup_common.proofs.Links.{Comes, where_back, where_done, unread_used}
use Rattle.cmd_backup_offline.specs.Equal.{IsEqual, IsChanged, IsMarked, AreMarked, IsSame, IsNew, IsEntryBy, CannotDigest}

-- ---- by the first links

drained : (a b : Option Modelled) → ReadsSame a b → IfSome b (λ t. (tree repo : Content) → Reads tree repo t → t.pending ≡ []) → IsDrained a b
drained None None same ready = tt
drained None (Some b) same ready = absurd same
drained (Some a) None same ready = absurd same
drained (Some a) (Some b) same ready = (same, λ tree repo reads. ready tree repo (reads_as tree repo b a same.0 reads))

-- a link that is left has nothing to give, and reads what one of the first reads
pub comes_left : (links now : List LinkState) (before after : List Lost) → IsLeft links now before after → Comes links now
comes_left links now before after left = record { comes = λ k s is. let x = left.each k s is in (x.link, x.from, x.is, drained x.from.known s.known x.same x.ready) }

-- each is ready
pub left_ready : (links now : List LinkState) (before after : List Lost) → IsLeft links now before after → AreReady now
left_ready links now before after left i s is = (left.each i s is).ready

pub on_ok_as : {T E : Type 0} (r : Result T E) (P Q : Type 0) → (P → Q) → OnOk r P → OnOk r Q
on_ok_as (Ok x) P Q to p = to p
on_ok_as (Err e) P Q to p = tt

pub left_twice : (used mid now : List LinkState) (middle after : List Lost) → IsLeft used mid [] middle → IsLeft mid now middle after → IsLeft used now [] after
left_twice used mid now middle after p q =
    let is : p.entries ++ q.entries ≡ after = ap (λ (es : List Lost). es ++ q.entries) (sym p.is) ∙ sym q.is in
    subst (λ (es : List Lost). IsLeft used now [] es) is (left_beyond used mid now [] middle middle after p q)

module _ (used now : List LinkState) (comes : Comes used now) where
  digested_used : (item : Item) (n : ℕ) (sum : Text) → IsDigestedBy now item n sum → IsDigestedBy used item n sum
  digested_used item n sum d =
      let u = comes.comes d.link d.from d.is in
      record { link = u.0; from = u.1; is = u.2; sums = where_back u.1.known d.from.known (λ tree repo. (bytes : Text) × IsPayload item (file_of item tree repo) bytes × IsSumOf n sum bytes) u.3 d.sums }

  absent_used : (item : Item) → IsAbsentBy now item → IsAbsentBy used item
  absent_used item d =
      let u = comes.comes d.link d.from d.is in
      record { link = u.0; from = u.1; is = u.2; absent = where_back u.1.known d.from.known (λ tree repo. file_of item tree repo ≡ None) u.3 d.absent }

  -- what the later links reported of a file an earlier one reported
  equal_used : (old : List FileEntry) (f : Taken) → IsEqual now old f → IsEqual used old f
  equal_used old f h = record { asked = h.asked; entry = h.entry; is = h.is; digested = digested_used (item_for f) h.entry.size h.entry.sum h.digested }

  changed_used : (old : List FileEntry) (f : Taken) → IsChanged now old f → IsChanged used old f
  changed_used old f (inl h) = inl h
  changed_used old f (inr (e, is, inl x)) = inr (e, is, inl (x.0, x.1, digested_used (item_for f) x.0 x.1 x.2, x.3))
  changed_used old f (inr (e, is, inr x)) = inr (e, is, inr (absent_used (item_for f) x))

  marked_used : (old : List FileEntry) (f : Taken) (m : Bool) → IsMarked now old f m → IsMarked used old f m
  marked_used old f true h = equal_used old f h
  marked_used old f false h = changed_used old f h

  pub all_marked_used : (old : List FileEntry) (fs : List Taken) (ms : List Bool) → AreMarked now old fs ms → AreMarked used old fs ms
  all_marked_used old [] [] h = tt
  all_marked_used old [] (m ∷ ms) h = absurd h
  all_marked_used old (f ∷ fs) [] h = absurd h
  all_marked_used old (f ∷ fs) (m ∷ ms) h = (marked_used old f m h.0, all_marked_used old fs ms h.1)

  same_used : (delta : Bool) (old : List FileEntry) (f : Taken) → IsSame now delta old f → IsSame used delta old f
  same_used true old f h = equal_used old f h
  same_used false old f h = h

  new_used : (delta : Bool) (old : List FileEntry) (f : Taken) → IsNew now delta old f → IsNew used delta old f
  new_used true old f h = changed_used old f h
  new_used false old f h = h

  pub kept_used : (es : List FileEntry) (f : Taken) → IsKeptUnlessAbsent now es f → IsKeptUnlessAbsent used es f
  kept_used es f (inl x) = inl x
  kept_used es f (inr gone) = inr (absent_used (item_for f) gone)

  pub entry_used : (delta : Bool) (old : List FileEntry) (fs : List Taken) (e : FileEntry) → IsEntryBy now delta old fs e → IsEntryBy used delta old fs e
  entry_used delta old fs e h = record {
    file = h.file;
    taken = h.taken;
    path = h.path;
    time = h.time;
    left = λ some. same_used delta old h.file (h.left some);
    stored = λ none. new_used delta old h.file (h.stored none);
  }

  pub undigested_used : (old : List FileEntry) (fs : List Taken) (path : Text) → CannotDigest now old fs path → CannotDigest used old fs path
  undigested_used old fs path h =
      let u = comes.comes h.link h.from h.from_is in
      record {
        link = u.0;
        from = u.1;
        from_is = u.2;
        job = h.job;
        asked = h.asked;
        item = h.item;
        of_job = h.of_job;
        path_is = h.path_is;
        unread = where_back u.1.known h.from.known (λ tree repo. (h.item.root ≡ Repo) × (file_of h.item tree repo ≡ None)) u.3 h.unread;
      }

-- ---- the links that were lost

module _ (jobs : List Job) (used now : List LinkState) (mid after : List Lost) (left : IsLeft used now [] mid) (all : AllLost jobs (begun now mid) after) where
  all_count : length after ≡ length used
  all_count =
      let first : length mid ≡ length left.entries = ap (λ (es : List Lost). length es) left.is in
      let both : length after ≡ length mid + length all.entries = ap (λ (es : List Lost). length es) all.is ∙ length-append mid all.entries in
      omega (arith, first, both, left.count, all.count)

  all_unsteady : (i : ℕ) (from : LinkState) → slice_get used i ≡ Some from → ¬ IsSteadyWorker from.known
  all_unsteady i from is w =
      let x = left.steady i from is w in
      unsteady_loss jobs now all.entries all.each x.0 x.1 x.2 (all.has x.0 (slice_get_within now x.0 x.1 x.2)) (steady_as from.known x.1.known x.3 w)

  pub all_left_lost : (lost : ℕ) → (length after < 2 ^ 32 → lost ≡ length after) → length used < 2 ^ 32 → AreLost used lost
  all_left_lost lost count few = record { count = count (omega (arith, few, all_count)) ∙ all_count; unsteady = all_unsteady }

-- ---- why the draft's backup isn't made

module _ (b : Before) (IsIt : Draft → Type 0) (d : Draft) (of : IsIt d) (now : List LinkState) (mid : List Lost) (left : IsLeft b.used now [] mid) (few : length b.used < 2 ^ 32) where
  comes : Comes b.used now
  comes = comes_left b.used now [] mid left

  pub offline_takes : (e : BackupFault) → MakeCause d now mid e → CauseBy b IsIt e
  offline_takes (faults.HistoryDiffers at) h = absurd h
  offline_takes (faults.StanzaMismatch kept found) h = absurd h
  offline_takes faults.Running h = absurd h
  offline_takes (faults.TooMany limit) h = absurd h
  offline_takes (faults.WorkersLost lost) h = all_left_lost (jobs_in d) b.used now mid h.after left h.all lost h.count few
  offline_takes (faults.ClockBehind latest second) h = absurd h
  offline_takes (faults.LinkFound path) h = absurd h
  offline_takes (faults.NameRefused path) h = absurd h
  offline_takes faults.ListingUnordered h = absurd h
  offline_takes (faults.ControlMissing path) h = inr (d, of, where_done b.used now comes d (λ ends. IsMissing (string_bytes path) (files_with d ends)) h)
  offline_takes (faults.Unread path) h = (d, of, unread_used b.used now comes d path h)
  offline_takes (faults.TooLong name limit) (inl h) = (d, of, inl (h.0, h.1, where_done b.used now comes d (λ ends. (n : ℕ) × IsManifestTooLong d ends n) h.2))
  offline_takes (faults.TooLong name limit) (inr h) = (d, of, inr (h.0, h.1, where_done b.used now comes d (λ ends. (n : ℕ) × IsListTooLong d ends n) h.2))
