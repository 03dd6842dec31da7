-- The item that a worker couldn't read, and its path.
use Rattle.std.proofs.Common.{◌≡◌, ◌<◌, ℕ, zero, suc, List, [], ◌∷◌, length, map, Option, Some, None, refl, sym, ◌∙◌, ap, subst, arith, inl, inr, slice_get, slice_index_or}
use Rattle.std.specs.Prelude.{vec_len}
use Rattle.std.proofs.lemmas.List.{length-map}
use Rattle.base_devices.specs.Links.{LinkState}
use Rattle.base_model.specs.Text.{Text, In}
use Rattle.worker_protocol.specs.declared.frames.frames.Job as rust
use Rattle.worker_protocol.specs.Frames.{Item, Job}
use Rattle.worker_protocol.specs.Views.{item_of, job_of}
use Rattle.worker_pool.proofs.Places.{within}
use Rattle.worker_pool.specs.declared.dispatch.fault.Lost.{Lost}
use Rattle.worker_pool.specs.declared.dispatch.fault.DispatchFault.{DispatchFault}
use Rattle.worker_pool.specs.declared.dispatch.fault.DispatchFault.TheVariants as dispatch
use Rattle.worker_pool.specs.Run.{JobsFault, UnreadLeaves, begun}
use Rattle.worker_pool.proofs.Events.{job_at}
use Rattle.backup_make.specs.Faults.{IsUnread}

one_left : (left : List LinkState) (now : LinkState) → map (λ (s : LinkState). Some s) left ≡ Some now ∷ [] → left ≡ now ∷ []
one_left [] now e = cc
one_left (s ∷ []) now e = let h : ◌≡◌ {A = List (Option LinkState)} (Some s ∷ []) (Some now ∷ []) = e in cc
one_left (s ∷ t ∷ rest) now e = let h : ◌≡◌ {A = List (Option LinkState)} (Some s ∷ Some t ∷ map (λ (s : LinkState). Some s) rest) (Some now ∷ []) = e in cc

there : {X : Type 0} (xs : List X) (i : ℕ) → i < length xs → (x : X) × (slice_get xs i ≡ Some x)
there [] i lt = absurd (omega (arith, lt))
there (x ∷ xs) zero lt = (x, refl)
there (x ∷ xs) (suc i) lt = there xs i (omega (arith, lt))

pub in_at : {X : Type 0} (xs : List X) (i : ℕ) (x : X) → slice_get xs i ≡ Some x → In x xs
in_at [] i x is = absurd (let e : ◌≡◌ {A = Option _} None (Some x) = is in cc)
in_at (y ∷ ys) zero x is = inl (let e : ◌≡◌ {A = Option _} (Some y) (Some x) = is in cc)
in_at (y ∷ ys) (suc i) x is = inr (in_at ys i x is)

same_job : (a b : Job) (o : Option Job) → o ≡ Some a → o ≡ Some b → a ≡ b
same_job a b o p q = let e : ◌≡◌ {A = Option Job} (Some a) (Some b) = sym p ∙ q in cc

-- what is left where a run ended so
pub unread_of : (jobs : List Job) (fault : DispatchFault) (j item : ℕ) (links left : List LinkState) (before after : List Lost) (old new : ℕ) → fault ≡ dispatch.Unread j item → JobsFault jobs fault links before after old new left
    → UnreadLeaves jobs (begun links before) j item (map (λ (s : LinkState). Some s) left)
unread_of jobs fault j item links left before after old new is h = subst (λ (f : DispatchFault). JobsFault jobs f links before after old new left) is h

module _ (jobs : List rust.Job) (links left : List LinkState) (before : List Lost) (j item : ℕ) (u : UnreadLeaves (map job_of jobs) (begun links before) j item (map (λ (s : LinkState). Some s) left)) where
  pub job_within : j < length jobs
  job_within = let lt = within (map job_of jobs) j u.job u.job_is in omega (arith, lt, length-map jobs job_of)

  -- r is the job that was read
  module _ (r : rust.Job) (is : r ≡ slice_index_or jobs j r) where
    here : job_of r ≡ u.job
    here = same_job (job_of r) u.job (slice_get (map job_of jobs) j) (job_at job_of jobs j r job_within is) u.job_is

    pub item_within : item < vec_len r.items
    item_within =
        let count : length (map item_of r.items.items) ≡ length u.job.items = ap (λ (x : Job). length x.items) here in
        let lt = u.within in
        omega (arith, lt, count, length-map r.items.items item_of, r.items.ok)

    pub unread_item : (path : Text) → ((i : Item) → slice_get (job_of r).items item ≡ Some i → i.path ≡ path) → IsUnread (map job_of jobs) links left path
    unread_item path named =
        let i = there u.job.items item u.within in
        record {
          now = u.now;
          is = one_left left u.now u.is;
          given = u.given;
          link = u.link;
          from = u.from;
          from_is = u.from_is;
          job = u.job;
          asked = in_at (map job_of jobs) j u.job u.job_is;
          item = i.0;
          of_job = in_at u.job.items item i.0 i.1;
          path_is = named i.0 (ap (λ (x : Job). slice_get x.items item) here ∙ i.1);
          unread = u.unread i.0 i.1;
        }
