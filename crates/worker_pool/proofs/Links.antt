-- Links that are left after some jobs.
use Rattle.std.proofs.Common.{ℕ, zero, suc, ◌≡◌, refl, sym, ap, ◌∙◌, subst, arith, List, [], ◌∷◌, ◌++◌, length-append, Option, Some, None, slice_get}
use Rattle.std.specs.Prelude.{IfSome}
use Rattle.std.specs.List.{AllByRecursion}
use Rattle.std.proofs.lemmas.List.{append-nil}
use Rattle.std.proofs.lemmas.Option.{slice_get_within}
use Rattle.base_devices.specs.Content.{Content}
use Rattle.base_devices.specs.Links.{LinkState, Modelled}
use Rattle.base_model.specs.Text.{Text}
use Rattle.worker_protocol.specs.Frames.{Job, spell}
use Rattle.worker_protocol.specs.Frames.Frame.{Setup, Task}
use Rattle.worker_pool.specs.Reads.{Reads, IsSteadyWorker}
use Rattle.worker_pool.specs.Going.{IsSame, IsDrained}
use Rattle.worker_pool.specs.Run.{somes, IsLoss, Left, IsReady}
use Rattle.worker_pool.specs.declared.dispatch.fault.Lost.{Lost as Entry}
use Rattle.worker_pool.proofs.Going.{get_some}
use Rattle.worker_pool.proofs.Reading.{all_at}
use Rattle.worker_pool.specs.Left.{HasSame, IsLeft}

-- what a link reads rests on its answers alone
pub reads_as : (tree repo : Content) (a b : Modelled) → a.answer ≡ b.answer → Reads tree repo b → Reads tree repo a
reads_as tree repo a b same r = record {
  job = λ j fits. ap (λ (f : Text → Text). f (spell (Task j))) same ∙ r.job j fits;
  setup = λ x fits. ap (λ (f : Text → Text). f (spell (Setup x))) same ∙ r.setup x fits;
}

same_known : (a b : Option Modelled) → IsDrained a b → IsSame a b
same_known None None d = tt
same_known None (Some b) d = absurd d
same_known (Some a) None d = absurd d
same_known (Some a) (Some b) d = d.0

ready_known : (a b : Option Modelled) → IsDrained a b → IfSome b (λ (t : Modelled). (tree repo : Content) → Reads tree repo t → t.pending ≡ [])
ready_known None None d = tt
ready_known None (Some b) d = absurd d
ready_known (Some a) None d = tt
ready_known (Some a) (Some b) d = λ tree repo reads. d.1 tree repo (reads_as tree repo a b (sym d.0.0) reads)

-- a link that is left has a slot
slot_of : (slots : List (Option LinkState)) (k : ℕ) (s : LinkState) → slice_get (somes slots) k ≡ Some s → (i : ℕ) × (slice_get slots i ≡ Some (Some s))
slot_of [] k s e = cc
slot_of (None ∷ slots) k s e = let h = slot_of slots k s e in (suc h.0, h.1)
slot_of (Some t ∷ slots) zero s e = let h : ◌≡◌ {A = Option LinkState} (Some t) (Some s) = e in (0, ap (λ (x : LinkState). Some (Some x)) cc)
slot_of (Some t ∷ slots) (suc k) s e = let h = slot_of slots k s e in (suc h.0, h.1)

-- ---- a steady worker is left

-- a link with the slot is left
at_slot : (slots : List (Option LinkState)) (i : ℕ) (s : LinkState) → slice_get slots i ≡ Some (Some s) → (k : ℕ) × (slice_get (somes slots) k ≡ Some s)
at_slot [] i s e = cc
at_slot (None ∷ slots) zero s e = let h : ◌≡◌ {A = Option (Option LinkState)} (Some None) (Some (Some s)) = e in cc
at_slot (None ∷ slots) (suc i) s e = at_slot slots i s e
at_slot (Some t ∷ slots) zero s e = let h : ◌≡◌ {A = Option (Option LinkState)} (Some (Some t)) (Some (Some s)) = e in (0, cc)
at_slot (Some t ∷ slots) (suc i) s e = let h = at_slot slots i s e in (suc h.0, h.1)

-- a link that has its loss isn't a steady worker
pub unsteady_loss : (jobs : List Job) (links : List LinkState) (entries : List Entry) → AllByRecursion (IsLoss jobs links) entries → (i : ℕ) (s : LinkState) → slice_get links i ≡ Some s
    → (k : ℕ) × (e : Entry) × (slice_get entries k ≡ Some e) × (e.place ≡ i) → ¬ IsSteadyWorker s.known
unsteady_loss jobs links entries each i s is x w =
    let loss = all_at (IsLoss jobs links) entries x.0 x.1 each x.2 in
    let e : ◌≡◌ {A = Option LinkState} (Some loss.from) (Some s) = sym loss.is ∙ ap (λ (n : ℕ). slice_get links n) x.3 ∙ is in
    let same : loss.from ≡ s = cc in
    loss.unsteady (subst (λ (l : LinkState). IsSteadyWorker l.known) (sym same) w)

steady_slot : (jobs : List Job) (links : List LinkState) (before after : List Entry) (now : List LinkState) (left : Left jobs links before after now) (i : ℕ) (s : LinkState) → slice_get links i ≡ Some s → IsSteadyWorker s.known
    → (o : Option LinkState) → slice_get left.slots i ≡ Some o → HasSame now s
steady_slot jobs links before after now left i s is w None at = absurd (unsteady_loss jobs links left.entries left.each i s is (left.gone i at) w)
steady_slot jobs links before after now left i s is w (Some t) at =
    let x = at_slot left.slots i t at in
    (x.0, t, ap (λ (l : List LinkState). slice_get l x.0) left.now_are ∙ x.1, same_known s.known t.known (left.rests i s t is at).drained)

pub left_is : (jobs : List Job) (links : List LinkState) (before after : List Entry) (now : List LinkState) → Left jobs links before after now → IsLeft links now before after
left_is jobs links before after now left = record {
  entries = left.entries;
  is = left.is;
  count = left.once;
  steady = λ i s is w.
      let at = get_some left.slots i (omega (arith, slice_get_within links i s is, left.slot_count)) in
      steady_slot jobs links before after now left i s is w at.0 at.1;
  each = λ k s is.
      let slot = slot_of left.slots k s (ap (λ (l : List LinkState). slice_get l k) (sym left.now_are) ∙ is) in
      let from = get_some links slot.0 (omega (arith, slice_get_within left.slots slot.0 (Some s) slot.1, left.slot_count)) in
      let rests = left.rests slot.0 from.0 s from.1 slot.1 in
      record { ready = ready_known from.0.known s.known rests.drained; link = slot.0; from = from.0; is = from.1; same = same_known from.0.known s.known rests.drained };
}

-- what reads the same as a steady worker is one
pub steady_as : (a b : Option Modelled) → IsSame a b → IsSteadyWorker a → IsSteadyWorker b
steady_as None b same w = absurd w
steady_as (Some a) None same w = absurd same
steady_as (Some a) (Some b) same w = record { steady = same.1 ∙ w.steady; tree = w.tree; repo = w.repo; reads = reads_as w.tree w.repo b a same.0 w.reads }

-- ---- links that are left by nothing, and by two runs

same_again : (a : Option Modelled) → IsSame a a
same_again None = tt
same_again (Some a) = (refl, refl)

same_through : (a b c : Option Modelled) → IsSame a b → IsSame b c → IsSame a c
same_through None None None p q = tt
same_through None None (Some c) p q = absurd q
same_through None (Some b) c p q = absurd p
same_through (Some a) None c p q = absurd p
same_through (Some a) (Some b) None p q = absurd q
same_through (Some a) (Some b) (Some c) p q = (q.0 ∙ p.0, q.1 ∙ p.1)

pub left_all : (links : List LinkState) (lost : List Entry) → ((i : ℕ) (s : LinkState) → slice_get links i ≡ Some s → IsReady s) → IsLeft links links lost lost
left_all links lost ready = record {
  entries = [];
  is = sym (append-nil lost);
  count = omega arith;
  each = λ k s is. record { ready = ready k s is; link = k; from = s; is = is; same = same_again s.known };
  steady = λ i s is w. (i, s, is, same_again s.known);
}

pub left_beyond : (first mid now : List LinkState) (start before middle after : List Entry) (p : IsLeft first mid start before) (q : IsLeft mid now middle after) → IsLeft first now [] (p.entries ++ q.entries)
left_beyond first mid now start before middle after p q = record {
  entries = p.entries ++ q.entries;
  is = refl;
  count = omega (arith, length-append p.entries q.entries, p.count, q.count);
  each = λ k s is.
      let y = q.each k s is in
      let x = p.each y.link y.from y.is in
      record { ready = y.ready; link = x.link; from = x.from; is = x.is; same = same_through x.from.known y.from.known s.known x.same y.same };
  steady = λ i s is w.
      let x = p.steady i s is w in
      let y = q.steady x.0 x.1 x.2 (steady_as s.known x.1.known x.3 w) in
      (y.0, y.1, y.2, same_through s.known x.1.known y.1.known x.3 y.3);
}
