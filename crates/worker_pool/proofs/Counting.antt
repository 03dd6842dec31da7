-- How much is still to be received, and how many links are live.
use Rattle.std.proofs.Common.{ℕ, zero, suc, ◌≡◌, ◌<◌, ◌≤◌, ◌+◌, ◌*◌, List, [], ◌∷◌, Some, None, length, drop, subst, arith, slice_get, set, ap, ◌∙◌}
use Rattle.worker_protocol.specs.Frames.{Item, Job}
use Rattle.worker_pool.specs.declared.jobs.JobPlace.{JobPlace}
use Rattle.worker_pool.specs.declared.jobs.JobPlace.TheVariants.{Waiting, With, Ended}
use Rattle.worker_pool.specs.declared.jobs.LinkPlace.{LinkPlace}
use Rattle.worker_pool.specs.declared.jobs.LinkPlace.TheVariants.{Idle, Busy, Lost}
use Rattle.worker_protocol.specs.PartSinkState.{JobItems}
use Rattle.worker_pool.specs.Going.{items_cost, job_left}
use Rattle.worker_pool.specs.Run.{live, withs, busies, total, work}

abbrev pub alive : LinkPlace → ℕ
alive Lost = 0
alive Idle = 1
alive (Busy j) = 1

abbrev pub is_busy : LinkPlace → ℕ
is_busy Lost = 0
is_busy Idle = 0
is_busy (Busy j) = 1

abbrev pub is_with : JobPlace → ℕ
is_with Waiting = 0
is_with (With l) = 1
is_with Ended = 0

none_some : {X : Type 0} (x : X) → None ≡ Some x → ⊥
none_some x e = absurd (cc)

same_some : {X : Type 0} (x y : X) → Some x ≡ Some y → x ≡ y
same_some x y e = cc

live_cons : (p : LinkPlace) (ls : List LinkPlace) → live (p ∷ ls) ≡ alive p + live ls
live_cons Lost ls = omega arith
live_cons Idle ls = omega arith
live_cons (Busy j) ls = omega arith

busies_cons : (p : LinkPlace) (ls : List LinkPlace) → busies (p ∷ ls) ≡ is_busy p + busies ls
busies_cons Lost ls = omega arith
busies_cons Idle ls = omega arith
busies_cons (Busy j) ls = omega arith

withs_cons : (p : JobPlace) (ps : List JobPlace) → withs (p ∷ ps) ≡ is_with p + withs ps
withs_cons Waiting ps = omega arith
withs_cons (With l) ps = omega arith
withs_cons Ended ps = omega arith

pub live_set : (ls : List LinkPlace) (i : ℕ) (u q : LinkPlace) → slice_get ls i ≡ Some u → live (set ls i q) + alive u ≡ live ls + alive q
live_set [] i u q e = absurd (none_some u e)
live_set (p ∷ ls) zero u q e =
    let same : p ≡ u = same_some p u e in
    subst (λ x. live (q ∷ ls) + alive x ≡ live (p ∷ ls) + alive q) same (omega (arith, live_cons q ls, live_cons p ls))
live_set (p ∷ ls) (suc i) u q e = omega (arith, live_cons p (set ls i q), live_cons p ls, live_set ls i u q e)

pub busies_set : (ls : List LinkPlace) (i : ℕ) (u q : LinkPlace) → slice_get ls i ≡ Some u → busies (set ls i q) + is_busy u ≡ busies ls + is_busy q
busies_set [] i u q e = absurd (none_some u e)
busies_set (p ∷ ls) zero u q e =
    let same : p ≡ u = same_some p u e in
    subst (λ x. busies (q ∷ ls) + is_busy x ≡ busies (p ∷ ls) + is_busy q) same (omega (arith, busies_cons q ls, busies_cons p ls))
busies_set (p ∷ ls) (suc i) u q e = omega (arith, busies_cons p (set ls i q), busies_cons p ls, busies_set ls i u q e)

pub withs_set : (ps : List JobPlace) (j : ℕ) (o q : JobPlace) → slice_get ps j ≡ Some o → withs (set ps j q) + is_with o ≡ withs ps + is_with q
withs_set [] j o q e = absurd (none_some o e)
withs_set (p ∷ ps) zero o q e =
    let same : p ≡ o = same_some p o e in
    subst (λ x. withs (q ∷ ps) + is_with x ≡ withs (p ∷ ps) + is_with q) same (omega (arith, withs_cons q ps, withs_cons p ps))
withs_set (p ∷ ps) (suc j) o q e = omega (arith, withs_cons p (set ps j q), withs_cons p ps, withs_set ps j o q e)

pub work_set : (jobs : List Job) (kept : List JobItems) (j : ℕ) (job : Job) (k m : JobItems) → slice_get jobs j ≡ Some job → slice_get kept j ≡ Some k → work jobs (set kept j m) + job_left job k ≡ work jobs kept + job_left job m
work_set [] kept j job k m e f = absurd (none_some job e)
work_set (s ∷ jobs) [] j job k m e f = absurd (none_some k f)
work_set (s ∷ jobs) (x ∷ kept) zero job k m e f =
    let a : s ≡ job = same_some s job e in
    let b : x ≡ k = same_some x k f in
    subst (λ y. work (s ∷ jobs) (m ∷ kept) + job_left y k ≡ work (s ∷ jobs) (x ∷ kept) + job_left y m) a
    (subst (λ z. work (s ∷ jobs) (m ∷ kept) + job_left s z ≡ work (s ∷ jobs) (x ∷ kept) + job_left s m) b (omega arith))
work_set (s ∷ jobs) (x ∷ kept) (suc j) job k m e f = omega (arith, work_set jobs kept j job k m e f)

cost_drop : (n : ℕ) (is : List Item) → items_cost (drop n is) ≤ items_cost is
cost_drop zero is = omega arith
cost_drop (suc n) [] = omega arith
cost_drop (suc n) (i ∷ is) = omega (arith, cost_drop n is)

left_le : (job : Job) (k : JobItems) → job_left job k ≤ items_cost job.items
left_le job k = omega (arith, cost_drop (length k.done) job.items)

pub work_le : (jobs : List Job) (kept : List JobItems) → work jobs kept ≤ total jobs
work_le [] kept = omega arith
work_le (s ∷ jobs) [] = omega (arith, work_le jobs [])
work_le (s ∷ jobs) (x ∷ kept) = omega (arith, left_le s x, work_le jobs kept)

-- the measure after a link was lost
pub lost_falls : (a b t w v : ℕ) → suc a ≡ b → v ≤ t → a * suc t + v < b * suc t + w
lost_falls a b t w v e h = subst (λ x. a * suc t + v < x * suc t + w) e (grind arith)

-- a link that isn't lost is one at least
pub live_some : (ls : List LinkPlace) (i : ℕ) (p : LinkPlace) → slice_get ls i ≡ Some p → alive p ≡ 1 → 0 < live ls
live_some [] i p e a = absurd (none_some p e)
live_some (q ∷ ls) zero p e a = let same : alive q ≡ 1 = ap alive (same_some q p e) ∙ a in omega (arith, same, live_cons q ls)
live_some (q ∷ ls) (suc i) p e a = omega (arith, live_some ls i p e a, live_cons q ls)
