-- What rounds leave of a run.
use Rattle.std.proofs.Common.{ℕ, zero, suc, ◌≡◌, ◌<◌, List, [], ◌∷◌, true, false, Some, Result, Ok, Err, length, refl, ap, subst, arith, ◌∙◌, slice_get}
use Rattle.std.specs.Prelude.{IfErr}
use Rattle.worker_protocol.specs.Frames.{Job}
use Rattle.worker_pool.specs.Dispatch.{Dispatch, IsIdle, NoneWaits, AllEnded}
use Rattle.worker_pool.specs.declared.jobs.JobPlace.{JobPlace}
use Rattle.worker_pool.specs.declared.jobs.JobPlace.TheVariants.{Waiting, With, Ended}
use Rattle.worker_pool.specs.declared.jobs.LinkPlace.{LinkPlace}
use Rattle.worker_pool.specs.declared.jobs.LinkPlace.TheVariants.{Idle, Busy, Lost}
use Rattle.worker_pool.specs.declared.dispatch.fault.DispatchFault.{DispatchFault}
use Rattle.worker_pool.specs.declared.dispatch.fault.DispatchFault.TheVariants as faults
use Rattle.worker_pool.specs.DispatchFaults.{IsQuiet}
use Rattle.worker_pool.specs.Run.{State, Began, live, Going, ReceivesOn, Advances, Gave, ReceiveFault, NoneBusy, IsRound, AllLost, RunFault}
use Rattle.worker_pool.proofs.Going.{get_some}

pub no_items : {X : Type 0} (xs : List X) → length xs ≡ 0 → xs ≡ []
no_items [] e = refl
no_items (x ∷ xs) e = absurd (omega arith)

live_none : (ls : List LinkPlace) → ((k : ℕ) (p : LinkPlace) → slice_get ls k ≡ Some p → p ≡ Lost) → live ls ≡ 0
live_none [] h = refl
live_none (Lost ∷ ls) h = live_none ls (λ k p e. h (suc k) p e)
live_none (Idle ∷ ls) h = absurd (let f = h 0 Idle refl in cc)
live_none (Busy j ∷ ls) h = absurd (let f = h 0 (Busy j) refl in cc)

-- no job is with a link
abbrev pub NoneWith : Dispatch → Type 0
NoneWith job_table = (j l : ℕ) → slice_get job_table.jobs j ≡ Some (With l) → ⊥

over_of : (job_table : Dispatch) → NoneWith job_table → NoneWaits job_table → (k : ℕ) (p : JobPlace) → slice_get job_table.jobs k ≡ Some p → p ≡ Ended
over_of job_table w n k Waiting e = absurd (n k e)
over_of job_table w n k (With l) e = absurd (w k l e)
over_of job_table w n k Ended e = refl

lost_of : (job_table : Dispatch) → NoneBusy job_table → ((k : ℕ) → slice_get job_table.links k ≡ Some Idle → ⊥) → (k : ℕ) (p : LinkPlace) → slice_get job_table.links k ≡ Some p → p ≡ Lost
lost_of job_table b n k Lost e = refl
lost_of job_table b n k Idle e = absurd (n k e)
lost_of job_table b n k (Busy j) e = absurd (b k j e)

-- where no link is busy and a job hasn't ended, no link is left
pub none_left : (job_table : Dispatch) → NoneWith job_table → NoneBusy job_table → ((k : ℕ) → slice_get job_table.links k ≡ Some Idle → NoneWaits job_table) → (AllEnded job_table.jobs → ⊥) → live job_table.links ≡ 0
none_left job_table w b idle more =
    live_none job_table.links (lost_of job_table b (λ k e. more (λ j lt. let x = get_some job_table.jobs j lt in x.1 ∙ ap Some (over_of job_table w (idle k e) j x.0 x.1))))

-- where none is live, each is lost
all_gone : (ls : List LinkPlace) (l : ℕ) → live ls ≡ 0 → l < length ls → slice_get ls l ≡ Some Lost
all_gone [] l none lt = absurd (omega (arith, lt))
all_gone (Lost ∷ ls) zero none lt = refl
all_gone (Lost ∷ ls) (suc l) none lt = all_gone ls l none (omega (arith, lt))
all_gone (Idle ∷ ls) l none lt = absurd (omega (arith, none))
all_gone (Busy j ∷ ls) l none lt = absurd (omega (arith, none))

pub all_lost : (jobs : List Job) (s : State) → live s.job_table.links ≡ 0 → (b : Began) → b.all ≡ true → Going jobs b s → AllLost jobs b s.lost
all_lost jobs s none b all g = record {
  entries = g.losses.entries;
  is = g.losses.is;
  each = g.losses.each;
  has = λ l lt. g.losses.has l (all_gone s.job_table.links l none (omega (arith, lt, g.link_count, g.start_count)));
  count = omega (arith, none, g.losses.count, g.link_count, g.start_count);
}

received_fault : (e : DispatchFault) (jobs : List Job) (s t : State) → ReceiveFault jobs e s t → RunFault jobs e s t
received_fault faults.WorkersLost jobs s t h = absurd h
received_fault (faults.Unread j i) jobs s t h = λ b all g. h b g
received_fault faults.PartSink jobs s t h = h
received_fault faults.NoMemory jobs s t h = tt

-- a frame wasn't taken
pub receive_fault : {A : Type 0} (r : Result A DispatchFault) (jobs : List Job) (s t : State) → IfErr r (λ e. ReceiveFault jobs e s t) → IfErr r (λ e. RunFault jobs e s t)
receive_fault (Ok x) jobs s t h = tt
receive_fault (Err e) jobs s t h = received_fault e jobs s t h

gave_fault : (e : DispatchFault) (jobs : List Job) (s m t : State) → m.kept.faults ≡ s.kept.faults → IsQuiet e m.kept.faults t.kept.faults → RunFault jobs e s t
gave_fault faults.WorkersLost jobs s m t q h = absurd h
gave_fault (faults.Unread j i) jobs s m t q h = absurd h
gave_fault faults.PartSink jobs s m t q h = subst (λ n. IsQuiet faults.PartSink n t.kept.faults) q h
gave_fault faults.NoMemory jobs s m t q h = tt

-- a job wasn't given
pub give_fault : {A : Type 0} (r : Result A DispatchFault) (jobs : List Job) (s m t : State) → m.kept.faults ≡ s.kept.faults → IfErr r (λ e. IsQuiet e m.kept.faults t.kept.faults) → IfErr r (λ e. RunFault jobs e s t)
give_fault (Ok x) jobs s m t q h = tt
give_fault (Err e) jobs s m t q h = gave_fault e jobs s m t q h

-- a later round's fault, from the start on
pub fault_joins : (e : DispatchFault) (jobs : List Job) (s m t : State) → ReceivesOn jobs s m → m.kept.faults ≡ s.kept.faults → RunFault jobs e m t → RunFault jobs e s t
fault_joins faults.WorkersLost jobs s m t on q h = λ b all g. h b all (on b all g)
fault_joins (faults.Unread j i) jobs s m t on q h = λ b all g. h b all (on b all g)
fault_joins faults.PartSink jobs s m t on q h = subst (λ n. IsQuiet faults.PartSink n t.kept.faults) q h
fault_joins faults.NoMemory jobs s m t on q h = tt

pub turned_over : (jobs : List Job) (s : State) → ((k : ℕ) → IsIdle s.job_table k → NoneWaits s.job_table) → AllEnded s.job_table.jobs → NoneBusy s.job_table → IsRound jobs s s true
turned_over jobs s idle over none = record { falls = λ e. absurd (let f : true ≡ false = e in cc); stays = omega arith; faults = refl; idle = idle; over = λ e. (over, none) }

pub turned_received : (jobs : List Job) (s m t : State) → Advances jobs s m → Gave jobs m t → ((k : ℕ) → IsIdle t.job_table k → NoneWaits t.job_table) → IsRound jobs s t false
turned_received jobs s m t p q idle = record { falls = λ e. omega (arith, p.falls, q.falls); stays = omega (arith, p.falls, q.falls); faults = q.faults ∙ p.faults; idle = idle; over = λ e. absurd (let f : false ≡ true = e in cc) }
