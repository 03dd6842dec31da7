-- Steps of the talk.
use Rattle.std.proofs.Common.{◌≡◌, ◌<◌, ℕ, zero, suc, ◌-◌, ◌+◌, List, true, false, Option, Some, None, option_map, Ok, Err, refl, sym, ap, subst, IfSome, ◌∙◌, arith}
use Rattle.server_talk.specs.declared.session.fault.ServerFault.{ServerFault}
use Rattle.server_talk.specs.declared.session.fault.ServerFault.TheVariants as faults
use Rattle.server_talk.specs.Fault.{too_many, ◌>>=◌}
use Rattle.server_talk.specs.Message.{Message, message_at}
use Rattle.server_talk.specs.Talk.{Talk, receive_reply, is_over, run}
use Rattle.server_talk.specs.Reads.{Fails}
use Rattle.server_talk.proofs.Reading.{fails_bind}

run_over : (n columns : ℕ) (t : Talk) (s : List ℕ) → is_over t.phase ≡ true → run n columns t s ≡ Ok (t, s)
unfolding run
run_over zero columns t s h = rw h refl
run_over (suc n) columns t s h = rw h refl

run_step : (n columns : ℕ) (t : Talk) (s : List ℕ) → is_over t.phase ≡ false → run (suc n) columns t s ≡ (message_at t.phase t.taken.bytes s >>= λ m. receive_reply columns t m.0 >>= λ u. run n columns u m.1)
unfolding run
run_step n columns t s h = rw h refl

run_end : (columns : ℕ) (t : Talk) (s : List ℕ) → is_over t.phase ≡ false → run zero columns t s ≡ Err (too_many 1000000)
unfolding run
run_end columns t s h = rw h refl

pub over_all : (n columns : ℕ) (t : Talk) (o : Option (List ℕ)) → is_over t.phase ≡ true → option_map (run n columns t) o ≡ option_map (λ rest. Ok (t, rest)) o
over_all n columns t None h = refl
over_all n columns t (Some s) h = ap Some (run_over n columns t s h)

pub end_all : (columns : ℕ) (t : Talk) (o : Option (List ℕ)) → is_over t.phase ≡ false → IfSome (option_map (run zero columns t) o) (Fails (faults.TooMany 1000000))
end_all columns t None h = tt
end_all columns t (Some s) h = run_end columns t s h

pub step_all : (n columns : ℕ) (t u : Talk) (m : Message) (old mid : Option (List ℕ)) → is_over t.phase ≡ false
    → option_map (message_at t.phase t.taken.bytes) old ≡ option_map (λ rest. Ok (m, rest)) mid → receive_reply columns t m ≡ Ok u
    → option_map (run (suc n) columns t) old ≡ option_map (run n columns u) mid
step_all n columns t u m None None h e k = refl
step_all n columns t u m None (Some r) h e k = cc
step_all n columns t u m (Some s) None h e k = cc
step_all n columns t u m (Some s) (Some r) h e k =
    let read : message_at t.phase t.taken.bytes s ≡ Ok (m, r) = cc in
    ap Some (run_step n columns t s h ∙ ap (λ q. q >>= λ p. receive_reply columns t p.0 >>= λ v. run n columns v p.1) read ∙ ap (λ q. q >>= λ v. run n columns v r) k)

pub message_fails : (f : ServerFault) (n columns : ℕ) (t : Talk) (old : Option (List ℕ)) → is_over t.phase ≡ false
    → IfSome (option_map (message_at t.phase t.taken.bytes) old) (Fails f) → IfSome (option_map (run (suc n) columns t) old) (Fails f)
message_fails f n columns t None h e = tt
message_fails f n columns t (Some s) h e =
    subst (Fails f) (sym (run_step n columns t s h)) (fails_bind f (message_at t.phase t.taken.bytes s) (λ p. receive_reply columns t p.0 >>= λ v. run n columns v p.1) e)

pub receive_fails : (f : ServerFault) (n columns : ℕ) (t : Talk) (m : Message) (old mid : Option (List ℕ)) → is_over t.phase ≡ false
    → option_map (message_at t.phase t.taken.bytes) old ≡ option_map (λ rest. Ok (m, rest)) mid → Fails f (receive_reply columns t m)
    → IfSome (option_map (run (suc n) columns t) old) (Fails f)
receive_fails f n columns t m None mid h e k = tt
receive_fails f n columns t m (Some s) None h e k = cc
receive_fails f n columns t m (Some s) (Some r) h e k =
    let read : message_at t.phase t.taken.bytes s ≡ Ok (m, r) = cc in
    subst (Fails f) (sym (run_step n columns t s h ∙ ap (λ q. q >>= λ p. receive_reply columns t p.0 >>= λ v. run n columns v p.1) read)) (fails_bind f (receive_reply columns t m) (λ v. run n columns v r) k)

-- the count that is left
pub left : (limit i : ℕ) → i < limit → suc (limit - (i + 1)) ≡ limit - i
left limit i h = omega arith

-- the same at a count that is one more, and of a whole talk that continues so
module _ (n k columns : ℕ) (t : Talk) (old whole-read : Option (List ℕ)) (start : Talk) (limit : ℕ) (counts : suc n ≡ k)
    (same : option_map (run k columns t) old ≡ option_map (run limit columns start) whole-read) (goes : is_over t.phase ≡ false) where
  at_next : option_map (run (suc n) columns t) old ≡ option_map (run limit columns start) whole-read
  at_next = subst (λ j. option_map (run j columns t) old ≡ option_map (run limit columns start) whole-read) (sym counts) same

  pub on_message_fault : (f : ServerFault) → IfSome (option_map (message_at t.phase t.taken.bytes) old) (Fails f) → IfSome (option_map (run limit columns start) whole-read) (Fails f)
  on_message_fault f h = subst (λ o. IfSome o (Fails f)) at_next (message_fails f n columns t old goes h)

  pub on_receive_fault : (f : ServerFault) (m : Message) (mid : Option (List ℕ)) → option_map (message_at t.phase t.taken.bytes) old ≡ option_map (λ rest. Ok (m, rest)) mid → Fails f (receive_reply columns t m) → IfSome (option_map (run limit columns start) whole-read) (Fails f)
  on_receive_fault f m mid read h = subst (λ o. IfSome o (Fails f)) at_next (receive_fails f n columns t m old mid goes read h)

  pub on_next : (u : Talk) (m : Message) (mid : Option (List ℕ)) → option_map (message_at t.phase t.taken.bytes) old ≡ option_map (λ rest. Ok (m, rest)) mid → receive_reply columns t m ≡ Ok u → option_map (run n columns u) mid ≡ option_map (run limit columns start) whole-read
  on_next u m mid read h = sym (step_all n columns t u m old mid goes read h) ∙ at_next
