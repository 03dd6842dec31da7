-- Reading items one after the other, as a loop does.
use Rattle.std.proofs.Common.{◌≡◌, ℕ, suc, ◌-◌, ◌+◌, ◌≤◌, ◌<◌, List, [], ◌∷◌, ◌++◌, Result, Ok, Err, refl, sym, ap, ◌∙◌, append_assoc, arith}
use Rattle.std.proofs.lemmas.List.{append-nil}
use Rattle.worker_protocol.specs.declared.frames.fault.FrameFault.{FrameFault}
use Rattle.worker_protocol.specs.declared.frames.fault.FrameFault.TheVariants as faults
use Rattle.worker_protocol.specs.Frames.{Item}
use Rattle.worker_protocol.specs.Reading.{Rest}
use Rattle.worker_protocol.specs.Reading.{◌>>=◌, Fails, item_at, items_at}

-- what was read before, and what is still read
abbrev pub with_prefix : List Item → Result (List Item × Rest) FrameFault → Result (List Item × Rest) FrameFault
with_prefix prefix read = read >>= λ x. Ok (prefix ++ x.0, x.1)

regroup : (prefix : List Item) (n : Item) (read : Result (List Item × Rest) FrameFault) → with_prefix prefix (read >>= λ x. Ok (n ∷ x.0, x.1)) ≡ with_prefix (prefix ++ n ∷ []) read
regroup prefix n (Ok x) = ap (λ (ns : List Item). Ok (ns, x.1)) (simp append_assoc)
regroup prefix n (Err f) = refl

pub goes_on : (prefix : List Item) (count i end : ℕ) (rest : Rest) (n : Item) (after : Rest) (total : Result (List Item × Rest) FrameFault) → i < count → item_at end rest ≡ Ok (n, after)
    → with_prefix prefix (items_at (count - i) end rest) ≡ total → with_prefix (prefix ++ n ∷ []) (items_at (count - (i + 1)) end after) ≡ total
unfolding items_at
goes_on prefix count i end rest n after total lt h so_far =
    let k : count - i ≡ suc (count - (i + 1)) = omega arith in
    let one : with_prefix prefix (items_at (count - i) end rest) ≡ with_prefix (prefix ++ n ∷ []) (items_at (count - (i + 1)) end after) = rw (k, h) (regroup prefix n (items_at (count - (i + 1)) end after)) in
    sym one ∙ so_far

pub ends : (e : FrameFault) (prefix : List Item) (count i end : ℕ) (rest : Rest) (total : Result (List Item × Rest) FrameFault) → i < count → Fails e (item_at end rest)
    → with_prefix prefix (items_at (count - i) end rest) ≡ total → Fails e total
unfolding items_at
ends faults.NoMemory prefix count i end rest total lt h so_far = tt
ends faults.Short prefix count i end rest total lt h so_far =
    let k : count - i ≡ suc (count - (i + 1)) = omega arith in
    let one : with_prefix prefix (items_at (count - i) end rest) ≡ Err faults.Short = rw (k, h) refl in
    sym so_far ∙ one
ends (faults.Form a) prefix count i end rest total lt h so_far =
    let k : count - i ≡ suc (count - (i + 1)) = omega arith in
    let one : with_prefix prefix (items_at (count - i) end rest) ≡ Err (faults.Form a) = rw (k, h) refl in
    sym so_far ∙ one
ends (faults.TooLong a) prefix count i end rest total lt h so_far =
    let k : count - i ≡ suc (count - (i + 1)) = omega arith in
    let one : with_prefix prefix (items_at (count - i) end rest) ≡ Err (faults.TooLong a) = rw (k, h) refl in
    sym so_far ∙ one

pub is_done : (prefix : List Item) (count i end : ℕ) (rest : Rest) (total : Result (List Item × Rest) FrameFault) → count ≤ i → with_prefix prefix (items_at (count - i) end rest) ≡ total → total ≡ Ok (prefix, rest)
unfolding items_at
is_done prefix count i end rest total le so_far =
    let k : count - i ≡ 0 = omega arith in
    let one : with_prefix prefix (items_at (count - i) end rest) ≡ Ok (prefix, rest) = rw k (ap (λ (ns : List Item). Ok (ns, rest)) (append-nil prefix)) in
    sym so_far ∙ one
