-- Readings of what is pending, one after another.
use Rattle.std.proofs.Common.{◌≡◌, ℕ, List, take, drop, Option, Some, None, option_map, Result, Ok, Err, refl, sym, subst, ap, IfSome, IfOk, IfErr, OnOk, ◌∙◌, ◌⊎◌, inl, inr, length}
use Rattle.server_talk.specs.declared.session.fault.ServerFault.{ServerFault}
use Rattle.server_talk.specs.declared.session.fault.ServerFault.TheVariants as faults
use Rattle.server_talk.specs.Fault.{Fault, ◌>>=◌}
use Rattle.server_talk.specs.Message.{take_at}
use Rattle.server_talk.specs.Session.{part_of}
use Rattle.server_talk.specs.Reads.{Fails, Gives, IsOutside, Reads}

pub outside_fails : {Y : Type 0} (e : ServerFault) (read : Result Y Fault) → IsOutside e → Fails e read
outside_fails faults.NoMemory read h = tt
outside_fails faults.ServerConnection read h = tt
outside_fails (faults.ServerSaid code text) read h = absurd h
outside_fails (faults.AuthUnsupported code) read h = absurd h
outside_fails (faults.SystemMismatch kept found) read h = absurd h
outside_fails (faults.ServerForm at) read h = absurd h
outside_fails (faults.ServerEnded at) read h = absurd h
outside_fails (faults.TooLong length) read h = absurd h
outside_fails (faults.TooMany limit) read h = absurd h

pub outside_all : {Y : Type 0} (e : ServerFault) (o : Option (Result Y Fault)) → IsOutside e → IfSome o (Fails e)
outside_all e None h = tt
outside_all e (Some r) h = outside_fails e r h

-- memory that runs out afterwards says nothing about the reading
pub fails_parted : {Y : Type 0} (o : Option (Result Y Fault)) (known fault : ServerFault) → (known ≡ fault) ⊎ (known ≡ faults.NoMemory) → IfSome o (Fails fault) → IfSome o (Fails known)
fails_parted o known fault (inl same) h = subst (λ e. IfSome o (Fails e)) (sym same) h
fails_parted o known fault (inr none) h = subst (λ e. IfSome o (Fails e)) (sym none) (outside_all faults.NoMemory o tt)

pub taken : (n : ℕ) (bytes : List ℕ) (old new : Option (List ℕ)) → IfSome old (λ s. bytes ≡ take n s) → new ≡ option_map (drop n) old → option_map (take_at n) old ≡ option_map (λ rest. Ok (bytes, rest)) new
taken n bytes None new b r = ap (option_map (λ rest. Ok (bytes, rest))) (sym r)
taken n bytes (Some s) new b r = rw (r, b) refl

pub fails_bind : {Y Z : Type 0} (e : ServerFault) (read : Result Y Fault) (next : Y → Result Z Fault) → Fails e read → Fails e (read >>= next)
fails_bind faults.NoMemory read next h = tt
fails_bind faults.ServerConnection read next h = tt
fails_bind (faults.ServerSaid code text) read next h = ap (λ r. r >>= next) h
fails_bind (faults.AuthUnsupported code) read next h = ap (λ r. r >>= next) h
fails_bind (faults.SystemMismatch kept found) read next h = ap (λ r. r >>= next) h
fails_bind (faults.ServerForm at) read next h = ap (λ r. r >>= next) h
fails_bind (faults.ServerEnded at) read next h = ap (λ r. r >>= next) h
fails_bind (faults.TooLong length) read next h = ap (λ r. r >>= next) h
fails_bind (faults.TooMany limit) read next h = ap (λ r. r >>= next) h

-- the first reading fails
pub fails_first : {Y Z : Type 0} (e : ServerFault) (old : Option (List ℕ)) (read : List ℕ → Result Y Fault) (next : Y → Result Z Fault) → IfSome (option_map read old) (Fails e) → IfSome (option_map (λ s. read s >>= next) old) (Fails e)
fails_first e None read next h = tt
fails_first e (Some s) read next h = fails_bind e (read s) next h

-- after the first reading the second is one of what is pending then
pub reads_then : {Y Z : Type 0} (y : Y) (old mid : Option (List ℕ)) (read : List ℕ → Result (Y × List ℕ) Fault) (next : Y × List ℕ → Result Z Fault)
    → option_map read old ≡ option_map (λ rest. Ok (y, rest)) mid → option_map (λ s. read s >>= next) old ≡ option_map (λ rest. next (y, rest)) mid
reads_then y None None read next h = refl
reads_then y None (Some m) read next h = cc
reads_then y (Some s) None read next h = cc
reads_then y (Some s) (Some m) read next h = let e : read s ≡ Ok (y, m) = cc in ap (λ r. Some (r >>= next)) e

-- a reading of this many bytes
pub take_reads : {X : Type 0} (view : X → List ℕ) (n : ℕ) (r : Result X ServerFault) (old new : Option (List ℕ))
    → IfErr r IsOutside → IfOk r (λ v. IfSome old (λ s. view v ≡ take n s)) → OnOk r (new ≡ option_map (drop n) old) → Reads view r old new (take_at n)
take_reads view n (Ok v) old new e b r = taken n (view v) old new b r
take_reads view n (Err f) old new e b r = outside_all f (option_map (take_at n) old) e

-- after a first reading
pub reads_on : {X Y Z : Type 0} (view : X → Z) (y : Y) (r : Result X ServerFault) (old mid new : Option (List ℕ)) (read : List ℕ → Result (Y × List ℕ) Fault) (next : Y × List ℕ → Result (Z × List ℕ) Fault)
    → option_map read old ≡ option_map (λ rest. Ok (y, rest)) mid → Reads view r mid new (λ rest. next (y, rest)) → Reads view r old new (λ s. read s >>= next)
reads_on view y (Ok x) old mid new read next e h = reads_then y old mid read next e ∙ h
reads_on view y (Err f) old mid new read next e h = subst (λ o. IfSome o (Fails f)) (sym (reads_then y old mid read next e)) h

-- what reads no bytes fails whatever is pending
pub fails_all : {Y Z : Type 0} (f : ServerFault) (mid : Option (List ℕ)) (p : Result Y Fault) (next : Y → List ℕ → Result Z Fault)
    → Fails f p → IfSome (option_map (λ rest. p >>= λ y. next y rest) mid) (Fails f)
fails_all f None p next h = tt
fails_all f (Some rest) p next h = fails_bind f p (λ y. next y rest) h

-- an answer that reads no bytes
pub gives_reads : {X Z : Type 0} (view : X → Z) (r : Result X ServerFault) (mid : Option (List ℕ)) (p : Result Z Fault)
    → Gives view r p → Reads view r mid mid (λ rest. p >>= λ z. Ok (z, rest))
gives_reads view (Ok x) mid p h = ap (λ q. option_map (λ rest. q >>= λ z. Ok (z, rest)) mid) h
gives_reads view (Err f) mid p h = fails_all f mid p (λ z rest. Ok (z, rest)) h

-- the same reading, and a part of its value
pub reads_part : {Y W : Type 0} (f : Y → W) (y : Y) (old new : Option (List ℕ)) (read : List ℕ → Result (Y × List ℕ) Fault)
    → option_map read old ≡ option_map (λ rest. Ok (y, rest)) new → option_map (λ s. read s >>= part_of f) old ≡ option_map (λ rest. Ok (f y, rest)) new
reads_part f y old new read h = reads_then y old new read (part_of f) h
