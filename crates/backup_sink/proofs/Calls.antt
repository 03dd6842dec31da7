-- What a keeper's call leaves, from the facts that its body has at hand.
use Rattle.std.proofs.Common.{◌≡◌, ◌≢◌, ◌≤◌, ◌<◌, ◌+◌, ◌⊎◌, ◌++◌, ◌∷◌, [], ℕ, Bool, true, false, zero, suc, List, Option, Some, None, Result, Ok, Err, length, map, set, slice_get, refl, sym, ◌∙◌, ap, subst, arith, inl, inr, ⊎_elim}
use Rattle.std.specs.Prelude.{IfSome, IsSome, IsSomeAnd, OnOk, IsErrOf}
use Rattle.std.proofs.lemmas.Bool.Decides.{eqb_tells}
use Rattle.std.proofs.lemmas.Option.{slice_get_within}
use Rattle.base_devices.specs.Content.{Name, Value, Content, at, SameBut, IsThere}
use Rattle.base_devices.specs.States.{DiskState, CallsProperly, Works}
use Rattle.base_devices.specs.Cause.{Rises, HasCause}
use Rattle.base_devices.specs.declared.device_error.DeviceError.{DeviceError}
use Rattle.base_devices.specs.declared.device_error.DeviceError.TheVariants.{Failed, NoMemory}
use Rattle.worker_protocol.specs.Frames.{Job}
use Rattle.worker_protocol.specs.PartSinkState.{JobItems, PartSinkState, KeepLeaves, Adds, Ends, IsFresh, IsNext, HasRoom}
use Rattle.worker_protocol.specs.Lists.{ChangesAt}
use Rattle.worker_protocol.specs.declared.sinks.ItemEnd.{ItemEnd}
use Rattle.backup_sink.specs.Keeping.{Progress, keeps, kept_of, total, Agrees, IsKept, IsPlan, grown, after_end, nothing, lengthened_from, Becomes, is_own, CountsFault}
use Rattle.backup_sink.specs.Relation.{Touches, Later, touches_one}
use Rattle.worker_pool.proofs.Places.{get_set_same, get_set_other}
use Rattle.backup_sink.proofs.JobItems.{some_and, keeps_at, keeps_set, part_here, part_kept, end_here, end_kept, again_here, again_kept}

same_kept : (x y : JobItems) → ◌≡◌ {A = Option JobItems} (Some x) (Some y) → y ≡ x
same_kept x y e = cc

-- a job of a keeper, as its calls know it
module _ (names : List Name) (ps next : List Progress) (now new : Option Content) (job : ℕ) (name : Name) (p after : Progress)
    (apart : (i j : ℕ) (n : Name) → slice_get names i ≡ Some n → slice_get names j ≡ Some n → i ≡ j) (named : slice_get names job ≡ Some name) (was : slice_get ps job ≡ Some p)
    (becomes : Becomes job after ps next) (same : SameBut name now new) where
  pub changes : (R : JobItems → JobItems → Type 0) → R (kept_of p (at name now)) (kept_of after (at name new)) → ChangesAt R (keeps names ps now) (keeps names next new) job
  changes R r = record {
    after = kept_of after (at name new);
    is = ap (λ (l : List Progress). keeps names l new) becomes.is ∙ keeps_set names ps now new name job after same (λ k e. apart k job name e named) named;
    by = λ before e. subst (λ (x : JobItems). R x (kept_of after (at name new))) (same_kept before (kept_of p (at name now)) (sym e ∙ keeps_at names ps now job name p named was)) r;
  }

  pub agrees_on : Agrees names ps now → IsKept after (at name new) → Agrees names next new
  agrees_on old here j n q is_n is_q = elim (eqb_tells j job) [
    | inl h ↦
        let name_is : name ≡ n = let both : ◌≡◌ {A = Option Name} (Some name) (Some n) = sym named ∙ ap (slice_get names) (sym h.1) ∙ is_n in cc in
        let after_is : after ≡ q = let both : ◌≡◌ {A = Option Progress} (Some after) (Some q) = sym (get_set_same ps job after p was) ∙ ap (λ (l : List Progress). slice_get l job) (sym becomes.is) ∙ ap (slice_get next) (sym h.1) ∙ is_q in cc in
        subst (λ (m : Name). IsKept q (at m new)) name_is (subst (λ (r : Progress). IsKept r (at name new)) after_is here)
    | inr h ↦
        let far : n ≢ name = λ (e : n ≡ name). h.1 (apart j job n is_n (named ∙ ap (λ (m : Name). Some m) (sym e))) in
        subst (λ (v : Option Value). IsKept q v) (sym (same n far)) (old j n q is_n (sym (get_set_other ps job j after h.1) ∙ ap (λ (l : List Progress). slice_get l j) (sym becomes.is) ∙ is_q))
  ]

-- ---- what the calls ask

-- a job of which something is held has its name and its progress
module _ (names : List Name) (ps : List Progress) (now : Option Content) (job : ℕ) where
  pub length_within : job < length (keeps names ps now) → job < length names
  length_within lt = within names ps job lt
    where
      within : (ns : List Name) (ps : List Progress) (j : ℕ) → j < length (keeps ns ps now) → j < length ns
      within [] ps j lt = lt
      within (n ∷ ns) [] j lt = absurd (omega (arith, lt))
      within (n ∷ ns) (p ∷ ps) zero lt = omega arith
      within (n ∷ ns) (p ∷ ps) (suc j) lt = omega (arith, within ns ps j (omega (arith, lt)))

  pub job_within : (k : JobItems) → slice_get (keeps names ps now) job ≡ Some k → job < length names
  job_within k e = length_within (slice_get_within (keeps names ps now) job k e)

-- a begun name is there
pub name_there : (names : List Name) (ps : List Progress) (now : Option Content) (job : ℕ) (name : Name) (begun : Bool) → Agrees names ps now
    → slice_get names job ≡ Some name → IsSomeAnd (slice_get ps job) (λ p. p.begun ≡ begun) → begun ≡ true → IsThere now name
name_there names ps now job name begun agree named was is =
    let p = some_and (slice_get ps job) (λ (p : Progress). p.begun ≡ begun) was in
    there now name p.0 (agree job name p.0 named p.1).bytes (p.2 ∙ is)
  where
    some : (v : Value) (n : ℕ) → IsSomeAnd v (λ b. length b ≡ n) → IsSome v
    some None n h = absurd h
    some (Some b) n h = refl

    there : (now : Option Content) (name : Name) (p : Progress) → (p.begun ≡ true → IfSome (at name now) (λ v. IsSomeAnd v (λ b. length b ≡ total p.ended + p.count))) → p.begun ≡ true → IsThere now name
    there None name p h b = tt
    there (Some f) name p h b = some (f name) (total p.ended + p.count) (h b)

-- ---- what the calls leave

-- a call that failed
pub stopped : (r : Result (Unit {0}) DeviceError) (stop : DeviceError) (R : JobItems → JobItems → Type 0) (job : ℕ) (old new : PartSinkState) → r ≡ Err stop → CountsFault stop old.faults new.faults → KeepLeaves r R job old new
stopped (Ok x) stop R job old new e h = cc
stopped (Err Failed) Failed R job old new e h = h
stopped (Err NoMemory) NoMemory R job old new e h = h
stopped (Err Failed) NoMemory R job old new e h = cc
stopped (Err NoMemory) Failed R job old new e h = cc

-- a call after which only the keeper changed
pub changed : (r : Result (Unit {0}) DeviceError) (R : JobItems → JobItems → Type 0) (job : ℕ) (old new : PartSinkState) → (IsErrOf r Failed → ⊥) → new.faults ≡ old.faults → new.jobs ≡ old.jobs
    → OnOk r (ChangesAt R old.kept new.kept job) → KeepLeaves r R job old new
changed (Ok x) R job old new none faults jobs kept = (faults, jobs, kept)
changed (Err Failed) R job old new none faults jobs kept = absurd (none refl)
changed (Err NoMemory) R job old new none faults jobs kept = faults

pub no_ok : (r : Result (Unit {0}) DeviceError) (stop : DeviceError) (P : Type 0) → r ≡ Err stop → OnOk r P
no_ok (Ok x) stop P e = cc
no_ok (Err s) stop P e = tt

module _ (folder : Name) (names : List Name) (job : ℕ) (name : Name) (a b : DiskState) (plan : IsPlan folder names) (named : slice_get names job ≡ Some name)
    (others : SameBut name a.view.now b.view.now) (works : Works (λ n _. n ≡ name) (λ n. n ≡ name) a b) where
  touches_job : Touches (is_own folder) a.view b.view
  touches_job = touches_one (is_own folder) name a.view b.view (plan.own job name named) others works.time

  frame : CallsProperly a b
  frame = record { opened = works.opened; proper = works.proper; later = works.later }

  -- at Ok
  pub later_ok : (k k2 : ℕ) → k2 ≡ k → Later (is_own folder) k k2 a b
  later_ok k k2 counts = record { touches = touches_job; frame = frame; counts = inl counts }

  -- after a failed call
  pub later_stop : {T : Type 0} (r : Result T DeviceError) (stop : DeviceError) (k k2 : ℕ) → r ≡ Err stop → HasCause a.faults b.faults r → CountsFault stop k k2 → Later (is_own folder) k k2 a b
  later_stop (Ok x) stop k k2 e cause counts = cc
  later_stop (Err Failed) stop k k2 e cause counts = record { touches = touches_job; frame = frame; counts = inr (cause.failed refl) }
  later_stop (Err NoMemory) NoMemory k k2 e cause counts = record { touches = touches_job; frame = frame; counts = inl counts }
  later_stop (Err NoMemory) Failed k k2 e cause counts = cc

-- the part of a job's next item
module _ (folder : Name) (names : List Name) (ps next : List Progress) (now new : Option Content) (job : ℕ) (name : Name) (begun : Bool)
    (plan : IsPlan folder names) (agree : Agrees names ps now) (named : slice_get names job ≡ Some name) (was : IsSomeAnd (slice_get ps job) (λ p. p.begun ≡ begun)) (same : SameBut name now new) where
  abbrev found : (p : Progress) × (slice_get ps job ≡ Some p) × (p.begun ≡ begun)
  found = some_and (slice_get ps job) (λ (p : Progress). p.begun ≡ begun) was

  at_found : (P : Progress → Type 0) → IfSome (slice_get ps job) P → P (found).0
  at_found P h = subst (λ (o : Option Progress). IfSome o P) (found).1 h

  pub part_done : (bytes : List ℕ) (count : ℕ) → at name new ≡ lengthened_from begun bytes (at name now)
      → IsSomeAnd (slice_get ps job) (λ p. count ≡ p.count + length bytes) → IfSome (slice_get ps job) (λ p. Becomes job (grown count p) ps next)
      → ChangesAt (Adds bytes) (keeps names ps now) (keeps names next new) job × Agrees names next new
  part_done bytes count value counts becomes =
      let f = found in
      let k = agree job name f.0 named f.1 in
      let n : count ≡ f.0.count + length bytes = (subst (λ (o : Option Progress). IsSomeAnd o (λ p. count ≡ p.count + length bytes)) f.1 counts) in
      let b : Becomes job (grown count f.0) ps next = at_found (λ p. Becomes job (grown count p) ps next) becomes in
      let put : at name new ≡ lengthened_from f.0.begun bytes (at name now) =
      subst (λ (c : Bool). at name new ≡ lengthened_from c bytes (at name now)) (sym f.2) value in (
        changes names ps next now new job name f.0 (grown count f.0) plan.apart named f.1 b same (Adds bytes) (part_here f.0 (at name now) (at name new) bytes count k n put),
        agrees_on names ps next now new job name f.0 (grown count f.0) plan.apart named f.1 b same agree (part_kept f.0 (at name now) (at name new) bytes count k n put),
      )

  pub again_done : Becomes job nothing ps next → ChangesAt (λ old new. IsFresh new) (keeps names ps now) (keeps names next new) job × Agrees names next new
  again_done b =
      let f = found in (
        changes names ps next now new job name f.0 nothing plan.apart named f.1 b same (λ old new. IsFresh new) (again_here (at name new)),
        agrees_on names ps next now new job name f.0 nothing plan.apart named f.1 b same agree (again_kept (at name new)),
      )

-- the end of it
pub end_done : (folder : Name) (names : List Name) (ps next : List Progress) (now : Option Content) (job : ℕ) (name : Name) (how : ItemEnd) → IsPlan folder names → Agrees names ps now → slice_get names job ≡ Some name
    → (p : Progress) → slice_get ps job ≡ Some p → IfSome (slice_get ps job) (λ p. Becomes job (after_end how p) ps next) → ChangesAt (Ends how) (keeps names ps now) (keeps names next now) job × Agrees names next now
end_done folder names ps next now job name how plan agree named p was becomes =
    let b : Becomes job (after_end how p) ps next = subst (λ (o : Option Progress). IfSome o (λ p. Becomes job (after_end how p) ps next)) was becomes in
    let k = agree job name p named was in
    let same : SameBut name now now = λ q apart. refl in (
      changes names ps next now now job name p (after_end how p) plan.apart named was b same (Ends how) (end_here p (at name now) how k),
      agrees_on names ps next now now job name p (after_end how p) plan.apart named was b same agree (end_kept p (at name now) how k),
    )
