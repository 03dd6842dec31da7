-- The talk that asks a server for its system.
use Rattle.std.proofs.Common.{◌≡◌, ◌⊎◌, ℕ, List, Option, Some, None, option_map, Result, Ok, Err, inl, inr, sym, subst}
use Rattle.std.specs.Prelude.{IfSome, OnOk}
use Rattle.server_talk.specs.declared.session.fault.ServerFault.{ServerFault}
use Rattle.server_talk.specs.declared.session.fault.ServerFault.TheVariants as faults
use Rattle.server_talk.specs.Reads.{Fails, IsOutside}
use Rattle.server_talk.specs.Rows.{Refuses, by_talk, by_row, Rows, SystemOutcome}
use Rattle.server_talk.specs.Session.{start_at}
use Rattle.server_talk.specs.System.{system_at, unopened, unanswered, answered}
use Rattle.server_talk.specs.Talk.{Taken}
use Rattle.server_talk.proofs.Ends.{known_fault}
use Rattle.cmd_stanza_create.specs.Talking.{IsOf, ShowsFault}

-- ---- what is reported

-- no session is granted
pub open_known : (system : ℕ) (old : Option (List ℕ)) (e : ServerFault) → IfSome (option_map start_at old) (Fails e) →
    ¬ IsOutside e → ShowsFault system old e
open_known system None e h inside = tt
open_known system (Some s) e h inside = let x = known_fault ℕ e (start_at s) inside h in (Err x.0, unopened x.0 x.1, x.2)

module _ (system : ℕ) (taken : Taken) where
  -- a session is granted, and after it this is pending
  abbrev Grants : Option (List ℕ) → Option (List ℕ) → Type 0
  Grants old mid = option_map start_at old ≡ option_map (λ (rest : List ℕ). Ok (taken, rest)) mid

  granted : (s rest : List ℕ) → Grants (Some s) (Some rest) → start_at s ≡ Ok (taken, rest)
  granted s rest e = cc

  refuses : (s rest : List ℕ) (e : ServerFault) → start_at s ≡ Ok (taken, rest) →
      Refuses e (system_at taken rest) (SystemOutcome system) → ¬ IsOutside e → ShowsFault system (Some s) e
  refuses s rest e is (by_talk h) inside = let x = known_fault ℕ e (system_at taken rest) inside h in
      (Err x.0, unanswered taken rest x.0 is x.1, x.2)
  refuses s rest e is (by_row t following read outcome shows fails) inside =
      (outcome, answered taken rest following t outcome is read shows, fails)

  pub check_known : (old mid : Option (List ℕ)) (e : ServerFault) → Grants old mid →
      IfSome mid (λ s. Refuses e (system_at taken s) (SystemOutcome system)) → ¬ IsOutside e → ShowsFault system old e
  check_known None mid e grants h inside = tt
  check_known (Some s) None e grants h inside = cc
  check_known (Some s) (Some rest) e grants h inside = refuses s rest e (granted s rest grants) h inside

  pub check_same : (old mid new : Option (List ℕ)) (following : Taken) (size : ℕ) → Grants old mid →
      IfSome mid (λ s. Rows (system_at taken s) following new (SystemOutcome system) (Ok size)) → IsOf system old
  check_same None mid new following size grants h = tt
  check_same (Some s) None new following size grants h = cc
  check_same (Some s) (Some rest) new following size grants h =
      (size, answered taken rest h.rest h.talk (Ok size) (granted s rest grants) h.is h.shows)

-- a session that is refused is ended, and its fault is reported
pub part_known : (system : ℕ) (old : Option (List ℕ)) (fault result : ServerFault) →
    (result ≡ fault) ⊎ (result ≡ faults.NoMemory) → (¬ IsOutside fault → ShowsFault system old fault) →
    ¬ IsOutside result → ShowsFault system old result
part_known system old fault result (inl same) known inside =
    subst (ShowsFault system old) (sym same) (known (subst (λ e. ¬ IsOutside e) same inside))
part_known system old fault result (inr none) known inside = absurd (subst (λ e. ¬ IsOutside e) none inside tt)

-- ---- of any result

pub all_ok : {T E : Type 0} (result : Result T E) (P : Type 0) → P → OnOk result P
all_ok (Ok x) P p = p
all_ok (Err e) P p = tt
