-- From what each call of the talk reads to what the server reports.
use Rattle.std.proofs.Common.{◌≡◌, ◌⊎◌, ℕ, List, Option, Some, None, option_map, Result, Ok, Err, inl, inr, refl, sym, subst}
use Rattle.std.specs.Prelude.{IfSome}
use Rattle.server_talk.specs.declared.session.fault.ServerFault.{ServerFault}
use Rattle.server_talk.specs.declared.session.fault.ServerFault.TheVariants as faults
use Rattle.server_talk.specs.declared.session.known.Started.{Started}
use Rattle.server_talk.specs.Fault.{Fault}
use Rattle.server_talk.specs.Reads.{Fails, IsOutside}
use Rattle.server_talk.specs.Rows.{Refuses, by_talk, by_row, Rows, Stop, SystemOutcome, StartOutcome, StopOutcome}
use Rattle.server_talk.specs.Session.{start_at, answer_at}
use Rattle.server_talk.specs.Talk.{Talk, Taken}
use Rattle.server_talk.proofs.Ends.{known_fault}
use Rattle.server_talk.specs.Telling.{Left, Replies, unread, refused, answered, Start, Begins, unknown, unstarted, begun, Starts, unopened, opened, SystemReplies, StartReplies, StopReplies, ShowsOf}
use Rattle.server_talk.specs.Causes.{TalkCause, ShowsFault}

-- ---- causes

-- a fault that isn't the server's has its cause outside
talk_cause : (rose : Type 0) (known : ServerFault → Type 0) (e : ServerFault) → (e ≡ faults.ServerConnection → rose) →
    (¬ IsOutside e → known e) → TalkCause rose known e
talk_cause rose known faults.NoMemory connection inside = tt
talk_cause rose known faults.ServerConnection connection inside = connection refl
talk_cause rose known (faults.ServerSaid code text) connection inside = inside (λ x. x)
talk_cause rose known (faults.AuthUnsupported code) connection inside = inside (λ x. x)
talk_cause rose known (faults.ServerForm at) connection inside = inside (λ x. x)
talk_cause rose known (faults.ServerEnded at) connection inside = inside (λ x. x)
talk_cause rose known (faults.SystemMismatch kept found) connection inside = inside (λ x. x)
talk_cause rose known (faults.TooLong n) connection inside = inside (λ x. x)
talk_cause rose known (faults.TooMany n) connection inside = inside (λ x. x)

-- the same for another reading, whose connection may have failed too
talk_cause_on : (rose rose2 : Type 0) (known known2 : ServerFault → Type 0) (e : ServerFault) → (rose → rose2) →
    (known e → known2 e) → TalkCause rose known e → TalkCause rose2 known2 e
talk_cause_on rose rose2 known known2 faults.NoMemory up on h = tt
talk_cause_on rose rose2 known known2 faults.ServerConnection up on h = up h
talk_cause_on rose rose2 known known2 (faults.ServerSaid code text) up on h = on h
talk_cause_on rose rose2 known known2 (faults.AuthUnsupported code) up on h = on h
talk_cause_on rose rose2 known known2 (faults.ServerForm at) up on h = on h
talk_cause_on rose rose2 known known2 (faults.ServerEnded at) up on h = on h
talk_cause_on rose rose2 known known2 (faults.SystemMismatch kept found) up on h = on h
talk_cause_on rose rose2 known known2 (faults.TooLong n) up on h = on h
talk_cause_on rose rose2 known known2 (faults.TooMany n) up on h = on h

-- ---- one query

module _ {Y : Type 0} (Shows : Talk → Result Y Fault → Type 0) (read : Result (Talk × List ℕ) Fault) where
  fault_replied : (Z : Type 0) (e : ServerFault) → Refuses e read Shows → ¬ IsOutside e →
      (f : Fault) × Replies read Shows (Err f) × Fails {Y = Z} e (Err f)
  fault_replied Z e (by_talk h) inside = let x = known_fault Z e read inside h in (x.0, unread x.0 x.1, x.2)
  fault_replied Z e (by_row t rest is outcome shows fails) inside =
      let x = known_fault Z e outcome inside fails in
      (x.0, refused t rest x.0 is (subst (Shows t) x.1 shows), x.2)

  replied : (taken : Taken) (new : Option (List ℕ)) (y : Y) → Rows read taken new Shows (Ok y) →
      (rest : List ℕ) × (new ≡ Some rest) × Replies read Shows (Ok (y, (taken, rest)))
  replied taken new y h = (
    h.rest,
    h.pending,
    subst (λ (k : Taken). Replies read Shows (Ok (y, (k, h.rest)))) (sym h.following) (answered h.talk h.rest y h.is h.shows),
  )

-- ---- the stop

stop_fault : (taken : Taken) (old : Option (List ℕ)) (e : ServerFault) →
    IfSome old (λ s. Refuses e (answer_at 4 taken s) StopOutcome) → ¬ IsOutside e →
    ShowsFault old (λ bytes. StopReplies (taken, bytes)) e
stop_fault taken None e h inside = tt
stop_fault taken (Some s) e h inside = fault_replied StopOutcome (answer_at 4 taken s) (Stop × Left) e h inside

pub stop_cause : (taken : Taken) (old : Option (List ℕ)) (rose : Type 0) (e : ServerFault) →
    IfSome old (λ s. Refuses e (answer_at 4 taken s) StopOutcome) → (e ≡ faults.ServerConnection → rose) →
    TalkCause rose (ShowsFault old (λ bytes. StopReplies (taken, bytes))) e
stop_cause taken old rose e h connection = talk_cause rose (ShowsFault old (λ bytes. StopReplies (taken, bytes))) e connection (stop_fault taken old e h)

pub stop_known : (taken following : Taken) (old new : Option (List ℕ)) (stop : Stop) →
    IfSome old (λ s. Rows (answer_at 4 taken s) following new StopOutcome (Ok stop)) →
    ShowsOf old new (λ bytes. StopReplies (taken, bytes)) stop following
stop_known taken following None new stop h = tt
stop_known taken following (Some s) new stop h = replied StopOutcome (answer_at 4 taken s) following new stop h

-- ---- the start of a backup

-- this much was taken, and then, after the system's row
module _ (kept : ℕ) (taken : Taken) where
  abbrev AsksSystem : Option (List ℕ) → Option (List ℕ) → Taken → ℕ → Type 0
  AsksSystem old mid following size = IfSome old (λ s. Rows (answer_at 2 taken s) following mid (SystemOutcome kept) (Ok size))

  abbrev BeginFault : Option (List ℕ) → ServerFault → Type 0
  BeginFault old = ShowsFault old (λ bytes. Begins kept (taken, bytes))

  system_fault : (old : Option (List ℕ)) (e : ServerFault) →
      IfSome old (λ s. Refuses e (answer_at 2 taken s) (SystemOutcome kept)) → ¬ IsOutside e → BeginFault old e
  system_fault None e h inside = tt
  system_fault (Some s) e h inside =
      let x = fault_replied (SystemOutcome kept) (answer_at 2 taken s) (Start × Left) e h inside in
      (x.0, unknown x.0 x.1, x.2)

  pub system_cause : (old : Option (List ℕ)) (rose : Type 0) (e : ServerFault) →
      IfSome old (λ s. Refuses e (answer_at 2 taken s) (SystemOutcome kept)) → (e ≡ faults.ServerConnection → rose) →
      TalkCause rose (BeginFault old) e
  system_cause old rose e h connection = talk_cause rose (BeginFault old) e connection (system_fault old e h)

  start_fault : (old mid : Option (List ℕ)) (following : Taken) (size : ℕ) (e : ServerFault) →
      AsksSystem old mid following size → IfSome mid (λ s. Refuses e (answer_at 2 following s) StartOutcome) →
      ¬ IsOutside e → BeginFault old e
  start_fault None mid following size e asks h inside = tt
  start_fault (Some s) mid following size e asks h inside =
      let x = replied (SystemOutcome kept) (answer_at 2 taken s) following mid size asks in
      let y = fault_replied StartOutcome (answer_at 2 following x.0) (Start × Left) e
      (subst (λ (o : Option (List ℕ)). IfSome o (λ r. Refuses e (answer_at 2 following r) StartOutcome)) x.1 h) inside in
      (y.0, unstarted size (following, x.0) y.0 x.2 y.1, y.2)

  pub start_cause : (old mid : Option (List ℕ)) (following : Taken) (size : ℕ) (rose : Type 0) (e : ServerFault) →
      AsksSystem old mid following size → IfSome mid (λ s. Refuses e (answer_at 2 following s) StartOutcome) →
      (e ≡ faults.ServerConnection → rose) → TalkCause rose (BeginFault old) e
  start_cause old mid following size rose e asks h connection =
      talk_cause rose (BeginFault old) e connection (start_fault old mid following size e asks h)

  pub start_known : (old mid new : Option (List ℕ)) (following end : Taken) (size : ℕ) (at : Started) →
      AsksSystem old mid following size →
      IfSome mid (λ s. Rows (answer_at 2 following s) end new StartOutcome (Ok at)) →
      ShowsOf old new (λ bytes. Begins kept (taken, bytes)) (record { size = size; at = at }) end
  start_known None mid new following end size at asks h = tt
  start_known (Some s) mid new following end size at asks h =
      let x = replied (SystemOutcome kept) (answer_at 2 taken s) following mid size asks in
      let y = replied StartOutcome (answer_at 2 following x.0) end new at
      (subst (λ (o : Option (List ℕ)). IfSome o (λ r. Rows (answer_at 2 following r) end new StartOutcome (Ok at))) x.1 h) in
      (y.0, y.1, begun size (following, x.0) at (end, y.0) x.2 y.2)

-- ---- the start of a session

open_fault : (kept : ℕ) (old : Option (List ℕ)) (e : ServerFault) → IfSome (option_map start_at old) (Fails e) →
    ¬ IsOutside e → ShowsFault old (Starts kept) e
open_fault kept None e h inside = tt
open_fault kept (Some s) e h inside = let x = known_fault (Start × Left) e (start_at s) inside h in (x.0, unopened x.0 x.1, x.2)

pub open_cause : (kept : ℕ) (old : Option (List ℕ)) (rose : Type 0) (e : ServerFault) →
    IfSome (option_map start_at old) (Fails e) → (e ≡ faults.ServerConnection → rose) → TalkCause rose (ShowsFault old (Starts kept)) e
open_cause kept old rose e h connection = talk_cause rose (ShowsFault old (Starts kept)) e connection (open_fault kept old e h)

-- a session is granted, and after it this is pending
module _ (kept : ℕ) (taken : Taken) where
  abbrev Grants : Option (List ℕ) → Option (List ℕ) → Type 0
  Grants old mid = option_map start_at old ≡ option_map (λ (rest : List ℕ). Ok (taken, rest)) mid

  granted : (s rest : List ℕ) → Grants (Some s) (Some rest) → start_at s ≡ Ok (taken, rest)
  granted s rest e = cc

  begin_fault : (old mid : Option (List ℕ)) (e : ServerFault) → Grants old mid →
      ShowsFault mid (λ bytes. Begins kept (taken, bytes)) e → ShowsFault old (Starts kept) e
  begin_fault None mid e grants h = tt
  begin_fault (Some s) None e grants h = cc
  begin_fault (Some s) (Some rest) e grants h =
      (h.0, opened (taken, rest) (Err h.0) (granted s rest grants) h.1, h.2)

  pub begin_cause : (old mid : Option (List ℕ)) (rose rose2 : Type 0) (e : ServerFault) → Grants old mid → (rose → rose2) →
      TalkCause rose (ShowsFault mid (λ bytes. Begins kept (taken, bytes))) e →
      TalkCause rose2 (ShowsFault old (Starts kept)) e
  begin_cause old mid rose rose2 e grants up h = talk_cause_on rose rose2
      (ShowsFault mid (λ bytes. Begins kept (taken, bytes))) (ShowsFault old (Starts kept)) e up
      (begin_fault old mid e grants) h

  pub begin_known : (old mid new : Option (List ℕ)) (end : Taken) (start : Start) → Grants old mid →
      ShowsOf mid new (λ bytes. Begins kept (taken, bytes)) start end → ShowsOf old new (Starts kept) start end
  begin_known None mid new end start grants h = tt
  begin_known (Some s) None new end start grants h = cc
  begin_known (Some s) (Some rest) new end start grants h =
      (h.0, h.1, opened (taken, rest) (Ok (start, (end, h.0))) (granted s rest grants) h.2)
