-- What is received of a call states why its file isn't acknowledged.
use Rattle.std.proofs.Common.{◌≡◌, ◌⊎◌, ⊎_elim, inl, inr, Option, Some, None, subst}
use Rattle.std.specs.Prelude.{IfSome, IsSome, string_bytes}
use Rattle.base_model.specs.Text.{In}
use Rattle.archive_lookup.specs.Turns.{Turned, Account}
use Rattle.archive_spool.specs.declared.spool_query.Asked.TheVariants.{NotYet as Nothing, Reported as Refusal}
use Rattle.cmd_archive_push_wait.specs.declared.fault.QueueFault.{QueueFault}
use Rattle.cmd_archive_push_wait.specs.declared.fault.QueueFault.TheVariants.{SegmentMissing, TooLong, Reported, NotYet}
use Rattle.cmd_archive_push_wait.specs.Causes.{Call, IsLongMark, IsMarkedSo, QueueCause, WasStarted}
use Rattle.cmd_archive_push_wait.specs.Received.{HasStarted, ReceivedCause, IsOneSo, WentBy, received_of}
use Rattle.cmd_archive_push_wait.specs.Leaving.{IsSilent, Shows}

module _ (x : Call) where
  started_so : WasStarted x → HasStarted (received_of x)
  started_so s = record { nothing = s.nothing; started = s.started }

  -- what holds of the account
  account_as : (P Q : Account → Type 0) → ((a : Account) → P a → Q a) → (o : Option Account) → IfSome o (λ a. a.stanza ≡ x.stanza → P a) → IfSome o (λ a. a.stanza ≡ x.stanza → Q a)
  account_as P Q to None h = tt
  account_as P Q to (Some a) h = λ of. to a (h of)

  one_so : (P : Turned → Type 0) → IsMarkedSo x P → IsOneSo (received_of x) P
  one_so P h = (started_so h.0, account_as _ _ (λ a m. record { before = m.went.before; turned = m.went.turned; was = m.went.was; is = m.went.is; so = m.one }) x.new_others.account h.1)

  pub received_cause : (fault : QueueFault) → QueueCause x fault → ReceivedCause (received_of x) fault
  received_cause (SegmentMissing path) h = absurd h
  received_cause (TooLong n limit) h = ⊎_elim (λ l. inl l) (λ m. inr (one_so (IsLongMark x.stanza x.name (string_bytes n) limit) m)) h
  received_cause (Reported code text) h = ⊎_elim (λ l. inl l) (λ m. inr (one_so (λ t. Shows x.stanza x.name x.sum t.marks (Refusal code text)) m)) h
  received_cause (NotYet turns) h = (
    h.0,
    h.1,
    started_so h.2,
    silent x.new_others.account h.3,
  )
    where
      silent : (o : Option Account) → IfSome o (λ a. a.stanza ≡ x.stanza → IsSilent x.name x.sum x.others.account a x.repo x.new_repo x.spool x.new_spool) →
          IfSome o (λ a. a.stanza ≡ x.stanza → WentBy (λ ts. IsSome x.spool.now → (t : Turned) → In t ts → Shows x.stanza x.name x.sum t.marks Nothing) x.others.account a)
      silent None h = tt
      silent (Some a) h = λ of.
          let m = h of in
          record { before = m.went.before; turned = m.went.turned; was = m.went.was; is = m.went.is; so = subst (λ z. IsSome x.spool.now → (t : Turned) → In t m.went.turned → Shows z x.name x.sum t.marks Nothing) of m.each }
