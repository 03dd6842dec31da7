-- What the proof of the stages needs of what archive-push in the background means. Own.
use Rattle.std.specs.Prelude.{◌≡◌, ◌⊎◌, ◌≤◌, ℕ, true, [], Option, Some, None, IsSomeAnd, refl}
use Rattle.std.proofs.Common.{inl, sym, ap, ◌∙◌, arith}
use Rattle.std.proofs.lemmas.List.{append-nil}
use Rattle.archive_lookup.specs.Turns.{Account, ProcessesState}
use Rattle.base_model.specs.Steps.{Command, ArchivePushAsync}
use Rattle.base_model.specs.Text.{Text}
use Rattle.cmd_archive_push.proofs.Refusals.{push_within}
use Rattle.cmd_archive_push_wait.proofs.Statuses.{queue_within}
use Rattle.cmd_archive_push_wait.specs.Pushing.{IsWaitOf}
use Rattle.cmd_trait.specs.KnownWorld.{KnownWorld}
use Rattle.cmd_trait.specs.Meaning.{IsLawful, Place, apart, quiet_talk}
use Rattle.run_archive_push.specs.declared.fault.QueuedPushFault.{QueuedPushFault}
use Rattle.run_archive_push.specs.declared.fault.QueuedPushFault.TheVariants.{Push, Queue}
use Rattle.run_archive_push.specs.Faults.{queued_push_early, queued_push_status}
use Rattle.run_archive_push.specs.Lawful.{not_65, beside_47}
use Rattle.run_archive_push.specs.Queueing.{QueueingEffect, queued_push_meaning}
use Rattle.run_archive_push.specs.Acknowledged.{stored_from}

-- no step of others was waited for
waits_none : (old new : KnownWorld) → new.others ≡ old.others → (account : Option Account)
    → new.others.account ≡ account → (known : Account → Type 0) → IsSomeAnd account known →
    (command : Command) × IsSomeAnd account (λ k. IsWaitOf old.others.account k command)
waits_none old new same None is known there = absurd there
waits_none old new same (Some k) is known there = (
  ArchivePushAsync [],
  record {
    before = k.turns;
    turned = [];
    was = ap (λ (o : ProcessesState). o.account) (sym same) ∙ is;
    is = sym (append-nil k.turns);
    waits = refl;
  },
)

-- nothing was started, and no step of others was waited for
pub none_queued : (p : Place) (spool : Text) (most : ℕ) (others : ProcessesState)
    → QueueingEffect p spool most others others
none_queued p spool most others = record {
  started = inl refl;
  few = (0, omega arith, record { none = λ is. refl; some = λ one. absurd (omega (arith, one)) });
}

within : (fault : QueuedPushFault)
    → (2 ≤ queued_push_status fault) × ((queued_push_status fault ≤ 46) ⊎ (queued_push_status fault ≡ 70))
within (Push fault) = push_within fault
within (Queue name fault) = queue_within fault

each_early : (fault : QueuedPushFault) → queued_push_early fault ≡ true
each_early (Push fault) = refl
each_early (Queue name fault) = refl

-- the laws of archive-push in the background
pub queued_push_lawful : (path spool : Text) (turns : ℕ) → IsLawful (queued_push_meaning path spool turns)
queued_push_lawful path spool turns = record {
  some = λ p old new same there. waits_none old new same new.others.account refl (λ k. k.stanza ≡ p.stanza) there;
  healed = λ p old new repo heals P h. h;
  more = λ p old new failed others to fault h. h;
  closes_more = λ p old new repo failed others to fault h. tt;
  arguments_closes = λ p old failed fault h. tt;
  repo_none = λ p least b k still. tt;
  repo_on = λ p least b c k still h. tt;
  folder_none = λ p old. refl;
  folder_on = λ p old repo nodes same h. h;
  others_none = λ p others. none_queued p spool turns others;
  turned_none = λ p old new n nodes same. nodes;
  turned_on = λ p old new repo n same h. h;
  over = λ fault. (within fault).0;
  not_found = λ fault. not_65 _ (within fault).1;
  early = λ fault h. each_early fault;
  no_control = λ none. refl;
  no_spool = λ none. absurd (apart none);
  talk = λ p old new failed fault is same closes. quiet_talk old new failed _ (beside_47 _ (within fault).1) is same;
  there = λ p old new known turned P on. on turned;
  through = λ is. absurd (apart (sym is));
  opens_only = λ off. refl;
  lasts_alone = λ off p nodes repo now_nodes outcome. tt;
  acknowledges_on = λ p b c k read h. stored_from p path b c k read h;
}
