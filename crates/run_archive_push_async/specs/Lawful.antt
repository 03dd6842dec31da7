-- What the proof of the stages needs of what archive-push:async means. Own.
use Rattle.std.specs.Prelude.{◌≡◌, ◌≢◌, ◌⊎◌, ◌≤◌, ℕ, Bool, true, false, [], Option, Some, None, IsSome, IsSomeAnd, refl}
use Rattle.std.proofs.Common.{inl, inr, arith}
use Rattle.base_devices.specs.DataFolder.{Nodes}
use Rattle.base_model.specs.Steps.{Command, ArchivePushDrain}
use Rattle.base_model.specs.Text.{Text}
use Rattle.cmd_archive_push.proofs.Putting.{healed_puts, puts_after}
use Rattle.cmd_archive_push_async.proofs.Statuses.{drain_is}
use Rattle.cmd_archive_push_async.specs.Drained.{drain_early}
use Rattle.cmd_trait.specs.Meaning.{IsLawful, IsEarly, apart, quiet_talk}
use Rattle.run_archive_push_async.specs.Draining.{IsSomeDrain, drain_meaning}

-- a drain of nothing
some_drain : (nodes : Option Nodes) → IsSome nodes → (command : Command) × IsSomeAnd nodes (λ f. IsSomeDrain f command)
some_drain None some = cc
some_drain (Some f) some = (
  ArchivePushDrain [],
  (false, record { names = []; files = []; ready = λ e. cc; of_names = refl; is = refl }),
)

-- the status of a refusal that comes before the first step, or of one after it
abbrev IsOne : ℕ → Bool → Type 0
IsOne status early = ((status ≡ 23) × (early ≡ true)) ⊎ ((74 ≤ status) × (status ≤ 75))

above : (status : ℕ) (early : Bool) → IsOne status early → 2 ≤ status
above status early (inl is) = omega (arith, is.0)
above status early (inr is) = omega (arith, is.0)

not_65 : (status : ℕ) (early : Bool) → IsOne status early → status ≢ 65
not_65 status early (inl is) = λ e. absurd (omega (arith, is.0, e))
not_65 status early (inr is) = λ e. absurd (omega (arith, is.0, e))

beside_47 : (status : ℕ) (early : Bool) → IsOne status early → (status ≤ 46) ⊎ (52 ≤ status)
beside_47 status early (inl is) = inl (omega (arith, is.0))
beside_47 status early (inr is) = inr (omega (arith, is.0))

early_is : (status : ℕ) (early : Bool) → IsOne status early → IsEarly status → early ≡ true
early_is status early (inl is) h = is.1
early_is status early (inr is) (inl h) = absurd (omega (arith, is.0, h.1))
early_is status early (inr is) (inr (inl h)) = absurd (omega (arith, is.1, h.0))
early_is status early (inr is) (inr (inr h)) = absurd (omega (arith, is.1, h))

pub drain_lawful : (spool : Text) → IsLawful (drain_meaning spool)
drain_lawful spool = record {
  some = λ p old new same there. some_drain old.nodes there;
  healed = λ p old new repo heals P h. h;
  more = λ p old new failed others to fault h. h;
  closes_more = λ p old new repo failed others to fault h. tt;
  arguments_closes = λ p old failed fault h. tt;
  repo_none = λ p least b k heals. ([], healed_puts p.stanza b.now k.now heals.only.now);
  repo_on = λ p least b c k heals h. (h.0, puts_after p.stanza b.now c.now heals.only.now h.0 k.now heals.known h.1);
  folder_none = λ p old. refl;
  folder_on = λ p old repo nodes same h. h;
  others_none = λ p others. refl;
  turned_none = λ p old new n nodes same. nodes;
  turned_on = λ p old new repo n same h. h;
  over = λ fault. above _ (drain_early fault) (drain_is fault);
  not_found = λ fault. not_65 _ (drain_early fault) (drain_is fault);
  early = λ fault h. early_is _ (drain_early fault) (drain_is fault) h;
  no_control = λ none. absurd (apart none);
  no_spool = λ none. absurd (apart none);
  talk = λ p old new failed fault is same closes. quiet_talk old new failed _
      (beside_47 _ (drain_early fault) (drain_is fault)) is same;
  there = λ p old new known turns P on. on known;
  through = λ is p old new. tt;
  opens_only = λ off. absurd (apart off);
  lasts_alone = λ off p nodes repo now_nodes outcome. absurd (apart off);
  acknowledges_on = λ p b c k read h. h;
}
