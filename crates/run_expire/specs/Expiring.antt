-- What expire means.
use Rattle.std.specs.Prelude.{ℕ, true}
use Rattle.base_model.specs.Text.{Text}
use Rattle.cmd_types.specs.declared.stages.outcome.Outcome.{Outcome}
use Rattle.cmd_types.specs.Reached.{OnFinished}
use Rattle.cmd_types.specs.DisksEffect.{one}
use Rattle.expire_rules.specs.declared.rules.Rules.{Rules}
use Rattle.cmd_expire.specs.declared.fault.ExpireCommandFault.{ExpireCommandFault}
use Rattle.cmd_expire.specs.Faults.{expire_early, ExpireCommandCause}
use Rattle.cmd_expire.specs.Texts.{expire_status, expire_message}
use Rattle.cmd_expire.specs.Changing.{Expires}
use Rattle.cmd_expire.specs.Pruning.{ShowsMoment, IsExpiryBy, IsExpired, counts_days}
use Rattle.cmd_trait.specs.KnownWorld.{KnownWorld}
use Rattle.cmd_trait.specs.Meaning.{Meaning, nothing, reading_plan, usual_meaning}

-- Ok of expire: all is gone that the rules expire at the moment that the clock showed, and the lines state it
abbrev pub Removes : Text → Rules → KnownWorld → KnownWorld → Outcome → Type 0
Removes stanza rules old new outcome = (moment : ℕ) × ShowsMoment rules.full old.clock new.clock moment
    × OnFinished outcome (IsExpired stanza rules moment old.repo new.repo)

abbrev pub expire_meaning : Rules → Meaning ExpireCommandFault
expire_meaning rules = record (usual_meaning expire_status expire_message) {
  -- the backup lock is taken, the stanza is synced, and both pairs are read
  plan = record reading_plan { backup_lock = true };
  uses = record nothing { clock = counts_days rules.full };
  unsyncs = true;
  manner = λ p old new. one (IsExpiryBy rules old.clock.least new.clock.least);
  promise = λ p old new outcome. Removes p.stanza rules old new outcome;
  cause = λ p old new failed fault. ExpireCommandCause p.stanza old.repo fault;
  early = expire_early;
  repo_effect = λ p least old new. Expires p.stanza rules least old new;
}
