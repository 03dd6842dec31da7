-- A command that leaves the spool unchanged keeps what its receipts state, whatever it is: no step removes what a drain
-- has stored.
use Rattle.std.proofs.Common.{inl, inr, List, [], ◌∷◌, ◌++◌, Some, None, refl}
use Rattle.std.specs.Prelude.{true}
use Rattle.base_devices.specs.Moments.{View}
use Rattle.base_model.specs.declared.wal.ArchiveName.{ArchiveName}
use Rattle.base_model.specs.Text.{Text, In}
use Rattle.base_model.specs.Repository.{Repository, Drained}
use Rattle.base_model.specs.Log.{Done, IsDrained, KeepsSpool}
use Rattle.base_model.specs.Steps.{Step, Create, Upgrade, Push, Note, AddBackup, Condemn, Forget, Command, step, after, all_of, steps_of}
use Rattle.cmd_types.specs.declared.stages.plan.SyncScope.{SyncScope}
use Rattle.cmd_types.specs.DisksEffect.{Reached, RepoEffect, DisksEffect}
use Rattle.cmd_types.proofs.Lifted.{does_runs}

in_more : (x : Drained) (xs ys : List Drained) → In x xs → In x (xs ++ ys)
in_more x [] ys h = absurd h
in_more x (y ∷ xs) ys (inl h) = inl h
in_more x (y ∷ xs) ys (inr h) = inr (in_more x xs ys h)

module _ (name : ArchiveName) (sum : Text) where
  by_step : (r : Repository) (t : Step) → IsDrained r name sum → IsDrained (step r t) name sum
  by_step None t h = absurd h
  by_step (Some s) (Create c) h = h
  by_step (Some s) (Upgrade c) h = h
  by_step (Some s) (Push a) h = h
  by_step (Some s) (Note d) h = in_more (record { name = name; sum = sum }) s.drained (d ∷ []) h
  by_step (Some s) (AddBackup b) h = h
  by_step (Some s) (Condemn test) h = h
  by_step (Some s) (Forget a) h = h

  by_steps : (r : Repository) (ts : List Step) → IsDrained r name sum → IsDrained (after r ts) name sum
  by_steps r [] h = h
  by_steps r (t ∷ ts) h = by_steps (step r t) ts (by_step r t h)

pub spool_kept : (stanza : Text) (command : Command) (q : Repository) (log : List Done) (v : View) → KeepsSpool stanza q log v → KeepsSpool stanza q (record { command = command; acknowledged = true } ∷ log) v
spool_kept stanza command q log v k = record {
  fixed = k.fixed;
  receipts = λ f leaves name sum fits has.
      let x = k.receipts f leaves name sum fits has in
      let all = all_of (steps_of command x.0) in
      (after x.0 all, (x.0, x.1, (all, refl, refl)), by_steps name sum x.0 all x.2);
}

-- what it does to the repository is what it does
pub leaves_spool : (how : SyncScope) (stanza : Text) (command : Command) (reached : Reached) (a d s : View) → RepoEffect how stanza command reached a d → DisksEffect how stanza command reached a s d s
leaves_spool how stanza command reached a d s h = does_runs how stanza command reached a d s (λ q log k. spool_kept stanza command q log s k) h
