-- A wait as a command of the log, from any disks.
use Rattle.std.proofs.Common.{◌≡◌, inr, List, [], ◌∷◌, Option, refl, sym, subst, Bool, true, false}
use Rattle.base_devices.specs.Content.{Content}
use Rattle.base_devices.specs.Moments.{View}
use Rattle.base_model.specs.Text.{Text}
use Rattle.base_model.specs.Repository.{Repository}
use Rattle.base_model.specs.Steps.{Step, Move, One, Any, Command, ArchivePushAsync, IsPartOf, all_of, steps_of}
use Rattle.base_model.specs.Log.{Done, IsDone, Keeps, KeepsRepository, Reaches}
use Rattle.base_model.specs.Now.{NowEffect}
use Rattle.cmd_types.specs.declared.stages.plan.SyncScope.TheVariants.{Looked}
use Rattle.cmd_types.specs.DisksEffect.{Reached, to_end, turned_back, stopped, Leads, Passes, PassesReceipts, Takes}
use Rattle.archive_lookup.specs.Turns.{Account}
use Rattle.archive_wait.specs.TurnsDone.{TurnsDone, all_ended, turns_of}

-- ---- all of a command is a part of it

all_part : (moves : List Move) → IsPartOf (all_of moves) moves
all_part [] = refl
all_part (One t ∷ moves) = inr (all_of moves, refl, all_part moves)
all_part (Any groups ∷ moves) = inr (all_of moves, refl, all_part moves)

module _ (stanza : Text) (command : Command) where
  abbrev entry : Bool → Done
  entry whole = record { command = command; acknowledged = whole }

  done_part : (whole : Bool) (r : Repository) (done : List Step) → IsDone whole done (steps_of command r) → IsPartOf done (steps_of command r)
  done_part true r done is = subst (λ (d : List Step). IsPartOf d (steps_of command r)) (sym is) (all_part (steps_of command r))
  done_part false r done is = is

  now_part : (whole : Bool) (a b : Option Content) → NowEffect stanza command whole a b → NowEffect stanza command false a b
  now_part whole a b h = record { known = h.known; does = λ r from some now. let x = h.does r from some now in (x.0, done_part whole r x.0 x.1, x.2) }

  reaches_part : (whole : Bool) (q : Repository) (log : List Done) (r : Repository) → Reaches q (entry whole ∷ log) r → Reaches q (entry false ∷ log) r
  reaches_part whole q log r x = (x.0, x.1, (x.2.0, x.2.1, done_part whole x.0 x.2.0 x.2.2))

  repository_part : (whole : Bool) (q : Repository) (log : List Done) (a : View) → KeepsRepository stanza q (entry whole ∷ log) a → KeepsRepository stanza q (entry false ∷ log) a
  repository_part whole q log a k = record {
    fixed = k.fixed;
    places = k.places;
    represents = λ f leaves. let x = k.represents f leaves in
        record { repository = x.repository; reached = reaches_part whole q log x.repository x.reached; sound = x.sound; represents = x.represents };
  }

  keeps_part : (whole : Bool) (q : Repository) (log : List Done) (a s : View) → Keeps stanza q (entry whole ∷ log) a s → Keeps stanza q (entry false ∷ log) a s
  keeps_part whole q log a s k = record {
    repository = repository_part whole q log a k.repository;
    receipts = record {
      fixed = k.receipts.fixed;
      receipts = λ f leaves name sum fits has. let x = k.receipts.receipts f leaves name sum fits has in (x.0, reaches_part whole q log x.0 x.1, x.2);
    };
  }

-- ---- the wait

module _ (whole : Bool) (old : Option Account) (k : Account) (a b s t : View) (p : TurnsDone whole old k a b s t) where
  abbrev waits : Command
  waits = ArchivePushAsync (turns_of p.turned)

  leads : Leads k.stanza waits (all_ended (turns_of p.turned)) a s b t
  leads = record {
    now = p.repository.does;
    repository = p.repository.carries;
    spool_known = p.spool.known;
    keeps = λ known q log some keeps. record {
      repository = p.repository.carries.keeps q log some keeps.repository;
      receipts = p.spool.keeps q log some known keeps;
    };
  }

  part_leads : Leads k.stanza waits false a s b t
  part_leads = record {
    now = now_part k.stanza waits (all_ended (turns_of p.turned)) a.now b.now leads.now;
    repository = record { keeps = λ q log some keeps. repository_part k.stanza waits (all_ended (turns_of p.turned)) q log b (leads.repository.keeps q log some keeps) };
    spool_known = leads.spool_known;
    keeps = λ known q log some keeps. keeps_part k.stanza waits (all_ended (turns_of p.turned)) q log b t (leads.keeps known q log some keeps);
  }

  passes : Passes k.stanza waits a b
  passes = record {
    between = λ q log some keeps. (
      record { later = p.repo_only.time.later; kept = p.repo_only.time.same; unsynced = p.repo_only.time.same_unsynced },
      p.repository.between.between q log some keeps,
    );
  }

  receipts : PassesReceipts k.stanza waits a s t
  receipts = record {
    past = record { later = p.spool_only.time.later; kept = p.spool_only.time.same; unsynced = p.spool_only.time.same_unsynced };
    between = p.spool.between;
  }

  -- whatever is known of the disks before: a part of the steps of others, all of them where it reaches its end
  pub wait_takes : (reached : Reached) → (reached ≡ to_end → whole ≡ true) → Takes Looked k.stanza waits reached a s b t
  wait_takes to_end ends = record {
    part = part_leads;
    between = passes;
    receipts = receipts;
    whole = subst (λ (w : Bool). Leads k.stanza waits w a s b t) (p.ended (ends refl)) leads;
    ends = tt;
    turned = tt;
  }
  wait_takes turned_back ends = record { part = part_leads; between = passes; receipts = receipts; whole = tt; ends = tt; turned = part_leads }
  wait_takes stopped ends = record { part = part_leads; between = passes; receipts = receipts; whole = tt; ends = tt; turned = tt }
