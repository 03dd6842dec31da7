-- What follows for a command of which nothing was done.
use Rattle.std.proofs.Common.{◌≡◌, ℕ, inl, inr, Option, refl, sym, ap, subst}
use Rattle.base_devices.specs.DataFolder.{Nodes}
use Rattle.base_devices.specs.States.{DataFolderState}
use Rattle.base_model.specs.Text.{Text}
use Rattle.base_model.proofs.Walking.{rests_synced}
use Rattle.archive_lookup.specs.Turns.{ProcessesState}
use Rattle.archive_store.specs.Still.{IsStill, rests_none}
use Rattle.cmd_types.specs.DisksEffect.{Reached, to_end, turned_back, Takes, On}
use Rattle.cmd_types.specs.World.{LocksSeen, World}
use Rattle.cmd_types.proofs.Besides.{still_beside}
use Rattle.cmd_types.proofs.Lifted.{on_as, rests_quiet, quiet_takes, opened_takes}
use Rattle.cmd_setup.proofs.Readings.{still_leaves}
use Rattle.cmd_trait.specs.KnownWorld.{known_world}
use Rattle.cmd_trait.specs.Meaning.{Place, Meaning, IsLawful}
use Rattle.cmd_trait.specs.CallEffect.{IsIdle, OpensPlaces, OpensNamed, OpensIf, OnlyLocked}
use Rattle.cmd_trait.specs.Follows.{PartDone, TurnsBack, LeavesRest}
use Rattle.cmd_trait.proofs.CallEffects.{any_on, any_reading, any_unless}
use Rattle.cmd_trait.proofs.Carried.{none_named, none_if}

back_apart : ¬ (◌≡◌ {A = Reached} turned_back to_end)
back_apart e = cc

module _ {F : Type 0} (p : Place) (m : Meaning F) (laws : IsLawful m) (b k : World) (idle : IsIdle b k) where
  takes : On (m.manner p (known_world b) (known_world k)) (λ command. Takes m.plan.sync_scope p.stanza command turned_back b.repo.view b.spool.view k.repo.view k.spool.view)
  takes = any_on (m.manner p (known_world b) (known_world k)) _ (laws.some p (known_world b) (known_world k) idle.others)
      (λ command. opened_takes p.stanza b.repo.view b.repo.view b.spool.view k.spool.view (rests_none b.repo.view) refl idle.spool.time idle.spool.now m.plan.sync_scope command turned_back k.repo.view k.spool.view
      (quiet_takes m.plan.sync_scope p.stanza command turned_back b.repo.view k.repo.view k.spool.view back_apart (rests_quiet p.stanza b.repo.view k.repo.view idle.repo.time idle.repo.now)))

  nodes : k.tree.nodes ≡ b.tree.nodes
  nodes = ap (λ (t : DataFolderState). t.nodes) idle.tree

  pub idle_part : PartDone p m b k
  idle_part = on_as (m.manner p (known_world b) (known_world k)) _ _ (λ command h. (h.part, h.between, h.receipts)) takes

  pub idle_back : (n : ℕ) → TurnsBack p m b k n
  idle_back n = record {
    none = on_as (m.manner p (known_world b) (known_world k)) _ _ (λ command h. h.turned) takes;
    turned = laws.turned_none p (known_world b) (known_world k) n nodes (any_reading m.plan.pairs _ idle.repo.now);
  }

  pub idle_rest : LeavesRest p m b k
  idle_rest = record {
    beside = λ known. still_beside p.stanza b.repo.view k.repo.view idle.repo;
    spool = λ known. still_beside p.stanza b.spool.view k.spool.view idle.spool;
    repository = λ known. laws.repo_none p b.clock.least b.repo.view k.repo.view (still_leaves m.plan.pairs p.stanza _ _ idle.repo);
    synced = any_unless m.unsyncs _ (λ synced some. rests_synced p.stanza b.repo.view k.repo.view idle.repo.time idle.repo.now synced);
    folder = subst (λ (n : Option Nodes). m.folder_effect p (known_world b) n) (sym nodes) (laws.folder_none p (known_world b));
    others = subst (λ (o : ProcessesState). m.others_effect p b.others o) (sym idle.others) (laws.others_none p b.others);
    server = any_unless m.uses.server _ idle.server;
    workers = any_unless m.uses.workers _ idle.links;
    clock = any_unless m.uses.clock _ idle.clock;
  }

  pub idle_places : OpensPlaces p m b k
  idle_places = record {
    spool = subst (λ ts. OpensNamed m.spool b.spool.opened ts) (sym idle.spool_opened) (none_named m.spool b.spool.opened);
    folder = subst (λ (t : DataFolderState). OpensIf m.plan.folder p.data_folder b.tree.opened t.opened) (sym idle.tree) (none_if m.plan.folder p.data_folder b.tree.opened);
    repository = inl idle.opened;
  }

  pub idle_locked : OnlyLocked p m b k
  idle_locked = inr (inl (ap (λ (l : LocksSeen). l.ever_taken) idle.locks), idle.repo)
