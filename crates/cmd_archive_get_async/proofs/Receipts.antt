-- To the log a call that gives no receipt reads alone.
use Rattle.std.proofs.Common.{◌≡◌, ⊎_elim, ℕ, ◌≤◌, Bool, true, false, List, [], ◌∷◌, refl, arith}
use Rattle.std.specs.Prelude.{IsSome}
use Rattle.sha1.specs.Sha1.{sha1}
use Rattle.base_devices.specs.Content.{Content}
use Rattle.base_devices.specs.Crash.{Leaves}
use Rattle.base_devices.specs.Moments.{View}
use Rattle.base_disk.proofs.Images.{Law}
use Rattle.base_model.specs.declared.wal.ArchiveName.{ArchiveName}
use Rattle.base_model.specs.Log.{Done, HasReceipt, IsDrained, KeepsSpool, Reaches}
use Rattle.base_model.specs.Repository.{Repository}
use Rattle.base_model.specs.Represents.{IsWalName}
use Rattle.base_model.specs.Steps.{Named, Reading, steps_of}
use Rattle.base_model.specs.Text.{Text, In}
use Rattle.base_model.proofs.Done.{part_none}
use Rattle.archive_lookup.specs.Turns.{HadReceipt}
use Rattle.archive_spool.specs.Marks.{GivesMarks}
use Rattle.archive_spool.proofs.Receipts.{marks_receipts, marks_synced}
use Rattle.cmd_types.specs.declared.stages.plan.SyncScope.{SyncScope}
use Rattle.cmd_types.specs.DisksEffect.{SpoolEffect}
use Rattle.cmd_types.proofs.Lifted.{reading_spool}

module _ (stanza : Text) (s t : View) (law : Law s) (new_law : Law t) (marks : GivesMarks stanza [] s t) (known : IsSome s.now → IsSome t.now) where
  -- each receipt was there before
  earlier : (q : Repository) (log : List Done) → IsSome s.now → KeepsSpool stanza q log s → (m : ℕ) (f : Content) → s.moment ≤ m → m ≤ t.moment → Leaves t m f → (name : ArchiveName) (sum : Text) → IsWalName name → HasReceipt stanza f name sum
      → (r : Repository) × Reaches q log r × IsDrained r name sum
  earlier q log some k m f lo hi leaves name sum fits has = ⊎_elim
      (λ (h : HadReceipt stanza s name sum). k.receipts h.0 h.1 name sum fits h.2)
      (λ (h : (n : Named) × In n [] × (n.name ≡ name) × (sha1 n.bytes ≡ sum)). absurd h.1)
      (marks_receipts stanza [] s t law new_law marks some k.fixed m f lo hi leaves name sum fits has)

  keeps_on : (q : Repository) (log : List Done) → IsSome s.now → KeepsSpool stanza q log s → KeepsSpool stanza q log t
  keeps_on q log some k = record {
    fixed = λ name fits. marks_synced stanza [] s t marks k.fixed t.moment marks.later (omega arith) name fits;
    receipts = λ f leaves. earlier q log some k t.moment f marks.later (omega arith) leaves;
  }

  -- a part of reading, or all of it
  read_on : (q : Repository) (log : List Done) (whole : Bool) (v : View) → KeepsSpool stanza q log v → KeepsSpool stanza q (record { command = Reading; acknowledged = whole } ∷ log) v
  read_on q log false v k = record {
    fixed = k.fixed;
    receipts = λ f leaves name sum fits has. let x = k.receipts f leaves name sum fits has in (x.0, (x.0, x.1, ([], refl, part_none (steps_of Reading x.0))), x.2);
  }
  read_on q log true v k = reading_spool stanza q log v k

  pub spool_reads : (how : SyncScope) (whole : Bool) (repo : View) → SpoolEffect how stanza Reading whole repo s t
  spool_reads how whole repo = record {
    known = known;
    past = record { later = marks.later; kept = marks.same; unsynced = marks.same_unsynced };
    keeps = λ q log some some_spool begun k. read_on q log whole t (keeps_on q log some_spool k);
    between = λ q log some some_spool begun k m f lo hi leaves name sum fits has.
        let x = earlier q log some_spool k m f lo hi leaves name sum fits has in
        (x.0, (x.0, x.1, ([], refl, part_none (steps_of Reading x.0))), x.2);
  }
