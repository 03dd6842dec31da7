-- What was only opened before a file is queued doesn't matter.
use Rattle.std.proofs.Common.{◌≡◌, ⊎_elim, inl, inr, List, Option, Some, None, sym, subst}
use Rattle.std.specs.Prelude.{IfSome, IsSome}
use Rattle.sha1.specs.Sha1.{sha1}
use Rattle.archive_lookup.specs.Turns.{Account, IsStoredBy, ProcessesState, Turned}
use Rattle.base_devices.specs.Content.{Content}
use Rattle.base_devices.specs.DataFolder.{Nodes}
use Rattle.base_model.specs.declared.wal.ArchiveName.{ArchiveName}
use Rattle.base_model.specs.Log.{Done, HasReceipt, Keeps}
use Rattle.base_model.specs.Names.{wal_text}
use Rattle.base_model.specs.Repository.{Repository}
use Rattle.base_model.specs.Text.{Text, In}
use Rattle.base_model.proofs.Logged.{rests_still}
use Rattle.cmd_archive_push.specs.LogFile.{known_file}
use Rattle.cmd_archive_push.specs.WalPath.{wal_path}
use Rattle.cmd_archive_push_wait.specs.Leaving.{IsAcknowledged}
use Rattle.cmd_types.specs.World.{World, AreRead}
use Rattle.cmd_types.proofs.Lifted.{spool_rests}
use Rattle.cmd_trait.specs.Meaning.{Place, disks_of}
use Rattle.run_archive_push.specs.Queueing.{IsLeftStored}

if_as : {X : Type 0} (o : Option X) (P Q : X → Type 0) → ((x : X) → P x → Q x) → IfSome o P → IfSome o Q
if_as None P Q to h = tt
if_as (Some x) P Q to h = to x h

module _ (b c k : World) (read : AreRead b c) (name : ArchiveName) (sum : Text) (n : Account) where
  kept_from : (q : Repository) (log : List Done) → Keeps n.stanza q log b.repo.view b.spool.view
      → Keeps n.stanza q log c.repo.view c.spool.view
  kept_from q log keeps = record {
    repository = rests_still n.stanza q log b.repo.view c.repo.view read.repo.time read.repo.now keeps.repository;
    receipts = spool_rests n.stanza q log b.spool.view c.spool.view read.spool.time read.spool.now keeps.receipts;
  }

  some_from : (old new : Option Content) → new ≡ old → IsSome old → IsSome new
  some_from old new same some = subst (λ (o : Option Content). IsSome o) (sym same) some

  acknowledged_from : IsAcknowledged name sum c.others.account n c.repo.view k.repo.view c.spool.view
      → IsAcknowledged name sum b.others.account n b.repo.view k.repo.view b.spool.view
  acknowledged_from h = record {
    before = h.before;
    turned = h.turned;
    was = subst (λ (s : ProcessesState). s.account ≡ Some (record { stanza = n.stanza; turns = h.before }))
        read.others h.was;
    is = h.is;
    drained = λ q log some known keeps. h.drained q log (some_from b.repo.view.now c.repo.view.now read.repo.now some)
        (some_from b.spool.view.now c.spool.view.now read.spool.now known) (kept_from q log keeps);
    stored = λ q log some known keeps. ⊎_elim
        (λ (r : IfSome c.spool.view.now (λ f. HasReceipt n.stanza f name sum)). inl
        (subst (λ (o : Option Content). IfSome o (λ f. HasReceipt n.stanza f name sum)) read.spool.now r))
        (λ (t : (t : Turned) × In t h.turned × IsStoredBy n.stanza t.turn name sum k.repo.view). inr t)
        (h.stored q log (some_from b.repo.view.now c.repo.view.now read.repo.now some)
        (some_from b.spool.view.now c.spool.view.now read.spool.now known) (kept_from q log keeps));
  }

-- so it is of a file that is stored
pub stored_from : (p : Place) (path : Text) (b c k : World) → AreRead b c
    → IsLeftStored p path (disks_of c) (disks_of k) → IsLeftStored p path (disks_of b) (disks_of k)
stored_from p path b c k read h = record {
  name = h.name;
  named = h.named;
  stored = subst (λ (o : Option Nodes). IfSome (known_file o (wal_path (wal_text h.name)))
      (λ bytes. IfSome k.others.account (λ n. n.stanza ≡ p.stanza
      → IsAcknowledged h.name (sha1 bytes) b.others.account n b.repo.view k.repo.view b.spool.view))) read.nodes
      (if_as (known_file c.tree.nodes (wal_path (wal_text h.name))) _ _
      (λ bytes known. if_as k.others.account _ _
      (λ n of is. acknowledged_from b c k read h.name (sha1 bytes) n (of is)) known) h.stored);
}
