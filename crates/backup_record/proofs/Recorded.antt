-- The manifest of a backup that was made is that of the backup: its bytes lie at their places.
use Rattle.std.proofs.Common.{◌≡◌, ◌<◌, ℕ, zero, suc, List, [], ◌∷◌, ◌++◌, length, take, Option, Some, None, refl, sym, ◌∙◌, ap, subst, arith, slice_get}
use Rattle.std.specs.Prelude.{IsSomeAnd}
use Rattle.std.specs.FinMap.{get}
use Rattle.sha1.specs.Sha1.{sha1}
use Rattle.base_devices.specs.Content.{Name, Content}
use Rattle.base_model.specs.declared.labels.Label.{Label}
use Rattle.base_model.specs.Text.{Text, In}
use Rattle.base_model.specs.Values.{FileEntry, Manifest}
use Rattle.base_model.specs.Place.{place, LiesAt}
use Rattle.base_model.specs.Repository.{File, Backup, Stanza}
use Rattle.base_model.specs.Represents.{IsManifestOf, IsEntryOf, IsAncestor, Prior, Earlier}
use Rattle.base_model.specs.Steps.{changed, AddBackup}
use Rattle.base_model.proofs.Pushed.{in_left}
use Rattle.worker_protocol.specs.PartSinkState.{Done, JobItems}
use Rattle.backup_sink.specs.Placed.{held_sum, IsPlaced}
use Rattle.backup_record.specs.Ends.{AreReceived}
use Rattle.backup_record.specs.Item.{IsItem}
use Rattle.backup_record.specs.Record.{HasFile, PriorRead, HasPrior, IsLeft, IsRecord}

ancestor_more : (backups more : List Backup) (l : Label) (b : Backup) → IsAncestor backups l b → IsAncestor (backups ++ more) l b
ancestor_more backups more _ _ (Prior b l e) = Prior b l e
ancestor_more backups more _ _ (Earlier b p l at e rest) = Earlier b p l (in_left p backups more at) e (ancestor_more backups more l p rest)

module _ (stanza : Text) (names : List Name) (kept : List JobItems) (s : Stanza) (prior : Option PriorRead) (b : Backup) (m : Manifest) (rec : IsRecord stanza names kept s prior b m)
    (got : AreReceived kept) (counts : (j i : ℕ) (k : JobItems) (d : Done) (bytes : Text) → slice_get kept j ≡ Some k → slice_get k.done i ≡ Some d → d.held.known ≡ Some bytes → d.held.count ≡ length bytes) where
  -- a content that has the stanza with the prior's manifest that was read, and one that has the items in their places
  -- and the rest as it was there
  module _ (f g : Content) (has : HasPrior stanza s prior f) (placed : IsPlaced names kept g) (left : (e : FileEntry) (bytes : Text) → IsLeft stanza s prior b.entry.label e bytes → g (place stanza b.entry.label e).0 ≡ f (place stanza b.entry.label e).0) where
    entry_by : (e : FileEntry) (bytes : Text) (x : HasFile b e bytes) → e.size ≡ length bytes → e.sum ≡ sha1 bytes → (0 < e.size → LiesAt g (place stanza b.entry.label e) bytes) → (file : File) × (get b.files e.path ≡ Some file) × IsEntryOf stanza g b.entry.label file e
    entry_by e bytes x size sum lies = (
      x.file,
      x.is,
      record {
        size = size ∙ ap (λ (t : Text). length t) (sym x.bytes_are);
        time = x.time;
        sum = sum ∙ ap sha1 (sym x.bytes_are);
        stored = λ some. subst (λ (t : Text). LiesAt g (place stanza b.entry.label e) t) (sym x.bytes_are) (lies some);
      },
    )

    own_entry : (e : FileEntry) (bytes : Text) → 0 < e.size → IsItem stanza b.entry.label names kept e bytes → HasFile b e bytes → (file : File) × (get b.files e.path ≡ Some file) × IsEntryOf stanza g b.entry.label file e
    own_entry e bytes some i x =
        let r = got i.job i.item i.of i.done e.size i.sum i.of_is i.done_is i.end in
        let same : bytes ≡ r.0 = (let y : ◌≡◌ {A = Option Text} (Some bytes) (Some r.0) = sym i.known ∙ r.1.known in cc) in
        let size : e.size ≡ length bytes = r.1.number ∙ ap (λ (t : Text). length t) (sym same) in
        let count : i.done.held.count ≡ length bytes = counts i.job i.item i.of i.done bytes i.of_is i.done_is i.known in
        let p = placed.placed i.job i.item i.name i.of i.done i.name_is i.of_is i.done_is (omega (arith, some, size, count)) in
        let at : LiesAt g (i.name, held_sum (take i.item i.of.done)) bytes = (subst (λ (o : Option Text). IsSomeAnd o (λ t. LiesAt g (i.name, held_sum (take i.item i.of.done)) t × (length t ≡ i.done.held.count))) i.known p).0 in
        entry_by e bytes x size (i.sum_is ∙ r.1.digest ∙ ap sha1 (sym same)) (λ k. subst (λ (q : Text × ℕ). LiesAt g q bytes) (sym (i.at k)) at)

    entry_of : (e : FileEntry) → In e m.files → (file : File) × (get b.files e.path ≡ Some file) × IsEntryOf stanza g b.entry.label file e
    entry_of e at = go e.size refl
      where
        by : 0 < e.size → (o : Option Label) → e.reference ≡ o → (file : File) × (get b.files e.path ≡ Some file) × IsEntryOf stanza g b.entry.label file e
        by some None none = let x = rec.received e at none some in own_entry e x.0 some x.1 x.2
        by some (Some l) is =
            let x = rec.left e l at is some in
            let there = x.2.lies f has in
            entry_by e x.0 x.1 x.2.size x.2.sum (λ k. (there.0, left e x.0 x.2 ∙ there.1, there.2))

        go : (n : ℕ) → e.size ≡ n → (file : File) × (get b.files e.path ≡ Some file) × IsEntryOf stanza g b.entry.label file e
        go zero none = let x = rec.empty e at none in entry_by e [] x.0 none x.1 (λ k. absurd (omega (arith, k, none)))
        go (suc n) is = by (omega (arith, is)) e.reference refl

    pub recorded : IsManifestOf stanza g (changed (AddBackup b) s) b m
    recorded = record {
      label = rec.head.label;
      kind = rec.head.kind;
      prior = rec.head.prior;
      start = rec.head.start;
      stop = rec.head.stop;
      cluster = rec.head.cluster;
      wal = rec.head.wal;
      choices = rec.head.choices;
      folders = rec.head.folders;
      paths = rec.paths;
      files = entry_of;
      references = rec.references;
      ancestors = λ l at. let x = rec.ancestors l at in (ancestor_more s.backups (b ∷ []) l b x.0, (x.1.0, in_left x.1.0 s.backups (b ∷ []) x.1.1, x.1.2));
    }
