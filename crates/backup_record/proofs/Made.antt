-- A backup of these rows is that of its manifest.
use Rattle.std.proofs.Common.{◌≡◌, ◌↔◌, ⊎_elim, inl, inr, true, List, [], ◌∷◌, length, map, Option, Some, None, refl, sym, ◌∙◌, ap, subst, arith}
use Rattle.std.specs.Prelude.{sum_by}
use Rattle.std.specs.FinMap.{get, keys, is_sorted}
use Rattle.sha1.specs.Sha1.{sha1}
use Rattle.base_devices.specs.Content.{Name}
use Rattle.base_model.specs.declared.labels.Label.{Label}
use Rattle.base_model.specs.Text.{Text, Map, In, text_cmp}
use Rattle.base_model.specs.Values.{FileEntry, Manifest}
use Rattle.base_model.specs.Repository.{File, Backup, Stanza}
use Rattle.base_model.specs.Represents.{IsAncestor, IsListed}
use Rattle.worker_protocol.specs.PartSinkState.{JobItems}
use Rattle.backup_record.specs.Entries.{BackupRun, file_of}
use Rattle.backup_record.specs.Rows.{IsPriorFile, IsRow}
use Rattle.backup_record.specs.Record.{HasFile, PriorRead, IsLeft, IsHead, IsRecord, own_size}
use Rattle.backup_record.proofs.Maps.{map_of, keys_of, get_of}

pub map_map : {X Y Z : Type 0} (g : Y → Z) (f : X → Y) (xs : List X) → map g (map f xs) ≡ map (λ (x : X). g (f x)) xs
map_map g f [] = refl
map_map g f (x ∷ xs) = ap (λ zs. g (f x) ∷ zs) (map_map g f xs)

pub in_map : {X Y : Type 0} (f : X → Y) (x : X) (xs : List X) → In x xs → In (f x) (map f xs)
in_map f x [] h = absurd h
in_map f x (y ∷ ys) h = ⊎_elim (λ (e : x ≡ y). inl (ap f e)) (λ (k : In x ys). inr (in_map f x ys k)) h

-- an element of the image is that of an element
pub of_map : {X Y : Type 0} (f : X → Y) (y : Y) (xs : List X) → In y (map f xs) → (x : X) × In x xs × (y ≡ f x)
of_map f y [] h = absurd h
of_map f y (x ∷ xs) h = ⊎_elim (λ (e : y ≡ f x). (x, inl refl, e)) (λ (k : In y (map f xs)). (let r = of_map f y xs k in (r.0, inr r.1, r.2))) h

none_of : (bytes : Text) → 0 ≡ length bytes → bytes ≡ []
none_of [] e = refl
none_of (b ∷ bs) e = absurd (omega (arith, e))

module _ (stanza : Text) (names : List Name) (kept : List JobItems) (s : Stanza) (prior : Option PriorRead) (b : Backup) (m : Manifest) (w : BackupRun) (files : Map File) (all : List (FileEntry × Text))
    (head : IsHead s b m) (files_are : m.files ≡ map (λ (r : FileEntry × Text). r.0) all) (map_is : b.files ≡ map_of (map file_of all)) (sorted : is_sorted text_cmp (map file_of all) ≡ true)
    (each : (r : FileEntry × Text) → In r all → IsRow stanza b.entry.label names w files kept r.0 r.1)
    (refs : (l : Label) → In l b.entry.references ↔ ((e : FileEntry) × In e m.files × (e.reference ≡ Some l)))
    (left : (e : FileEntry) (l : Label) (bytes : Text) → e.reference ≡ Some l → IsPriorFile w files e l bytes → IsLeft stanza s prior b.entry.label e bytes × (IsAncestor s.backups l b × IsListed s.backups l))
    (size : b.entry.size ≡ sum_by (λ e. e.size) m.files) (stored : b.entry.stored ≡ sum_by own_size m.files) where
  row_of : (e : FileEntry) → In e m.files → (bytes : Text) × In (e, bytes) all
  row_of e at =
      let r = of_map (λ (x : FileEntry × Text). x.0) e all (subst (λ (es : List FileEntry). In e es) files_are at) in
      (r.0.1, subst (λ (x : FileEntry). In (x, r.0.1) all) (sym r.2) r.1)

  has_file : (e : FileEntry) (bytes : Text) → In (e, bytes) all → HasFile b e bytes
  has_file e bytes at = record {
    file = record { bytes = bytes; time = e.time };
    is = ap (λ (f : Map File). get f e.path) map_is ∙ get_of (map file_of all) e.path (record { bytes = bytes; time = e.time }) sorted (in_map file_of (e, bytes) all at);
    bytes_are = refl;
    time = refl;
  }

  pub is_record : IsRecord stanza names kept s prior b m
  is_record = record {
    head = head;
    paths = ap (map (λ (e : FileEntry). e.path)) files_are ∙ map_map (λ (e : FileEntry). e.path) (λ (r : FileEntry × Text). r.0) all ∙ sym (ap keys map_is ∙ keys_of (map file_of all) sorted ∙ map_map (λ (p : Text × File). p.0) file_of all);
    references = refs;
    ancestors = λ l at. (
        let e = (refs l).0 at in
        let r = row_of e.0 e.1 in
        (left e.0 l r.0 e.2 ((each (e.0, r.0) r.1).left l e.2)).1
        );
    received = λ e at own some. (let r = row_of e at in (r.0, (each (e, r.0) r.1).received own some, has_file e r.0 r.1));
    empty = λ e at none. (
        let r = row_of e at in
        let x = each (e, r.0) r.1 in
        by e r.0 none x r.1 e.reference refl
        );
    left = λ e l at of some. (let r = row_of e at in (r.0, has_file e r.0 r.1, (left e l r.0 of ((each (e, r.0) r.1).left l of)).0));
    size = size;
    stored = stored;
  }
    where
      by : (e : FileEntry) (bytes : Text) → e.size ≡ 0 → IsRow stanza b.entry.label names w files kept e bytes → In (e, bytes) all → (o : Option Label) → e.reference ≡ o → HasFile b e [] × (e.sum ≡ sha1 [])
      by e bytes none x at None own =
          let no : bytes ≡ [] = none_of bytes (sym none ∙ x.size own) in
          (subst (λ (t : Text). HasFile b e t) no (has_file e bytes at), x.sum own ∙ ap sha1 no)
      by e bytes none x at (Some l) of = absurd (let some = (x.left l of).some in omega (arith, some, none))
