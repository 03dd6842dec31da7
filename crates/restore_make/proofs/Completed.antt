-- From the marks to what was kept, and to the folder as it was before the control file was removed.
use Rattle.std.proofs.Common.{ℕ, Bool, ◌≡◌, inl, inr, refl, sym, ap, ◌∙◌, subst, List, length, Option, Some, None}
use Rattle.std.specs.Prelude.{IfSome}
use Rattle.base_devices.specs.Content.{at, SameBut}
use Rattle.base_devices.specs.Links.{LinkState}
use Rattle.base_devices.specs.declared.data_folder.Node.{Node}
use Rattle.base_devices.specs.declared.data_folder.Node.TheVariants.{File}
use Rattle.base_devices.specs.DataFolder.{Nodes, Held, file, folder, link, other, file_bytes, with_time, IsTreeListing}
use Rattle.base_model.specs.Text.{Text, In}
use Rattle.base_model.specs.Values.{FileEntry, Manifest}
use Rattle.restore_steps.specs.Clearing.{control_path}
use Rattle.restore_make.specs.Options.{Options}
use Rattle.restore_make.specs.Entries.{AreOf}
use Rattle.restore_make.specs.Kept.{IsKept, IsShown, MarksAlike, AreFilesOf, KeepsAlike}
use Rattle.restore_make.specs.Finished.{HasCome, IsMarked, IsFinished}
use Rattle.restore_make.proofs.ReadEntries.{ordinary_off}
use Rattle.restore_make.proofs.Shown.{contains_in}

-- a file of an entry's size is shown
shown_file : (seen : List (Text × Node)) (e : FileEntry) (g : Nodes) → IsTreeListing g seen → (bytes : Text) → file_bytes (g e.path) ≡ Some bytes → AreOf e bytes → IsShown seen e
shown_file seen e g listing bytes has are = by (g e.path) refl has
  where
    by : (x : Option Held) → g e.path ≡ x → file_bytes x ≡ Some bytes → IsShown seen e
    by None is h = cc
    by (Some (file b time)) is h =
        let k : ◌≡◌ {A = Option Text} (Some b) (Some bytes) = h in
        let same : b ≡ bytes = cc in
        (time, subst (λ (n : ℕ). In (e.path, File n time) seen) (ap (λ (t : Text). length t) same ∙ are.0) (contains_in seen (e.path, File (length b) time) (listing.all e.path (file b time) is)))
    by (Some folder) is h = cc
    by (Some link) is h = cc
    by (Some other) is h = cc

module _ (stanza : Text) (links : List LinkState) (o : Options) (m : Manifest) (seen : List (Text × Node)) (marks : List Bool) (old mid : Option Nodes)
    (listing : IfSome old (λ f. IsTreeListing f seen)) (but : SameBut control_path old mid) (all : MarksAlike links o seen m.files marks) where
  kept_first : (f : Nodes) (e : FileEntry) → IsKept links o e mid f → IsKept links o e old f
  kept_first f e x = record {
    delta = x.delta;
    ordinary = x.ordinary;
    bytes = x.bytes;
    was = (x.was.0, sym (but e.path (ordinary_off o.recovery e x.ordinary)) ∙ x.was.1);
    is = x.is;
    size = x.size;
    digested = x.digested;
  }

  come_first : (f : Nodes) (e : FileEntry) → HasCome stanza m.label links o e mid f → HasCome stanza m.label links o e old f
  come_first f e (inl x) = inl x
  come_first f e (inr x) = inr (kept_first f e x)

  alike : (f : Nodes) → IsMarked stanza links o m marks mid f → KeepsAlike links o m.files old f
  alike f done tree repo read files delta e i ordinary = by old refl
    where
      one : (g : Nodes) → old ≡ Some g → (bytes : Text) → file_bytes (g e.path) ≡ Some bytes → AreOf e bytes → f e.path ≡ with_time e.time (g e.path)
      one g is bytes has are =
          let listed = subst (λ (x : Option Nodes). IfSome x (λ h. IsTreeListing h seen)) is listing in
          let held = subst (λ (x : Option Nodes). AreFilesOf x tree) is files in
          let mark = all tree repo read delta e i ordinary (shown_file seen e g listed bytes has are) bytes (held e.path ∙ has) are in
          let x = kept_first f e (done.kept e mark) in
          let h : ◌≡◌ {A = Option (Option Held)} (Some (g e.path)) (Some (Some (file x.bytes x.was.0))) = ap (at e.path) (sym is) ∙ x.was.1 in
          let held_node : g e.path ≡ Some (file x.bytes x.was.0) = cc in
          x.is ∙ sym (ap (with_time e.time) held_node)

      by : (x : Option Nodes) → old ≡ x → IfSome x (λ g. (bytes : Text) → file_bytes (g e.path) ≡ Some bytes → AreOf e bytes → f e.path ≡ with_time e.time (g e.path))
      by None is = tt
      by (Some g) is = one g is

  pub completed : (new : Option Nodes) → IfSome new (IsMarked stanza links o m marks mid) → IfSome new (IsFinished stanza links o m old)
  completed None done = tt
  completed (Some f) done = record {
    file = λ e i own. come_first f e (done.file e i own);
    alike = alike f done;
    settings = done.settings;
    folder = done.folder;
    nothing = done.nothing;
  }
