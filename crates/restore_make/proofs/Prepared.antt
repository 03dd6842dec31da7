-- A folder that is made ready by a manifest: no call is faulty.
use Rattle.std.proofs.Common.{◌≡◌, ◌≢◌, ◌⊎◌, inl, inr, ⊎_elim, refl, sym, ap, ◌∙◌, subst, List, map, Option, Some, None, option_map}
use Rattle.base_devices.specs.declared.data_folder.Node.{Node}
use Rattle.base_devices.specs.DataFolder.{Nodes, IsPlaced}
use Rattle.base_model.specs.ManifestText.{IsManifest, HasItsFolders}
use Rattle.base_model.specs.Text.{Text, In}
use Rattle.base_model.specs.Values.{FileEntry, Manifest}
use Rattle.restore_steps.specs.Clearing.{without, with_folders, HaveTheirFolders, ArePlaced}
use Rattle.restore_steps.proofs.Cleared.{folder_made}
use Rattle.restore_make.proofs.Plain.{in_paths, path_in}

pub have_folders : (m : Manifest) → IsManifest m → HaveTheirFolders m
have_folders m rules q (inl i) = let e = in_paths m.files q i in subst (HasItsFolders m.folders) (sym e.2) ((rules.files e.0 e.1).placed)
have_folders m rules q (inr i) = (rules.folders q i).placed

pub are_placed : (m : Manifest) → IsManifest m → (old now : Option Nodes) → now ≡ option_map (with_folders m.folders) old → ArePlaced m.files now
are_placed m rules old now is = record {
  each = λ e i. subst (λ (o : Option Nodes). IsPlaced o e.path) (sym is) (go e i old);
  apart = λ d e j i prefix last path same. rules.apart prefix (subst (λ (p : Text). In p (map (λ (x : FileEntry). x.path) m.files)) same (path_in m.files d j)) ((rules.files e i).placed prefix last path);
}
  where
    go : (e : FileEntry) → In e m.files → (o : Option Nodes) → IsPlaced (option_map (with_folders m.folders) o) e.path
    go e i None = tt
    go e i (Some f) = λ prefix last path plain. folder_made m.folders f prefix ((rules.files e i).placed prefix last path)

pub then_folders : (ps : List Text) (m : Manifest) (ss : List (Text × Node)) (old a b : Option Nodes) → a ≡ option_map (without m ss) old → b ≡ option_map (with_folders ps) a → b ≡ option_map (λ (f : Nodes). with_folders ps (without m ss f)) old
then_folders ps m ss old a b is then = then ∙ ap (option_map (with_folders ps)) is ∙ go old
  where
    go : (o : Option Nodes) → option_map (with_folders ps) (option_map (without m ss) o) ≡ option_map (λ (f : Nodes). with_folders ps (without m ss f)) o
    go None = refl
    go (Some f) = refl
