-- The order of paths, from that of their keys.
use Rattle.std.proofs.Common.{◌≡◌, ◌&&◌, inl, inr, Bool, true, false, List, [], ◌∷◌, map, refl, sym, ap, ◌∙◌, subst}
use Rattle.std.specs.List.{AllByRecursion}
use Rattle.base_devices.specs.Order.{is_before, are_after, are_in_order}
use Rattle.base_model.specs.Text.{Text, In}
use Rattle.base_model.specs.ManifestText.{file_field, folder_field}
use Rattle.base_model.specs.Paths.{IsPath}
use Rattle.base_model.specs.Values.{FileEntry}
use Rattle.repo_keys.specs.Agree.{IsOrdered}
use Rattle.repo_manifest.specs.Alone.{IsDirectory}
use Rattle.repo_manifest.specs.Sections.{root_field, IsPlaced}
use Rattle.repo_manifest.proofs.FileRules.{after_files, after_folders}

pub files_ordered : (es : List FileEntry) → IsOrdered (map file_field es) → are_in_order (map (λ (e : FileEntry). e.path) es) ≡ true
files_ordered [] h = refl
files_ordered (e ∷ es) h = sym (after_files e.path es) ∙ h

pub folders_ordered : (ps : List Text) → IsOrdered (root_field ∷ map folder_field ps) → are_in_order ps ≡ true
folders_ordered [] h = refl
folders_ordered (p ∷ ps) h = sym (after_folders p ps) ∙ h

some_path : (p : Text) → IsPath p → is_before [] p ≡ true
some_path [] h = let x : ◌≡◌ {A = Bool} false true = h.elements_hold in cc x
some_path (c ∷ cs) h = refl

pub after_none : (ps : List Text) → AllByRecursion IsDirectory ps → are_in_order ps ≡ true → are_after [] ps ≡ true
after_none [] h order = refl
after_none (p ∷ ps) h order = ap (λ (b : Bool). b && are_after p ps) (some_path p h.0.is_path) ∙ order

-- no file is a folder
pub apart_all : (folders : List Text) (es : List FileEntry) → ((e : FileEntry) → In e es → IsPlaced folders e) → (path : Text) → In path (map (λ (e : FileEntry). e.path) es) → ¬ In path folders
apart_all folders [] h path i = absurd i
apart_all folders (e ∷ es) h path (inl same) = subst (λ (p : Text). ¬ In p folders) (sym same) (h e (inl refl)).1
apart_all folders (e ∷ es) h path (inr i) = apart_all folders es (λ f j. h f (inr j)) path i
