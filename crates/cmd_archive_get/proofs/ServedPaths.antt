-- The path below the data folder.
use Rattle.std.proofs.Common.{◌≡◌, ◌∙◌, sym, refl, ap, ◌++◌, ◌∷◌, [], ℕ, ◌+◌, length, length-append, drop, Bool, true, false}
use Rattle.std.specs.Prelude.{◌≢◌, codes, if◌then◌else◌}
use Rattle.std.proofs.lemmas.Slice.Eq.{starts_is}
use Rattle.std.proofs.lemmas.Bool.Decides.{Decides-eqb}
use Rattle.std.proofs.Math.Seq.{drop-append_seam}
use Rattle.base_devices.specs.Content.{is_below}
use Rattle.base_model.specs.Text.{Text}
use Rattle.cmd_archive_get.specs.Getting.{served_path}

by_test : (b : Bool) (x y : Text) → b ≡ true → x ≡ (if b then x else y)
by_test true x y is = refl
by_test false x y is = cc

by_other : (b : Bool) (x y : Text) → (b ≡ true → ⊥) → y ≡ (if b then x else y)
by_other true x y is = absurd (is refl)
by_other false x y is = refl

abbrev prefix_of : Text → Text
prefix_of folder = folder ++ 47 ∷ []

pub inside_some : (folder path rest prefix : Text) → prefix ≡ folder ++ codes "/" → path ≡ prefix ++ rest → rest ≡ served_path folder path
inside_some folder path rest prefix is parts =
    let whole : path ≡ prefix_of folder ++ rest = parts ∙ ap (λ (t : Text). t ++ rest) is in
    let below : is_below folder path ≡ true = (starts_is (λ a b. Decides-eqb a b) path (prefix_of folder) (is_below folder path) refl).1 rest whole in
    let size : length (prefix_of folder) ≡ length folder + 1 = length-append folder (47 ∷ []) in
    let following : drop (length folder + 1) path ≡ rest = ap (λ (n : ℕ). drop n path) (sym size) ∙ ap (drop (length (prefix_of folder))) whole ∙ drop-append_seam (prefix_of folder) rest in
    sym following ∙ by_test (is_below folder path) (drop (length folder + 1) path) path below

pub inside_none : (folder path prefix : Text) → prefix ≡ folder ++ codes "/" → ((rest : Text) → path ≢ prefix ++ rest) → path ≡ served_path folder path
inside_none folder path prefix is none =
    by_other (is_below folder path) (drop (length folder + 1) path) path
    (λ yes. none (drop (length (prefix_of folder)) path) ((starts_is (λ a b. Decides-eqb a b) path (prefix_of folder) (is_below folder path) refl).0 yes ∙ ap (λ (t : Text). t ++ drop (length (prefix_of folder)) path) (sym is)))
