use Rattle.std.proofs.Common.{◌≡◌, ◌∷◌, ◌++◌, sym, ◌∙◌, append_assoc}
use Rattle.std.proofs.lemmas.List.{append_cancel_left}
use Rattle.base_devices.specs.Content.{Name}
use Rattle.memory_devices.proofs.below.folder_within.Goals as goal

pub returns-clause-within : goal.returns-clause-within
returns-clause-within c = λ x rest named e.
    let folder = c.args.folder.now in
    let following : Name = c.in_ok-after_folder.field-0.now in
    let is : c.args.path.now ≡ folder ++ 47 ∷ following = c.in_ok-after_folder.ensures.value in
    let same : 47 ∷ following ≡ 47 ∷ (x ++ 47 ∷ rest) = append_cancel_left folder (47 ∷ following) (47 ∷ (x ++ 47 ∷ rest)) (sym is ∙ e ∙ append_assoc folder (47 ∷ x) (47 ∷ rest)) in
    c.first_folder.ensures.first x rest named (let h : following ≡ x ++ 47 ∷ rest = cc in h)
