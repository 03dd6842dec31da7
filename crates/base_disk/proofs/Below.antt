-- A name that has a folder in front lies below it.
use Rattle.std.proofs.Common.{◌≡◌, true, [], ◌∷◌, ◌++◌, length, take, get_or, refl, sym, ◌∙◌, ap, append_assoc}
use Rattle.std.specs.Prelude.{bytes_eq}
use Rattle.std.proofs.lemmas.List.{take_at}
use Rattle.std.proofs.lemmas.Slice.Eq.{bytes_eq-Decides}
use Rattle.base_devices.specs.Content.{Name, is_below}

pub below_prefix : (folder rest name : Name) → name ≡ folder ++ 47 ∷ rest → is_below folder name ≡ true
below_prefix folder rest name is =
    let prefix = folder ++ 47 ∷ [] in
    let split : name ≡ prefix ++ rest = is ∙ sym (append_assoc folder (47 ∷ []) rest) in
    ap (λ (n : Name). bytes_eq prefix (take (length prefix) n)) split ∙ ap (bytes_eq prefix) (take_at prefix rest (length prefix) refl) ∙ (bytes_eq-Decides prefix prefix).1 refl

pub slash_at : (folder rest : Name) → get_or (folder ++ 47 ∷ rest) (length folder) 0 ≡ 47
slash_at [] rest = refl
slash_at (x ∷ folder) rest = slash_at folder rest
