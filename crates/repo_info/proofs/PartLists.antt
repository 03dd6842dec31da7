-- The sections of parts that are pushed one after another.
use Rattle.std.proofs.Common.{◌≡◌, List, [], ◌∷◌, ◌++◌, ap, ap₂, ◌∙◌, append_assoc}
use Rattle.std.proofs.lemmas.List.{map-append}
use Rattle.base_model.specs.InfoText.{Section}
use Rattle.repo_ini.specs.declared.part.Part.{Part}
use Rattle.repo_ini.specs.Parts.{section_of, sections_of}

-- two sections more
pub two_more : (first one two : List Part) (a b : Part) (ss : List Section) (s t : Section) → sections_of first ≡ ss → one ≡ first ++ a ∷ [] → two ≡ one ++ b ∷ [] → section_of a ≡ s → section_of b ≡ t → sections_of two ≡ ss ++ s ∷ t ∷ []
two_more first one two a b ss s t e f g h k =
    ap sections_of (g ∙ ap (λ l. l ++ b ∷ []) f ∙ append_assoc first (a ∷ []) (b ∷ [])) ∙ map-append section_of first (a ∷ b ∷ [])
    ∙ ap₂ (λ xs ys. xs ++ ys) e (ap₂ (λ x y. x ∷ y ∷ []) h k)
