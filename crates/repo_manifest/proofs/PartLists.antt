-- The sections of a manifest, pushed one after another.
use Rattle.std.proofs.Common.{◌≡◌, List, [], ◌∷◌, ◌++◌, inl, inr, map, refl, ap, ◌∙◌}
use Rattle.std.specs.Prelude.{IfSome}
use Rattle.std.specs.List.{AllByRecursion}
use Rattle.std.proofs.lemmas.List.{map-append}
use Rattle.base_model.specs.declared.files.FileEntry as rust
use Rattle.base_model.specs.Text.{Text, In}
use Rattle.base_model.specs.InfoText.{Section}
use Rattle.base_model.specs.InfoFiles.{IsLabel}
use Rattle.base_model.specs.ManifestText.{IsFileEntry}
use Rattle.base_model.specs.Values.{FileEntry, file_entry_of}
use Rattle.repo_ini.specs.declared.part.Part.{Part}
use Rattle.repo_ini.specs.Parts.{section_of, sections_of}

-- three, some more, and the last
pub five_sections : (p0 p1 p2 p3 p4 p5 : List Part) (a b c d : Part) (fs : List Section) (s t u v : Section) → p0 ≡ [] → p1 ≡ p0 ++ a ∷ [] → p2 ≡ p1 ++ b ∷ [] → p3 ≡ p2 ++ c ∷ [] → sections_of p4 ≡ sections_of p3 ++ fs → p5 ≡ p4 ++ d ∷ []
    → section_of a ≡ s → section_of b ≡ t → section_of c ≡ u → section_of d ≡ v → sections_of p5 ≡ s ∷ t ∷ u ∷ (fs ++ v ∷ [])
five_sections p0 p1 p2 p3 p4 p5 a b c d fs s t u v e0 e1 e2 e3 e4 e5 ha hb hc hd =
    let three = e3 ∙ ap (λ (l : List Part). l ++ c ∷ []) (e2 ∙ ap (λ (l : List Part). l ++ b ∷ []) (e1 ∙ ap (λ (l : List Part). l ++ a ∷ []) e0)) in
    let four = e4 ∙ ap (λ (l : List Part). sections_of l ++ fs) three in
    ap sections_of e5 ∙ map-append section_of p4 (d ∷ []) ∙ ap (λ (l : List Section). l ++ section_of d ∷ []) four ∙ (rw (ha, hb, hc, hd) refl)

-- each reference of a manifest's files is a label
pub references_of : (folders : List Text) (es : List rust.FileEntry) → ((e : FileEntry) → In e (map file_entry_of es) → IsFileEntry folders e) → AllByRecursion (λ e. IfSome e.reference IsLabel) es
references_of folders [] h = tt
references_of folders (e ∷ es) h = ((h (file_entry_of e) (inl refl)).reference, references_of folders es (λ f i. h f (inr i)))
