-- The first section, spelled out.
use Rattle.std.proofs.Common.{◌≡◌, ℕ, List, [], ◌∷◌, ◌++◌, sym, ap, ◌∙◌, arith, codes, true, append_assoc}
use Rattle.std.specs.List.{flat_map}
use Rattle.std.specs.Fmt.{decimal}
use Rattle.std.proofs.lemmas.Fmt.{decimal_digit}
use Rattle.json.specs.Print.{escape_byte}
use Rattle.serde_json.specs.Written.{members_text}
use Rattle.base_model.specs.InfoText.{Section, head, section_text, sections_from, signed_text, text_with}

pub five : decimal 5 ≡ 53 ∷ []
five = decimal_digit 5 (omega arith)

pub head_text : section_text head ≡ codes "[backrest]\nbackrest-format=5\n\n"
head_text = ap (λ d. codes "[backrest]\nbackrest-format=" ++ (((d ++ 10 ∷ []) ++ []) ++ 10 ∷ [])) five

pub signed_head : (ss : List Section) → signed_text ss ≡ codes "{\"backrest\":{\"backrest-format\":5}" ++ members_text true (sections_from ss)
unfolding escape_byte signed_text
signed_head ss = ap (λ d. codes "{\"backrest\":{\"backrest-format\":" ++ (d ++ 125 ∷ []) ++ members_text true (sections_from ss)) five

abbrev pub last : List ℕ
last = codes "[backrest]\nbackrest-checksum=\""

regroup : (a b c d : List ℕ) → a ++ b ++ c ++ d ≡ a ++ (b ++ (c ++ d))
regroup a b c d = simp append_assoc

pub text_is : (ss : List Section) (digits text : List ℕ) → text ≡ codes "[backrest]\nbackrest-format=5\n\n" ++ flat_map section_text ss → text ++ last ++ digits ++ 34 ∷ 10 ∷ [] ≡ text_with digits ss
unfolding text_with
text_is ss digits text h =
    ap (λ t. t ++ last ++ digits ++ 34 ∷ 10 ∷ []) h
    ∙ ap (λ t. t ++ flat_map section_text ss ++ last ++ digits ++ 34 ∷ 10 ∷ []) (sym head_text)
    ∙ regroup (flat_map section_text (head ∷ ss)) last digits (34 ∷ 10 ∷ [])
