-- Settings without those of how far a server recovers, line by line.
use Rattle.std.proofs.Common.{◌≡◌, refl, sym, ap, ◌∙◌, subst, Bool, true, false, List, [], ◌∷◌, ◌++◌, map, Option, Some, None, append_assoc}
use Rattle.std.specs.Prelude.{◌==◌, codes, if◌then◌else◌}
use Rattle.std.specs.Borrow.{Bor}
use Rattle.std.specs.List.{join_with_byte, slice_split, onto_first}
use Rattle.base_model.specs.Text.{Text}
use Rattle.repo_ini.specs.Form.{pieces}
use Rattle.repo_ini.specs.Reading.{rest_pieces}
use Rattle.restore_make.specs.Recovered.{sets_target, out_of_force, without_targets}

-- a line that is put out of force
pub removed : (line : Text) → sets_target line ≡ true → out_of_force line ≡ codes "# Removed by pgBackRest restore # " ++ line
removed line is = ap (λ (b : Bool). if b then codes "# Removed by pgBackRest restore # " ++ line else line) is

-- what comes after a line: nothing, or a newline and the other lines
abbrev pub following : Option (Bor Text) → Text
following None = []
following (Some rest) = 10 ∷ without_targets rest.now

-- a text has a first line
some_piece : (t : Text) → (p : Text) × (ps : List Text) × (pieces t ≡ p ∷ ps)
some_piece [] = ([], [], refl)
some_piece (c ∷ t) = by (some_piece t) (c == 10) refl
  where
    by : ((p : Text) × (ps : List Text) × (pieces t ≡ p ∷ ps)) → (b : Bool) → (c == 10) ≡ b → (p : Text) × (ps : List Text) × (pieces (c ∷ t) ≡ p ∷ ps)
    by x true is = ([], pieces t, ap (λ (b : Bool). if b then [] ∷ pieces t else onto_first c (pieces t)) is)
    by x false is = (c ∷ x.0, x.1, ap (λ (b : Bool). if b then [] ∷ pieces t else onto_first c (pieces t)) is ∙ ap (onto_first c) x.2)

-- the first line, and what comes after it
pub line_first : (text line : Text) (rest : Option (Bor Text)) → pieces text ≡ line ∷ rest_pieces rest → without_targets text ≡ out_of_force line ++ following rest
line_first text line None is = ap (λ (ps : List Text). join_with_byte 10 (map out_of_force ps)) is ∙ sym (append_nil (out_of_force line))
  where
    append_nil : (t : Text) → t ++ [] ≡ t
    append_nil [] = refl
    append_nil (c ∷ cs) = ap (λ (l : Text). c ∷ l) (append_nil cs)
line_first text line (Some rest) is =
    let x = some_piece rest.now in
    ap (λ (ps : List Text). join_with_byte 10 (map out_of_force ps)) (is ∙ ap (λ (ps : List Text). line ∷ ps) x.2)
    ∙ ap (λ (ps : List Text). out_of_force line ++ 10 ∷ join_with_byte 10 (map out_of_force ps)) (sym x.2)

-- one line more
pub line_more : (done before after line : Text) (left : Bor Text) (rest : Option (Bor Text)) → before ≡ done ++ 10 ∷ [] → after ≡ before ++ out_of_force line → pieces left.now ≡ line ∷ rest_pieces rest
    → after ++ following rest ≡ done ++ following (Some left)
line_more done before after line left rest newline added is =
    ap (λ (t : Text). t ++ following rest) (added ∙ ap (λ (t : Text). t ++ out_of_force line) newline)
    ∙ append_assoc (done ++ 10 ∷ []) (out_of_force line) (following rest)
    ∙ append_assoc done (10 ∷ []) (out_of_force line ++ following rest)
    ∙ ap (λ (t : Text). done ++ 10 ∷ t) (sym (line_first left.now line rest is))
