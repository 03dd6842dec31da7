use Rattle.std.proofs.Common.{◌≡◌, ◌<◌, ◌∷◌, ◌++◌, length, take, drop, get_or, sym, ◌∙◌, ap, arith, lit<, take-append-drop, length-append}
use Rattle.std.proofs.lemmas.Str.Pattern.{drop_at_char, NoCharPasses-char}
use Rattle.std.proofs.lemmas.List.{get_or_default}
use Rattle.base_devices.specs.Content.{Name}
use Rattle.base_disk.proofs.Below.{slash_at}
use Rattle.base_disk.proofs.publication.folder_of.Goals as goal

pub returns-in-Some : goal.returns-in-Some
returns-in-Some c =
    let s = c.args.name.now in
    let cases = c.in-Some.ensures.cases in
    let i = cases.0 in
    let j = cases.1 in
    let at_slash : drop i s ≡ 47 ∷ drop j s = drop_at_char 47 s i j cases.2.1 (lit< tt) in (
      drop j s,
      sym (take-append-drop i s) ∙ ap (λ (l : Name). take i s ++ l) at_slash ∙ ap (λ (l : Name). l ++ 47 ∷ drop j s) (sym cases.3),
      λ at. NoCharPasses-char 47 (drop j s) at.0 cases.2.0 (lit< tt) at.1 (get_or_default (drop j s) at.0 0 47 at.1 ∙ at.2),
    )

pub returns-in-None : goal.returns-in-None
returns-in-None c =
    let folder = c.requires.0 in
    let rest = c.requires.1.0 in
    let is : c.args.name.now ≡ folder ++ 47 ∷ rest = c.requires.1.1 in
    let long : length folder < length c.args.name.now = omega (arith, ap length is, length-append folder (47 ∷ rest)) in
    absurd (NoCharPasses-char 47 c.args.name.now (length folder) c.in-None.ensures.cases (lit< tt) long (ap (λ (n : Name). get_or n (length folder) 0) is ∙ slash_at folder rest))
