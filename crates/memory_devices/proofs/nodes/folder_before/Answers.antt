use Rattle.std.proofs.Common.{◌≡◌, ◌∷◌, ◌++◌, Some, None, take, drop, sym, ◌∙◌, ap, lit<, take-append-drop}
use Rattle.std.proofs.lemmas.List.{get_or_default}
use Rattle.std.proofs.lemmas.Str.Pattern.{drop_at_char, NoCharPasses-char}
use Rattle.base_devices.specs.Content.{Name}
use Rattle.memory_devices.specs.Nodes.{folder_of}
use Rattle.memory_devices.proofs.Folders.{after_slash, no_slash}
use Rattle.memory_devices.proofs.nodes.folder_before.Goals as goal

pub returns-in-Some : goal.returns-in-Some
returns-in-Some c =
    let s = c.args.path.now in
    let cases = c.in-Some.ensures.cases in
    let i = cases.0 in
    let j = cases.1 in
    let slash : drop i s ≡ 47 ∷ drop j s = drop_at_char 47 s i j cases.2.1 (lit< tt) in
    let whole : s ≡ take i s ++ 47 ∷ drop j s = sym (take-append-drop i s) ∙ ap (λ (l : Name). take i s ++ l) slash in
    let free : folder_of (drop j s) ≡ None =
    no_slash (drop j s) (λ has. NoCharPasses-char 47 (drop j s) has.0 cases.2.0 (lit< tt) has.1 (get_or_default (drop j s) has.0 0 47 has.1 ∙ has.2)) in
    ap (λ (l : Name). Some l) cases.3 ∙ sym (ap folder_of whole ∙ after_slash (take i s) (drop j s) free)

pub returns-in-None : goal.returns-in-None
returns-in-None c =
    let s = c.args.path.now in
    sym (no_slash s (λ has. NoCharPasses-char 47 s has.0 c.in-None.ensures.cases (lit< tt) has.1 (get_or_default s has.0 0 47 has.1 ∙ has.2)))
