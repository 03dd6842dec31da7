use Rattle.std.proofs.Common.{◌≡◌, ◌∷◌, ◌++◌, inl, inr, refl, take, drop, sym, ◌∙◌, ap, lit<, subst, take-append-drop}
use Rattle.std.proofs.lemmas.Str.Pattern.{drop_at_char, NoCharPasses-char}
use Rattle.base_model.specs.Text.{Text}
use Rattle.cmd_archive_push.specs.WalPath.{IsLastElement}
use Rattle.cmd_archive_push.proofs.WalNames.{plain_by}
use Rattle.cmd_archive_push.proofs.order.last_element.Goals as goal

pub returns-in-Some : goal.returns-in-Some
returns-in-Some c =
    let s = c.args.path.now in
    let cases = c.in-Some.ensures.cases in
    let i = cases.0 in
    let j = cases.1 in
    let slash : drop i s ≡ 47 ∷ drop j s = drop_at_char 47 s i j cases.2.1 (lit< tt) in
    let whole : s ≡ take i s ++ 47 ∷ drop j s = sym (take-append-drop i s) ∙ ap (λ (l : Text). take i s ++ l) slash in
    let found : IsLastElement s (drop j s) = (
      plain_by (drop j s) (λ k lt. NoCharPasses-char 47 (drop j s) k cases.2.0 (lit< tt) lt),
      inr (take i s, whole),
    ) in
    subst (λ (l : Text). IsLastElement s l) (sym cases.4) found

pub returns-in-None : goal.returns-in-None
returns-in-None c =
    let s = c.args.path.now in
    (plain_by s (λ k lt. NoCharPasses-char 47 s k c.in-None.ensures.cases (lit< tt) lt), inl refl)
