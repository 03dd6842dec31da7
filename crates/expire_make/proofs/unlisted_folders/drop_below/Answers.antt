use Rattle.std.proofs.Common.{◌∙◌, ◌++◌, ◌∷◌, [], ap, subst, sym}
use Rattle.std.proofs.lemmas.Result.{on_ok_weaker}
use Rattle.std.specs.Prelude.{IsTrue, nat_eq}
use Rattle.std.specs.List.{starts_with}
use Rattle.base_devices.specs.Content.{is_below}
use Rattle.base_model.specs.Text.{Text, In, ◌⫽◌}
use Rattle.base_model.specs.Names.{backup_folder}
use Rattle.expire_make.specs.Losing.{names_of}
use Rattle.expire_make.proofs.Losses.{takes_none, takes_looks}
use Rattle.expire_make.proofs.Removals.{found_gone}
use Rattle.expire_make.proofs.Droppings.{after_takes}
use Rattle.expire_make.proofs.unlisted_folders.drop_below.Goals as goal

pub returns-in_err-folder-clause-takes : goal.returns-in_err-folder-clause-takes
returns-in_err-folder-clause-takes g c = takes_none (λ n. IsTrue (is_below (backup_folder c.args.stanza.now ⫽ c.args.name.now) n)) _

pub returns-in_err-prefix-clause-takes : goal.returns-in_err-prefix-clause-takes
returns-in_err-prefix-clause-takes g c = takes_none (λ n. IsTrue (is_below (backup_folder c.args.stanza.now ⫽ c.args.name.now) n)) _

pub returns-in_err-found-clause-takes : goal.returns-in_err-found-clause-takes
returns-in_err-found-clause-takes g c = takes_looks (λ n. IsTrue (is_below (backup_folder c.args.stanza.now ⫽ c.args.name.now) n)) _ _ c.names.ensures.looks

pub returns-clause-takes : goal.returns-clause-takes
returns-clause-takes g c = after_takes _ (backup_folder c.args.stanza.now ⫽ c.args.name.now) _ _ _ (c.as_str-2.ensures.value ∙ c.in_ok-prefix.ensures.ok ∙ ap (λ (t : Text). t ++ 47 ∷ []) c.in_ok-folder.ensures.ok) c.names.ensures.looks c.remove_all.ensures.takes

pub returns-clause-gone : goal.returns-clause-gone
returns-clause-gone g c =
    let prefix_is = c.as_str-2.ensures.value ∙ c.in_ok-prefix.ensures.ok ∙ ap (λ (t : Text). t ++ 47 ∷ []) c.in_ok-folder.ensures.ok in
    on_ok_weaker c.remove_all.result (λ gone n below. found_gone (λ n. IsTrue (starts_with nat_eq n c.as_str-2.result.now)) _ c.in_ok-found.found.items (g.D.Disk.state c.args.d.now) (g.D.Disk.state c.names.new.self) _
    c.names.ensures.looks c.in_ok-found.ensures.listing c.remove_all.ensures.takes n (subst (λ (t : Text). IsTrue (is_below t n)) (sym (c.as_str.ensures.value ∙ c.in_ok-folder.ensures.ok)) below)
    (λ i. gone n (subst (λ xs. In n (names_of xs)) (sym c.deref.ensures.value) i) (subst (λ (t : Text). IsTrue (starts_with nat_eq n t)) (sym prefix_is) below))) c.remove_all.ensures.gone
