use Rattle.std.proofs.Common.{◌≡◌, true, List, sym, ◌∙◌, ap, subst, string_bytes, map, Option}
use Rattle.std.specs.Prelude.{nat_eq, option_map, All, IfSome}
use Rattle.std.specs.List.{starts_with}
use Rattle.std.proofs.lemmas.Result.{on_ok_weaker}
use Rattle.base_devices.specs.declared.disk.Found.{Found}
use Rattle.base_devices.specs.Content.{Name, Content, IsListing}
use Rattle.base_disk.specs.Dropped.{without, IsAbsent, Drops}
use Rattle.base_disk.proofs.Dropped.{all_dropped, entry}
use Rattle.base_disk.proofs.folder_removal.remove_below.Goals as goal

pub returns-clause-now : goal.returns-clause-now
returns-clause-now g c =
    let folder = c.args.folder.now in
    let old = (g.D.Disk.state c.args.d.now).view.now in
    let mid = (g.D.Disk.state c.names.new.self).view.now in
    let new = (g.D.Disk.state c.remove_each.new.d).view.now in
    let found = c.in_ok-found.found.items in
    let same : mid ≡ old = c.names.ensures.looks.now in
    let prefix = c.deref-2.ensures ∙ c.in_ok-prefix.ensures.ok in
    on_ok_weaker c.remove_each.result (λ (gone : All (λ x. starts_with nat_eq (string_bytes x.name) c.deref-2.result.now ≡ true → IsAbsent new (string_bytes x.name)) c.deref.result.now).
    all_dropped folder found mid new
    (subst (λ (o : Option Content). IfSome o (λ f. IsListing folder f (map entry found))) (sym same) c.in_ok-found.ensures.listing)
    (subst (λ (n : Name). All (λ x. starts_with nat_eq (string_bytes x.name) n ≡ true → IsAbsent new (string_bytes x.name)) found) prefix
    (subst (λ (l : List Found). All (λ x. starts_with nat_eq (string_bytes x.name) c.deref-2.result.now ≡ true → IsAbsent new (string_bytes x.name)) l) c.deref.ensures.value gone))
    (subst (λ (n : Name). Drops (λ q. starts_with nat_eq q n) mid new) prefix c.remove_each.ensures.drops)
    ∙ ap (option_map (without folder)) same) c.remove_each.ensures.gone
