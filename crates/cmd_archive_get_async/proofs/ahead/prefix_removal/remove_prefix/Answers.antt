use Rattle.std.proofs.Common.{◌≡◌, true, List, ◌∙◌, ap, sym, subst, string_bytes, map, Option}
use Rattle.std.specs.Prelude.{nat_eq, option_map, All, IfSome}
use Rattle.std.specs.List.{starts_with}
use Rattle.std.proofs.lemmas.Result.{on_ok_weaker}
use Rattle.base_devices.specs.declared.disk.Found.{Found}
use Rattle.base_devices.specs.Content.{Content, IsListing}
use Rattle.base_disk.specs.Dropped.{IsAbsent}
use Rattle.base_disk.proofs.Dropped.{entry}
use Rattle.cmd_archive_get_async.specs.Names.{lacking}
use Rattle.cmd_archive_get_async.proofs.Taken.{all_lacking}
use Rattle.cmd_archive_get_async.proofs.ahead.prefix_removal.remove_prefix.Goals as goal

pub returns-clause-now : goal.returns-clause-now
returns-clause-now g c =
    let folder = c.args.folder.now in
    let prefix = c.args.prefix.now in
    let old = (g.S.Disk.state c.args.spool.now).view.now in
    let mid = (g.S.Disk.state c.names.new.self).view.now in
    let new = (g.S.Disk.state c.remove_each.new.spool).view.now in
    let found = c.in_ok-found.found.items in
    let same : mid ≡ old = c.names.ensures.looks.now in
    on_ok_weaker c.remove_each.result (λ (gone : All (λ x. starts_with nat_eq (string_bytes x.name) prefix ≡ true → IsAbsent new (string_bytes x.name)) c.deref.result.now).
    all_lacking folder prefix c.requires found mid new
    (subst (λ (o : Option Content). IfSome o (λ f. IsListing folder f (map entry found))) (sym same) c.in_ok-found.ensures.listing)
    (subst (λ (l : List Found). All (λ x. starts_with nat_eq (string_bytes x.name) prefix ≡ true → IsAbsent new (string_bytes x.name)) l) c.deref.ensures.value gone)
    c.remove_each.ensures.drops
    ∙ ap (option_map (lacking prefix)) same) c.remove_each.ensures.gone
