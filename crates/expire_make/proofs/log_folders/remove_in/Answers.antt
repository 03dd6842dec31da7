use Rattle.std.proofs.Common.{subst, sym, refl, map, Option, ◌∙◌}
use Rattle.std.specs.Prelude.{IfSome}
use Rattle.base_devices.specs.Content.{Content, IsListing}
use Rattle.base_devices.proofs.Nows.{known_as}
use Rattle.expire_rules.proofs.Joined.{if_ok_on}
use Rattle.expire_make.specs.Removed.{pair_of}
use Rattle.expire_make.proofs.Counts.{counted_as}
use Rattle.std.proofs.lemmas.Result.{on_ok_weaker}
use Rattle.base_model.specs.Text.{In}
use Rattle.expire_make.specs.Losing.{names_of}
use Rattle.expire_make.specs.Unneeded.{Forgets}
use Rattle.expire_make.proofs.Losses.{takes_looks, takes_on}
use Rattle.expire_make.proofs.Removals.{found_gone}
use Rattle.expire_make.proofs.log_folders.remove_in.Goals as goal

pub returns-in_err-found-clause-takes : goal.returns-in_err-found-clause-takes
returns-in_err-found-clause-takes g c = takes_looks (Forgets c.args.prefix.now c.args.kept.now) _ _ c.names.ensures.looks

pub returns-clause-takes : goal.returns-clause-takes
returns-clause-takes g c = takes_on (Forgets c.args.prefix.now c.args.kept.now) _ _ _ (takes_looks (Forgets c.args.prefix.now c.args.kept.now) _ _ c.names.ensures.looks) c.remove_each.ensures.takes

pub returns-clause-gone : goal.returns-clause-gone
returns-clause-gone g c = on_ok_weaker c.remove_each.result (λ gone stanza prefix_is n below off. found_gone (Forgets c.args.prefix.now c.args.kept.now) c.args.place.now c.in_ok-found.found.items (g.D.Disk.state c.args.d.now) (g.D.Disk.state c.names.new.self) _
    c.names.ensures.looks c.in_ok-found.ensures.listing c.remove_each.ensures.takes n below (λ i. gone stanza prefix_is n (subst (λ xs. In n (names_of xs)) (sym c.deref.ensures.value) i) off)) c.remove_each.ensures.gone

pub returns-clause-counts : goal.returns-clause-counts
returns-clause-counts g c = if_ok_on c.remove_each.result _ _ (λ k counts known.
    let f = known_as (g.D.Disk.state c.args.d.now).view.now known in
    let listed = subst (λ (o : Option Content). IfSome o (λ f. IsListing c.args.place.now f (map pair_of c.in_ok-found.found.items))) f.1 c.in_ok-found.ensures.listing in
    counted_as (Forgets c.args.prefix.now c.args.kept.now) k _ _ _ _ (sym c.names.ensures.looks.now) refl
    (counts c.args.place.now f.0 (c.names.ensures.looks.now ∙ f.1) (subst (λ xs. IsListing c.args.place.now f.0 (map pair_of xs)) (sym c.deref.ensures.value) listed))) c.remove_each.ensures.counts
