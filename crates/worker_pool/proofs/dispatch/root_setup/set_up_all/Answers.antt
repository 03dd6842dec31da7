use Rattle.std.proofs.Common.{◌≡◌, ◌<◌, ◌++◌, ◌∙◌, ◌^◌, [], map, length, refl, sym, ap, subst, arith, rules}
use Rattle.std.proofs.lemmas.List.{length-map}
use Rattle.worker_pool.specs.Run.{Left, AddsLosses}
use Rattle.worker_pool.proofs.Setting.{left_first, left_more, known_prefix, on_err, taken_prefix, ready_of, place_next, map_push}
use Rattle.worker_pool.proofs.dispatch.root_setup.set_up_all.Goals as goal

pub loop-link-init : goal.loop-link-init
loop-link-init g c =
    let empty : c.replace-link-items.new.dest.items ≡ [] = search rules in
    record {
      left = subst (λ l. Left [] [] c.args.pool.now.lost.items c.args.pool.now.lost.items (map g.L.Link.link_state l)) (sym empty) (left_first c.args.pool.now.lost.items);
      place = refl;
    }

pub loop-link-preserved : goal.loop-link-preserved
loop-link-preserved g c =
    let it = c.loop-link.link-iterator in
    let ys = c.loop-link.yielded in
    let whole = ap (λ v. v.items) (sym c.replace-link-items.ensures.value) ∙ sym c.into_iter-link-iterator.ensures.into_iter_gives.0
    ∙ taken_prefix c.into_iter-link-iterator.result ys it c.loop-link.yielded_by ∙ ap (λ xs. ys ++ xs) c.in-Some.ensures.steps.0 in
    let ready = ready_of g.L.Link.link_state c.args.pool.now.links.items ys c.in-Some.link _ whole c.requires.ready in
    let few : length c.args.pool.now.links.items < 2 ^ 32 = omega (arith, c.requires.few, c.args.pool.now.links.ok) in
    record {
      left = subst (λ l. Left [] l c.args.pool.now.lost.items c.set_up.new.pool.lost.items (map g.L.Link.link_state c.set_up.new.pool.links.items)) (sym (map_push g.L.Link.link_state ys c.in-Some.link))
          (left_more (map g.L.Link.link_state ys) c.args.pool.now.lost.items c.loop-link.pool.lost.items c.set_up.new.pool.lost.items (map g.L.Link.link_state c.loop-link.pool.links.items) (map g.L.Link.link_state c.set_up.new.pool.links.items) (g.L.Link.link_state c.in-Some.link) c.args.frame.now c.loop-link.place
          c.loop-link.invariant.left c.in_ok-set_up.ensures.kept (c.loop-link.invariant.place ∙ sym (length-map ys g.L.Link.link_state)) ready c.requires.setup);
      place = place_next c.args.pool.now.links.items ys c.in-Some.link _ c.loop-link.place c.saturating_add-place.result whole few c.loop-link.invariant.place c.saturating_add-place.ensures;
    }

pub returns-in_err-set_up-clause-known : goal.returns-in_err-set_up-clause-known
returns-in_err-set_up-clause-known g c =
    let it = c.loop-link.link-iterator in
    let ys = c.loop-link.yielded in
    let whole = ap (λ v. v.items) (sym c.replace-link-items.ensures.value) ∙ sym c.into_iter-link-iterator.ensures.into_iter_gives.0
    ∙ taken_prefix c.into_iter-link-iterator.result ys it c.loop-link.yielded_by ∙ ap (λ xs. ys ++ xs) c.in-Some.ensures.steps.0 in
    on_err c.from_residual.result _ (subst (λ l. AddsLosses [] (map g.L.Link.link_state c.args.pool.now.links.items) c.args.pool.now.lost.items l) (sym c.in_err-set_up.ensures.known) (known_prefix g.L.Link.link_state c.args.pool.now.links.items ys _ c.args.pool.now.lost.items c.loop-link.pool.lost.items _ whole c.loop-link.invariant.left))
