use Rattle.std.proofs.Common.{inr, refl, map, drop, string_bytes, subst, sym, ap, ◌∙◌, ◌+◌, List, IsTrue, ⊎_elim}
use Rattle.base_devices.specs.Content.{is_below}
use Rattle.base_model.specs.Text.{Text, In}
use Rattle.repo_keys.proofs.Seeking.{opened, ended}
use Rattle.expire_make.specs.Unneeded.{Forgets}
use Rattle.expire_make.proofs.Losses.{takes_none, takes_on, takes_goes}
use Rattle.expire_make.proofs.Counts.{counted_none, counted_on}
use Rattle.expire_make.proofs.Removals.{GoneWithin, within_next}
use Rattle.expire_make.proofs.log_folders.remove_within.Goals as goal

pub loop-folder-init : goal.loop-folder-init
loop-folder-init g c = record { gone = λ stanza prefix_is n x i below off. inr i; counts = λ known. counted_none (Forgets c.args.prefix.now c.args.kept.now) _ _ refl; takes = takes_none (Forgets c.args.prefix.now c.args.kept.now) _ }

pub returns-in_err-remove_in-clause-takes : goal.returns-in_err-remove_in-clause-takes
returns-in_err-remove_in-clause-takes g c = takes_on (Forgets c.args.prefix.now c.args.kept.now) _ _ _ c.loop-folder.invariant.takes c.remove_in.ensures.takes

pub loop-folder-preserved : goal.loop-folder-preserved
loop-folder-preserved g c =
    let ahead = ap (map string_bytes) (opened string_bytes c.args.folders.now c.loop-folder.folder-index c.folder-item.result c.loop-folder-test.true c.folder-item.is) in
    let so_far = subst (λ (xs : List Text). GoneWithin c.args.prefix.now c.args.kept.now c.args.place.now (map string_bytes c.args.folders.now) xs (g.D.Disk.state c.loop-folder.d).view.now) ahead c.loop-folder.invariant.gone in
    record {
      gone = within_next c.args.prefix.now c.args.kept.now c.args.place.now (map string_bytes c.args.folders.now) (string_bytes c.folder-item.result) (map string_bytes (drop (c.loop-folder.folder-index + 1) c.args.folders.now)) _ _ c.remove_in.ensures.takes
          (λ stanza prefix_is n below off. c.in_ok-remove_in.ensures.gone stanza prefix_is n (subst (λ (t : Text). IsTrue (is_below t n)) (sym (c.as_str.ensures.value ∙ c.in_ok-within.ensures.ok)) below) off) so_far;
      counts = λ known. counted_on (Forgets c.args.prefix.now c.args.kept.now) _ _ _ _ _ _ c.saturating_add-removed.ensures (c.loop-folder.invariant.counts known) (c.in_ok-remove_in.ensures.counts ((takes_goes (Forgets c.args.prefix.now c.args.kept.now) _ _ c.loop-folder.invariant.takes).known known));
      takes = takes_on (Forgets c.args.prefix.now c.args.kept.now) _ _ _ c.loop-folder.invariant.takes c.remove_in.ensures.takes;
    }

pub returns-clause-gone : goal.returns-clause-gone
returns-clause-gone g c = λ stanza prefix_is n x i below off. ⊎_elim (λ h. h)
    (λ j. absurd (subst (λ xs. In x (map string_bytes xs)) (ended string_bytes c.args.folders.now c.loop-folder.folder-index c.loop-folder-test.false) j)) (c.loop-folder.invariant.gone stanza prefix_is n x i below off)

pub returns-clause-counts : goal.returns-clause-counts
returns-clause-counts g c = c.loop-folder.invariant.counts
