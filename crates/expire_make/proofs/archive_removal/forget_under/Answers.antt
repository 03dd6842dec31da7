use Rattle.std.proofs.Common.{IsTrue, refl, Option, map, subst, sym, string_bytes}
use Rattle.std.specs.Prelude.{IfSome, IsSome}
use Rattle.std.proofs.lemmas.Result.{on_ok_weaker}
use Rattle.base_devices.specs.Content.{Content, AreFolders, is_below}
use Rattle.base_model.specs.Text.{Text, In, ◌⫽◌}
use Rattle.base_model.specs.Values.{entry_of}
use Rattle.expire_make.specs.Unneeded.{Forgets}
use Rattle.expire_rules.proofs.Joined.{if_ok_on}
use Rattle.expire_make.proofs.Counts.{counted_none, counted_as, counted_wide}
use Rattle.expire_make.proofs.Losses.{takes_none, takes_looks, takes_on}
use Rattle.expire_make.proofs.Tellings.{Unneeds, forgotten_unneeded, forgets_unneeds, none_unneeded, gone_under}
use Rattle.expire_make.proofs.archive_removal.forget_under.Goals as goal

pub returns-in_err-kept-clause-takes : goal.returns-in_err-kept-clause-takes
returns-in_err-kept-clause-takes g c = takes_none (Unneeds c.args.prefix.now c.args.rules.now c.args.current (map entry_of c.args.entries.now)) _

pub returns-then-kept-clause-takes : goal.returns-then-kept-clause-takes
returns-then-kept-clause-takes g c = takes_none (Unneeds c.args.prefix.now c.args.rules.now c.args.current (map entry_of c.args.entries.now)) _

pub returns-then-kept-clause-gone : goal.returns-then-kept-clause-gone
returns-then-kept-clause-gone g c = λ stanza prefix_is n u at. absurd (none_unneeded c.args.rules.now c.args.current (map entry_of c.args.entries.now) c.args.id c.in_ok-kept.kept c.in_ok-kept.ensures.id c.in_ok-kept.ensures.keeping c.if-kept.true stanza n u at)

pub returns-in_err-place-clause-takes : goal.returns-in_err-place-clause-takes
returns-in_err-place-clause-takes g c = takes_none (Unneeds c.args.prefix.now c.args.rules.now c.args.current (map entry_of c.args.entries.now)) _

pub returns-in_err-folders-clause-takes : goal.returns-in_err-folders-clause-takes
returns-in_err-folders-clause-takes g c = takes_looks (Unneeds c.args.prefix.now c.args.rules.now c.args.current (map entry_of c.args.entries.now)) _ _ c.folders.ensures.looks

pub returns-clause-takes : goal.returns-clause-takes
returns-clause-takes g c = takes_on (Unneeds c.args.prefix.now c.args.rules.now c.args.current (map entry_of c.args.entries.now)) _ _ _ (takes_looks (Unneeds c.args.prefix.now c.args.rules.now c.args.current (map entry_of c.args.entries.now)) _ _ c.folders.ensures.looks)
    (forgets_unneeds c.args.rules.now c.args.current (map entry_of c.args.entries.now) c.args.id c.in_ok-kept.kept c.in_ok-kept.ensures.id c.in_ok-kept.ensures.keeping c.args.prefix.now _ _ c.remove_within.ensures.takes)

pub returns-clause-gone : goal.returns-clause-gone
returns-clause-gone g c = on_ok_weaker c.remove_within.result (λ gone. gone_under c.args.rules.now c.args.current (map entry_of c.args.entries.now) c.args.id c.in_ok-kept.kept c.in_ok-kept.ensures.id c.in_ok-kept.ensures.keeping c.args.prefix.now (string_bytes c.in_ok-place.place) (map string_bytes c.in_ok-folders.folders.items) (g.D.Disk.state c.args.d.now) (g.D.Disk.state c.folders.new.self) _
    c.folders.ensures.looks (subst (λ (t : Text). IfSome (g.D.Disk.state c.args.d.now).view.now (λ f. AreFolders t f (map string_bytes c.in_ok-folders.folders.items))) c.as_str.ensures.value c.in_ok-folders.ensures.folders) c.remove_within.ensures.takes
    (λ stanza prefix_is n x i below off. gone stanza prefix_is n x (subst (λ fs. In x (map string_bytes fs)) (sym c.deref.ensures.value) i) (subst (λ (t : Text). IsTrue (is_below (t ⫽ x) n)) (sym c.as_str-2.ensures.value) below) off) c.in_ok-place.ensures.ok) c.remove_within.ensures.gone

pub returns-then-kept-clause-counts : goal.returns-then-kept-clause-counts
returns-then-kept-clause-counts g c = λ known. counted_none (Unneeds c.args.prefix.now c.args.rules.now c.args.current (map entry_of c.args.entries.now)) _ _ refl

pub returns-clause-counts : goal.returns-clause-counts
returns-clause-counts g c = if_ok_on c.remove_within.result _ _ (λ k counts known. counted_as (Unneeds c.args.prefix.now c.args.rules.now c.args.current (map entry_of c.args.entries.now)) k _ _ _ _ (sym c.folders.ensures.looks.now) refl
    (counted_wide (Forgets c.args.prefix.now c.in_ok-kept.kept) (Unneeds c.args.prefix.now c.args.rules.now c.args.current (map entry_of c.args.entries.now)) k _ _
    (λ n h stanza prefix_is. forgotten_unneeded c.args.rules.now c.args.current (map entry_of c.args.entries.now) c.args.id c.in_ok-kept.kept c.in_ok-kept.ensures.id c.in_ok-kept.ensures.keeping stanza n (h stanza prefix_is))
    (counts (subst (λ (o : Option Content). IsSome o) (sym c.folders.ensures.looks.now) known)))) c.remove_within.ensures.counts
