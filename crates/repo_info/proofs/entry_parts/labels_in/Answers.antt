use Rattle.std.proofs.Common.{◌≡◌, List, ◌++◌, ◌+◌, map, drop, sym, ap, ◌∙◌, subst}
use Rattle.std.specs.List.{AllByRecursion}
use Rattle.serde_json.specs.Data.{Data}
use Rattle.serde_json.specs.View.{view}
use Rattle.serde_json.specs.declared.value.Value.{Value}
use Rattle.base_model.specs.declared.labels.Label.{Label}
use Rattle.base_model.specs.Text.{In}
use Rattle.base_model.specs.InfoFiles.{IsLabel, label_value}
use Rattle.repo_ini.proofs.Steps.{each_push}
use Rattle.repo_info.proofs.EntryParts.{items_are, same_labels, some_labels}
use Rattle.repo_keys.proofs.Numbers.{all_in, map_in}
use Rattle.repo_keys.proofs.Read.{read_next, read_end}
use Rattle.repo_keys.proofs.Seeking.{here, whole_next}
use Rattle.repo_info.proofs.entry_parts.labels_in.Goals as goal

pub returns-in_default-label_in-clause-only : goal.returns-in_default-label_in-clause-only
returns-in_default-label_in-clause-only c = λ ls rules is.
    let xs = c.deref-item-items.result.now in
    let i = c.loop-item.item-index in
    let x = c.item-item.result in
    let whole = ap (λ (vs : List Value). map view vs) c.deref-item-items.ensures.value ∙ items_are (view c.args.value.now) (map view c.in-Some.items.now.items) (map label_value ls) c.in-Some.ensures is in
    let there = subst (λ (ds : List Data). In (view x) ds) whole (here view xs i x c.loop-item-test.true c.item-item.is c.loop-item.invariant.whole) in
    let (l, j, e) = map_in label_value ls (view x) there in
    absurd (c.in_default-label_in.ensures.none l (all_in IsLabel ls l rules j) e)

pub loop-item-init : goal.loop-item-init
loop-item-init c =
    let ds = map view c.deref-item-items.result.now in
    record {
      rules = subst (AllByRecursion IsLabel) (sym c.new-labels.ensures.items) tt;
      read = ap (λ (ls : List Label). map label_value ls ++ ds) c.new-labels.ensures.items;
      whole = λ y j. j;
    }

pub loop-item-preserved : goal.loop-item-preserved
loop-item-preserved c =
    let xs = c.deref-item-items.result.now in
    let i = c.loop-item.item-index in
    let x = c.item-item.result in
    let l = c.in-Some-label_in.label in
    let some = c.in-Some-label_in.ensures.some in
    let inv = c.loop-item.invariant in
    let pushed = sym c.in_ok-push.ensures.items in
    record {
      rules = subst (AllByRecursion IsLabel) pushed (each_push IsLabel c.loop-item.labels.items l inv.rules some.0);
      read = subst (λ (ls : List Label). map label_value ls ++ map view (drop (i + 1) xs) ≡ map view xs) pushed (read_next view label_value c.loop-item.labels.items xs i x l c.loop-item-test.true c.item-item.is some.1 inv.read);
      whole = whole_next view xs i x c.loop-item-test.true c.item-item.is inv.whole;
    }

pub returns-clause-only : goal.returns-clause-only
returns-clause-only c = λ ls rules is.
    let xs = c.deref-item-items.result.now in
    let inv = c.loop-item.invariant in
    let whole = ap (λ (vs : List Value). map view vs) c.deref-item-items.ensures.value ∙ items_are (view c.args.value.now) (map view c.in-Some.items.now.items) (map label_value ls) c.in-Some.ensures is in
    let read = read_end view label_value c.loop-item.labels.items xs c.loop-item.item-index c.loop-item-test.false inv.read in
    some_labels c.loop-item.labels.items ls (same_labels c.loop-item.labels.items ls inv.rules rules (read ∙ whole))
