use Rattle.std.proofs.Common.{◌≡◌, ⊎_elim, inr, Bool, true, false, List, map, drop, string_bytes, subst, ap, sym, ◌∙◌, ◌+◌, IsTrue}
use Rattle.base_devices.specs.Content.{Name, is_below}
use Rattle.base_disk.specs.Dropped.{IsAbsent}
use Rattle.base_model.specs.Names.{backup_folder}
use Rattle.base_model.specs.Text.{Text, In, ◌⫽◌}
use Rattle.repo_keys.proofs.Seeking.{opened, ended}
use Rattle.base_devices.proofs.States.{looks_on}
use Rattle.base_model.specs.Values.{entry_of}
use Rattle.expire_rules.specs.Labels.{labels_of}
use Rattle.expire_make.specs.Losing.{IsTextUnlisted, IsUnlisted}
use Rattle.expire_make.proofs.Emptying.{EmptiedBut, emptied_next}
use Rattle.expire_make.proofs.Losses.{takes_none, takes_on}
use Rattle.expire_make.proofs.Droppings.{looks_none}
use Rattle.expire_make.proofs.unlisted_folders.drop_each.Goals.{then-branch, else-branch}
use Rattle.expire_make.proofs.unlisted_folders.drop_each.Goals as goal

pub loop-name-init : goal.loop-name-init
loop-name-init g c = record {
  gone = λ x i off n below. inr i;
  takes = takes_none (IsUnlisted c.args.stanza.now (labels_of (map entry_of c.args.entries.now))) _;
  idle = λ e. looks_none _;
}

pub returns-in_err-drop_one-clause-takes : goal.returns-in_err-drop_one-clause-takes
returns-in_err-drop_one-clause-takes g c = takes_on (IsUnlisted c.args.stanza.now (labels_of (map entry_of c.args.entries.now))) _ _ _ c.loop-name.invariant.takes c.drop_one.ensures.takes

pub loop-name-preserved : goal.loop-name-preserved
loop-name-preserved g c =
    let ahead = ap (map string_bytes) (opened string_bytes c.args.names.now c.loop-name.name-index c.name-item.result c.loop-name-test.true c.name-item.is) in
    let so_far = subst (λ (xs : List Text). EmptiedBut c.args.stanza.now (labels_of (map entry_of c.args.entries.now)) (map string_bytes c.args.names.now) xs (g.D.Disk.state c.loop-name.d).view.now) ahead c.loop-name.invariant.gone in
    record {
      gone = emptied_next c.args.stanza.now (labels_of (map entry_of c.args.entries.now)) (map string_bytes c.args.names.now) (string_bytes c.name-item.result) (map string_bytes (drop (c.loop-name.name-index + 1) c.args.names.now)) _ _ c.drop_one.ensures.takes
          (subst (λ (t : Text). IsTextUnlisted (labels_of (map entry_of c.args.entries.now)) t → (n : Name) → IsTrue (is_below (backup_folder c.args.stanza.now ⫽ t) n) → IsAbsent (g.D.Disk.state c.drop_one.new.d).view.now n) c.as_str.ensures.value c.in_ok-drop_one.ensures.gone) so_far;
      takes = takes_on (IsUnlisted c.args.stanza.now (labels_of (map entry_of c.args.entries.now))) _ _ _ c.loop-name.invariant.takes c.drop_one.ensures.takes;
      idle = elim c.if-branch.branch [
        | then-branch w ↦ λ e. let no : ◌≡◌ {A = Bool} true false = sym w.is_dropped-is ∙ e in cc
        | else-branch w ↦ λ e. looks_on _ _ _ (c.loop-name.invariant.idle (sym w.is_dropped-is ∙ e)) (c.in_ok-drop_one.ensures.idle w.if-branch.false)
      ];
    }

pub returns-clause-gone : goal.returns-clause-gone
returns-clause-gone g c = λ x i off n below. ⊎_elim (λ h. h)
    (λ j. absurd (subst (λ xs. In x (map string_bytes xs)) (ended string_bytes c.args.names.now c.loop-name.name-index c.loop-name-test.false) j)) (c.loop-name.invariant.gone x i off n below)
