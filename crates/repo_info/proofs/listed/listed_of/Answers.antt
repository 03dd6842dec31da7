use Rattle.std.proofs.Common.{◌≡◌, ◌∷◌, ◌++◌, ◌+◌, List, [], map, drop, refl, sym, ap, ◌∙◌, subst}
use Rattle.std.proofs.lemmas.List.{map-append}
use Rattle.base_model.specs.InfoText.{IsKey}
use Rattle.base_model.specs.InfoFiles.{entry_field, AreListed}
use Rattle.base_model.specs.Values.{Entry, entry_of}
use Rattle.repo_ini.specs.Parts.{key_of}
use Rattle.repo_info.specs.BackupForm.{backup_current, IsWrongBackup}
use Rattle.repo_keys.proofs.Forms.{form_as}
use Rattle.repo_info.proofs.ListedKeys.{many, prefix_ordered, item_in, step_read, step_listed, step_wrong, walk_done, list_of_keys}
use Rattle.repo_keys.proofs.Numbers.{all_in}
use Rattle.repo_info.proofs.listed.listed_of.Goals as goal

pub next_of-requires-clause-key : goal.next_of-requires-clause-key
next_of-requires-clause-key c =
    let xs = c.args.keys.now in
    let k = c.index-keys-i.result in
    all_in IsKey (map key_of xs) (key_of k) c.requires.keys (item_in key_of (map entry_of c.loop-i.backups.items) xs c.loop-i.i c.loop-i.invariant.read k c.loop-i-test.true c.index-keys-i.is)

pub next_of-requires-clause-order : goal.next_of-requires-clause-order
next_of-requires-clause-order c = prefix_ordered key_of (map entry_of c.loop-i.backups.items) c.args.keys.now c.loop-i.i c.loop-i.invariant.read c.requires.order

pub returns-in_default-clause-fault : goal.returns-in_default-clause-fault
returns-in_default-clause-fault c =
    let xs = c.args.keys.now in
    let k = c.index-keys-i.result in
    let inv = c.loop-i.invariant in
    let none = rw c.in_default.is at c.in_ok-entry.ensures.none in
    let wrong = step_wrong key_of (map entry_of c.loop-i.backups.items) xs c.loop-i.i inv.read k c.loop-i-test.true c.index-keys-i.is inv.listed c.requires.order none in
    form_as c.form.result backup_current c.as_str.result.now (λ section key. (section ≡ backup_current) × IsWrongBackup (map key_of xs) key) c.form.ensures (refl, subst (IsWrongBackup (map key_of xs)) (sym c.as_str.ensures.value) wrong)

pub loop-i-preserved : goal.loop-i-preserved
loop-i-preserved c =
    let xs = c.args.keys.now in
    let k = c.index-keys-i.result in
    let e = entry_of c.in-Some.entry in
    let es = map entry_of c.loop-i.backups.items in
    let inv = c.loop-i.invariant in
    let next = rw c.in-Some.is at c.in_ok-entry.ensures.some in
    let more = sym (ap (map entry_of) c.in_ok-push.ensures.items ∙ map-append entry_of c.loop-i.backups.items (c.in-Some.entry ∷ [])) in
    record {
      listed = subst (AreListed many []) more (step_listed key_of es xs c.loop-i.i inv.read k c.loop-i-test.true c.index-keys-i.is e inv.listed next);
      read = subst (λ (fs : List Entry). map entry_field fs ++ map key_of (drop (c.loop-i.i + 1) xs) ≡ map key_of xs) more (step_read key_of es xs c.loop-i.i inv.read k c.loop-i-test.true c.index-keys-i.is e next.field);
    }

pub returns-clause-list : goal.returns-clause-list
returns-clause-list c =
    let es = map entry_of c.loop-i.backups.items in
    let done = walk_done key_of es c.args.keys.now c.loop-i.i c.loop-i.invariant.read c.loop-i-test.false in
    list_of_keys es (map key_of c.args.keys.now) c.loop-i.invariant.listed c.requires.order done

pub returns-clause-keys : goal.returns-clause-keys
returns-clause-keys c = walk_done key_of (map entry_of c.loop-i.backups.items) c.args.keys.now c.loop-i.i c.loop-i.invariant.read c.loop-i-test.false
