use Rattle.std.proofs.Common.{◌≡◌, ◌+◌, ◌-◌, map, option_map, ℕ, Option, Some, sym, ◌∙◌, ap, subst}
use Rattle.std.specs.Prelude.{IfOk}
use Rattle.backup_sink.specs.declared.keeper.EndedItem.{EndedItem}
use Rattle.base_model.specs.Values.{file_entry_of}
use Rattle.backup_plan.specs.Views.{taken_of}
use Rattle.backup_record.specs.Ends.{end_at, bytes_before}
use Rattle.backup_record.specs.Entries.{copied}
use Rattle.backup_record.proofs.Sums.{none_there, before_there}
use Rattle.backup_record.proofs.entries.bundled.Goals as goal

pub returns-in_default : goal.returns-in_default
returns-in_default c =
    let ran = c.args.ran.now in
    let ends = map (λ v. v.items) ran.ends.now in
    let job = ap (λ (n : ℕ). ran.singles + n) c.saturating_sub.ensures in
    let none = none_there _ ends _ _ c.args.item c.sum_at.result ran.places_are job c.sum_at.ensures c.in_default.is in
    ap (copied (taken_of c.args.file.now) (Some (record { number = c.args.number; at = bytes_before ends (ran.singles + (c.args.number - 1)) c.args.item }))) (sym none)

pub returns : goal.returns
returns c =
    let ran = c.args.ran.now in
    let ends = map (λ v. v.items) ran.ends.now in
    let f = taken_of c.args.file.now in
    let job = ap (λ (n : ℕ). ran.singles + n) c.saturating_sub.ensures in
    let at = before_there _ ends _ _ c.args.item c.in-Some.at c.sum_at.result ran.places_are job c.sum_at.ensures c.in-Some.is in
    let end : c.end_of.result ≡ end_at ends (ran.singles + (c.args.number - 1)) c.args.item = c.end_of.ensures ∙ ap (λ (n : ℕ). end_at ends n c.args.item) job in
    subst (λ (e : Option EndedItem). IfOk c.copied_entry.result (λ o. option_map file_entry_of o ≡ copied f (Some (record { number = c.args.number; at = bytes_before ends (ran.singles + (c.args.number - 1)) c.args.item })) e)) end
    (subst (λ (n : ℕ). IfOk c.copied_entry.result (λ o. option_map file_entry_of o ≡ copied f (Some (record { number = c.args.number; at = n })) c.end_of.result)) at c.copied_entry.ensures)
