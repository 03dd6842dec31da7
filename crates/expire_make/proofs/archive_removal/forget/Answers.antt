use Rattle.std.proofs.Common.{map, ◌∙◌, refl, sym}
use Rattle.base_model.specs.Values.{entry_of}
use Rattle.expire_make.specs.Losing.{IsUnneeded}
use Rattle.expire_make.specs.Planning.{keeps_by}
use Rattle.expire_make.proofs.Losses.{takes_none, takes_looks, takes_on, takes_wide}
use Rattle.expire_make.proofs.Counts.{counted_as, counted_wide}
use Rattle.expire_make.proofs.Removals.{absent_stays, settled_as}
use Rattle.expire_make.proofs.Tellings.{Unneeds}
use Rattle.expire_make.proofs.archive_removal.forget.Goals as goal

pub returns-in_err-folder-clause-takes : goal.returns-in_err-folder-clause-takes
returns-in_err-folder-clause-takes g c = takes_none (IsUnneeded c.args.stanza.now (keeps_by c.args.rules.now c.args.current (map entry_of c.args.entries.now))) _

pub returns-in_err-prefix-clause-takes : goal.returns-in_err-prefix-clause-takes
returns-in_err-prefix-clause-takes g c = takes_none (IsUnneeded c.args.stanza.now (keeps_by c.args.rules.now c.args.current (map entry_of c.args.entries.now))) _

pub returns-in_err-removed-clause-takes : goal.returns-in_err-removed-clause-takes
returns-in_err-removed-clause-takes g c = takes_wide (Unneeds c.as_str.result.now c.args.rules.now c.args.current (map entry_of c.args.entries.now)) (IsUnneeded c.args.stanza.now (keeps_by c.args.rules.now c.args.current (map entry_of c.args.entries.now))) _ _
    (λ n h. h c.args.stanza.now (c.as_str.ensures.value ∙ c.in_ok-prefix.ensures.ok)) c.forget_each.ensures.takes

pub returns-clause-takes : goal.returns-clause-takes
returns-clause-takes g c = takes_on (IsUnneeded c.args.stanza.now (keeps_by c.args.rules.now c.args.current (map entry_of c.args.entries.now))) _ _ _
    (takes_wide (Unneeds c.as_str.result.now c.args.rules.now c.args.current (map entry_of c.args.entries.now)) (IsUnneeded c.args.stanza.now (keeps_by c.args.rules.now c.args.current (map entry_of c.args.entries.now))) _ _
    (λ n h. h c.args.stanza.now (c.as_str.ensures.value ∙ c.in_ok-prefix.ensures.ok)) c.forget_each.ensures.takes)
    (takes_looks (IsUnneeded c.args.stanza.now (keeps_by c.args.rules.now c.args.current (map entry_of c.args.entries.now))) _ _ c.sync_directories.ensures.looks)

pub returns-clause-gone : goal.returns-clause-gone
returns-clause-gone g c = λ n u i. absent_stays (IsUnneeded c.args.stanza.now (keeps_by c.args.rules.now c.args.current (map entry_of c.args.entries.now))) _ _ n
    (takes_looks (IsUnneeded c.args.stanza.now (keeps_by c.args.rules.now c.args.current (map entry_of c.args.entries.now))) _ _ c.sync_directories.ensures.looks)
    (c.in_ok-removed.ensures.gone c.args.stanza.now (c.as_str.ensures.value ∙ c.in_ok-prefix.ensures.ok) n u i)

pub returns-clause-settled : goal.returns-clause-settled
returns-clause-settled g c = settled_as (Unneeds c.as_str.result.now c.args.rules.now c.args.current (map entry_of c.args.entries.now)) _ _ (g.D.Disk.state c.args.d.now).view (g.D.Disk.state c.forget_each.new.d).view (g.D.Disk.state c.sync_directories.new.self).view (c.as_str-2.ensures.value ∙ c.in_ok-folder.ensures.ok) c.forget_each.ensures.takes.works.time c.sync_directories.ensures.looks.now c.in_ok-sync_directories.ensures.settled

pub returns-clause-counts : goal.returns-clause-counts
returns-clause-counts g c = λ known. counted_as (IsUnneeded c.args.stanza.now (keeps_by c.args.rules.now c.args.current (map entry_of c.args.entries.now))) c.in_ok-removed.removed _ _ _ _ refl (sym c.sync_directories.ensures.looks.now)
    (counted_wide (Unneeds c.as_str.result.now c.args.rules.now c.args.current (map entry_of c.args.entries.now)) (IsUnneeded c.args.stanza.now (keeps_by c.args.rules.now c.args.current (map entry_of c.args.entries.now))) c.in_ok-removed.removed _ _
    (λ n h. h c.args.stanza.now (c.as_str.ensures.value ∙ c.in_ok-prefix.ensures.ok)) (c.in_ok-removed.ensures.counts known))
