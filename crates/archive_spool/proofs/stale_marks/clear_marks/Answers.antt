use Rattle.std.proofs.Common.{[], ◌∷◌, ◌++◌, ◌∙◌, ap, sym, subst, refl, map}
use Rattle.std.specs.Prelude.{Option, string_bytes}
use Rattle.std.proofs.lemmas.Result.{on_ok_weaker}
use Rattle.base_devices.specs.Content.{Content}
use Rattle.base_disk.specs.Dropped.{IsAbsent}
use Rattle.base_disk.proofs.Changes.{only_none, only_rests, only_on}
use Rattle.archive_spool.specs.Clearing.{IsStaleAt, Lessens}
use Rattle.archive_spool.proofs.Cleared.{none_cleared, found_all, lessens_clears, all_gone, less_marks, less_only}
use Rattle.archive_spool.proofs.Marked.{marks_still, marks_none, marks_on}
use Rattle.archive_spool.proofs.stale_marks.clear_marks.Goals as goal

pub returns-in_default-clause-clears : goal.returns-in_default-clause-clears
returns-in_default-clause-clears g c = none_cleared _ _ _ refl

pub returns-in_default-clause-marks : goal.returns-in_default-clause-marks
returns-in_default-clause-marks g c = marks_still c.args.stanza.now [] _

pub returns-in_default-clause-only : goal.returns-in_default-clause-only
returns-in_default-clause-only g c = only_none _ _

pub returns-in_err-folder-clause-clears : goal.returns-in_err-folder-clause-clears
returns-in_err-folder-clause-clears g c = none_cleared _ _ _ refl

pub returns-in_err-folder-clause-marks : goal.returns-in_err-folder-clause-marks
returns-in_err-folder-clause-marks g c = marks_still c.args.stanza.now [] _

pub returns-in_err-folder-clause-only : goal.returns-in_err-folder-clause-only
returns-in_err-folder-clause-only g c = only_none _ _

pub returns-in_err-prefix-clause-clears : goal.returns-in_err-prefix-clause-clears
returns-in_err-prefix-clause-clears g c = none_cleared _ _ _ refl

pub returns-in_err-prefix-clause-marks : goal.returns-in_err-prefix-clause-marks
returns-in_err-prefix-clause-marks g c = marks_still c.args.stanza.now [] _

pub returns-in_err-prefix-clause-only : goal.returns-in_err-prefix-clause-only
returns-in_err-prefix-clause-only g c = only_none _ _

pub returns-in_err-found-clause-clears : goal.returns-in_err-found-clause-clears
returns-in_err-found-clause-clears g c = none_cleared _ _ _ c.names.ensures.looks.now

pub returns-in_err-found-clause-marks : goal.returns-in_err-found-clause-marks
returns-in_err-found-clause-marks g c = marks_none c.args.stanza.now [] _ _ c.names.ensures.looks.time

pub returns-in_err-found-clause-only : goal.returns-in_err-found-clause-only
returns-in_err-found-clause-only g c = only_rests _ _ _ c.names.ensures.looks.time c.names.ensures.looks.now

pub returns-clause-cleared : goal.returns-clause-cleared
returns-clause-cleared g c = on_ok_weaker c.clear_each.result (λ gone.
    all_gone c.args.stanza.now c.as_str-2.result.now c.as_str.result.now (c.as_str.ensures.value ∙ c.in_ok-folder.ensures.ok) (c.as_str-2.ensures.value ∙ c.in_ok-prefix.ensures.ok ∙ ap (λ t. t ++ 47 ∷ []) (sym c.as_str.ensures.value))
    (map string_bytes c.deref-2.result.now) c.args.ready.now (ap (map string_bytes) c.deref-2.ensures.value ∙ c.in-Ok.ensures) c.in_ok-found.found.items _ _ c.in_ok-found.ensures.listing
    (subst (λ (o : Option Content). Lessens (IsStaleAt c.as_str-2.result.now (map string_bytes c.deref-2.result.now)) o (g.S.Disk.state c.clear_each.new.spool).view.now) c.names.ensures.looks.now c.clear_each.ensures.drops)
    (found_all c.deref.result.now c.in_ok-found.found.items c.deref.ensures.value
    (λ x. IsStaleAt c.as_str-2.result.now (map string_bytes c.deref-2.result.now) (string_bytes x.name) → IsAbsent (g.S.Disk.state c.clear_each.new.spool).view.now (string_bytes x.name)) gone)) c.clear_each.ensures.gone

pub returns-clause-clears : goal.returns-clause-clears
returns-clause-clears g c =
    lessens_clears c.args.stanza.now c.as_str-2.result.now c.as_str.result.now (c.as_str.ensures.value ∙ c.in_ok-folder.ensures.ok) (c.as_str-2.ensures.value ∙ c.in_ok-prefix.ensures.ok ∙ ap (λ t. t ++ 47 ∷ []) (sym c.as_str.ensures.value))
    (map string_bytes c.deref-2.result.now) c.args.ready.now (ap (map string_bytes) c.deref-2.ensures.value ∙ c.in-Ok.ensures) _ _
    (subst (λ (o : Option Content). Lessens (IsStaleAt c.as_str-2.result.now (map string_bytes c.deref-2.result.now)) o (g.S.Disk.state c.clear_each.new.spool).view.now) c.names.ensures.looks.now c.clear_each.ensures.drops)

pub returns-clause-marks : goal.returns-clause-marks
returns-clause-marks g c = marks_on c.args.stanza.now [] [] _ _ _ (marks_none c.args.stanza.now [] _ _ c.names.ensures.looks.time)
    (less_marks c.args.stanza.now c.as_str-2.result.now c.as_str.result.now (c.as_str.ensures.value ∙ c.in_ok-folder.ensures.ok) (c.as_str-2.ensures.value ∙ c.in_ok-prefix.ensures.ok ∙ ap (λ t. t ++ 47 ∷ []) (sym c.as_str.ensures.value))
    (map string_bytes c.deref-2.result.now) c.args.ready.now (ap (map string_bytes) c.deref-2.ensures.value ∙ c.in-Ok.ensures) _ _ c.clear_each.ensures.works.time)

pub returns-clause-only : goal.returns-clause-only
returns-clause-only g c = only_on _ _ _ _ (only_rests _ _ _ c.names.ensures.looks.time c.names.ensures.looks.now)
    (less_only c.args.stanza.now c.as_str-2.result.now c.as_str.result.now (c.as_str.ensures.value ∙ c.in_ok-folder.ensures.ok) (c.as_str-2.ensures.value ∙ c.in_ok-prefix.ensures.ok ∙ ap (λ t. t ++ 47 ∷ []) (sym c.as_str.ensures.value))
    (map string_bytes c.deref-2.result.now) c.args.ready.now (ap (map string_bytes) c.deref-2.ensures.value ∙ c.in-Ok.ensures) _ _ c.clear_each.ensures.works.time c.clear_each.ensures.drops)
