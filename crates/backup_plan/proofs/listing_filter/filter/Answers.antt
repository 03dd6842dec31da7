use Rattle.std.proofs.Common.{◌≡◌, List, ap, subst, sym, ◌∙◌, map, string_bytes, refl}
use Rattle.base_model.specs.Text.{Text}
use Rattle.backup_plan.specs.Listed.{Taken}
use Rattle.backup_plan.specs.Filter.{IsOrdered, HasControl, IsWithinLimits, folders_of, kept}
use Rattle.backup_plan.specs.Views.{taken_of, seen_of}
use Rattle.std.proofs.lemmas.Result.{err_from_is_err_and}
use Rattle.backup_plan.specs.declared.fault.PlanFault.{PlanFault}
use Rattle.backup_plan.specs.declared.fault.PlanFault.TheVariants.{Unordered}
use Rattle.backup_plan.proofs.Lists.{no_truth}
use Rattle.backup_plan.proofs.Orderly.{is_ordered, never_unordered}
use Rattle.backup_plan.proofs.Outcomes.{takes}
use Rattle.backup_plan.proofs.listing_filter.filter.Goals as goal

pub returns-clause-takes : goal.returns-clause-takes
returns-clause-takes c =
    let l = c.in_ok-listing.listing in
    let model = c.in_ok-listing.ensures in
    let files = ap (map taken_of) c.deref.ensures.value in
    let folders = ap (map string_bytes) c.deref-2.ensures.value in
    let order = subst (λ (ps : List Text). IsOrdered (map taken_of l.files.items) ps) folders (subst (λ (fs : List Taken). IsOrdered fs (map string_bytes c.deref-2.result.now)) files (c.if-not-is_ordered.ensures.0 refl)) in
    let control = subst HasControl (ap (map taken_of) c.deref-3.ensures.value) c.in_default.ensures.there in
    let within = subst IsWithinLimits (ap (map taken_of) c.deref-4.ensures.value) c.in_default-passed_limit.ensures.within in
    takes c.args.online (map seen_of c.args.seen.now) (map taken_of l.files.items) (map string_bytes l.folders.items) model.fine model.files model.folders model.timed order control within

pub returns-in_err-listing-clause-orderly : goal.returns-in_err-listing-clause-orderly
returns-in_err-listing-clause-orderly c = λ is nodes_are t.
    let p = err_from_is_err_and c.from_residual.result c.from_residual.ensures.1 in
    let whole = sym p.1 ∙ is in
    let same : ◌≡◌ {A = PlanFault} p.0 Unordered = cc whole in
    never_unordered c.args.online (map seen_of c.args.seen.now) c.in_err-listing.field-0.0 c.in_err-listing.ensures.refused (sym p.2 ∙ same) nodes_are t

pub returns-then-not-is_ordered-clause-orderly : goal.returns-then-not-is_ordered-clause-orderly
returns-then-not-is_ordered-clause-orderly c = λ is nodes_are t.
    let model = c.in_ok-listing.ensures in
    let files = ap (map taken_of) c.deref.ensures.value ∙ model.files in
    let folders = ap (map string_bytes) c.deref-2.ensures.value ∙ model.folders in
    let order = is_ordered c.args.online nodes_are (map seen_of c.args.seen.now) t in
    no_truth (c.if-not-is_ordered.ensures.1
    (subst (λ (ps : List Text). IsOrdered (map taken_of c.deref.result.now) ps) (sym folders)
    (subst (λ (fs : List Taken). IsOrdered fs (folders_of (kept c.args.online (map seen_of c.args.seen.now)))) (sym files) order)))
