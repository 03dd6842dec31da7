use Rattle.std.proofs.Common.{◌≡◌, true, false, Bool, List, sym, ◌∙◌, map, string_bytes}
use Rattle.std.specs.Prelude.{IsTrue, ◌↔◌}
use Rattle.base_devices.specs.Order.{are_in_order}
use Rattle.base_model.specs.Text.{Text, In}
use Rattle.base_model.specs.ManifestText.{HasItsFolders}
use Rattle.backup_plan.specs.Listed.{Taken}
use Rattle.backup_plan.specs.Filter.{IsPlaced, IsOrdered, paths_of}
use Rattle.backup_plan.specs.Views.{taken_of}
use Rattle.backup_plan.proofs.listing_order.is_ordered.Goals.{then-are_files_ordered, else-are_files_ordered, then-are_folders_ordered, else-are_folders_ordered}
use Rattle.backup_plan.proofs.listing_order.is_ordered.Goals as goal

off : {P : Type 0} (b : Bool) → b ≡ false → b ≡ true → P
off b f t = absurd (let e : ◌≡◌ {A = Bool} false true = sym f ∙ t in cc e)

-- where three parts hold the fourth decides
decides : (fs : List Taken) (folders : List Text) (b : Bool) → are_in_order (paths_of fs) ≡ true → are_in_order folders ≡ true → ((f : Taken) → In f fs → IsPlaced folders f) → IsTrue b ↔ ((path : Text) → In path folders → HasItsFolders folders path) → IsTrue b ↔ IsOrdered fs folders
decides fs folders b files order placed rest = (λ t. record { files = files; folders_order = order; placed = placed; below = rest.0 t }, λ all. rest.1 all.below)

pub returns-then-are_files_placed : goal.returns-then-are_files_placed
returns-then-are_files_placed c =
    let fs = map taken_of c.args.files.now in
    let folders = map string_bytes c.args.folders.now in
    elim c.if-are_folders_ordered.branch [
      | then-are_folders_ordered w ↦ elim c.if-are_files_ordered.branch [
        | then-are_files_ordered v ↦ decides fs folders c.are_folders_placed.result
            (sym c.are_files_ordered.ensures ∙ v.if-are_files_ordered.true)
            (sym v.are_folders_ordered.ensures ∙ sym v.value-is ∙ w.if-are_folders_ordered.true)
            (w.are_files_placed.ensures.0 (sym w.value-is ∙ c.if-are_files_placed.true))
            c.are_folders_placed.ensures
        | else-are_files_ordered v ↦ off c.if-are_files_ordered.value (v.value-is ∙ v.if-are_files_ordered.false) w.if-are_folders_ordered.true
      ]
      | else-are_folders_ordered w ↦ off c.if-are_folders_ordered.value (w.value-is ∙ w.if-are_folders_ordered.false) c.if-are_files_placed.true
    ]
