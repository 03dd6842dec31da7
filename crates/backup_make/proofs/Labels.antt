-- The text of a label begins with a digit.
use Rattle.std.proofs.Common.{◌≡◌, ◌≢◌, ◌+◌, ◌/◌, ℕ, get_or, arith}
use Rattle.base_model.specs.declared.labels.Label.{Label}
use Rattle.base_model.specs.Dates.{date_after, stamp}
use Rattle.base_model.specs.Names.{label_text}
use Rattle.base_model.specs.InfoFiles.{IsLabel}
use Rattle.repo_names.proofs.StampTexts.{digits_of_day}
use Rattle.repo_info.proofs.PlainTexts.{label_some}
use Rattle.backup_make.specs.declared.draft.Draft.{Draft}
use Rattle.backup_make.specs.Draft.{stanza_of, pair_of, main_of, is_own_of, IsDraft}
use Rattle.backup_make.specs.Made.{AreApart}
use Rattle.backup_make.proofs.Apart.{are_apart}
use Rattle.backup_make.proofs.Drafted.{good_label}

pub first_digit : (l : Label) → IsLabel l → get_or (label_text l) 0 0 ≢ 98
unfolding stamp
first_digit l h e =
    let full = h.full in
    let year = (digits_of_day (l.full / 86400) (omega (arith, full))).year in
    let first : ◌≡◌ {A = ℕ} (48 + (date_after (l.full / 86400)).year / 100 / 10) 98 = e in
    omega (arith, year, first)

pub apart : (d : Draft) → IsDraft d → AreApart (is_own_of d) (pair_of d) (main_of d)
apart d h = are_apart (stanza_of d) d.label (label_some d.label) (first_digit d.label (good_label d h))
