-- The rules on worked examples.
use Rattle.std.specs.Prelude.{◌≡◌, ℕ, true, false, List, [], ◌∷◌, map, Option, Some, None, refl, Bool}
use Rattle.base_model.specs.declared.labels.BackupKind.{BackupKind}
use Rattle.base_model.specs.declared.labels.BackupKind.TheVariants.{Full, Diff, Incr}
use Rattle.base_model.specs.declared.labels.Label.{Label}
use Rattle.base_model.specs.declared.wal.Segment.{Segment}
use Rattle.base_model.specs.declared.wal.Span.{Span}
use Rattle.base_model.specs.declared.wal.ArchiveName.TheVariants.{Segment as Whole, History}
use Rattle.base_model.specs.Text.{hex_upper}
use Rattle.base_model.specs.Values.{Entry}
use Rattle.expire_rules.specs.declared.rules.FullRule.{FullRule}
use Rattle.expire_rules.specs.declared.rules.FullRule.TheVariants.{Unset, Count, Days}
use Rattle.expire_rules.specs.declared.rules.Rules.{Rules}
use Rattle.expire_rules.specs.Condemned.{condemned_labels}
use Rattle.expire_rules.specs.Needed.{Keeping, keeping_of, keeps_file}

abbrev full : ℕ → Label
full t = record { full = t; later = None }

abbrev later : ℕ → ℕ → BackupKind → Label
later f t k = record { full = f; later = Some (record { time = t; kind = k }) }

abbrev backup : Label → BackupKind → Option Label → ℕ → Option Span → ℕ → Entry
backup l k p cluster w stop = record { label = l; kind = k; prior = p; references = []; db = cluster; span = w; start = 0; stop = stop; size = 0; stored = 0 }

abbrev rules_of : FullRule → Option ℕ → Option ℕ → Rules
rules_of f d a = record { full = f; diff = d; archive = a; archive_kind = Full }

abbrev seg : ℕ → Segment
seg n = record { timeline = 1; log = 0; seg = n }

abbrev at : ℕ → Option Span
at n = Some (record { start = seg n; stop = seg n })

-- ---- which backups expire

abbrev six : List Entry
six = backup (full 1) Full None 1 None 1 ∷ backup (later 1 2 Diff) Diff (Some (full 1)) 1 None 2 ∷ backup (later 1 3 Incr) Incr (Some (later 1 2 Diff)) 1 None 3
    ∷ backup (full 4) Full None 1 None 4 ∷ backup (later 4 5 Diff) Diff (Some (full 4)) 1 None 5 ∷ backup (later 4 6 Diff) Diff (Some (full 4)) 1 None 6 ∷ []

-- two full backups and one differential are kept
a_differential_goes_with_its_incrementals : condemned_labels (rules_of (Count 2) (Some 1) None) 0 six ≡ later 1 2 Diff ∷ later 1 3 Incr ∷ later 4 5 Diff ∷ []
a_differential_goes_with_its_incrementals = refl

-- one full backup is kept
a_full_backup_goes_with_all_that_depend_on_it : condemned_labels (rules_of (Count 1) None None) 0 six ≡ full 1 ∷ later 1 2 Diff ∷ later 1 3 Incr ∷ []
a_full_backup_goes_with_all_that_depend_on_it = refl

nothing_goes_without_rules : condemned_labels (rules_of Unset None None) 0 six ≡ []
nothing_goes_without_rules = refl

-- by days: the last one that is old enough stays
abbrev daily : List Entry
daily = backup (full 1) Full None 1 None 0 ∷ backup (full 2) Full None 1 None 86400 ∷ backup (full 3) Full None 1 None 172800 ∷ []

the_last_old_one_stays : condemned_labels (rules_of (Days 1) None None) 172800 daily ≡ full 1 ∷ []
the_last_old_one_stays = refl

none_is_old : condemned_labels (rules_of (Days 5) None None) 172800 daily ≡ []
none_is_old = refl

-- ---- which files stay

abbrev two : List Entry
two = backup (full 1) Full None 1 (at 2) 1 ∷ backup (full 4) Full None 1 (at 5) 4 ∷ []

abbrev stays : Keeping → List Bool
stays k = map (λ n. keeps_file k (Whole (seg n))) (1 ∷ 2 ∷ 3 ∷ 4 ∷ 5 ∷ 6 ∷ [])

the_first_goes : condemned_labels (rules_of (Count 1) None None) 0 two ≡ full 1 ∷ []
the_first_goes = refl

-- what is left is the second backup
abbrev second : List Entry
second = backup (full 4) Full None 1 (at 5) 4 ∷ []

the_log_begins_at_the_last_kept : stays (keeping_of (rules_of (Count 1) None None) 1 second 1) ≡ false ∷ false ∷ false ∷ false ∷ true ∷ true ∷ []
unfolding hex_upper
the_log_begins_at_the_last_kept = refl

-- both are left, and the log is kept from the last one on
the_span_of_an_older_one_stays : stays (keeping_of (rules_of (Count 2) None (Some 1)) 1 two 1) ≡ false ∷ true ∷ false ∷ false ∷ true ∷ true ∷ []
unfolding hex_upper
the_span_of_an_older_one_stays = refl

a_history_stays : keeps_file (keeping_of (rules_of (Count 2) None (Some 1)) 1 two 1) (History 2) ≡ true
a_history_stays = refl

-- fewer than are to be kept
all_stays : stays (keeping_of (rules_of (Count 3) None None) 1 two 1) ≡ true ∷ true ∷ true ∷ true ∷ true ∷ true ∷ []
all_stays = refl

-- of an earlier cluster whose backups are gone only histories stay
nothing_stays_of_an_earlier_cluster : stays (keeping_of (rules_of (Count 1) None None) 2 (backup (full 4) Full None 2 (at 5) 4 ∷ []) 1) ≡ false ∷ false ∷ false ∷ false ∷ false ∷ false ∷ []
nothing_stays_of_an_earlier_cluster = refl
