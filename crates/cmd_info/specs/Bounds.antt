-- The first and the last of names that come one after another.
use Rattle.std.specs.Prelude.{◌≡◌, List, ◌∷◌, Option, Some, None, fold, option_map}
use Rattle.std.specs.List.{reduce}
use Rattle.base_model.specs.declared.wal.Segment.{Segment}
use Rattle.base_model.specs.Names.{segment_text}
use Rattle.base_model.specs.Text.{Text}
use Rattle.cmd_info.specs.declared.report.bounds.Bounds.{Bounds}

-- what f makes of these items, and of those before, of which it made this
abbrev pub reduce_on : {A : Type 0} → (A → A → A) → Option A → List A → Option A
reduce_on f None xs = reduce f xs
reduce_on f (Some a) xs = Some (fold f a xs)

abbrev pub first_name : Option Bounds → Option Text
first_name bounds = option_map (λ (b : Bounds). segment_text b.first) bounds

abbrev pub last_name : Option Bounds → Option Text
last_name bounds = option_map (λ (b : Bounds). segment_text b.last) bounds

-- what f makes of the segments up to this one and of whichever come then, it makes of this bound and of these
abbrev pub TakesIn : (Text → Text → Text) → Segment → Option Text → Segment → Type 0
TakesIn f bound before segment = (names : List Text)
    → reduce_on f (Some (segment_text bound)) names ≡ reduce_on f before (segment_text segment ∷ names)
