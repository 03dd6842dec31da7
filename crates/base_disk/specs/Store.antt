-- Names and their folders, and which names a write changes.
use Rattle.std.specs.Prelude.{◌≡◌, ◌∷◌, ◌++◌}
use Rattle.base_devices.specs.Content.{Name, at}
use Rattle.base_devices.specs.Moments.{View, GrowsBy}
use Rattle.base_devices.specs.Crash.{IsTemporary}

-- the name lies below the folder
abbrev pub LiesIn : Name → Name → Type 0
LiesIn folder name = (rest : Name) × (name ≡ folder ++ 47 ∷ rest)

-- At each other name the disk holds the same and a crash leaves no more than before, and of these only temporary ones
-- become unsynced.
pub record ChangesOnly (these : Name → Type 0) (old new : View) : Type 0 where
  pub now : (n : Name) → ¬ these n → at n new.now ≡ at n old.now
  pub time : GrowsBy (λ n _. these n) (λ n. these n × IsTemporary n) old new
