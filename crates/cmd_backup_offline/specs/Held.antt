-- Which locks are held.
use Rattle.std.specs.Prelude.{List, Contains}
use Rattle.base_model.specs.Text.{Text}

-- the lock is among those that are held
unfoldable pub IsHeld : Text → List Text → Type 0
IsHeld lock held = Contains held lock
