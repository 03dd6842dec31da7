-- Calls that keep to their stanza, one after another.
use Rattle.std.proofs.Common.{◌≡◌, true, ◌∙◌, ap}
use Rattle.base_devices.specs.Content.{at}
use Rattle.base_devices.specs.Moments.{View, LeavesNoMore}
use Rattle.base_devices.proofs.Steps.{goes_on, goes_wide}
use Rattle.base_model.specs.Text.{Text}
use Rattle.base_model.specs.Names.{is_of_stanza}
use Rattle.base_crash_lists.specs.Beside.{StaysBeside}

-- a call that only read
pub rests_beside : (stanza : Text) (a b : View) → LeavesNoMore a b → b.now ≡ a.now → StaysBeside stanza a b
rests_beside stanza a b rests same = record {
  now = λ n out. ap (at n) same;
  time = goes_wide (λ _ _. ⊥) (λ n _. is_of_stanza stanza n ≡ true) (λ _. ⊥) (λ n. is_of_stanza stanza n ≡ true) a b (λ n v h. absurd h) (λ n h. absurd h) rests;
}

-- one call after another
pub beside_on : (stanza : Text) (a b c : View) → StaysBeside stanza a b → StaysBeside stanza b c → StaysBeside stanza a c
beside_on stanza a b c p q = record {
  now = λ n out. q.now n out ∙ p.now n out;
  time = goes_on (λ n _. is_of_stanza stanza n ≡ true) (λ n. is_of_stanza stanza n ≡ true) a b c p.time q.time;
}
