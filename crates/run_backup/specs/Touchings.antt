-- What the proof of the stages needs of calls that touch only some names, one after another. Own.
use Rattle.std.specs.Prelude.{◌≡◌, Option, IfSome}
use Rattle.std.proofs.Common.{inl, inr, ◌∙◌, ap, subst}
use Rattle.base_devices.specs.Content.{Name, Content, at}
use Rattle.base_devices.specs.Crash.{IsTemporary}
use Rattle.base_devices.specs.Moments.{View, LeavesNoMore}
use Rattle.base_devices.proofs.Steps.{goes_on, goes_wide}
use Rattle.base_disk.specs.Store.{ChangesOnly}
use Rattle.base_model.specs.declared.labels.Label.{Label}
use Rattle.base_model.specs.Text.{Text}
use Rattle.archive_store.specs.Still.{IsStill, still_on}
use Rattle.backup_make.specs.Touched.{TouchesOnly}
use Rattle.cmd_backup_offline.specs.Touching.{TouchesOneOf, IsNewLabel}
use Rattle.cmd_expire.proofs.Changing.{IsFrame}

-- a call that only reads
touched_rests : (these : Name → Type 0) (a b : View) → LeavesNoMore a b → b.now ≡ a.now → TouchesOnly these a b
touched_rests these a b rests same = record {
  now = λ n off. ap (at n) same;
  time = goes_wide (λ _ _. ⊥) (λ n _. these n) (λ _. ⊥) these a b (λ n v h. absurd h) (λ n h. absurd h) rests;
}

-- one call after another
touched_on : (these : Name → Type 0) (a b c : View) → TouchesOnly these a b → TouchesOnly these b c
    → TouchesOnly these a c
touched_on these a b c p q = record {
  now = λ n off. q.now n off ∙ p.now n off;
  time = goes_on (λ n _. these n) these a b c p.time q.time;
}

-- a call that touches fewer
touched_wide : (these those : Name → Type 0) (a b : View) → ((n : Name) → these n → those n)
    → TouchesOnly these a b → TouchesOnly those a b
touched_wide these those a b wider p = record {
  now = λ n off. p.now n (λ h. off (wider n h));
  time = goes_wide (λ n _. these n) (λ n _. those n) these those a b (λ n v h. wider n h) (λ n h. wider n h) p.time;
}

-- a call of which only temporary names become unsynced
touched_changed : (these : Name → Type 0) (a b : View) → ChangesOnly these a b → TouchesOnly these a b
touched_changed these a b p = record {
  now = p.now;
  time = goes_wide (λ n _. these n) (λ n _. these n) (λ n. these n × IsTemporary n) these a b
      (λ n v h. h) (λ n h. h.0) p.time;
}

-- outside of the names that are touched nothing changes
pub touched_frame : IsFrame TouchesOnly
touched_frame = record {
  of = touched_changed;
  now = λ these a b h. h.now;
  wide = touched_wide;
  on = touched_on;
}

-- calls that only read, and then a backup
pub touches_after : (stanza : Text) (these : Label → Name → Type 0) (a b d : View) → IsStill a b
    → TouchesOneOf stanza these b d → TouchesOneOf stanza these a d
touches_after stanza these a b d still (inl x) = inl (still_on a b d still x)
touches_after stanza these a b d still (inr (label, x)) = inr (
  label,
  record {
    is_label = x.is_label;
    is_new = subst (λ (n : Option Content). IfSome n (IsNewLabel stanza label)) still.now x.is_new;
    only = touched_on (these label) a b d (touched_rests (these label) a b still.time still.now) x.only;
  },
)
