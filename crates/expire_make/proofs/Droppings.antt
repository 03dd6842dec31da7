-- Folders that are removed, by their names.
use Rattle.std.proofs.Common.{◌≡◌, ◌++◌, ◌∷◌, [], ⊎_elim, false, List, Option, refl, ◌∙◌, sym, subst, arith, IsTrue}
use Rattle.std.specs.Prelude.{nat_eq}
use Rattle.std.specs.List.{starts_with}
use Rattle.base_devices.specs.Content.{Name, Value, Content, Holds, is_below}
use Rattle.base_devices.specs.Moments.{MayKeep, is_unsynced}
use Rattle.base_devices.specs.States.{DiskState, OnlyReads}
use Rattle.base_model.specs.declared.labels.Label.{Label}
use Rattle.base_model.specs.Text.{Text, ◌⫽◌}
use Rattle.base_model.specs.Names.{backup_folder}
use Rattle.archive_store.specs.Still.{rests_none}
use Rattle.expire_make.specs.Losing.{TakesAway, IsUnlisted, IsTextUnlisted, StaysDurable}
use Rattle.expire_make.proofs.Losses.{takes_looks, takes_on, takes_wide}
use Rattle.expire_make.proofs.Removals.{settled_as}

abbrev pub Below : Text → Name → Type 0
Below folder n = IsTrue (is_below folder n)

-- all that has a folder's name with a slash in front
pub after_takes : (prefix text : Text) (a b c : DiskState) → prefix ≡ text ++ 47 ∷ [] → OnlyReads a b → TakesAway (λ n. IsTrue (starts_with nat_eq n prefix)) b c → TakesAway (λ n. IsTrue (is_below text n)) a c
after_takes prefix text a b c is looks takes =
    takes_on (Below text) a b c (takes_looks (Below text) a b looks)
    (takes_wide (λ n. IsTrue (starts_with nat_eq n prefix)) (Below text) b c (λ n h. subst (λ (t : Text). IsTrue (starts_with nat_eq n t)) is h) takes)

-- the folder of a label that isn't listed
pub unlisted_takes : (stanza : Text) (labels : List Label) (name text : Text) → text ≡ name → IsTextUnlisted labels text → (a b : DiskState) → TakesAway (λ n. IsTrue (is_below (backup_folder stanza ⫽ name) n)) a b → TakesAway (IsUnlisted stanza labels) a b
unlisted_takes stanza labels name text same is a b p = takes_wide (λ n. IsTrue (is_below (backup_folder stanza ⫽ name) n)) (IsUnlisted stanza labels) a b
    (λ n below. record { label = is.label; is_label = is.is_label; not_listed = is.not_listed; below = subst (λ (t : Text). IsTrue (is_below (backup_folder stanza ⫽ t) n)) (sym same ∙ is.text_is) below }) p

-- folders that are read and then removed
pub dropped_takes : (stanza : Text) (labels : List Label) (a b c : DiskState) → OnlyReads a b → TakesAway (IsUnlisted stanza labels) b c → TakesAway (IsUnlisted stanza labels) a c
dropped_takes stanza labels a b c looks takes = takes_on (IsUnlisted stanza labels) a b c (takes_looks (IsUnlisted stanza labels) a b looks) takes

pub dropped_looks : (stanza : Text) (labels : List Label) (a b c d : DiskState) → OnlyReads a b → TakesAway (IsUnlisted stanza labels) b c → OnlyReads c d → TakesAway (IsUnlisted stanza labels) a d
dropped_looks stanza labels a b c d looks takes after = takes_on (IsUnlisted stanza labels) a c d (dropped_takes stanza labels a b c looks takes) (takes_looks (IsUnlisted stanza labels) c d after)

-- no call
pub looks_none : (a : DiskState) → OnlyReads a a
looks_none a = record { now = refl; time = rests_none a.view; opened = refl; proper = refl; later = omega arith }

-- ---- synced

-- where only was read
pub read_settled : (text : Text) (a b : DiskState) → OnlyReads a b → StaysDurable (λ n. IsTrue (is_below text n)) a.view b.view
read_settled text a b looks settled n v below synced keep = subst (λ (o : Option Content). Holds o n v) (sym looks.now)
    (settled n v below synced (⊎_elim (λ k. k) (λ none. absurd none) (looks.time.grows b.view.moment n v looks.time.later (omega arith) keep)))

-- where names were removed
pub taken_settled : (stanza : Text) (labels : List Label) (folder : Text) (a b c : DiskState) → folder ≡ backup_folder stanza → TakesAway (IsUnlisted stanza labels) a b → c.view.now ≡ b.view.now
    → ((n : Name) (v : Value) → IsTrue (is_below folder n) → is_unsynced b.view n ≡ false → MayKeep c.view n v → Holds b.view.now n v)
    → StaysDurable (λ n. IsTrue (is_below (backup_folder stanza) n)) a.view c.view
taken_settled stanza labels folder a b c is takes same settled before = settled_as (IsUnlisted stanza labels) folder (backup_folder stanza) a.view b.view c.view is takes.works.time same settled
