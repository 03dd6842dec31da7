-- The calls of an expiry, with the lists that they were handed.
use Rattle.std.proofs.Common.{◌≡◌, inl, inr, ℕ, List, map, Option, refl, subst, false}
use Rattle.base_devices.specs.Content.{Name, Content}
use Rattle.base_devices.specs.Moments.{View, is_unsynced}
use Rattle.base_devices.specs.States.{DiskState}
use Rattle.base_disk.specs.Dropped.{IsAbsent}
use Rattle.base_model.specs.declared.clusters.ClusterId.{ClusterId}
use Rattle.base_model.specs.declared.labels.Entry as rust_entry
use Rattle.base_model.specs.Text.{Text, In}
use Rattle.base_model.specs.Names.{backup_info, copy_of}
use Rattle.base_model.specs.Values.{entry_of}
use Rattle.base_model.specs.Repository.{Repository}
use Rattle.base_model.specs.Log.{Pair}
use Rattle.base_model.specs.Steady.{IsSteady}
use Rattle.expire_rules.specs.declared.rules.Rules.{Rules}
use Rattle.expire_rules.specs.Labels.{labels_of}
use Rattle.expire_make.specs.Losing.{TakesAway, IsUnlisted, IsUnneeded}
use Rattle.expire_make.specs.Emptying.{HasNoUnlisted}
use Rattle.expire_make.specs.Removed.{Counted}
use Rattle.expire_make.specs.Unneeded.{ids_in}
use Rattle.expire_make.specs.Planning.{keeps_by}

pub main_synced : (stanza : Text) (r : Repository) (a : View) → IsSteady stanza r a → is_unsynced a (backup_info stanza) ≡ false
main_synced stanza r a steady = steady.fixed (backup_info stanza) (Pair (inr (inr (inl refl))))

pub copy_synced : (stanza : Text) (r : Repository) (a : View) → IsSteady stanza r a → is_unsynced a (copy_of (backup_info stanza)) ≡ false
copy_synced stanza r a steady = steady.fixed (copy_of (backup_info stanza)) (Pair (inr (inr (inr refl))))

module _ (stanza : Text) (es fs : List rust_entry.Entry) (same : es ≡ fs) where
  pub unlisted_as : (a b : DiskState) → TakesAway (IsUnlisted stanza (labels_of (map entry_of es))) a b → TakesAway (IsUnlisted stanza (labels_of (map entry_of fs))) a b
  unlisted_as a b p = subst (λ (xs : List rust_entry.Entry). TakesAway (IsUnlisted stanza (labels_of (map entry_of xs))) a b) same p

  pub no_unlisted_as : (d : DiskState) → HasNoUnlisted stanza (labels_of (map entry_of es)) d → HasNoUnlisted stanza (labels_of (map entry_of fs)) d
  no_unlisted_as d p = subst (λ (xs : List rust_entry.Entry). HasNoUnlisted stanza (labels_of (map entry_of xs)) d) same p

  module _ (rules : Rules) (current : ℕ) where
    pub unneeded_as : (a b : DiskState) → TakesAway (IsUnneeded stanza (keeps_by rules current (map entry_of es))) a b → TakesAway (IsUnneeded stanza (keeps_by rules current (map entry_of fs))) a b
    unneeded_as a b p = subst (λ (xs : List rust_entry.Entry). TakesAway (IsUnneeded stanza (keeps_by rules current (map entry_of xs))) a b) same p

    pub counts_as : (k : ℕ) (o p : Option Content) → Counted (IsUnneeded stanza (keeps_by rules current (map entry_of es))) k o p → Counted (IsUnneeded stanza (keeps_by rules current (map entry_of fs))) k o p
    counts_as k o p c = subst (λ (xs : List rust_entry.Entry). Counted (IsUnneeded stanza (keeps_by rules current (map entry_of xs))) k o p) same c

    pub gone_as : (history ids : List ClusterId) (o : Option Content) → history ≡ ids → ((n : Name) → (u : IsUnneeded stanza (keeps_by rules current (map entry_of es)) n) → In u.id (ids_in history) → IsAbsent o n)
        → (n : Name) → (u : IsUnneeded stanza (keeps_by rules current (map entry_of fs)) n) → In u.id (ids_in ids) → IsAbsent o n
    gone_as history ids o are gone = subst (λ (cs : List ClusterId). (n : Name) → (u : IsUnneeded stanza (keeps_by rules current (map entry_of fs)) n) → In u.id (ids_in cs) → IsAbsent o n) are
        (subst (λ (xs : List rust_entry.Entry). (n : Name) → (u : IsUnneeded stanza (keeps_by rules current (map entry_of xs)) n) → In u.id (ids_in history) → IsAbsent o n) same gone)
