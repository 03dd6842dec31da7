-- What an expiry touches of a disk that represents a stanza: what the stanza's expiry may change.
use Rattle.std.proofs.Common.{◌≡◌, ℕ, List, None, sym, subst}
use Rattle.std.specs.Prelude.{IsSome, Some, filter, not}
use Rattle.base_devices.specs.Moments.{View}
use Rattle.base_devices.proofs.Nows.{known_as}
use Rattle.base_disk.specs.Store.{ChangesOnly}
use Rattle.base_model.specs.Now.{NowRepresents}
use Rattle.base_model.specs.Repository.{Backup, Stanza, current_number}
use Rattle.base_model.specs.Represents.{archive_value, backup_value}
use Rattle.base_model.specs.Text.{Text}
use Rattle.base_model.specs.Values.{Entry}
use Rattle.expire_rules.specs.declared.rules.Rules.{Rules}
use Rattle.expire_rules.specs.Condemned.{is_condemned}
use Rattle.expire_rules.specs.Labels.{labels_of}
use Rattle.expire_rules.proofs.Lists.{map_filter}
use Rattle.expire_make.specs.Expiry.{IsTouched, Touches, listed}
use Rattle.expire_make.specs.Losing.{MayTouch}
use Rattle.expire_make.specs.Planning.{keeps_by}
use Rattle.expire_make.proofs.OneList.{list_of}

module _ (stanza : Text) (rules : Rules) (moment : ℕ) where
  -- no folder of a label that is listed in the end, and no file that is needed then
  pub touches_stanza : (a b : View) → Touches stanza rules moment a b → (s : Stanza) → IsSome a.now → NowRepresents stanza (Some s) a.now → ChangesOnly (IsTouched stanza rules moment s) a b
  touches_stanza a b h s known now =
      let f = known_as a.now known in
      let only = h.listed f.0 (archive_value s) (backup_value s None) f.1 (list_of stanza f.0 s (now.represents f.0 f.1)) in
      subst (λ (es : List Entry). ChangesOnly (MayTouch stanza (labels_of es) (keeps_by rules (current_number s) es)) a b)
      (sym (map_filter (λ (b : Backup). b.entry) (λ (e : Entry). not (is_condemned rules moment (listed s) e.label)) s.backups)) only
