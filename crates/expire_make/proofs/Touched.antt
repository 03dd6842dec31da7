-- Which names an expiry changes.
use Rattle.std.proofs.Common.{◌≡◌, inl, inr, Bool, true, false, List, ◌∷◌, ◌++◌, refl, ◌∙◌, append_assoc}
use Rattle.base_text.specs.Sum.{sum_text}
use Rattle.base_devices.specs.Content.{Name, is_below}
use Rattle.base_devices.specs.Moments.{View}
use Rattle.base_devices.specs.States.{DiskState}
use Rattle.base_disk.specs.Store.{ChangesOnly}
use Rattle.base_disk.proofs.Changes.{only_on, only_wide}
use Rattle.base_model.specs.declared.labels.Label.{Label}
use Rattle.base_model.specs.declared.wal.ArchiveId.{ArchiveId}
use Rattle.base_model.specs.declared.wal.ArchiveName.{ArchiveName}
use Rattle.base_model.specs.declared.wal.ArchiveName.TheVariants.{Segment as Whole, Partial, History, Backup}
use Rattle.base_model.specs.Text.{Text, ◌⫽◌}
use Rattle.base_model.specs.Names.{is_of_stanza, archive_text, id_text, backup_folder, backup_info, label_folder, label_text}
use Rattle.base_model.specs.Values.{Entry}
use Rattle.repo_pair.specs.Member.{IsOfPair}
use Rattle.repo_stanza.specs.Owned.{IsOfPairs}
use Rattle.base_crash_lists.specs.Beside.{StaysBeside}
use Rattle.base_crash_lists.proofs.Named.{in_archive, in_backup}
use Rattle.base_crash_lists.proofs.Stays.{beside_on}
use Rattle.cmd_types.proofs.Besides.{only_beside, pairs_beside}
use Rattle.expire_rules.specs.declared.rules.Rules.{Rules}
use Rattle.expire_make.specs.Losing.{TakesAway, IsUnlisted, IsUnneeded, is_passing, MayExpire, MayTouch}
use Rattle.expire_make.specs.Planning.{keeps_by}
use Rattle.expire_make.proofs.LabelFolders.{below_is}
use Rattle.expire_make.proofs.Losses.{takes_only}

-- a name in a label's folder is the stanza's
in_label : (stanza : Text) (l : Label) (n : Name) → is_below (label_folder stanza l) n ≡ true → is_of_stanza stanza n ≡ true
in_label stanza l n below =
    let r = below_is (label_folder stanza l) n below in
    in_backup stanza n (label_text l ++ 47 ∷ r.0) (r.1 ∙ append_assoc (backup_folder stanza) (47 ∷ label_text l) (47 ∷ r.0))

-- what isn't kept is no history of a timeline
is_unkept : (rules : Rules) (current : _) (es : List Entry) (id : ArchiveId) (name : ArchiveName) → keeps_by rules current es id name ≡ false → is_passing name ≡ true
is_unkept rules current es id (Whole segment) off = refl
is_unkept rules current es id (Partial segment) off = refl
is_unkept rules current es id (History timeline) off = let no : ◌≡◌ {A = Bool} true false = off in cc
is_unkept rules current es id (Backup segment offset) off = refl

-- whatever the list and the rules are
pub touch_expires : (stanza : Text) (labels : List Label) (rules : Rules) (current : _) (es : List Entry) (a b : View) → ChangesOnly (MayTouch stanza labels (keeps_by rules current es)) a b → ChangesOnly (MayExpire stanza) a b
touch_expires stanza labels rules current es a b p = only_wide (MayTouch stanza labels (keeps_by rules current es)) (MayExpire stanza) a b wider p
  where
    wider : (n : Name) → MayTouch stanza labels (keeps_by rules current es) n → MayExpire stanza n
    wider n (inl h) = inl h
    wider n (inr (inl u)) = inr (inl (record { label = u.label; is_label = u.is_label; below = u.below }))
    wider n (inr (inr u)) = inr (inr (record { id = u.id; file = u.file; sum = u.sum; fits = u.fits; is = u.is; passing = is_unkept rules current es u.id u.file u.not_kept }))

module _ (stanza : Text) (labels : List Label) (a b c d : DiskState) (saved : ChangesOnly (IsOfPair (backup_info stanza)) a.view b.view) where
  pub saved_beside : StaysBeside stanza a.view b.view
  saved_beside = pairs_beside stanza a.view b.view (only_wide (IsOfPair (backup_info stanza)) (IsOfPairs stanza) a.view b.view (λ n h. inr h) saved)

  pub saved_only : (keeps : ArchiveId → ArchiveName → Bool) → ChangesOnly (MayTouch stanza labels keeps) a.view b.view
  saved_only keeps = only_wide (IsOfPair (backup_info stanza)) (MayTouch stanza labels keeps) a.view b.view (λ n h. inl h) saved

  module _ (dropped : TakesAway (IsUnlisted stanza labels) b c) where
    pub dropped_beside : StaysBeside stanza a.view c.view
    dropped_beside = beside_on stanza a.view b.view c.view saved_beside
        (only_beside stanza (IsUnlisted stanza labels) b.view c.view (λ n u. in_label stanza u.label n u.below) (takes_only (IsUnlisted stanza labels) b c dropped))

    pub dropped_only : (keeps : ArchiveId → ArchiveName → Bool) → ChangesOnly (MayTouch stanza labels keeps) a.view c.view
    dropped_only keeps = only_on (MayTouch stanza labels keeps) a.view b.view c.view (saved_only keeps)
        (only_wide (IsUnlisted stanza labels) (MayTouch stanza labels keeps) b.view c.view (λ n u. inr (inl u)) (takes_only (IsUnlisted stanza labels) b c dropped))

    pub gone_beside : (keeps : ArchiveId → ArchiveName → Bool) → TakesAway (IsUnneeded stanza keeps) c d → StaysBeside stanza a.view d.view
    gone_beside keeps gone = beside_on stanza a.view c.view d.view dropped_beside
        (only_beside stanza (IsUnneeded stanza keeps) c.view d.view (λ n u. in_archive stanza n (id_text u.id ⫽ archive_text u.file (sum_text u.sum)) u.is) (takes_only (IsUnneeded stanza keeps) c d gone))

    pub gone_only : (keeps : ArchiveId → ArchiveName → Bool) → TakesAway (IsUnneeded stanza keeps) c d → ChangesOnly (MayTouch stanza labels keeps) a.view d.view
    gone_only keeps gone = only_on (MayTouch stanza labels keeps) a.view c.view d.view (dropped_only keeps)
        (only_wide (IsUnneeded stanza keeps) (MayTouch stanza labels keeps) c.view d.view (λ n u. inr (inr u)) (takes_only (IsUnneeded stanza keeps) c d gone))
