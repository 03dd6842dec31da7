-- What an expiry leaves at its end.
use Rattle.std.proofs.Common.{◌≡◌, refl, inl, ℕ, List, Option, Some, None, ap, ◌∙◌, sym, subst, ◌≤◌, length}
use Rattle.std.specs.Prelude.{IfSome, IsSome, OnOk, Result}
use Rattle.base_devices.specs.Content.{Name, Content}
use Rattle.base_devices.specs.Crash.{AllOf, NowChanges}
use Rattle.base_devices.specs.States.{DiskState}
use Rattle.base_disk.specs.Dropped.{IsAbsent}
use Rattle.base_disk.specs.Store.{ChangesOnly}
use Rattle.base_model.specs.declared.labels.Label.{Label}
use Rattle.base_model.specs.Create.{member_writes}
use Rattle.base_model.specs.InfoFiles.{IsBackupInfo, IsBackupText, info_limit}
use Rattle.base_model.specs.Names.{backup_info}
use Rattle.base_model.specs.Pair.{PairIs}
use Rattle.base_model.specs.Text.{Text, In}
use Rattle.base_model.specs.Values.{ArchiveInfo, BackupInfo}
use Rattle.expire_rules.specs.declared.rules.Rules.{Rules}
use Rattle.expire_rules.specs.Labels.{labels_of}
use Rattle.expire_make.specs.Emptying.{HasNoUnlisted, LeavesOf, LeavesListed}
use Rattle.expire_make.specs.Losing.{TakesAway, IsUnlisted, IsUnneeded, MayTouch}
use Rattle.expire_make.specs.Planning.{IsPlan, keeps_by, left_of, list_text}
use Rattle.expire_make.specs.Unneeded.{ids_in}
use Rattle.expire_make.proofs.Alike.{main_is}
use Rattle.expire_make.proofs.OneList.{same_list}
use Rattle.expire_make.proofs.Removals.{absent_stays}
use Rattle.expire_make.proofs.Spelled.{text_of}

module _ (stanza : Text) (rules : Rules) (archive : ArchiveInfo) (left : BackupInfo) (valid : IsBackupInfo left) (within : length (list_text left) ≤ info_limit) (a b c d : DiskState)
    (saved : NowChanges (AllOf (member_writes (backup_info stanza) (list_text left))) a.view.now b.view.now) (dropped : TakesAway (IsUnlisted stanza (labels_of left.backups)) b c) (gone : TakesAway (IsUnneeded stanza (keeps_by rules archive.current left.backups)) c d) where
  pair_is : (o : Option Content) → IfSome o (λ g. g (backup_info stanza) ≡ Some (list_text left)) → IfSome o (λ g. PairIs IsBackupText g (backup_info stanza) left)
  pair_is None h = tt
  pair_is (Some g) h = inl (list_text left, h, text_of left valid within)

  pub leaves_of : HasNoUnlisted stanza (labels_of left.backups) c → ((n : Name) → (u : IsUnneeded stanza (keeps_by rules archive.current left.backups) n) → In u.id (ids_in archive.history) → IsAbsent d.view.now n)
      → ChangesOnly (MayTouch stanza (labels_of left.backups) (keeps_by rules archive.current left.backups)) a.view d.view → IsSome a.view.now → LeavesOf stanza rules archive left a.view.now d.view.now
  leaves_of none files only known = record {
    list = pair_is d.view.now (main_is stanza (list_text left) (labels_of left.backups) (keeps_by rules archive.current left.backups) a b c d saved dropped gone known);
    folders = λ n u. absent_stays (IsUnneeded stanza (keeps_by rules archive.current left.backups)) c d n gone (none n u);
    files = files;
    others = only.now;
  }

-- what is planned is by the list that the pairs have
module _ (stanza : Text) (rules : Rules) (moment : ℕ) (labels : List Label) (w : BackupInfo) (archive : ArchiveInfo) (old new : Option Content) where
  pub leaves_listed : IfSome old (λ f. IsPlan stanza rules moment f labels w archive) → (IsSome old → LeavesOf stanza rules archive w old new) → LeavesListed stanza rules moment old new
  leaves_listed plan leaves f known list is has =
      let P : Option Content → Type 0 = λ x. IfSome x (λ f. IsPlan stanza rules moment f labels w archive) in
      let here : P (Some f) = subst P is plan in
      let same = same_list stanza f archive known here.list list here.has has in
      subst (λ (v : BackupInfo). LeavesOf stanza rules known v old new) (here.is_left ∙ ap (left_of rules moment) same.1)
      (subst (λ (r : ArchiveInfo). LeavesOf stanza rules r w old new) same.0 (leaves (subst (λ (o : Option Content). IsSome o) (sym is) refl)))

-- after calls that only read
pub leaves_after : (stanza : Text) (rules : Rules) (moment : ℕ) (old mid new : Option Content) → mid ≡ old → {T E : Type 0} (result : Result T E) → OnOk result (LeavesListed stanza rules moment mid new) → OnOk result (LeavesListed stanza rules moment old new)
leaves_after stanza rules moment old mid new same result h = subst (λ (o : Option Content). OnOk result (LeavesListed stanza rules moment o new)) same h
