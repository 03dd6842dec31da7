-- Both members of the backup pair are alike at the end of an expiry.
use Rattle.std.proofs.Common.{◌≡◌, false, ⊎_elim, inl, inr, refl, ℕ, Bool, List, Option, Some, None, ap, ◌∙◌, sym, subst, arith, get_or}
use Rattle.std.specs.Prelude.{IfSome, IsSome, OnOk, Result, Ok, Err}
use Rattle.base_devices.specs.Content.{Name, Value, Content, at, put}
use Rattle.base_devices.specs.Moments.{View, LeavesNoMore, is_unsynced}
use Rattle.base_devices.specs.Crash.{AllOf, Ends, IsAlikeAt, IsTemporary, NowChanges}
use Rattle.base_devices.specs.States.{DiskState}
use Rattle.base_devices.proofs.Crashes.{crash_ends}
use Rattle.base_devices.proofs.Nows.{known_as}
use Rattle.base_disk.proofs.Images.{Law, put_other, put_same}
use Rattle.base_model.specs.declared.labels.Label.{Label}
use Rattle.base_model.specs.declared.wal.ArchiveId.{ArchiveId}
use Rattle.base_model.specs.declared.wal.ArchiveName.{ArchiveName}
use Rattle.base_model.specs.Create.{member_writes}
use Rattle.base_model.specs.Names.{backup_info, copy_of, label_folder}
use Rattle.base_model.specs.Log.{Pair}
use Rattle.base_model.specs.Text.{Text}
use Rattle.base_model.specs.Walks.{IsSynced}
use Rattle.base_model.proofs.BackupNames.{IsBackupMember, main_member, copy_member, below_label}
use Rattle.base_model.proofs.NameLemmas.{copy_apart}
use Rattle.base_model.proofs.Temporary.{pair_lasts}
use Rattle.base_model.proofs.Walking.{rests_synced}
use Rattle.repo_pair.specs.Member.{IsMember}
use Rattle.repo_pair.proofs.Lasts.{ends_alike}
use Rattle.repo_stanza.specs.Pairs.{AgreeAt}
use Rattle.repo_stanza.proofs.Alikes.{now_alike}
use Rattle.expire_make.specs.Losing.{Loses, TakesAway, IsUnlisted, IsUnneeded}
use Rattle.expire_make.proofs.LabelFolders.{below_is}
use Rattle.expire_make.proofs.Losses.{takes_crash, takes_goes}

alike_on : (main : Name) (x y : Option Content) → IsSome x → at main y ≡ at main x → at (copy_of main) y ≡ at (copy_of main) x → IfSome x (AgreeAt main) → IfSome y (AgreeAt main)
alike_on main x None known same same_copy alike = tt
alike_on main None (Some g) known same same_copy alike = let no : ◌≡◌ {A = Option Value} (Some (g main)) None = same in cc
alike_on main (Some f) (Some g) known same same_copy alike =
    let first : g main ≡ f main = cc in
    let second : g (copy_of main) ≡ f (copy_of main) = cc in
    (second ∙ alike.0 ∙ sym first, subst (λ (v : Value). IsSome v) (sym first) alike.1)

-- a text was written at both members, and synced
module _ (main : Name) (text : Text) (lasts : ¬ IsTemporary main) (copy_lasts : ¬ IsTemporary (copy_of main)) where
  written : (f g : Content) → AllOf (member_writes main text) f g → (n : Name) → IsMember main n → g n ≡ Some text
  written f g all n (inl e) = ap g e ∙ all.same main lasts ∙ put_other (copy_of main) (Some text) (put main (Some text) f) main (copy_apart main) ∙ put_same main (Some text) f
  written f g all n (inr e) = ap g e ∙ all.same (copy_of main) copy_lasts ∙ put_same (copy_of main) (Some text) (put main (Some text) f)

  written_alike : (a b : View) → IsSome a.now → Ends (AllOf (member_writes main text)) a b → IsAlikeAt (IsMember main) b
  written_alike a b some ends f g now leaves n is =
      let x = ends.comes some f (inl now) in
      let y = ends.comes some g leaves in
      written y.0 g y.2 n is ∙ sym (written x.0 f x.2 n is)

module _ (stanza text : Text) (labels : List Label) (keeps : ArchiveId → ArchiveName → Bool) (a b c d : DiskState) (saved : NowChanges (AllOf (member_writes (backup_info stanza) text)) a.view.now b.view.now)
    (dropped : TakesAway (IsUnlisted stanza labels) b c) (gone : TakesAway (IsUnneeded stanza keeps) c d) where
  unlisted_off : (n : Text) → IsBackupMember stanza n → IsUnlisted stanza labels n → ⊥
  unlisted_off n member u = let r = below_is (label_folder stanza u.label) n u.below in below_label stanza u.label r.0 member.0 member.2 (sym r.1 ∙ member.1)

  unneeded_off : (n : Text) → IsBackupMember stanza n → IsUnneeded stanza keeps n → ⊥
  unneeded_off n member u = let h : ◌≡◌ {A = ℕ} 97 98 = ap (λ (t : Text). get_or t 0 0) (sym u.is ∙ member.1) in omega arith

  -- a member stays as it was saved
  member_stays : (n : Text) → IsBackupMember stanza n → at n d.view.now ≡ at n b.view.now
  member_stays n member = ⊎_elim (λ e. e) (λ x. absurd (unneeded_off n member x.0)) (gone.now n) ∙ ⊎_elim (λ e. e) (λ x. absurd (unlisted_off n member x.0)) (dropped.now n)

  pub members_alike : IsSome a.view.now → IfSome d.view.now (AgreeAt (backup_info stanza))
  members_alike known = alike_on (backup_info stanza) b.view.now d.view.now (saved.known known)
      (member_stays (backup_info stanza) (main_member stanza)) (member_stays (copy_of (backup_info stanza)) (copy_member stanza))
      (now_alike (backup_info stanza) text (pair_lasts stanza (backup_info stanza) (inr (inr (inl refl)))) (pair_lasts stanza (copy_of (backup_info stanza)) (inr (inr (inr refl)))) (copy_apart (backup_info stanza)) a.view.now b.view.now known saved)

  -- the text is at the main member
  pub main_is : IsSome a.view.now → IfSome d.view.now (λ g. g (backup_info stanza) ≡ Some text)
  main_is some = has d.view.now (member_stays (backup_info stanza) (main_member stanza) ∙ at_b)
    where
      at_b : at (backup_info stanza) b.view.now ≡ Some (Some text)
      at_b =
          let f = known_as a.view.now some in
          let h = known_as b.view.now (saved.known some) in
          ap (at (backup_info stanza)) h.1 ∙ ap (λ (v : Value). Some v)
          (written (backup_info stanza) text (pair_lasts stanza (backup_info stanza) (inr (inr (inl refl)))) (pair_lasts stanza (copy_of (backup_info stanza)) (inr (inr (inr refl)))) f.0 h.0 (saved.goes f.0 h.0 f.1 h.1) (backup_info stanza) (inl refl))

      has : (o : Option Content) → at (backup_info stanza) o ≡ Some (Some text) → IfSome o (λ g. g (backup_info stanza) ≡ Some text)
      has None e = tt
      has (Some g) e = let k : ◌≡◌ {A = Option Value} (Some (g (backup_info stanza))) (Some (Some text)) = e in let same : g (backup_info stanza) ≡ Some text = cc in same

  is_member : (n : Text) → IsMember (backup_info stanza) n → IsBackupMember stanza n
  is_member n (inl e) = subst (λ (t : Text). IsBackupMember stanza t) (sym e) (main_member stanza)
  is_member n (inr e) = subst (λ (t : Text). IsBackupMember stanza t) (sym e) (copy_member stanza)

  -- other names are removed
  others_alike : (these : Name → Type 0) → ((n : Name) → IsBackupMember stanza n → these n → ⊥) → (x y : DiskState) → Law x.view → TakesAway these x y → IsSome x.view.now → IsAlikeAt (IsMember (backup_info stanza)) x.view → IsAlikeAt (IsMember (backup_info stanza)) y.view
  others_alike these off x y law takes some alike = ends_alike (IsMember (backup_info stanza)) x.view y.view (Loses these)
      (λ f g loses n is. ⊎_elim (λ (e : g n ≡ f n). e) (λ (z : these n × (g n ≡ None)). absurd (off n (is_member n is) z.0)) (loses n))
      (crash_ends (Loses these) x.view y.view (takes_crash these x y law takes)) some alike

  -- and so they are in all that a crash leaves
  pub members_last : Law b.view → Law c.view
      → (is_unsynced a.view (backup_info stanza) ≡ false → is_unsynced a.view (copy_of (backup_info stanza)) ≡ false → Ends (AllOf (member_writes (backup_info stanza) text)) a.view b.view)
      → IsSynced stanza a.view → IsSome a.view.now → IsAlikeAt (IsMember (backup_info stanza)) d.view
  members_last law_b law_c ends synced some =
      let known_b = saved.known some in
      let known_c = (takes_goes (IsUnlisted stanza labels) b c dropped).known known_b in
      let at_b = written_alike (backup_info stanza) text (pair_lasts stanza (backup_info stanza) (inr (inr (inl refl)))) (pair_lasts stanza (copy_of (backup_info stanza)) (inr (inr (inr refl)))) a.view b.view some
      (ends (synced.fixed (backup_info stanza) (Pair (inr (inr (inl refl))))) (synced.fixed (copy_of (backup_info stanza)) (Pair (inr (inr (inr refl)))))) in
      let at_c = others_alike (IsUnlisted stanza labels) unlisted_off b c law_b dropped known_b at_b in
      others_alike (IsUnneeded stanza keeps) unneeded_off c d law_c gone known_c at_c

pub always : {T E P : Type 0} (result : Result T E) → P → OnOk result P
always (Ok x) p = p
always (Err e) p = tt

-- after calls that only read
pub alike_after : (stanza : Text) (old mid new : Option Content) → mid ≡ old → {T E : Type 0} (result : Result T E) → OnOk result (IsSome mid → IfSome new (AgreeAt (backup_info stanza))) → OnOk result (IsSome old → IfSome new (AgreeAt (backup_info stanza)))
alike_after stanza old mid new same result h = subst (λ (o : Option Content). OnOk result (IsSome o → IfSome new (AgreeAt (backup_info stanza)))) same h

pub lasts_after : (stanza : Text) (a b d : View) → LeavesNoMore a b → b.now ≡ a.now → {T E : Type 0} (result : Result T E) → OnOk result (IsSynced stanza b → IsSome b.now → IsAlikeAt (IsMember (backup_info stanza)) d)
    → OnOk result (IsSynced stanza a → IsSome a.now → IsAlikeAt (IsMember (backup_info stanza)) d)
lasts_after stanza a b d rests same (Ok x) h = λ synced some. h (rests_synced stanza a b rests same synced) (subst (λ (o : Option Content). IsSome o) (sym same) some)
lasts_after stanza a b d rests same (Err e) h = tt
