-- Commands on a disk that represents one repository.
use Rattle.std.proofs.Common.{◌≡◌, ◌⊎◌, ⊎_elim, inl, inr, ℕ, ◌≤◌, List, [], ◌∷◌, Option, Some, None, refl, ap, ◌∙◌, sym, subst, arith, false}
use Rattle.std.specs.Prelude.{IsSome}
use Rattle.base_devices.specs.Content.{Content}
use Rattle.base_devices.specs.Moments.{View, IsImage, LeavesNoMore, is_unsynced}
use Rattle.base_devices.specs.Crash.{Leaves, Crash, Ends, FirstOf, AllOf}
use Rattle.base_model.specs.declared.clusters.Cluster.{Cluster}
use Rattle.base_model.specs.Names.{backup_info, copy_of}
use Rattle.base_model.specs.Pair.{PairIs, MemberIs, PairAbsent}
use Rattle.base_model.specs.Text.{Text, In}
use Rattle.base_model.specs.Values.{Entry, BackupInfo}
use Rattle.base_model.specs.InfoFiles.{IsArchiveText, IsBackupText}
use Rattle.base_model.specs.Repository.{Repository}
use Rattle.base_model.specs.Represents.{Represents, IsVacant, HasStanza, backup_value}
use Rattle.base_model.specs.Steps.{new_stanza}
use Rattle.base_model.specs.Create.{pair_writes, first_archive, first_backup, first_archive_text, first_backup_text}
use Rattle.base_model.specs.Log.{IsPlaceOf}
use Rattle.base_model.specs.Steady.{IsSteady, EachImage}
use Rattle.base_model.proofs.Marked.{mark, one_mark}
use Rattle.base_model.proofs.Begun.{either, between_image, old_leaves, still_synced}
use Rattle.base_model.proofs.Passing.{crash_moves, crash_steady}
use Rattle.base_model.proofs.Created.{created_part, created_whole}

-- calls that only read leave it so
pub steady_rests : (stanza : Text) (r : Repository) (a b : View) → LeavesNoMore a b → b.now ≡ a.now → IsSteady stanza r a → IsSteady stanza r b
steady_rests stanza r a b rests same s = record {
  fixed = λ n h. still_synced a b rests n (s.fixed n h);
  places = λ f leaves n h. still_synced a b rests n (s.places f (old_leaves a b rests f same leaves) n h);
  represents = λ f leaves. s.represents f (old_leaves a b rests f same leaves);
}

-- what holds of reading calls, as a command's way
pub rests_moves : (stanza : Text) (r : Repository) (P : Content → Type 0) (a b : View) → LeavesNoMore a b → b.now ≡ a.now → IsSteady stanza r a → IsSome a.now → ((g : Content) → Represents stanza g r → P g) → EachImage stanza P a b
rests_moves stanza r P a b rests same s known part = record {
  later = rests.later;
  past = rests.same;
  past_unsynced = rests.same_unsynced;
  known = subst (λ (o : Option Content). IsSome o) (sym same) known;
  fixed = (steady_rests stanza r a b rests same s).fixed;
  places = (steady_rests stanza r a b rests same s).places;
  leaves = λ t g lo hi leaves. part g (⊎_elim
      (λ (now : b.now ≡ Some g). s.represents g (inl (sym same ∙ now)))
      (λ image. s.represents g (inr (between_image a b rests t g lo hi image))) leaves);
}

-- reading calls before a command's way are part of it
module _ (stanza : Text) (r : Repository) (P : Content → Type 0) (a b d : View) (rests : LeavesNoMore a b) (steady : IsSteady stanza r a) (part : (g : Content) → Represents stanza g r → P g) (moves : EachImage stanza P b d) where
  -- an image of the time before is one of old
  first_image : (t : ℕ) (g : Content) → a.moment ≤ t → t ≤ b.moment → IsImage d t g → IsImage a a.moment g
  first_image t g lo hi image = between_image a b rests t g lo hi (λ n. ⊎_elim
      (λ k. inl (moves.past t n (g n) hi k))
      (λ l. inr (sym (moves.past_unsynced t n hi) ∙ l.0, l.1)) (image n))

  pub prefix_moves : EachImage stanza P a d
  prefix_moves = record {
    later = omega (arith, rests.later, moves.later);
    past = λ t n v le k. rests.same t n v le (moves.past t n v (omega (arith, le, rests.later)) k);
    past_unsynced = λ t n le. moves.past_unsynced t n (omega (arith, le, rests.later)) ∙ rests.same_unsynced t n le;
    known = moves.known;
    fixed = moves.fixed;
    places = moves.places;
    leaves = λ t g lo hi leaves. ⊎_elim (λ now. moves.leaves d.moment g moves.later (omega arith) (inl now))
        (λ image. ⊎_elim (λ (le : t ≤ b.moment). part g (steady.represents g (inr (first_image t g lo le image)))) (λ (ge : b.moment ≤ t). moves.leaves t g ge hi (inr image)) (either t b.moment)) leaves;
  }

one_member : (f : Content) (name : Text) (v w : BackupInfo) → MemberIs IsBackupText f name v → MemberIs IsBackupText f name w → mark v.backups ≡ mark w.backups
one_member f name v w m n =
    let e : ◌≡◌ {A = Option Text} (Some m.0) (Some n.0) = sym m.1 ∙ n.1 in
    let d : m.0 ≡ n.0 = cc in one_mark v w n.0 (subst (λ (b : Text). IsBackupText v b) d m.2) n.2

one_value : (f : Content) (name : Text) (v w : BackupInfo) → PairIs IsBackupText f name v → PairIs IsBackupText f name w → mark v.backups ≡ mark w.backups
one_value f name v w (inl m) (inl n) = one_member f name v w m n
one_value f name v w (inl m) (inr n) = absurd (n.0 v m)
one_value f name v w (inr m) (inl n) = absurd (m.0 w n)
one_value f name v w (inr m) (inr n) = one_member f (copy_of name) v w m.1 n.1

absent_pair : (f : Content) (name : Text) (v : BackupInfo) → PairAbsent f name → PairIs IsBackupText f name v → ⊥
absent_pair f name v p (inl m) = let e : ◌≡◌ {A = Option Text} None (Some m.0) = sym p.0 ∙ m.1 in cc
absent_pair f name v p (inr m) = let e : ◌≡◌ {A = Option Text} None (Some m.1.0) = sym p.1 ∙ m.1.1 in cc

none_in : (e : Entry) (es : List Entry) → mark es ≡ 100 → In e es → ⊥
none_in e [] h at = at
none_in e (x ∷ es) h at = let k : ◌≡◌ {A = ℕ} 98 100 = h in absurd (omega arith)

mark_none : (es : List Entry) → es ≡ [] → mark es ≡ 100
mark_none es e = ap mark e

-- neither of a new stanza's two repositories lists a backup
no_place_vacant : (stanza : Text) (f : Content) (n : Text) → IsVacant stanza f → IsPlaceOf stanza f n → ⊥
no_place_vacant stanza f n v p = ⊎_elim
    (λ (a : PairAbsent f (backup_info stanza)). absent_pair f (backup_info stanza) p.listed.0 a p.listed.1)
    (λ (x : (v : BackupInfo) × PairIs IsBackupText f (backup_info stanza) v × (v.backups ≡ [])).
    none_in p.listed.2.0 p.listed.0.backups (one_value f (backup_info stanza) p.listed.0 x.0 p.listed.1 x.1 ∙ mark_none x.0.backups x.2) p.listed.2.1) v.backup_pair

no_entries : (c : Cluster) (pending : Option Cluster) → mark (backup_value (new_stanza c) pending).backups ≡ 100
no_entries c None = refl
no_entries c (Some d) = refl

no_place_new : (stanza : Text) (f : Content) (n : Text) (c : Cluster) → HasStanza stanza f (new_stanza c) → IsPlaceOf stanza f n → ⊥
no_place_new stanza f n c h p = none_in p.listed.2.0 p.listed.0.backups
    (one_value f (backup_info stanza) p.listed.0 (backup_value (new_stanza c) h.pending) p.listed.1 h.backup_pair ∙ no_entries c h.pending) p.listed.2.1

module _ (stanza : Text) (c : Cluster) (archive_is : IsArchiveText (first_archive c) (first_archive_text c)) (backup_is : IsBackupText (first_backup c) (first_backup_text c)) (a d : View) (steady : IsSteady stanza None a) (known : IsSome a.now)
    (crash : Crash (FirstOf (pair_writes stanza c)) a d) where
  part : (f g : Content) → Represents stanza f None → FirstOf (pair_writes stanza c) f g → Represents stanza g None ⊎ Represents stanza g (Some (new_stanza c))
  part f g vacant w = created_part stanza c archive_is backup_is f vacant g w

  -- neither lists a backup
  no_places : (g : Content) → Leaves d d.moment g → (n : Text) → IsPlaceOf stanza g n → is_unsynced d n ≡ false
  no_places g leaves n p = let x = crash.comes known d.moment g crash.later (omega arith) leaves in
      absurd (⊎_elim (λ v. no_place_vacant stanza g n v p) (λ s. no_place_new stanza g n c s p) (part x.0 g (steady.represents x.0 x.1) x.2))

  pub created_moves : EachImage stanza (λ g. Represents stanza g None ⊎ Represents stanza g (Some (new_stanza c))) a d
  created_moves = crash_moves stanza None (FirstOf (pair_writes stanza c)) a d steady known crash (λ g. Represents stanza g None ⊎ Represents stanza g (Some (new_stanza c))) part no_places

  pub created_steady : Ends (AllOf (pair_writes stanza c)) a d → IsSteady stanza (Some (new_stanza c)) d
  created_steady ends = crash_steady stanza None (FirstOf (pair_writes stanza c)) a d steady known crash (AllOf (pair_writes stanza c)) ends (Some (new_stanza c)) (λ f g vacant w. created_whole stanza c archive_is backup_is f vacant g w) no_places
