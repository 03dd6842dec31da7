-- What stays alike in all that a crash leaves.
use Rattle.std.proofs.Common.{◌≡◌, ◌≢◌, ⊎_elim, inl, inr, [], Some, sym, subst, ◌∙◌}
use Rattle.std.specs.Prelude.{false, IsSome}
use Rattle.base_devices.specs.Content.{Name, Content, put}
use Rattle.base_devices.specs.Moments.{View, LeavesNoMore, is_unsynced}
use Rattle.base_devices.specs.Crash.{IsTemporary, Alike, Crash, Ends, IsAlikeAt, AllOf, SomeOf}
use Rattle.base_devices.proofs.Crashes.{crash_ends, crash_rests, some_none}
use Rattle.base_devices.proofs.Lasting.{still_synced}
use Rattle.base_devices.proofs.Nows.{known_as}
use Rattle.base_model.specs.Text.{Text}
use Rattle.base_model.specs.Names.{copy_of}
use Rattle.base_model.proofs.Begun.{old_leaves}
use Rattle.base_model.proofs.Created.{put_other, put_same}
use Rattle.base_model.proofs.NameLemmas.{copy_apart}
use Rattle.repo_pair.specs.Member.{IsMember, KeepsMembers}
use Rattle.repo_pair.proofs.HealsPair.{one}

module _ (these : Name → Type 0) (a b : View) where
  -- only was read
  pub looked_alike : LeavesNoMore a b → b.now ≡ a.now → IsAlikeAt these a → IsAlikeAt these b
  looked_alike rests same alike f g now leaves n is = alike f g (sym same ∙ now) (old_leaves a b rests g same leaves) n is

  -- the Step leaves their bytes alone
  pub ends_alike : (Step : Content → Content → Type 0) → ((f g : Content) → Step f g → (n : Name) → these n → g n ≡ f n) →
      Ends Step a b → IsSome a.now → IsAlikeAt these a → IsAlikeAt these b
  ends_alike Step kept ends some alike f g now leaves n is =
      let h = known_as a.now some in
      let x = ends.comes some f (inl now) in
      let y = ends.comes some g leaves in
      kept y.0 g y.2 n is ∙ (alike h.0 y.0 h.1 y.1 n is ∙ (sym (alike h.0 x.0 h.1 x.1 n is) ∙ sym (kept x.0 f x.2 n is)))

-- one member
module _ (name text : Text) (lasts : ¬ IsTemporary name) where
  -- it was written, and synced
  pub put_alike : (a b : View) → IsSome a.now → Ends (AllOf (one name text)) a b → IsAlikeAt (λ n. n ≡ name) b
  put_alike a b some ends f g now leaves n is =
      let x = ends.comes some f (inl now) in
      let y = ends.comes some g leaves in
      let has : (o h : Content) → AllOf (one name text) o h → h name ≡ Some text = λ o h all. all.same name lasts ∙ put_same name (Some text) o in
      subst (λ (m : Text). g m ≡ f m) (sym is) (has y.0 g y.2 ∙ sym (has x.0 f x.2))

  -- it was read before
  pub written_alike : (a b c : View) → LeavesNoMore a b → b.now ≡ a.now → (is_unsynced b name ≡ false → Ends (AllOf (one name text)) b c) → is_unsynced a name ≡ false → IsSome a.now → IsAlikeAt (λ n. n ≡ name) c
  written_alike a b c rests same written synced some =
      let reading = crash_rests (SomeOf []) a b (some_none []) rests same in
      put_alike b c (reading.known some) (written (still_synced (SomeOf []) a b name reading lasts synced))

-- another's bytes are left alone
beside_kept : (name text other : Text) → other ≢ name → ¬ IsTemporary other → (f g : Content) → SomeOf (one name text) f g → g other ≡ f other
beside_kept name text other apart lasts f g some = ⊎_elim
    (λ (p : Alike f g). p.same other lasts)
    (λ (p : Alike (put name (Some text) f) g). p.same other lasts ∙ put_other name (Some text) f other apart) some

beside_alike : (name text other : Text) → other ≢ name → ¬ IsTemporary other → (a b : View) → Crash (SomeOf (one name text)) a b → IsSome a.now → IsAlikeAt (λ n. n ≡ other) a → IsAlikeAt (λ n. n ≡ other) b
beside_alike name text other apart lasts a b crash some alike =
    ends_alike (λ n. n ≡ other) a b (SomeOf (one name text))
    (λ f g w n is. subst (λ (m : Text). g m ≡ f m) (sym is) (beside_kept name text other apart lasts f g w))
    (crash_ends (SomeOf (one name text)) a b crash) some alike

-- both members, the main one first
module _ (name text given : Text) (is : given ≡ copy_of name) (lasts : ¬ IsTemporary name) (copy_lasts : ¬ IsTemporary given) where
  apart : name ≢ given
  apart e = copy_apart name (e ∙ is)

  abbrev HealedPair : Text → View → View → Type 0
  HealedPair member old new = is_unsynced old member ≡ false → IsSome old.now → IsAlikeAt (λ n. n ≡ member) old → IsAlikeAt (λ n. n ≡ member) new

  abbrev Writes : Text → View → View → Type 0
  Writes member old new = is_unsynced old member ≡ false → Crash (SomeOf (one member text)) old new

  pub both_alike : (a b c : View) → Writes name a b → Writes given b c → HealedPair name a b → HealedPair given b c → KeepsMembers name a c
  both_alike a b c first second main copy main_synced copy_synced some alike =
      let p = first main_synced in
      let synced = still_synced (SomeOf (one name text)) a b given p copy_lasts (subst (λ (n : Text). is_unsynced a n ≡ false) (sym is) copy_synced) in
      let q = second synced in
      let of_main = main main_synced some (λ f g now leaves n e. alike f g now leaves n (inl e)) in
      let of_copy = beside_alike name text given (λ e. apart (sym e)) copy_lasts a b p some (λ f g now leaves n e. alike f g now leaves n (inr (e ∙ is))) in
      let main_end = beside_alike given text name apart lasts b c q (p.known some) of_main in
      let copy_end = copy synced (p.known some) of_copy in
      λ f g now leaves n here. ⊎_elim (λ (e : n ≡ name). main_end f g now leaves n e) (λ (e : n ≡ copy_of name). copy_end f g now leaves n (e ∙ sym is)) here

-- both were read before
pub members_on : (name : Text) (a b c : View) → ¬ IsTemporary name → ¬ IsTemporary (copy_of name) → LeavesNoMore a b → b.now ≡ a.now → KeepsMembers name b c → KeepsMembers name a c
members_on name a b c lasts copy_lasts rests same keeps main copy some alike =
    let reading = crash_rests (SomeOf []) a b (some_none []) rests same in
    keeps (still_synced (SomeOf []) a b name reading lasts main) (still_synced (SomeOf []) a b (copy_of name) reading copy_lasts copy)
    (reading.known some) (looked_alike (IsMember name) a b rests same alike)
