-- From the writes of a new stanza to its Create.
use Rattle.std.proofs.Common.{◌≡◌, ◌⊎◌, ⊎_elim, inl, inr, Option, Some, None, refl, ◌∙◌, sym, subst, arith, true, is_none}
use Rattle.std.specs.Prelude.{IsSome, IfSome}
use Rattle.std.proofs.lemmas.Grind.{common_steps}
use Rattle.base_devices.specs.Content.{Content, put}
use Rattle.base_devices.specs.Crash.{FirstOf, AllOf, NowChanges}
use Rattle.base_devices.proofs.Nows.{known_as}
use Rattle.base_model.specs.declared.clusters.Cluster.{Cluster}
use Rattle.base_model.specs.Text.{Text}
use Rattle.base_model.specs.Names.{archive_info, backup_info, copy_of}
use Rattle.base_model.specs.InfoFiles.{IsArchiveText, IsBackupText}
use Rattle.base_model.specs.Pair.{MemberIs}
use Rattle.base_model.specs.Repository.{Repository}
use Rattle.base_model.specs.Represents.{Represents, IsVacant}
use Rattle.base_model.specs.Steps.{step, Create, new_stanza}
use Rattle.base_model.specs.Create.{first_archive, first_backup, first_archive_text, first_backup_text, pair_writes, lacks_pairs}
use Rattle.base_model.specs.Now.{NowRepresents, HasNewPairs}
use Rattle.base_model.proofs.NameLemmas.{copy_apart, archive_backup_copy_apart, archive_copy_backup_apart, copies_apart, pairs_apart}
use Rattle.base_model.proofs.Temporary.{pair_lasts}
use Rattle.base_model.proofs.Created.{created_part, created_whole, put_other, put_same}

absent_member : {V : Type 0} (IsTextOf : V → Text → Type 0) (f : Content) (name : Text) (v : V) → is_none (f name) ≡ true → ¬ MemberIs IsTextOf f name v
absent_member IsTextOf f name v none m = let e : is_none (Some m.0) ≡ true = subst (λ o. is_none o ≡ true) m.1 none in cc

-- a stanza has a member of its archive pair
pub no_stanza : (stanza : Text) (f : Content) (r : Repository) → lacks_pairs stanza f ≡ true → Represents stanza f r → r ≡ None
no_stanza stanza f None lacks represents = refl
no_stanza stanza f (Some s) lacks represents =
    let main : is_none (f (archive_info stanza)) ≡ true = grind (arith, common_steps) in
    let copy : is_none (f (copy_of (archive_info stanza))) ≡ true = grind (arith, common_steps) in
    absurd (⊎_elim (absent_member IsArchiveText f _ _ main) (λ m. absent_member IsArchiveText f _ _ copy m.1) represents.archive_pair)

vacant : (stanza : Text) (f : Content) (r : Repository) → Represents stanza f r → r ≡ None → IsVacant stanza f
vacant stanza f r represents e = let P : Repository → Type 0 = λ x. Represents stanza f x in subst P e represents

pub now_of : (stanza : Text) (r : Repository) (o : Option Content) (g : Content) → o ≡ Some g → Represents stanza g r → NowRepresents stanza r o
now_of stanza r o g is represents = record { represents = λ f is'. subst (λ (h : Content). Represents stanza h r) (some_is f is') represents }
  where
    some_is : (f : Content) → o ≡ Some f → g ≡ f
    some_is f is' = let e : ◌≡◌ {A = Option Content} (Some g) (Some f) = sym is ∙ is' in cc

lacks_at : (o : Option Content) (f : Content) (stanza : Text) → o ≡ Some f → IfSome o (λ f. lacks_pairs stanza f ≡ true) → lacks_pairs stanza f ≡ true
lacks_at o f stanza is h = let P : Option Content → Type 0 = λ x. IfSome x (λ f. lacks_pairs stanza f ≡ true) in let at : P (Some f) = subst P is h in at

module _ (stanza : Text) (c : Cluster) (archive_is : IsArchiveText (first_archive c) (first_archive_text c)) (backup_is : IsBackupText (first_backup c) (first_backup_text c))
    (old new : Option Content) (lacks : IfSome old (λ f. lacks_pairs stanza f ≡ true)) where
  -- none of the writes or some leave the repository unchanged or make the stanza
  pub made_part : NowChanges (FirstOf (pair_writes stanza c)) old new → (r : Repository) → IsSome old → NowRepresents stanza r old → NowRepresents stanza r new ⊎ NowRepresents stanza (step r (Create c)) new
  made_part goes r some now =
      let f = known_as old some in
      let g = known_as new (goes.known some) in
      let none = no_stanza stanza f.0 r (lacks_at old f.0 stanza f.1 lacks) (now.represents f.0 f.1) in
      ⊎_elim
      (λ (s : Represents stanza g.0 None). inl (subst (λ (x : Repository). NowRepresents stanza x new) (sym none) (now_of stanza None new g.0 g.1 s)))
      (λ (s : Represents stanza g.0 (Some (new_stanza c))). inr (subst (λ (x : Repository). NowRepresents stanza (step x (Create c)) new) (sym none) (now_of stanza (Some (new_stanza c)) new g.0 g.1 s)))
      (created_part stanza c archive_is backup_is f.0 (vacant stanza f.0 r (now.represents f.0 f.1) none) g.0 (goes.goes f.0 g.0 f.1 g.1))

  -- all of them make it
  pub made_whole : NowChanges (AllOf (pair_writes stanza c)) old new → (r : Repository) → IsSome old → NowRepresents stanza r old → (r ≡ None) × NowRepresents stanza (step r (Create c)) new
  made_whole goes r some now =
      let f = known_as old some in
      let g = known_as new (goes.known some) in
      let none = no_stanza stanza f.0 r (lacks_at old f.0 stanza f.1 lacks) (now.represents f.0 f.1) in
      let s = created_whole stanza c archive_is backup_is f.0 (vacant stanza f.0 r (now.represents f.0 f.1) none) g.0 (goes.goes f.0 g.0 f.1 g.1) in
      (none, subst (λ (x : Repository). NowRepresents stanza (step x (Create c)) new) (sym none) (now_of stanza (Some (new_stanza c)) new g.0 g.1 s))

-- after all of them both members of both pairs have their texts
module _ (stanza : Text) (c : Cluster) (f g : Content) where
  abbrev archive : Option Text
  archive = Some (first_archive_text c)

  abbrev backup : Option Text
  backup = Some (first_backup_text c)

  abbrev f1 : Content
  f1 = put (backup_info stanza) backup f

  abbrev f2 : Content
  f2 = put (copy_of (backup_info stanza)) backup f1

  abbrev f3 : Content
  f3 = put (archive_info stanza) archive f2

  members_of : AllOf (pair_writes stanza c) f g → HasNewPairs stanza c g
  members_of w = record {
    archive = w.same (archive_info stanza) (pair_lasts stanza _ (inl refl))
        ∙ put_other (copy_of (archive_info stanza)) archive f3 (archive_info stanza) (copy_apart (archive_info stanza))
        ∙ put_same (archive_info stanza) archive f2;
    archive_copy = w.same (copy_of (archive_info stanza)) (pair_lasts stanza _ (inr (inl refl)))
        ∙ put_same (copy_of (archive_info stanza)) archive f3;
    backup = w.same (backup_info stanza) (pair_lasts stanza _ (inr (inr (inl refl))))
        ∙ put_other (copy_of (archive_info stanza)) archive f3 (backup_info stanza) (λ e. archive_copy_backup_apart stanza (sym e))
        ∙ put_other (archive_info stanza) archive f2 (backup_info stanza) (λ e. pairs_apart stanza (sym e))
        ∙ put_other (copy_of (backup_info stanza)) backup f1 (backup_info stanza) (copy_apart (backup_info stanza))
        ∙ put_same (backup_info stanza) backup f;
    backup_copy = w.same (copy_of (backup_info stanza)) (pair_lasts stanza _ (inr (inr (inr refl))))
        ∙ put_other (copy_of (archive_info stanza)) archive f3 (copy_of (backup_info stanza)) (λ e. copies_apart stanza (sym e))
        ∙ put_other (archive_info stanza) archive f2 (copy_of (backup_info stanza)) (λ e. archive_backup_copy_apart stanza (sym e))
        ∙ put_same (copy_of (backup_info stanza)) backup f1;
  }

pub made_members : (stanza : Text) (c : Cluster) (old new : Option Content) → IsSome old → NowChanges (AllOf (pair_writes stanza c)) old new → IfSome new (HasNewPairs stanza c)
made_members stanza c old None some goes = tt
made_members stanza c old (Some g) some goes = let f = known_as old some in members_of stanza c f.0 g (goes.goes f.0 g f.1 refl)
