-- A new stanza at each crash.
use Rattle.std.proofs.Common.{◌≡◌, ◌⊎◌, ⊎_elim, inl, inr, Option, Some, None, refl, ◌∙◌, sym, subst}
use Rattle.std.specs.Prelude.{IsSome, IfSome}
use Rattle.base_devices.specs.Content.{Content}
use Rattle.base_devices.specs.Moments.{View, LeavesNoMore}
use Rattle.base_devices.specs.Crash.{Crash, Ends, NowChanges, FirstOf, AllOf}
use Rattle.base_devices.proofs.Nows.{known_as}
use Rattle.base_model.specs.declared.clusters.Cluster.{Cluster}
use Rattle.base_model.specs.Text.{Text}
use Rattle.base_model.specs.InfoFiles.{IsCluster, IsArchiveText}
use Rattle.base_model.specs.Pair.{PairIs, PairAbsent}
use Rattle.base_model.specs.Repository.{Repository}
use Rattle.base_model.specs.Represents.{Represents, IsVacant}
use Rattle.base_model.specs.Steps.{step, Create, new_stanza}
use Rattle.base_model.specs.Create.{pair_writes}
use Rattle.base_model.specs.Log.{Pair}
use Rattle.base_model.specs.Now.{NowRepresents, HasNewPairs}
use Rattle.base_model.specs.Steady.{IsSteady, EachImage}
use Rattle.base_model.proofs.Created.{created_part, created_whole}
use Rattle.base_model.proofs.Made.{now_of}
use Rattle.base_model.proofs.Steady.{created_moves, created_steady, steady_rests, prefix_moves}
use Rattle.repo_info.proofs.First.{first_archive_is, first_backup_is}
use Rattle.repo_stanza.specs.Synced.{AreSynced}
use Rattle.repo_stanza.specs.Pairs.{LacksStanza, PairsAgree}

-- what has no member has no value
pub no_pair : {V : Type 0} (IsTextOf : V → Text → Type 0) (f : Content) (name : Text) (v : V) → PairAbsent f name → PairIs IsTextOf f name v → ⊥
no_pair IsTextOf f name v absent (inl m) = let e : ◌≡◌ {A = Option Text} None (Some m.0) = sym absent.0 ∙ m.1 in cc
no_pair IsTextOf f name v absent (inr q) = let e : ◌≡◌ {A = Option Text} None (Some q.1.0) = sym absent.1 ∙ q.1.1 in cc

no_stanza : (stanza : Text) (f : Content) (r : Repository) → LacksStanza stanza f → Represents stanza f r → r ≡ None
no_stanza stanza f None lacks represents = refl
no_stanza stanza f (Some s) lacks represents = absurd (no_pair IsArchiveText f _ _ lacks.archive represents.archive_pair)

vacant : (stanza : Text) (f : Content) (r : Repository) → Represents stanza f r → r ≡ None → IsVacant stanza f
vacant stanza f r represents e = let P : Repository → Type 0 = λ x. Represents stanza f x in subst P e represents

pub at_known : (P : Content → Type 0) (o : Option Content) (f : Content) → o ≡ Some f → IfSome o P → P f
at_known P o f is h = let Q : Option Content → Type 0 = λ x. IfSome x P in let at : Q (Some f) = subst Q is h in at

-- a steady disk's four members aren't unsynced
pub are_synced : (stanza : Text) (r : Repository) (a : View) → IsSteady stanza r a → AreSynced stanza a
are_synced stanza r a steady = record {
  archive = steady.fixed _ (Pair (inl refl));
  archive_copy = steady.fixed _ (Pair (inr (inl refl)));
  backup = steady.fixed _ (Pair (inr (inr (inl refl))));
  backup_copy = steady.fixed _ (Pair (inr (inr (inr refl))));
}

-- the repository is without a stanza
pub none_now : (stanza : Text) (old : Option Content) → IfSome old (LacksStanza stanza) → (r : Repository) → IsSome old → NowRepresents stanza r old → r ≡ None
none_now stanza old lacks r some now = let f = known_as old some in no_stanza stanza f.0 r (at_known (LacksStanza stanza) old f.0 f.1 lacks) (now.represents f.0 f.1)

module _ (stanza : Text) (c : Cluster) (is_cluster : IsCluster c) (first : c.id ≡ 1) where
  -- what the disk holds
  module _ (old new : Option Content) (lacks : IfSome old (LacksStanza stanza)) where
    pub made_part : NowChanges (FirstOf (pair_writes stanza c)) old new → (r : Repository) → IsSome old → NowRepresents stanza r old → NowRepresents stanza r new ⊎ NowRepresents stanza (step r (Create c)) new
    made_part goes r some now =
        let f = known_as old some in
        let g = known_as new (goes.known some) in
        let none = none_now stanza old lacks r some now in
        ⊎_elim
        (λ (s : Represents stanza g.0 None). inl (subst (λ (x : Repository). NowRepresents stanza x new) (sym none) (now_of stanza None new g.0 g.1 s)))
        (λ (s : Represents stanza g.0 (Some (new_stanza c))). inr (subst (λ (x : Repository). NowRepresents stanza (step x (Create c)) new) (sym none) (now_of stanza (Some (new_stanza c)) new g.0 g.1 s)))
        (created_part stanza c (first_archive_is c is_cluster first) (first_backup_is c is_cluster first) f.0 (vacant stanza f.0 r (now.represents f.0 f.1) none) g.0 (goes.goes f.0 g.0 f.1 g.1))

    pub made_whole : NowChanges (AllOf (pair_writes stanza c)) old new → (r : Repository) → IsSome old → NowRepresents stanza r old → NowRepresents stanza (step r (Create c)) new
    made_whole goes r some now =
        let f = known_as old some in
        let g = known_as new (goes.known some) in
        let none = none_now stanza old lacks r some now in
        let s = created_whole stanza c (first_archive_is c is_cluster first) (first_backup_is c is_cluster first) f.0 (vacant stanza f.0 r (now.represents f.0 f.1) none) g.0 (goes.goes f.0 g.0 f.1 g.1) in
        subst (λ (x : Repository). NowRepresents stanza (step x (Create c)) new) (sym none) (now_of stanza (Some (new_stanza c)) new g.0 g.1 s)

  -- what may be left
  module _ (a d : View) (known : IsSome a.now) (lacks : IfSome a.now (LacksStanza stanza)) (crash : AreSynced stanza a → Crash (FirstOf (pair_writes stanza c)) a d) where
    none_of : (r : Repository) → IsSteady stanza r a → r ≡ None
    none_of r steady = none_now stanza a.now lacks r known (record { represents = λ f is. steady.represents f (inl is) })

    abbrev MadeBy : Repository → Type 0
    MadeBy r = EachImage stanza (λ g. Represents stanza g r ⊎ Represents stanza g (step r (Create c))) a d

    pub made_moves : (r : Repository) → IsSteady stanza r a → MadeBy r
    made_moves r steady =
        let none = none_of r steady in
        let s = subst (λ (x : Repository). IsSteady stanza x a) none steady in
        subst MadeBy (sym none) (created_moves stanza c (first_archive_is c is_cluster first) (first_backup_is c is_cluster first) a d s known (crash (are_synced stanza None a s)))

    pub made_steady : (AreSynced stanza a → Ends (AllOf (pair_writes stanza c)) a d) → (r : Repository) → IsSteady stanza r a → IsSteady stanza (step r (Create c)) d
    made_steady ends r steady =
        let none = none_of r steady in
        let s = subst (λ (x : Repository). IsSteady stanza x a) none steady in
        subst (λ (x : Repository). IsSteady stanza (step x (Create c)) d) (sym none) (created_steady stanza c (first_archive_is c is_cluster first) (first_backup_is c is_cluster first) a d s known (crash (are_synced stanza None a s)) (ends (are_synced stanza None a s)))

-- ---- from the disk as it was, over what was only read

module _ (stanza : Text) (old mid new : View) (rests : LeavesNoMore old mid) (same : mid.now ≡ old.now) where
  known_mid : IsSome old.now → IsSome mid.now
  known_mid some = subst (λ (o : Option Content). IsSome o) (sym same) some

  pub now_lifts : (P : Repository → Type 0) → ((r : Repository) → IsSome mid.now → NowRepresents stanza r mid.now → P r) → (r : Repository) → IsSome old.now → NowRepresents stanza r old.now → P r
  now_lifts P h r some now = h r (known_mid some) (subst (λ (o : Option Content). NowRepresents stanza r o) (sym same) now)

  pub moves_lift : (P : Repository → Content → Type 0) → ((r : Repository) (g : Content) → Represents stanza g r → P r g) → ((r : Repository) → IsSteady stanza r mid → IsSome mid.now → EachImage stanza (P r) mid new) → (r : Repository) → IsSteady stanza r old → IsSome old.now → EachImage stanza (P r) old new
  moves_lift P part h r steady some = prefix_moves stanza r (P r) old mid new rests steady (part r) (h r (steady_rests stanza r old mid rests same steady) (known_mid some))

  pub steady_lifts : (P : Repository → Repository) → ((r : Repository) → IsSteady stanza r mid → IsSome mid.now → IsSteady stanza (P r) new) → (r : Repository) → IsSteady stanza r old → IsSome old.now → IsSteady stanza (P r) new
  steady_lifts P h r steady some = h r (steady_rests stanza r old mid rests same steady) (known_mid some)

pub agreed_new : (stanza : Text) (c : Cluster) (now : Option Content) → IfSome now (HasNewPairs stanza c) → IfSome now (PairsAgree stanza)
agreed_new stanza c None h = tt
agreed_new stanza c (Some f) h = record {
  archive = (h.archive_copy ∙ sym h.archive, subst (λ (v : Option Text). IsSome v) (sym h.archive) refl);
  backup = (h.backup_copy ∙ sym h.backup, subst (λ (v : Option Text). IsSome v) (sym h.backup) refl);
}
