-- What the writes of an upgrade, or of its healing, make of the repository, whichever it is.
use Rattle.std.proofs.Common.{◌≡◌, ◌⊎◌, ⊎_elim, inl, inr, ℕ, ◌≤◌, List, [], ◌∷◌, length, Option, Some, None, refl, ap, ◌∙◌, sym, subst, Bool, true, false, arith}
use Rattle.std.specs.Prelude.{IfSome, IsSome, if◌then◌else◌}
use Rattle.std.proofs.Math.Nat.{le_refl, le_antisymm}
use Rattle.base_devices.specs.Content.{Content}
use Rattle.base_devices.specs.Moments.{View, LeavesNoMore}
use Rattle.base_devices.specs.Crash.{Crash, Ends, NowChanges, FirstOf, AllOf, SomeOf}
use Rattle.base_devices.proofs.Nows.{known_as}
use Rattle.base_model.specs.declared.clusters.Cluster.{Cluster}
use Rattle.base_model.specs.Text.{Text}
use Rattle.base_model.specs.InfoFiles.{IsCluster, info_limit}
use Rattle.base_model.specs.Repository.{Stanza, Repository}
use Rattle.base_model.specs.Represents.{Represents, HasStanza}
use Rattle.base_model.specs.Steps.{Move, One, Upgrade, Create, step, changed, after, all_of, is_current, next_cluster, upgraded}
use Rattle.base_model.specs.Now.{NowRepresents}
use Rattle.base_model.specs.Steady.{IsSteady, EachImage}
use Rattle.base_model.specs.Values.{ArchiveInfo, BackupInfo}
use Rattle.repo_stanza.specs.declared.control.Control.{Control}
use Rattle.repo_stanza.specs.ControlFile.{first_cluster}
use Rattle.repo_stanza.specs.Judging.{HasList, IsOf, KeepsStanza}
use Rattle.repo_stanza.specs.HealingPair.{archive_text, backup_text, mending_writes}
use Rattle.repo_stanza.specs.Synced.{AreSynced}
use Rattle.repo_stanza.specs.Upgrading.{stated_next, longer_backup_text, longer_archive_text, upgrade_writes}
use Rattle.repo_stanza.proofs.NewStanza.{at_known, are_synced}
use Rattle.repo_stanza.proofs.SameStanza.{same_part, same_done, same_moves, same_steady}
use Rattle.repo_stanza.proofs.Advanced.{advanced_moves, advanced_steady, advanced_part, advanced_whole}
use Rattle.repo_stanza.proofs.Nexts.{has_some, added_is, number, is_current_known, is_other_known, not_used, list_text_is, archive_text_next, keeps}

-- nothing was done
pub rests_self : (a : View) → LeavesNoMore a a
rests_self a = record {
  later = le_refl a.moment;
  same = λ t n v le k. k;
  stays = λ t n v le k. k;
  grows = λ t n v lo hi k. inl (subst (λ (m : ℕ). a.kept m n v) (le_antisymm hi lo) k);
  unsyncs = λ t n lo hi l. inl (subst (λ (m : ℕ). a.unsynced m n ≡ true) (le_antisymm hi lo) l);
  same_unsynced = λ t n le. refl;
}

-- ---- the repository with the cluster

kept_is : (c : Cluster) (s : Stanza) → is_current c s ≡ true → upgraded c (Some s) ≡ Some s
kept_is c s e = ap (λ (b : Bool). after (Some s) (all_of (if b then [] else One (Upgrade (next_cluster c s)) ∷ []))) e

added_to : (c : Cluster) (s : Stanza) → is_current c s ≡ false → upgraded c (Some s) ≡ Some (changed (Upgrade (next_cluster c s)) s)
added_to c s e = ap (λ (b : Bool). after (Some s) (all_of (if b then [] else One (Upgrade (next_cluster c s)) ∷ []))) e

module _ (stanza : Text) (known : Control) (a : ArchiveInfo) (w : BackupInfo) where
  abbrev c : Cluster
  c = first_cluster known

  -- ---- added

  module _ (other : ¬ IsOf known a) (is_cluster : IsCluster (stated_next known a)) (backup_fits : length (longer_backup_text known a w) ≤ info_limit) (archive_fits : length (longer_archive_text known a) ≤ info_limit) where
    abbrev backup : Text
    backup = longer_backup_text known a w

    abbrev archive : Text
    archive = longer_archive_text known a

    module _ (f : Content) (l : HasList stanza f a w) (s : Stanza) (h : HasStanza stanza f s) where
      abbrev next : Stanza
      next = changed (Upgrade (stated_next known a)) s

      pub next_is : upgraded c (Some s) ≡ Some next
      next_is = added_to c s (is_other_known stanza known f a w l s h other) ∙ ap (λ (d : Cluster). Some (changed (Upgrade d) s)) (sym (added_is stanza known f a w l s h))

      pub added_moves : (old new : View) → IsSteady stanza (Some s) old → IsSome old.now → Crash (FirstOf (upgrade_writes stanza backup archive)) old new → EachImage stanza (λ g. Represents stanza g (Some s) ⊎ Represents stanza g (Some next)) old new
      added_moves old new steady some crash = advanced_moves stanza s (stated_next known a) (number stanza known f a w l s h) (not_used stanza known f a w l s h) backup archive
          (list_text_is stanza known f a w l s h is_cluster backup_fits) (archive_text_next stanza known f a w l s h is_cluster archive_fits) old new steady some crash

      pub added_steady : (old new : View) → IsSteady stanza (Some s) old → IsSome old.now → Crash (FirstOf (upgrade_writes stanza backup archive)) old new → Ends (AllOf (upgrade_writes stanza backup archive)) old new → IsSteady stanza (Some next) new
      added_steady old new steady some crash ends = advanced_steady stanza s (stated_next known a) (number stanza known f a w l s h) (not_used stanza known f a w l s h) backup archive
          (list_text_is stanza known f a w l s h is_cluster backup_fits) (archive_text_next stanza known f a w l s h is_cluster archive_fits) old new steady some crash ends

      pub added_now : (old new : Option Content) → IsSome old → NowRepresents stanza (Some s) old → NowChanges (FirstOf (upgrade_writes stanza backup archive)) old new → NowRepresents stanza (Some s) new ⊎ NowRepresents stanza (Some next) new
      added_now old new some now goes = advanced_part stanza s (stated_next known a) (number stanza known f a w l s h) (not_used stanza known f a w l s h) backup archive
          (list_text_is stanza known f a w l s h is_cluster backup_fits) (archive_text_next stanza known f a w l s h is_cluster archive_fits) old new some now goes

      pub added_done : (old new : Option Content) → IsSome old → NowRepresents stanza (Some s) old → NowChanges (AllOf (upgrade_writes stanza backup archive)) old new → NowRepresents stanza (Some next) new
      added_done old new some now goes = advanced_whole stanza s (stated_next known a) (number stanza known f a w l s h) (not_used stanza known f a w l s h) backup archive
          (list_text_is stanza known f a w l s h is_cluster backup_fits) (archive_text_next stanza known f a w l s h is_cluster archive_fits) old new some now goes

    -- ---- whichever repository it is

    module _ (old new : View) (has : IfSome old.now (λ f. HasList stanza f a w)) where
      list_at : (f : Content) → old.now ≡ Some f → HasList stanza f a w
      list_at f is = at_known (λ f. HasList stanza f a w) old.now f is has

      pub added_part : NowChanges (FirstOf (upgrade_writes stanza backup archive)) old.now new.now → (r : Repository) → IsSome old.now → NowRepresents stanza r old.now → NowRepresents stanza r new.now ⊎ NowRepresents stanza (upgraded c r) new.now
      added_part goes r some now =
          let f = known_as old.now some in
          let l = list_at f.0 f.1 in
          let x = has_some stanza known f.0 a w l r (now.represents f.0 f.1) in
          let Q : Repository → Type 0 = λ q. NowRepresents stanza q new.now ⊎ NowRepresents stanza (upgraded c q) new.now in
          subst Q (sym x.1) (⊎_elim (λ (k : NowRepresents stanza (Some x.0) new.now). inl k)
          (λ (k : NowRepresents stanza (Some (next f.0 l x.0 x.2)) new.now). inr (subst (λ (q : Repository). NowRepresents stanza q new.now) (sym (next_is f.0 l x.0 x.2)) k))
          (added_now f.0 l x.0 x.2 old.now new.now some (subst (λ (q : Repository). NowRepresents stanza q old.now) x.1 now) goes))

      pub added_whole : NowChanges (AllOf (upgrade_writes stanza backup archive)) old.now new.now → (r : Repository) → IsSome old.now → NowRepresents stanza r old.now → NowRepresents stanza (upgraded c r) new.now
      added_whole goes r some now =
          let f = known_as old.now some in
          let l = list_at f.0 f.1 in
          let x = has_some stanza known f.0 a w l r (now.represents f.0 f.1) in
          subst (λ (q : Repository). NowRepresents stanza (upgraded c q) new.now) (sym x.1)
          (subst (λ (q : Repository). NowRepresents stanza q new.now) (sym (next_is f.0 l x.0 x.2))
          (added_done f.0 l x.0 x.2 old.now new.now some (subst (λ (q : Repository). NowRepresents stanza q old.now) x.1 now) goes))

      abbrev MovesBy : Repository → Type 0
      MovesBy r = EachImage stanza (λ g. Represents stanza g r ⊎ Represents stanza g (upgraded c r)) old new

      pub added_moves_of : (AreSynced stanza old → Crash (FirstOf (upgrade_writes stanza backup archive)) old new) → (r : Repository) → IsSteady stanza r old → IsSome old.now → MovesBy r
      added_moves_of crash r steady some =
          let f = known_as old.now some in
          let l = list_at f.0 f.1 in
          let x = has_some stanza known f.0 a w l r (steady.represents f.0 (inl f.1)) in
          let at : IsSteady stanza (Some x.0) old = subst (λ (q : Repository). IsSteady stanza q old) x.1 steady in
          let m = added_moves f.0 l x.0 x.2 old new at some (crash (are_synced stanza r old steady)) in
          subst MovesBy (sym x.1) (record {
            later = m.later;
            past = m.past;
            past_unsynced = m.past_unsynced;
            known = m.known;
            fixed = m.fixed;
            places = m.places;
            leaves = λ t g lo hi leaves. ⊎_elim (λ (k : Represents stanza g (Some x.0)). inl k)
                (λ (k : Represents stanza g (Some (next f.0 l x.0 x.2))). inr (subst (λ (q : Repository). Represents stanza g q) (sym (next_is f.0 l x.0 x.2)) k))
                (m.leaves t g lo hi leaves);
          })

      pub added_steady_of : (AreSynced stanza old → Crash (FirstOf (upgrade_writes stanza backup archive)) old new) → (AreSynced stanza old → Ends (AllOf (upgrade_writes stanza backup archive)) old new) → (r : Repository) → IsSteady stanza r old → IsSome old.now → IsSteady stanza (upgraded c r) new
      added_steady_of crash ends r steady some =
          let f = known_as old.now some in
          let l = list_at f.0 f.1 in
          let x = has_some stanza known f.0 a w l r (steady.represents f.0 (inl f.1)) in
          let at : IsSteady stanza (Some x.0) old = subst (λ (q : Repository). IsSteady stanza q old) x.1 steady in
          let tight = are_synced stanza r old steady in
          subst (λ (q : Repository). IsSteady stanza (upgraded c q) new) (sym x.1)
          (subst (λ (q : Repository). IsSteady stanza q new) (sym (next_is f.0 l x.0 x.2))
          (added_steady f.0 l x.0 x.2 old new at some (crash tight) (ends tight)))

  -- ---- kept

  module _ (of : IsOf known a) (old new : View) (has : IfSome old.now (λ f. HasList stanza f a w)) where
    each_keeps : (now : Option Content) → IfSome now (λ f. HasList stanza f a w) → IfSome now (λ f. KeepsStanza stanza known f a w)
    each_keeps None l = tt
    each_keeps (Some f) l = keeps stanza known f a w l of

    abbrev writes : Content → Content → Type 0
    writes = SomeOf (mending_writes stanza (archive_text a) (backup_text w))

    -- it is the one that is kept
    module _ (r : Repository) (f : Content) (is : old.now ≡ Some f) (stands : Represents stanza f r) where
      kept_stanza : (s : Stanza) × (r ≡ Some s) × (upgraded c r ≡ r) × (step r (Create c) ≡ r)
      kept_stanza =
          let l = at_known (λ f. HasList stanza f a w) old.now f is has in
          let x = has_some stanza known f a w l r stands in
          let current = is_current_known stanza known f a w l x.0 x.2 of in
          let Q : Repository → Type 0 = λ q. (s : Stanza) × (q ≡ Some s) × (upgraded c q ≡ q) × (step q (Create c) ≡ q) in
          subst Q (sym x.1) (x.0, refl, kept_is c x.0 current, refl)

    pub kept_done : NowChanges writes old.now new.now → (r : Repository) → IsSome old.now → NowRepresents stanza r old.now → NowRepresents stanza (upgraded c r) new.now
    kept_done goes r some now =
        let f = known_as old.now some in
        let k = kept_stanza r f.0 f.1 (now.represents f.0 f.1) in
        let n = same_done stanza known a w old old new (rests_self old) refl (each_keeps old.now has) c goes r some now in
        subst (λ (q : Repository). NowRepresents stanza q new.now) (k.3 ∙ sym k.2) n

    pub kept_part : NowChanges writes old.now new.now → (r : Repository) → IsSome old.now → NowRepresents stanza r old.now → NowRepresents stanza r new.now ⊎ NowRepresents stanza (upgraded c r) new.now
    kept_part goes r some now = inr (kept_done goes r some now)

    pub kept_moves : (AreSynced stanza old → Crash writes old new) → (r : Repository) → IsSteady stanza r old → IsSome old.now → EachImage stanza (λ g. Represents stanza g r ⊎ Represents stanza g (upgraded c r)) old new
    kept_moves crash r steady some =
        let f = known_as old.now some in
        let k = kept_stanza r f.0 f.1 (steady.represents f.0 (inl f.1)) in
        let m = same_moves stanza known a w old old new (rests_self old) refl (each_keeps old.now has) c crash r steady some in
        record {
          later = m.later;
          past = m.past;
          past_unsynced = m.past_unsynced;
          known = m.known;
          fixed = m.fixed;
          places = m.places;
          leaves = λ t g lo hi leaves. ⊎_elim (λ (x : Represents stanza g r). inl x)
              (λ (x : Represents stanza g (step r (Create c))). inl (subst (λ (q : Repository). Represents stanza g q) k.3 x))
              (m.leaves t g lo hi leaves);
        }

    pub kept_steady : (AreSynced stanza old → Crash writes old new) → (r : Repository) → IsSteady stanza r old → IsSome old.now → IsSteady stanza (upgraded c r) new
    kept_steady crash r steady some =
        let f = known_as old.now some in
        let k = kept_stanza r f.0 f.1 (steady.represents f.0 (inl f.1)) in
        let s = same_steady stanza known a w old old new (rests_self old) refl (each_keeps old.now has) c crash r steady some in
        subst (λ (q : Repository). IsSteady stanza q new) (k.3 ∙ sym k.2) s
