-- What the saving of the two longer texts makes of the repository.
use Rattle.std.proofs.Common.{◌≡◌, ◌⊎◌, inl, inr, ◌≤◌, length, Option, Some, None, refl, ap, ◌∙◌, sym, subst}
use Rattle.std.specs.Prelude.{IfSome, IfNone, IsSome}
use Rattle.base_devices.specs.Content.{Content, put}
use Rattle.base_devices.specs.Moments.{View}
use Rattle.base_devices.specs.Crash.{Crash, Ends, NowChanges, FirstOf, AllOf}
use Rattle.base_devices.proofs.Nows.{known_as}
use Rattle.base_model.specs.declared.clusters.Cluster.{Cluster}
use Rattle.base_model.specs.Text.{Text}
use Rattle.base_model.specs.Names.{archive_info, backup_info, copy_of}
use Rattle.base_model.specs.InfoFiles.{IsCluster, info_limit}
use Rattle.base_model.specs.Repository.{Repository}
use Rattle.base_model.specs.Represents.{Represents}
use Rattle.base_model.specs.Steps.{upgraded}
use Rattle.base_model.specs.Now.{NowRepresents}
use Rattle.base_model.specs.Steady.{IsSteady, EachImage}
use Rattle.base_model.specs.Values.{ArchiveInfo, BackupInfo}
use Rattle.base_model.proofs.NameLemmas.{copy_apart, pairs_apart, archive_backup_copy_apart, archive_copy_backup_apart, copies_apart}
use Rattle.base_model.proofs.Created.{put_other, put_same}
use Rattle.base_model.proofs.Temporary.{pair_lasts}
use Rattle.repo_stanza.specs.declared.control.Control.{Control}
use Rattle.repo_stanza.specs.ControlFile.{first_cluster}
use Rattle.repo_stanza.specs.Judging.{HasList, IsOf}
use Rattle.repo_stanza.specs.HealingPair.{archive_text, backup_text, HaveTexts}
use Rattle.repo_stanza.specs.Synced.{AreSynced}
use Rattle.repo_stanza.specs.Upgrading.{longer_archive, longer_list, stated_next, longer_backup_text, longer_archive_text, upgrade_writes}
use Rattle.repo_stanza.proofs.Upgradings.{added_part, added_whole, added_moves_of, added_steady_of}

pub at_none : {X : Type 0} (P : Type 0) (o : Option X) → o ≡ None → IfNone o P → P
at_none {X} P o is h = let Q : Option X → Type 0 = λ p. IfNone p P in let at : Q None = subst Q is h in at

-- all four members have the texts
have_texts : (stanza backup archive : Text) (f g : Content) → AllOf (upgrade_writes stanza backup archive) f g → HaveTexts stanza archive backup g
have_texts stanza backup archive f g w =
    let a = archive_info stanza in
    let b = backup_info stanza in
    let f1 = put b (Some backup) f in
    let f2 = put (copy_of b) (Some backup) f1 in
    let f3 = put a (Some archive) f2 in
    record {
      archive_pair = (
        w.same a (pair_lasts stanza _ (inl refl)) ∙ put_other (copy_of a) (Some archive) f3 a (copy_apart a) ∙ put_same a (Some archive) f2,
        w.same (copy_of a) (pair_lasts stanza _ (inr (inl refl))) ∙ put_same (copy_of a) (Some archive) f3,
      );
      backup_pair = (
        w.same b (pair_lasts stanza _ (inr (inr (inl refl))))
            ∙ put_other (copy_of a) (Some archive) f3 b (λ e. archive_copy_backup_apart stanza (sym e))
            ∙ put_other a (Some archive) f2 b (λ e. pairs_apart stanza (sym e))
            ∙ put_other (copy_of b) (Some backup) f1 b (copy_apart b) ∙ put_same b (Some backup) f,
        w.same (copy_of b) (pair_lasts stanza _ (inr (inr (inr refl))))
            ∙ put_other (copy_of a) (Some archive) f3 (copy_of b) (λ e. copies_apart stanza (sym e))
            ∙ put_other a (Some archive) f2 (copy_of b) (λ e. archive_backup_copy_apart stanza (sym e))
            ∙ put_same (copy_of b) (Some backup) f1,
      );
    }

now_have : (stanza backup archive : Text) (old new : Option Content) → IsSome old → NowChanges (AllOf (upgrade_writes stanza backup archive)) old new → IfSome new (HaveTexts stanza archive backup)
now_have stanza backup archive old None some goes = tt
now_have stanza backup archive old (Some g) some goes = let f = known_as old some in have_texts stanza backup archive f.0 g (goes.goes f.0 g f.1 refl)

module _ (stanza : Text) (known : Control) (a : ArchiveInfo) (w : BackupInfo) (cluster : Cluster) (next : cluster ≡ stated_next known a) (other : ¬ IsOf known a) (is_cluster : IsCluster cluster)
    (backup archive : Text) (backup_is : backup ≡ backup_text (longer_list w cluster)) (archive_is : archive ≡ archive_text (longer_archive a cluster))
    (backup_fits : length (backup_text (longer_list w cluster)) ≤ info_limit) (archive_fits : length (archive_text (longer_archive a cluster)) ≤ info_limit) where
  fits : IsCluster (stated_next known a)
  fits = subst IsCluster next is_cluster

  backup_short : length (longer_backup_text known a w) ≤ info_limit
  backup_short = subst (λ (c : Cluster). length (backup_text (longer_list w c)) ≤ info_limit) next backup_fits

  archive_short : length (longer_archive_text known a) ≤ info_limit
  archive_short = subst (λ (c : Cluster). length (archive_text (longer_archive a c)) ≤ info_limit) next archive_fits

  backup_same : backup ≡ longer_backup_text known a w
  backup_same = backup_is ∙ ap (λ (c : Cluster). backup_text (longer_list w c)) next

  archive_same : archive ≡ longer_archive_text known a
  archive_same = archive_is ∙ ap (λ (c : Cluster). archive_text (longer_archive a c)) next

  as_texts : (P : Text → Text → Type 0) → P backup archive → P (longer_backup_text known a w) (longer_archive_text known a)
  as_texts P p = subst (λ (x : Text). P x (longer_archive_text known a)) backup_same (subst (λ (y : Text). P backup y) archive_same p)

  module _ (old new : View) (has : IfSome old.now (λ f. HasList stanza f a w)) where
    pub saved_part : NowChanges (FirstOf (upgrade_writes stanza backup archive)) old.now new.now → (r : Repository) → IsSome old.now → NowRepresents stanza r old.now → NowRepresents stanza r new.now ⊎ NowRepresents stanza (upgraded (first_cluster known) r) new.now
    saved_part goes = added_part stanza known a w other fits backup_short archive_short old new has (as_texts (λ x y. NowChanges (FirstOf (upgrade_writes stanza x y)) old.now new.now) goes)

    pub saved_done : NowChanges (AllOf (upgrade_writes stanza backup archive)) old.now new.now → (r : Repository) → IsSome old.now → NowRepresents stanza r old.now → NowRepresents stanza (upgraded (first_cluster known) r) new.now
    saved_done goes = added_whole stanza known a w other fits backup_short archive_short old new has (as_texts (λ x y. NowChanges (AllOf (upgrade_writes stanza x y)) old.now new.now) goes)

    pub saved_moves : (AreSynced stanza old → Crash (FirstOf (upgrade_writes stanza backup archive)) old new) → (r : Repository) → IsSteady stanza r old → IsSome old.now → EachImage stanza (λ g. Represents stanza g r ⊎ Represents stanza g (upgraded (first_cluster known) r)) old new
    saved_moves crash = added_moves_of stanza known a w other fits backup_short archive_short old new has (as_texts (λ x y. AreSynced stanza old → Crash (FirstOf (upgrade_writes stanza x y)) old new) crash)

    pub saved_steady : (AreSynced stanza old → Crash (FirstOf (upgrade_writes stanza backup archive)) old new) → (AreSynced stanza old → Ends (AllOf (upgrade_writes stanza backup archive)) old new) → (r : Repository) → IsSteady stanza r old → IsSome old.now → IsSteady stanza (upgraded (first_cluster known) r) new
    saved_steady crash ends = added_steady_of stanza known a w other fits backup_short archive_short old new has
        (as_texts (λ x y. AreSynced stanza old → Crash (FirstOf (upgrade_writes stanza x y)) old new) crash) (as_texts (λ x y. AreSynced stanza old → Ends (AllOf (upgrade_writes stanza x y)) old new) ends)

    pub saved_texts : NowChanges (AllOf (upgrade_writes stanza backup archive)) old.now new.now → IsSome old.now → IfSome new.now (HaveTexts stanza (longer_archive_text known a) (longer_backup_text known a w))
    saved_texts goes some = now_have stanza (longer_backup_text known a w) (longer_archive_text known a) old.now new.now some (as_texts (λ x y. NowChanges (AllOf (upgrade_writes stanza x y)) old.now new.now) goes)
