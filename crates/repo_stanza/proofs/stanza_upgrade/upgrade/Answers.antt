use Rattle.std.proofs.Common.{◌≡◌, ◌⊎◌, inl, refl, ap, ◌∙◌, sym}
use Rattle.base_devices.specs.Content.{Content}
use Rattle.base_model.specs.declared.clusters.Cluster.{Cluster}
use Rattle.base_model.specs.InfoFiles.{IsCluster}
use Rattle.base_model.specs.Represents.{Represents}
use Rattle.base_model.specs.Steps.{upgraded}
use Rattle.base_model.specs.Values.{archive_info_of, backup_info_of}
use Rattle.base_model.proofs.Steady.{rests_moves}
use Rattle.repo_stanza.specs.ControlFile.{first_cluster}
use Rattle.repo_stanza.specs.Judging.{IsOf}
use Rattle.repo_stanza.specs.HealingPair.{archive_text, backup_text}
use Rattle.repo_stanza.specs.Upgrading.{stated_next, longer_archive_text, longer_backup_text}
use Rattle.repo_stanza.proofs.SameStanza.{some_of, agreed}
use Rattle.repo_stanza.proofs.SavedTexts.{at_none, saved_part, saved_done, saved_moves, saved_steady, saved_texts}
use Rattle.repo_stanza.proofs.Upgradings.{rests_self, kept_part, kept_done, kept_moves, kept_steady}
use Rattle.repo_stanza.proofs.stanza_upgrade.upgrade.Goals as goal

pub longer_texts-requires-clause-same : goal.longer_texts-requires-clause-same
longer_texts-requires-clause-same g c = c.requires.same

pub returns-in_err-next_cluster-clause-moves : goal.returns-in_err-next_cluster-clause-moves
returns-in_err-next_cluster-clause-moves g c = λ r steady some. rests_moves c.args.stanza.now r (λ (f : Content). Represents c.args.stanza.now f r ⊎ Represents c.args.stanza.now f (upgraded (first_cluster c.args.control.now) r)) (g.D.Disk.state c.args.d.now).view (g.D.Disk.state c.args.d.now).view (rests_self (g.D.Disk.state c.args.d.now).view) refl steady some (λ f h. inl h)

pub returns-in_err-texts-in-Some-clause-moves : goal.returns-in_err-texts-in-Some-clause-moves
returns-in_err-texts-in-Some-clause-moves g c = λ r steady some. rests_moves c.args.stanza.now r (λ (f : Content). Represents c.args.stanza.now f r ⊎ Represents c.args.stanza.now f (upgraded (first_cluster c.args.control.now) r)) (g.D.Disk.state c.args.d.now).view (g.D.Disk.state c.args.d.now).view (rests_self (g.D.Disk.state c.args.d.now).view) refl steady some (λ f h. inl h)

pub returns-in_err-keep_stanza-in-None-clause-part : goal.returns-in_err-keep_stanza-in-None-clause-part
returns-in_err-keep_stanza-in-None-clause-part g c = kept_part c.args.stanza.now c.args.control.now (archive_info_of c.args.archive) (backup_info_of c.args.list) (at_none (IsOf c.args.control.now (archive_info_of c.args.archive)) _ c.in-None.is c.in_ok-next_cluster.ensures.current) (g.D.Disk.state c.args.d.now).view (g.D.Disk.state c.keep_stanza.new.d).view c.requires.list c.keep_stanza.ensures.now_part

pub returns-in_err-keep_stanza-in-None-clause-moves : goal.returns-in_err-keep_stanza-in-None-clause-moves
returns-in_err-keep_stanza-in-None-clause-moves g c = kept_moves c.args.stanza.now c.args.control.now (archive_info_of c.args.archive) (backup_info_of c.args.list) (at_none (IsOf c.args.control.now (archive_info_of c.args.archive)) _ c.in-None.is c.in_ok-next_cluster.ensures.current) (g.D.Disk.state c.args.d.now).view (g.D.Disk.state c.keep_stanza.new.d).view c.requires.list c.keep_stanza.ensures.crash

pub returns-in_ok-keep_stanza-in-None-clause-part : goal.returns-in_ok-keep_stanza-in-None-clause-part
returns-in_ok-keep_stanza-in-None-clause-part g c = kept_part c.args.stanza.now c.args.control.now (archive_info_of c.args.archive) (backup_info_of c.args.list) (at_none (IsOf c.args.control.now (archive_info_of c.args.archive)) _ c.in-None.is c.in_ok-next_cluster.ensures.current) (g.D.Disk.state c.args.d.now).view (g.D.Disk.state c.keep_stanza.new.d).view c.requires.list c.keep_stanza.ensures.now_part

pub returns-in_ok-keep_stanza-in-None-clause-done : goal.returns-in_ok-keep_stanza-in-None-clause-done
returns-in_ok-keep_stanza-in-None-clause-done g c = kept_done c.args.stanza.now c.args.control.now (archive_info_of c.args.archive) (backup_info_of c.args.list) (at_none (IsOf c.args.control.now (archive_info_of c.args.archive)) _ c.in-None.is c.in_ok-next_cluster.ensures.current) (g.D.Disk.state c.args.d.now).view (g.D.Disk.state c.keep_stanza.new.d).view c.requires.list c.keep_stanza.ensures.now_part

pub returns-in_ok-keep_stanza-in-None-clause-moves : goal.returns-in_ok-keep_stanza-in-None-clause-moves
returns-in_ok-keep_stanza-in-None-clause-moves g c = kept_moves c.args.stanza.now c.args.control.now (archive_info_of c.args.archive) (backup_info_of c.args.list) (at_none (IsOf c.args.control.now (archive_info_of c.args.archive)) _ c.in-None.is c.in_ok-next_cluster.ensures.current) (g.D.Disk.state c.args.d.now).view (g.D.Disk.state c.keep_stanza.new.d).view c.requires.list c.keep_stanza.ensures.crash

pub returns-in_ok-keep_stanza-in-None-clause-made : goal.returns-in_ok-keep_stanza-in-None-clause-made
returns-in_ok-keep_stanza-in-None-clause-made g c = kept_steady c.args.stanza.now c.args.control.now (archive_info_of c.args.archive) (backup_info_of c.args.list) (at_none (IsOf c.args.control.now (archive_info_of c.args.archive)) _ c.in-None.is c.in_ok-next_cluster.ensures.current) (g.D.Disk.state c.args.d.now).view (g.D.Disk.state c.keep_stanza.new.d).view c.requires.list c.keep_stanza.ensures.crash

pub returns-in_err-save_texts-in-Some-clause-part : goal.returns-in_err-save_texts-in-Some-clause-part
returns-in_err-save_texts-in-Some-clause-part g c = saved_part c.args.stanza.now c.args.control.now (archive_info_of c.args.archive) (backup_info_of c.args.list) c.in-Some.cluster (some_of (λ (x : Cluster). x ≡ stated_next c.args.control.now (archive_info_of c.args.archive)) _ c.in-Some.cluster c.in-Some.is c.in_ok-next_cluster.ensures.next) (some_of (λ (x : Cluster). ¬ IsOf c.args.control.now (archive_info_of c.args.archive)) _ c.in-Some.cluster c.in-Some.is c.in_ok-next_cluster.ensures.other) (some_of (IsCluster) _ c.in-Some.cluster c.in-Some.is c.in_ok-next_cluster.ensures.is_cluster) _ _ (c.deref.ensures.value ∙ c.in_ok-texts-in-Some.ensures.backup) (c.deref-in-Some.ensures.value ∙ c.in_ok-texts-in-Some.ensures.archive) c.in_ok-texts-in-Some.ensures.backup_within c.in_ok-texts-in-Some.ensures.archive_within (g.D.Disk.state c.args.d.now).view (g.D.Disk.state c.save_texts.new.d).view c.requires.list c.save_texts.ensures.now_part

pub returns-in_err-save_texts-in-Some-clause-moves : goal.returns-in_err-save_texts-in-Some-clause-moves
returns-in_err-save_texts-in-Some-clause-moves g c = saved_moves c.args.stanza.now c.args.control.now (archive_info_of c.args.archive) (backup_info_of c.args.list) c.in-Some.cluster (some_of (λ (x : Cluster). x ≡ stated_next c.args.control.now (archive_info_of c.args.archive)) _ c.in-Some.cluster c.in-Some.is c.in_ok-next_cluster.ensures.next) (some_of (λ (x : Cluster). ¬ IsOf c.args.control.now (archive_info_of c.args.archive)) _ c.in-Some.cluster c.in-Some.is c.in_ok-next_cluster.ensures.other) (some_of (IsCluster) _ c.in-Some.cluster c.in-Some.is c.in_ok-next_cluster.ensures.is_cluster) _ _ (c.deref.ensures.value ∙ c.in_ok-texts-in-Some.ensures.backup) (c.deref-in-Some.ensures.value ∙ c.in_ok-texts-in-Some.ensures.archive) c.in_ok-texts-in-Some.ensures.backup_within c.in_ok-texts-in-Some.ensures.archive_within (g.D.Disk.state c.args.d.now).view (g.D.Disk.state c.save_texts.new.d).view c.requires.list c.save_texts.ensures.crash

pub returns-in_ok-save_texts-in-Some-clause-part : goal.returns-in_ok-save_texts-in-Some-clause-part
returns-in_ok-save_texts-in-Some-clause-part g c = saved_part c.args.stanza.now c.args.control.now (archive_info_of c.args.archive) (backup_info_of c.args.list) c.in-Some.cluster (some_of (λ (x : Cluster). x ≡ stated_next c.args.control.now (archive_info_of c.args.archive)) _ c.in-Some.cluster c.in-Some.is c.in_ok-next_cluster.ensures.next) (some_of (λ (x : Cluster). ¬ IsOf c.args.control.now (archive_info_of c.args.archive)) _ c.in-Some.cluster c.in-Some.is c.in_ok-next_cluster.ensures.other) (some_of (IsCluster) _ c.in-Some.cluster c.in-Some.is c.in_ok-next_cluster.ensures.is_cluster) _ _ (c.deref.ensures.value ∙ c.in_ok-texts-in-Some.ensures.backup) (c.deref-in-Some.ensures.value ∙ c.in_ok-texts-in-Some.ensures.archive) c.in_ok-texts-in-Some.ensures.backup_within c.in_ok-texts-in-Some.ensures.archive_within (g.D.Disk.state c.args.d.now).view (g.D.Disk.state c.save_texts.new.d).view c.requires.list c.save_texts.ensures.now_part

pub returns-in_ok-save_texts-in-Some-clause-done : goal.returns-in_ok-save_texts-in-Some-clause-done
returns-in_ok-save_texts-in-Some-clause-done g c = saved_done c.args.stanza.now c.args.control.now (archive_info_of c.args.archive) (backup_info_of c.args.list) c.in-Some.cluster (some_of (λ (x : Cluster). x ≡ stated_next c.args.control.now (archive_info_of c.args.archive)) _ c.in-Some.cluster c.in-Some.is c.in_ok-next_cluster.ensures.next) (some_of (λ (x : Cluster). ¬ IsOf c.args.control.now (archive_info_of c.args.archive)) _ c.in-Some.cluster c.in-Some.is c.in_ok-next_cluster.ensures.other) (some_of (IsCluster) _ c.in-Some.cluster c.in-Some.is c.in_ok-next_cluster.ensures.is_cluster) _ _ (c.deref.ensures.value ∙ c.in_ok-texts-in-Some.ensures.backup) (c.deref-in-Some.ensures.value ∙ c.in_ok-texts-in-Some.ensures.archive) c.in_ok-texts-in-Some.ensures.backup_within c.in_ok-texts-in-Some.ensures.archive_within (g.D.Disk.state c.args.d.now).view (g.D.Disk.state c.save_texts.new.d).view c.requires.list c.in_ok-save_texts-in-Some.ensures.now_whole

pub returns-in_ok-save_texts-in-Some-clause-moves : goal.returns-in_ok-save_texts-in-Some-clause-moves
returns-in_ok-save_texts-in-Some-clause-moves g c = saved_moves c.args.stanza.now c.args.control.now (archive_info_of c.args.archive) (backup_info_of c.args.list) c.in-Some.cluster (some_of (λ (x : Cluster). x ≡ stated_next c.args.control.now (archive_info_of c.args.archive)) _ c.in-Some.cluster c.in-Some.is c.in_ok-next_cluster.ensures.next) (some_of (λ (x : Cluster). ¬ IsOf c.args.control.now (archive_info_of c.args.archive)) _ c.in-Some.cluster c.in-Some.is c.in_ok-next_cluster.ensures.other) (some_of (IsCluster) _ c.in-Some.cluster c.in-Some.is c.in_ok-next_cluster.ensures.is_cluster) _ _ (c.deref.ensures.value ∙ c.in_ok-texts-in-Some.ensures.backup) (c.deref-in-Some.ensures.value ∙ c.in_ok-texts-in-Some.ensures.archive) c.in_ok-texts-in-Some.ensures.backup_within c.in_ok-texts-in-Some.ensures.archive_within (g.D.Disk.state c.args.d.now).view (g.D.Disk.state c.save_texts.new.d).view c.requires.list c.save_texts.ensures.crash

pub returns-in_ok-save_texts-in-Some-clause-made : goal.returns-in_ok-save_texts-in-Some-clause-made
returns-in_ok-save_texts-in-Some-clause-made g c = saved_steady c.args.stanza.now c.args.control.now (archive_info_of c.args.archive) (backup_info_of c.args.list) c.in-Some.cluster (some_of (λ (x : Cluster). x ≡ stated_next c.args.control.now (archive_info_of c.args.archive)) _ c.in-Some.cluster c.in-Some.is c.in_ok-next_cluster.ensures.next) (some_of (λ (x : Cluster). ¬ IsOf c.args.control.now (archive_info_of c.args.archive)) _ c.in-Some.cluster c.in-Some.is c.in_ok-next_cluster.ensures.other) (some_of (IsCluster) _ c.in-Some.cluster c.in-Some.is c.in_ok-next_cluster.ensures.is_cluster) _ _ (c.deref.ensures.value ∙ c.in_ok-texts-in-Some.ensures.backup) (c.deref-in-Some.ensures.value ∙ c.in_ok-texts-in-Some.ensures.archive) c.in_ok-texts-in-Some.ensures.backup_within c.in_ok-texts-in-Some.ensures.archive_within (g.D.Disk.state c.args.d.now).view (g.D.Disk.state c.save_texts.new.d).view c.requires.list c.save_texts.ensures.crash c.in_ok-save_texts-in-Some.ensures.whole

pub returns-in_ok-save_texts-in-Some-clause-members : goal.returns-in_ok-save_texts-in-Some-clause-members
returns-in_ok-save_texts-in-Some-clause-members g c = saved_texts c.args.stanza.now c.args.control.now (archive_info_of c.args.archive) (backup_info_of c.args.list) c.in-Some.cluster (some_of (λ (x : Cluster). x ≡ stated_next c.args.control.now (archive_info_of c.args.archive)) _ c.in-Some.cluster c.in-Some.is c.in_ok-next_cluster.ensures.next) (some_of (λ (x : Cluster). ¬ IsOf c.args.control.now (archive_info_of c.args.archive)) _ c.in-Some.cluster c.in-Some.is c.in_ok-next_cluster.ensures.other) (some_of (IsCluster) _ c.in-Some.cluster c.in-Some.is c.in_ok-next_cluster.ensures.is_cluster) _ _ (c.deref.ensures.value ∙ c.in_ok-texts-in-Some.ensures.backup) (c.deref-in-Some.ensures.value ∙ c.in_ok-texts-in-Some.ensures.archive) c.in_ok-texts-in-Some.ensures.backup_within c.in_ok-texts-in-Some.ensures.archive_within (g.D.Disk.state c.args.d.now).view (g.D.Disk.state c.save_texts.new.d).view c.requires.list c.in_ok-save_texts-in-Some.ensures.now_whole

pub returns-in_ok-save_texts-in-Some-clause-agrees : goal.returns-in_ok-save_texts-in-Some-clause-agrees
returns-in_ok-save_texts-in-Some-clause-agrees g c = λ some. agreed c.args.stanza.now (longer_archive_text c.args.control.now (archive_info_of c.args.archive)) (longer_backup_text c.args.control.now (archive_info_of c.args.archive) (backup_info_of c.args.list)) (g.D.Disk.state c.save_texts.new.d).view.now (saved_texts c.args.stanza.now c.args.control.now (archive_info_of c.args.archive) (backup_info_of c.args.list) c.in-Some.cluster (some_of (λ (x : Cluster). x ≡ stated_next c.args.control.now (archive_info_of c.args.archive)) _ c.in-Some.cluster c.in-Some.is c.in_ok-next_cluster.ensures.next) (some_of (λ (x : Cluster). ¬ IsOf c.args.control.now (archive_info_of c.args.archive)) _ c.in-Some.cluster c.in-Some.is c.in_ok-next_cluster.ensures.other) (some_of (IsCluster) _ c.in-Some.cluster c.in-Some.is c.in_ok-next_cluster.ensures.is_cluster) _ _ (c.deref.ensures.value ∙ c.in_ok-texts-in-Some.ensures.backup) (c.deref-in-Some.ensures.value ∙ c.in_ok-texts-in-Some.ensures.archive) c.in_ok-texts-in-Some.ensures.backup_within c.in_ok-texts-in-Some.ensures.archive_within (g.D.Disk.state c.args.d.now).view (g.D.Disk.state c.save_texts.new.d).view c.requires.list c.in_ok-save_texts-in-Some.ensures.now_whole some)
