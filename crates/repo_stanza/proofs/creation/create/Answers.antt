use Rattle.std.proofs.Common.{◌⊎◌, inl, Option, subst, sym}
use Rattle.std.specs.Prelude.{IfSome, IsSome}
use Rattle.base_devices.specs.Content.{Content}
use Rattle.base_model.specs.Repository.{Repository}
use Rattle.base_model.specs.Represents.{Represents}
use Rattle.base_model.specs.Steps.{step, Create}
use Rattle.base_model.specs.Values.{archive_info_of, backup_info_of}
use Rattle.base_model.proofs.Steady.{rests_moves}
use Rattle.repo_stanza.specs.ControlFile.{first_cluster}
use Rattle.repo_stanza.specs.Judging.{KeepsStanza}
use Rattle.repo_stanza.specs.HealingPair.{archive_text, backup_text}
use Rattle.repo_stanza.specs.declared.pair_rules.PairValues.{PairValues}
use Rattle.repo_stanza.proofs.Owned.{looked_pairs, pairs_on}
use Rattle.repo_stanza.proofs.NewStanza.{moves_lift, steady_lifts}
use Rattle.repo_stanza.proofs.SameStanza.{some_of, same_part, same_done, same_moves, same_steady, same_of, agreed}
use Rattle.repo_stanza.proofs.creation.create.Goals as goal

pub returns-in_err-find_kept-clause-moves : goal.returns-in_err-find_kept-clause-moves
returns-in_err-find_kept-clause-moves g c = λ r steady some. rests_moves c.args.stanza.now r ((λ (r : Repository) (f : Content). Represents c.args.stanza.now f r ⊎ Represents c.args.stanza.now f (step r (Create (first_cluster c.args.control.now)))) r) _ _ c.find_kept.ensures.looks.time c.find_kept.ensures.looks.now steady some (λ f h. inl h)

pub returns-in_err-make_stanza-in-None-clause-moves : goal.returns-in_err-make_stanza-in-None-clause-moves
returns-in_err-make_stanza-in-None-clause-moves g c = moves_lift c.args.stanza.now _ _ _ c.find_kept.ensures.looks.time c.find_kept.ensures.looks.now (λ (r : Repository) (f : Content). Represents c.args.stanza.now f r ⊎ Represents c.args.stanza.now f (step r (Create (first_cluster c.args.control.now)))) (λ r f h. inl h) c.make_stanza.ensures.moves

pub returns-in_ok-make_stanza-in-None-clause-moves : goal.returns-in_ok-make_stanza-in-None-clause-moves
returns-in_ok-make_stanza-in-None-clause-moves g c = moves_lift c.args.stanza.now _ _ _ c.find_kept.ensures.looks.time c.find_kept.ensures.looks.now (λ (r : Repository) (f : Content). Represents c.args.stanza.now f r ⊎ Represents c.args.stanza.now f (step r (Create (first_cluster c.args.control.now)))) (λ r f h. inl h) c.make_stanza.ensures.moves

pub returns-in_ok-make_stanza-in-None-clause-made : goal.returns-in_ok-make_stanza-in-None-clause-made
returns-in_ok-make_stanza-in-None-clause-made g c = steady_lifts c.args.stanza.now _ _ _ c.find_kept.ensures.looks.time c.find_kept.ensures.looks.now (λ r. step r (Create (first_cluster c.args.control.now))) c.in_ok-make_stanza-in-None.ensures.made

pub returns-in_err-keep_stanza-in-Some-clause-part : goal.returns-in_err-keep_stanza-in-Some-clause-part
returns-in_err-keep_stanza-in-Some-clause-part g c =
    let k = some_of (λ (k : PairValues). IfSome (g.D.Disk.state c.args.d.now).view.now (λ (f : Content). KeepsStanza c.args.stanza.now c.args.control.now f (archive_info_of k.archive) (backup_info_of k.backup))) _ c.in-Some.kept c.in-Some.is c.in_ok-find_kept.ensures.kept in
    same_part c.args.stanza.now c.args.control.now (archive_info_of c.in-Some.kept.archive) (backup_info_of c.in-Some.kept.backup) (g.D.Disk.state c.args.d.now).view (g.D.Disk.state c.find_kept.new.d).view (g.D.Disk.state c.keep_stanza.new.d).view c.find_kept.ensures.looks.time c.find_kept.ensures.looks.now k (first_cluster c.args.control.now) c.keep_stanza.ensures.now_part

pub returns-in_err-keep_stanza-in-Some-clause-moves : goal.returns-in_err-keep_stanza-in-Some-clause-moves
returns-in_err-keep_stanza-in-Some-clause-moves g c =
    let k = some_of (λ (k : PairValues). IfSome (g.D.Disk.state c.args.d.now).view.now (λ (f : Content). KeepsStanza c.args.stanza.now c.args.control.now f (archive_info_of k.archive) (backup_info_of k.backup))) _ c.in-Some.kept c.in-Some.is c.in_ok-find_kept.ensures.kept in
    same_moves c.args.stanza.now c.args.control.now (archive_info_of c.in-Some.kept.archive) (backup_info_of c.in-Some.kept.backup) (g.D.Disk.state c.args.d.now).view (g.D.Disk.state c.find_kept.new.d).view (g.D.Disk.state c.keep_stanza.new.d).view c.find_kept.ensures.looks.time c.find_kept.ensures.looks.now k (first_cluster c.args.control.now) c.keep_stanza.ensures.crash

pub returns-in_ok-keep_stanza-in-Some-clause-part : goal.returns-in_ok-keep_stanza-in-Some-clause-part
returns-in_ok-keep_stanza-in-Some-clause-part g c =
    let k = some_of (λ (k : PairValues). IfSome (g.D.Disk.state c.args.d.now).view.now (λ (f : Content). KeepsStanza c.args.stanza.now c.args.control.now f (archive_info_of k.archive) (backup_info_of k.backup))) _ c.in-Some.kept c.in-Some.is c.in_ok-find_kept.ensures.kept in
    same_part c.args.stanza.now c.args.control.now (archive_info_of c.in-Some.kept.archive) (backup_info_of c.in-Some.kept.backup) (g.D.Disk.state c.args.d.now).view (g.D.Disk.state c.find_kept.new.d).view (g.D.Disk.state c.keep_stanza.new.d).view c.find_kept.ensures.looks.time c.find_kept.ensures.looks.now k (first_cluster c.args.control.now) c.keep_stanza.ensures.now_part

pub returns-in_ok-keep_stanza-in-Some-clause-done : goal.returns-in_ok-keep_stanza-in-Some-clause-done
returns-in_ok-keep_stanza-in-Some-clause-done g c =
    let k = some_of (λ (k : PairValues). IfSome (g.D.Disk.state c.args.d.now).view.now (λ (f : Content). KeepsStanza c.args.stanza.now c.args.control.now f (archive_info_of k.archive) (backup_info_of k.backup))) _ c.in-Some.kept c.in-Some.is c.in_ok-find_kept.ensures.kept in
    same_done c.args.stanza.now c.args.control.now (archive_info_of c.in-Some.kept.archive) (backup_info_of c.in-Some.kept.backup) (g.D.Disk.state c.args.d.now).view (g.D.Disk.state c.find_kept.new.d).view (g.D.Disk.state c.keep_stanza.new.d).view c.find_kept.ensures.looks.time c.find_kept.ensures.looks.now k (first_cluster c.args.control.now) c.keep_stanza.ensures.now_part

pub returns-in_ok-keep_stanza-in-Some-clause-moves : goal.returns-in_ok-keep_stanza-in-Some-clause-moves
returns-in_ok-keep_stanza-in-Some-clause-moves g c =
    let k = some_of (λ (k : PairValues). IfSome (g.D.Disk.state c.args.d.now).view.now (λ (f : Content). KeepsStanza c.args.stanza.now c.args.control.now f (archive_info_of k.archive) (backup_info_of k.backup))) _ c.in-Some.kept c.in-Some.is c.in_ok-find_kept.ensures.kept in
    same_moves c.args.stanza.now c.args.control.now (archive_info_of c.in-Some.kept.archive) (backup_info_of c.in-Some.kept.backup) (g.D.Disk.state c.args.d.now).view (g.D.Disk.state c.find_kept.new.d).view (g.D.Disk.state c.keep_stanza.new.d).view c.find_kept.ensures.looks.time c.find_kept.ensures.looks.now k (first_cluster c.args.control.now) c.keep_stanza.ensures.crash

pub returns-in_ok-keep_stanza-in-Some-clause-made : goal.returns-in_ok-keep_stanza-in-Some-clause-made
returns-in_ok-keep_stanza-in-Some-clause-made g c =
    let k = some_of (λ (k : PairValues). IfSome (g.D.Disk.state c.args.d.now).view.now (λ (f : Content). KeepsStanza c.args.stanza.now c.args.control.now f (archive_info_of k.archive) (backup_info_of k.backup))) _ c.in-Some.kept c.in-Some.is c.in_ok-find_kept.ensures.kept in
    same_steady c.args.stanza.now c.args.control.now (archive_info_of c.in-Some.kept.archive) (backup_info_of c.in-Some.kept.backup) (g.D.Disk.state c.args.d.now).view (g.D.Disk.state c.find_kept.new.d).view (g.D.Disk.state c.keep_stanza.new.d).view c.find_kept.ensures.looks.time c.find_kept.ensures.looks.now k (first_cluster c.args.control.now) c.keep_stanza.ensures.crash

pub returns-in_ok-keep_stanza-in-Some-clause-same : goal.returns-in_ok-keep_stanza-in-Some-clause-same
returns-in_ok-keep_stanza-in-Some-clause-same g c =
    let k = some_of (λ (k : PairValues). IfSome (g.D.Disk.state c.args.d.now).view.now (λ (f : Content). KeepsStanza c.args.stanza.now c.args.control.now f (archive_info_of k.archive) (backup_info_of k.backup))) _ c.in-Some.kept c.in-Some.is c.in_ok-find_kept.ensures.kept in
    same_of c.args.stanza.now c.args.control.now (archive_info_of c.in-Some.kept.archive) (backup_info_of c.in-Some.kept.backup) (g.D.Disk.state c.args.d.now).view (g.D.Disk.state c.find_kept.new.d).view (g.D.Disk.state c.keep_stanza.new.d).view c.find_kept.ensures.looks.time c.find_kept.ensures.looks.now k

pub returns-in_ok-keep_stanza-in-Some-clause-agrees : goal.returns-in_ok-keep_stanza-in-Some-clause-agrees
returns-in_ok-keep_stanza-in-Some-clause-agrees g c = λ some. agreed c.args.stanza.now (archive_text (archive_info_of c.in-Some.kept.archive)) (backup_text (backup_info_of c.in-Some.kept.backup)) _ (c.in_ok-keep_stanza-in-Some.ensures.healed_pair (subst (λ (o : Option Content). IsSome o) (sym c.find_kept.ensures.looks.now) some))

pub returns-in_err-find_kept-clause-only : goal.returns-in_err-find_kept-clause-only
returns-in_err-find_kept-clause-only g c = looked_pairs c.args.stanza.now _ _ c.find_kept.ensures.looks

pub returns-in_err-make_stanza-in-None-clause-only : goal.returns-in_err-make_stanza-in-None-clause-only
returns-in_err-make_stanza-in-None-clause-only g c = pairs_on c.args.stanza.now _ _ _ c.find_kept.ensures.looks c.make_stanza.ensures.only

pub returns-in_ok-make_stanza-in-None-clause-only : goal.returns-in_ok-make_stanza-in-None-clause-only
returns-in_ok-make_stanza-in-None-clause-only g c = pairs_on c.args.stanza.now _ _ _ c.find_kept.ensures.looks c.make_stanza.ensures.only

pub returns-in_err-keep_stanza-in-Some-clause-only : goal.returns-in_err-keep_stanza-in-Some-clause-only
returns-in_err-keep_stanza-in-Some-clause-only g c = pairs_on c.args.stanza.now _ _ _ c.find_kept.ensures.looks c.keep_stanza.ensures.only

pub returns-in_ok-keep_stanza-in-Some-clause-only : goal.returns-in_ok-keep_stanza-in-Some-clause-only
returns-in_ok-keep_stanza-in-Some-clause-only g c = pairs_on c.args.stanza.now _ _ _ c.find_kept.ensures.looks c.keep_stanza.ensures.only
