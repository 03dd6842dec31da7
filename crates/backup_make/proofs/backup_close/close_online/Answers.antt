use Rattle.std.proofs.Common.{◌≡◌, option_map, Some, subst}
use Rattle.backup_sink.specs.Relation.{touches_same}
use Rattle.base_devices.specs.Content.{Content, at}
use Rattle.base_model.specs.Text.{Text}
use Rattle.backup_make.specs.Draft.{stanza_of, is_own_of, label_name}
use Rattle.backup_make.specs.Online.{online_of}
use Rattle.backup_make.specs.Staged.{fetched_draft, fetched_ends}
use Rattle.backup_make.proofs.Besides.{fetched_beside}
use Rattle.backup_make.proofs.Commits.{stays_stored}
use Rattle.backup_make.proofs.Labels.{apart}
use Rattle.backup_make.proofs.Stages.{label_staged}
use Rattle.backup_make.specs.Touched.{IsOfBackup}
use Rattle.backup_make.proofs.Touched.{touched_none, own_touched}
use Rattle.backup_make.proofs.backup_close.close_online.Goals as goal

pub returns-in_err-stop-clause-unlisted : goal.returns-in_err-stop-clause-unlisted
returns-in_err-stop-clause-unlisted g c =
    let d = fetched_draft c.args.fetched in
    let a = (g.D.Disk.state c.args.d.now).view in
    stays_stored d (apart d c.requires.fetched.is_draft) a a (g.met.D.Disk.now_may_be_left c.args.d.now) (touches_same (is_own_of d) a)

pub returns-in_err-store_label-clause-unlisted : goal.returns-in_err-store_label-clause-unlisted
returns-in_err-store_label-clause-unlisted g c =
    let d = fetched_draft c.args.fetched in
    stays_stored d (apart d c.requires.fetched.is_draft) _ _ (g.met.D.Disk.now_may_be_left c.args.d.now) c.store_label.ensures.touches

pub returns-in_err-store_label-clause-beside : goal.returns-in_err-store_label-clause-beside
returns-in_err-store_label-clause-beside g c = let d = fetched_draft c.args.fetched in fetched_beside (stanza_of d) d.label _ _ c.store_label.ensures.touches

pub returns-clause-unlisted : goal.returns-clause-unlisted
returns-clause-unlisted g c =
    let d = fetched_draft c.args.fetched in
    stays_stored d (apart d c.requires.fetched.is_draft) _ _ (g.met.D.Disk.now_may_be_left c.args.d.now) c.store_label.ensures.touches

pub returns-clause-beside : goal.returns-clause-beside
returns-clause-beside g c = let d = fetched_draft c.args.fetched in fetched_beside (stanza_of d) d.label _ _ c.store_label.ensures.touches

pub returns-clause-staged : goal.returns-clause-staged
returns-clause-staged g c links staged =
    let d = fetched_draft c.args.fetched in
    let a = (g.D.Disk.state c.args.d.now).view in
    let b = (g.D.Disk.state c.store_label.new.d).view in
    let o = online_of c.args.online in
    let value = subst (λ (t : Text). at (label_name d) b.now ≡ option_map (λ (x : Content). Some t) a.now) c.deref.ensures c.in_ok-store_label.ensures.value in
    label_staged d c.requires.fetched.is_draft c.requires.free o a b c.store_label.ensures.others value c.store_label.ensures.time c.in_ok-store_label.ensures.sealed links (fetched_ends c.args.fetched) staged

pub returns-in_err-stop-clause-only : goal.returns-in_err-stop-clause-only
returns-in_err-stop-clause-only g c = let d = fetched_draft c.args.fetched in touched_none (IsOfBackup (stanza_of d) d.label) (g.D.Disk.state c.args.d.now).view

pub returns-in_err-store_label-clause-only : goal.returns-in_err-store_label-clause-only
returns-in_err-store_label-clause-only g c = let d = fetched_draft c.args.fetched in own_touched (stanza_of d) d.label _ _ c.store_label.ensures.touches

pub returns-clause-only : goal.returns-clause-only
returns-clause-only g c = let d = fetched_draft c.args.fetched in own_touched (stanza_of d) d.label _ _ c.store_label.ensures.touches
