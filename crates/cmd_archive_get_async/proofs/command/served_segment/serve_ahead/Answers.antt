use Rattle.std.proofs.Common.{rules, arith, ◌≡◌, inl, inr, refl, Bool, Ok, None, Option, Some, subst}
use Rattle.std.specs.Prelude.{IfSome}
use Rattle.base_model.specs.Values.{archive_info_of}
use Rattle.archive_lookup.specs.declared.stored.files.Stored.{Stored}
use Rattle.base_model.specs.Text.{Text}
use Rattle.cmd_archive_get.specs.Getting.{IsPut}
use Rattle.cmd_archive_get.specs.Looking.{IsLookedUp}
use Rattle.cmd_archive_get.proofs.Archived.{misses_archived}
use Rattle.cmd_archive_get.proofs.Left.{pair_left}
use Rattle.cmd_archive_get_async.specs.Names.{ahead_name}
use Rattle.cmd_archive_get_async.specs.Taking.{TakesAt}
use Rattle.cmd_archive_get_async.proofs.Alone.{twin_served}
use Rattle.cmd_archive_get_async.proofs.Served.{fails_after, kept_as, kept_after, lacks_sum, lacks_unsummed, lasts_after, known_within}
use Rattle.cmd_archive_get_async.proofs.Summed.{missing_by, taken_by, taken_changes, wanted_by}
use Rattle.cmd_archive_get_async.proofs.command.served_segment.serve_ahead.Goals as goal

-- ---- the repository doesn't have it

pub returns-in-Ok-None-clause-lasts : goal.returns-in-Ok-None-clause-lasts
returns-in-Ok-None-clause-lasts g c = λ synced some alike f leaves.
    let o = c.args.order.now in
    let stanza = c.args.stanza.now in
    let known = c.args.known.now in
    let looks = c.find_file.ensures.looks in
    let pair = pair_left stanza (g.D.Disk.state c.args.repo.now).view (g.D.Disk.state c.find_file.new.repo).view looks.time looks.now alike some (archive_info_of c.args.info.now) c.requires.pair f leaves in
    missing_by stanza o.folder.now o.word.now o.path.now (g.T.DataFolder.state c.args.tree.now).nodes o.name known o.wanted c.requires.shows (Some f)
    (subst (λ (r : Option Stored). IsLookedUp stanza known o.name r (Some f)) c.in-Ok-None.field-0-is (c.in-Ok-None.ensures.finds (Some f) (inr (synced, some, (f, refl, leaves))) pair))

pub returns-in-Ok-None-clause-given : goal.returns-in-Ok-None-clause-given
returns-in-Ok-None-clause-given g c = λ s some some_spool now alone.
    let o = c.args.order.now in
    let stanza = c.args.stanza.now in
    let known = c.args.known.now in
    let repo = (g.D.Disk.state c.args.repo.now).view.now in
    let nodes = (g.T.DataFolder.state c.args.tree.now).nodes in
    misses_archived stanza o.folder.now o.word.now o.path.now repo nodes s some now
    (missing_by stanza o.folder.now o.word.now o.path.now nodes o.name known o.wanted c.requires.shows repo
    (subst (λ (r : Option Stored). IsLookedUp stanza known o.name r repo) c.in-Ok-None.field-0-is (c.in-Ok-None.ensures.finds repo (inl refl) c.requires.pair)))

-- ---- no sum is known of it

pub returns-in_default-clause-kept : goal.returns-in_default-clause-kept
returns-in_default-clause-kept g c =
    let o = c.args.order.now in
    let stanza = c.args.stanza.now in
    let known = c.args.known.now in
    let repo = (g.D.Disk.state c.args.repo.now).view.now in
    let file = c.in-Ok-Some.stored in
    let kept = kept_as stanza known o.name repo c.in-Ok-Some.field-0 file c.in-Ok-Some.field-0-is (c.in-Ok-Some.ensures.finds repo (inl refl) c.requires.pair) in
    kept_after stanza known o.name repo file kept c.serve_stored.result c.serve_stored.ensures.same

pub returns-in_default-clause-lasts : goal.returns-in_default-clause-lasts
returns-in_default-clause-lasts g c =
    let o = c.args.order.now in
    let nodes = (g.T.DataFolder.state c.args.tree.now).nodes in
    let looks = c.find_file.ensures.looks in
    lasts_after c.args.stanza.now o.folder.now o.word.now o.path.now c.serve_stored.result (g.D.Disk.state c.args.repo.now).view (g.D.Disk.state c.find_file.new.repo).view looks.time looks.now nodes nodes (g.T.DataFolder.state c.serve_stored.new.tree).nodes refl
    (g.D.Disk.state c.serve_stored.new.repo).view c.serve_stored.ensures.lasts

pub returns-in_default-clause-cause : goal.returns-in_default-clause-cause
returns-in_default-clause-cause g c =
    let o = c.args.order.now in
    let stanza = c.args.stanza.now in
    let known = c.args.known.now in
    let a = (g.D.Disk.state c.args.repo.now).view in
    let b = (g.D.Disk.state c.find_file.new.repo).view in
    let nodes = (g.T.DataFolder.state c.args.tree.now).nodes in
    let looks = c.find_file.ensures.looks in
    let file = c.in-Ok-Some.stored in
    let kept = kept_as stanza known o.name a.now c.in-Ok-Some.field-0 file c.in-Ok-Some.field-0-is (c.in-Ok-Some.ensures.finds a.now (inl refl) c.requires.pair) in
    let unsummed : file.sum ≡ None = search rules in
    fails_after stanza o.folder.now o.word.now o.path.now c.serve_stored.result a b looks.time looks.now nodes nodes (g.T.DataFolder.state c.serve_stored.new.tree).nodes refl known o.name (g.S.Disk.state c.args.spool.now).view.now
    (lacks_unsummed stanza known c.args.segment.now o.name c.requires.whole a.now (g.S.Disk.state c.args.spool.now).view.now file unsummed kept) _ _ _ _ _
    (λ r. omega (arith, r, looks.later)) (λ r. r) c.serve_stored.ensures.cause

-- ---- the spool has it

pub returns-in-Ok-true-clause-serves : goal.returns-in-Ok-true-clause-serves
returns-in-Ok-true-clause-serves g c =
    let o = c.args.order.now in
    let stanza = c.args.stanza.now in
    let known = c.args.known.now in
    let repo = (g.D.Disk.state c.args.repo.now).view.now in
    let spool = (g.S.Disk.state c.args.spool.now).view.now in
    let nodes = (g.T.DataFolder.state c.args.tree.now).nodes in
    let after = (g.T.DataFolder.state c.take_ahead.new.tree).nodes in
    let file = c.in-Ok-Some.stored in
    let sum = c.in-Some.sum in
    let kept = kept_as stanza known o.name repo c.in-Ok-Some.field-0 file c.in-Ok-Some.field-0-is (c.in-Ok-Some.ensures.finds repo (inl refl) c.requires.pair) in
    let summed : file.sum ≡ Some sum = search rules in
    let taken = subst (λ (b : Bool). TakesAt (Ok b) spool (ahead_name stanza c.args.segment.now sum.0) sum.0 o.inside.now nodes after) c.in-Ok-true.field-0-test c.in-Ok-true.ensures.takes in
    taken_by stanza o.folder.now o.word.now o.path.now nodes o.name known o.wanted c.requires.shows repo c.args.segment.now c.requires.whole file sum summed kept o.inside.now o.below after taken.0 taken.1.1 taken.2

pub returns-in-Ok-true-clause-kept : goal.returns-in-Ok-true-clause-kept
returns-in-Ok-true-clause-kept g c =
    let repo = (g.D.Disk.state c.args.repo.now).view.now in
    kept_as c.args.stanza.now c.args.known.now c.args.order.now.name repo c.in-Ok-Some.field-0 c.in-Ok-Some.stored c.in-Ok-Some.field-0-is (c.in-Ok-Some.ensures.finds repo (inl refl) c.requires.pair)

pub returns-in-Ok-true-clause-lasts : goal.returns-in-Ok-true-clause-lasts
returns-in-Ok-true-clause-lasts g c = λ synced some alike f leaves.
    let o = c.args.order.now in
    let stanza = c.args.stanza.now in
    let known = c.args.known.now in
    let looks = c.find_file.ensures.looks in
    let spool = (g.S.Disk.state c.args.spool.now).view.now in
    let nodes = (g.T.DataFolder.state c.args.tree.now).nodes in
    let after = (g.T.DataFolder.state c.take_ahead.new.tree).nodes in
    let file = c.in-Ok-Some.stored in
    let sum = c.in-Some.sum in
    let pair = pair_left stanza (g.D.Disk.state c.args.repo.now).view (g.D.Disk.state c.find_file.new.repo).view looks.time looks.now alike some (archive_info_of c.args.info.now) c.requires.pair f leaves in
    let kept = kept_as stanza known o.name (Some f) c.in-Ok-Some.field-0 file c.in-Ok-Some.field-0-is (c.in-Ok-Some.ensures.finds (Some f) (inr (synced, some, (f, refl, leaves))) pair) in
    let summed : file.sum ≡ Some sum = search rules in
    let taken = subst (λ (b : Bool). TakesAt (Ok b) spool (ahead_name stanza c.args.segment.now sum.0) sum.0 o.inside.now nodes after) c.in-Ok-true.field-0-test c.in-Ok-true.ensures.takes in
    taken_by stanza o.folder.now o.word.now o.path.now nodes o.name known o.wanted c.requires.shows (Some f) c.args.segment.now c.requires.whole file sum summed kept o.inside.now o.below after taken.0 taken.1.1 taken.2

pub returns-in-Ok-true-clause-given : goal.returns-in-Ok-true-clause-given
returns-in-Ok-true-clause-given g c = λ s some some_spool now alone.
    let o = c.args.order.now in
    let stanza = c.args.stanza.now in
    let known = c.args.known.now in
    let repo = (g.D.Disk.state c.args.repo.now).view.now in
    let spool = (g.S.Disk.state c.args.spool.now).view.now in
    let nodes = (g.T.DataFolder.state c.args.tree.now).nodes in
    let after = (g.T.DataFolder.state c.take_ahead.new.tree).nodes in
    let file = c.in-Ok-Some.stored in
    let sum = c.in-Some.sum in
    let name = ahead_name stanza c.args.segment.now sum.0 in
    let kept = kept_as stanza known o.name repo c.in-Ok-Some.field-0 file c.in-Ok-Some.field-0-is (c.in-Ok-Some.ensures.finds repo (inl refl) c.requires.pair) in
    let summed : file.sum ≡ Some sum = search rules in
    let taken = subst (λ (b : Bool). TakesAt (Ok b) spool name sum.0 o.inside.now nodes after) c.in-Ok-true.field-0-test c.in-Ok-true.ensures.takes in
    twin_served stanza o.folder.now o.word.now o.path.now repo spool nodes after o.name known c.args.segment.now file sum c.requires.whole summed
    (wanted_by stanza o.folder.now o.word.now o.path.now nodes o.name known o.wanted c.requires.shows repo) kept name taken.0 taken.1
    (subst (λ (p : Text). IfSome after (IsPut p taken.0)) o.below taken.2)
    s some some_spool now alone

pub returns-in-Ok-true-clause-changes : goal.returns-in-Ok-true-clause-changes
returns-in-Ok-true-clause-changes g c =
    let o = c.args.order.now in
    let stanza = c.args.stanza.now in
    let known = c.args.known.now in
    let repo = (g.D.Disk.state c.args.repo.now).view.now in
    let spool = (g.S.Disk.state c.args.spool.now).view.now in
    let nodes = (g.T.DataFolder.state c.args.tree.now).nodes in
    let file = c.in-Ok-Some.stored in
    let sum = c.in-Some.sum in
    let kept = kept_as stanza known o.name repo c.in-Ok-Some.field-0 file c.in-Ok-Some.field-0-is (c.in-Ok-Some.ensures.finds repo (inl refl) c.requires.pair) in
    let summed : file.sum ≡ Some sum = search rules in
    taken_changes stanza o.folder.now o.word.now o.path.now nodes o.name known o.wanted c.requires.shows repo c.args.segment.now c.requires.whole file sum summed kept o.inside.now o.below _ spool (ahead_name stanza c.args.segment.now sum.0) c.take_ahead.ensures.changes

-- ---- the spool doesn't have it

pub returns-in-Ok-false-clause-kept : goal.returns-in-Ok-false-clause-kept
returns-in-Ok-false-clause-kept g c =
    let o = c.args.order.now in
    let stanza = c.args.stanza.now in
    let known = c.args.known.now in
    let repo = (g.D.Disk.state c.args.repo.now).view.now in
    let file = c.in-Ok-Some.stored in
    let kept = kept_as stanza known o.name repo c.in-Ok-Some.field-0 file c.in-Ok-Some.field-0-is (c.in-Ok-Some.ensures.finds repo (inl refl) c.requires.pair) in
    kept_after stanza known o.name repo file kept c.serve_stored-in-Ok-false.result c.serve_stored-in-Ok-false.ensures.same

pub returns-in-Ok-false-clause-lasts : goal.returns-in-Ok-false-clause-lasts
returns-in-Ok-false-clause-lasts g c =
    let o = c.args.order.now in
    let stanza = c.args.stanza.now in
    let spool = (g.S.Disk.state c.args.spool.now).view.now in
    let nodes = (g.T.DataFolder.state c.args.tree.now).nodes in
    let mid = (g.T.DataFolder.state c.take_ahead.new.tree).nodes in
    let looks = c.find_file.ensures.looks in
    let sum = c.in-Some.sum in
    let lacks = subst (λ (b : Bool). TakesAt (Ok b) spool (ahead_name stanza c.args.segment.now sum.0) sum.0 o.inside.now nodes mid) c.in-Ok-false.field-0-test c.in-Ok-false.ensures.takes in
    lasts_after stanza o.folder.now o.word.now o.path.now c.serve_stored-in-Ok-false.result (g.D.Disk.state c.args.repo.now).view (g.D.Disk.state c.find_file.new.repo).view looks.time looks.now nodes mid (g.T.DataFolder.state c.serve_stored-in-Ok-false.new.tree).nodes lacks.1
    (g.D.Disk.state c.serve_stored-in-Ok-false.new.repo).view c.serve_stored-in-Ok-false.ensures.lasts

pub returns-in-Ok-false-clause-cause : goal.returns-in-Ok-false-clause-cause
returns-in-Ok-false-clause-cause g c =
    let o = c.args.order.now in
    let stanza = c.args.stanza.now in
    let known = c.args.known.now in
    let a = (g.D.Disk.state c.args.repo.now).view in
    let b = (g.D.Disk.state c.find_file.new.repo).view in
    let spool = (g.S.Disk.state c.args.spool.now).view.now in
    let nodes = (g.T.DataFolder.state c.args.tree.now).nodes in
    let mid = (g.T.DataFolder.state c.take_ahead.new.tree).nodes in
    let looks = c.find_file.ensures.looks in
    let file = c.in-Ok-Some.stored in
    let sum = c.in-Some.sum in
    let kept = kept_as stanza known o.name a.now c.in-Ok-Some.field-0 file c.in-Ok-Some.field-0-is (c.in-Ok-Some.ensures.finds a.now (inl refl) c.requires.pair) in
    let summed : file.sum ≡ Some sum = search rules in
    let lacks = subst (λ (b : Bool). TakesAt (Ok b) spool (ahead_name stanza c.args.segment.now sum.0) sum.0 o.inside.now nodes mid) c.in-Ok-false.field-0-test c.in-Ok-false.ensures.takes in
    fails_after stanza o.folder.now o.word.now o.path.now c.serve_stored-in-Ok-false.result a b looks.time looks.now nodes mid (g.T.DataFolder.state c.serve_stored-in-Ok-false.new.tree).nodes lacks.1 known o.name spool
    (lacks_sum stanza known c.args.segment.now o.name c.requires.whole a.now spool file sum summed kept lacks.0) _ _ _ _ _
    (λ r. omega (arith, r, looks.later)) (λ r. omega (arith, r, c.take_ahead.ensures.tree_later)) c.serve_stored-in-Ok-false.ensures.cause

-- ---- the spool failed

pub returns-in-Err-take_ahead-clause-changes : goal.returns-in-Err-take_ahead-clause-changes
returns-in-Err-take_ahead-clause-changes g c =
    let o = c.args.order.now in
    let stanza = c.args.stanza.now in
    let known = c.args.known.now in
    let repo = (g.D.Disk.state c.args.repo.now).view.now in
    let spool = (g.S.Disk.state c.args.spool.now).view.now in
    let nodes = (g.T.DataFolder.state c.args.tree.now).nodes in
    let file = c.in-Ok-Some.stored in
    let sum = c.in-Some.sum in
    let kept = kept_as stanza known o.name repo c.in-Ok-Some.field-0 file c.in-Ok-Some.field-0-is (c.in-Ok-Some.ensures.finds repo (inl refl) c.requires.pair) in
    let summed : file.sum ≡ Some sum = search rules in
    taken_changes stanza o.folder.now o.word.now o.path.now nodes o.name known o.wanted c.requires.shows repo c.args.segment.now c.requires.whole file sum summed kept o.inside.now o.below _ spool (ahead_name stanza c.args.segment.now sum.0) c.take_ahead.ensures.changes

pub returns-in-Err-take_ahead-clause-known : goal.returns-in-Err-take_ahead-clause-known
returns-in-Err-take_ahead-clause-known g c =
    known_within c.args.stanza.now c.args.segment.now (g.S.Disk.state c.args.spool.now).view (g.S.Disk.state c.take_ahead.new.spool).view c.take_ahead.ensures.only
