use Rattle.std.proofs.Common.{rules, [], ◌≡◌, ◌∙◌, string_bytes}
use Rattle.sha1.specs.Sha1.{sha1}
use Rattle.base_disk.specs.Staged.{staged_name}
use Rattle.base_disk.proofs.Replaced.{published_only}
use Rattle.archive_lookup.specs.OnlyReads.{path_with}
use Rattle.archive_store.proofs.Piecewise.{some_read}
use Rattle.archive_store.proofs.Putting.{time_at, now_at, stages_part, puts_part, puts_whole}
use Rattle.archive_store.proofs.staging.put_new.Goals as goal

pub returns-in_err-staged-clause-left : goal.returns-in_err-staged-clause-left
returns-in_err-staged-clause-left g c =
    let w = some_read (g.P.ByteSource.bytes c.args.pieces.now c.args.device.now) c.args.prefix.bytes.now c.args.prefix.length c.requires.known c.requires.within in
    (w.0, w.1, stages_part (string_bytes c.args.names.now.temporary) (path_with c.args.names.now (sha1 w.0)) w.0 c.requires.temporary (c.requires.lasting w.0) (g.D.Disk.state c.args.d.now).view (g.D.Disk.state c.stage_file.new.d).view (g.met.D.Disk.now_may_be_left c.args.d.now) c.stage_file.ensures.works.time c.stage_file.ensures.others, search rules)

pub publish-requires-clause-folder : goal.publish-requires-clause-folder
publish-requires-clause-folder g c =
    let w = c.in_ok-staged.ensures.staged in
    let f = c.requires.folder (sha1 w.0) in
    (f.0, (f.1.0, c.in_ok-staged.ensures.name ∙ f.1.1), (f.2.0, c.as_str.ensures.value ∙ w.3 ∙ f.2.1))

pub returns-in_err-publish-clause-left : goal.returns-in_err-publish-clause-left
returns-in_err-publish-clause-left g c =
    let w = c.in_ok-staged.ensures.staged in (
      w.0,
      w.1,
      puts_part (string_bytes c.args.names.now.temporary) (path_with c.args.names.now (sha1 w.0)) w.0 c.requires.temporary (c.requires.lasting w.0) (g.D.Disk.state c.args.d.now).view (g.D.Disk.state c.stage_file.new.d).view (g.met.D.Disk.now_may_be_left c.args.d.now) c.stage_file.ensures.works.time
          (g.D.Disk.state c.publish.new.d).view (staged_name c.in_ok-staged.staged) c.as_str.result.now c.in_ok-staged.ensures.name w.4 (c.as_str.ensures.value ∙ w.3) c.publish.ensures.works.time c.publish.result c.publish.ensures.now,
      search rules,
    )

pub returns-in_err-publish-clause-only : goal.returns-in_err-publish-clause-only
returns-in_err-publish-clause-only g c =
    let w = c.in_ok-staged.ensures.staged in
    let path = path_with c.args.names.now (sha1 w.0) in
    let same = c.as_str.ensures.value ∙ w.3 in (
      sha1 w.0,
      published_only (string_bytes c.args.names.now.temporary) path [] c.requires.temporary (c.requires.lasting w.0) c.publish.result (g.D.Disk.state c.args.d.now).view (g.D.Disk.state c.stage_file.new.d).view (g.D.Disk.state c.publish.new.d).view (staged_name c.in_ok-staged.staged) c.in_ok-staged.ensures.name c.stage_file.ensures.works.time c.stage_file.ensures.others
          (time_at _ _ _ path _ _ same c.publish.ensures.works.time) (now_at c.publish.result _ _ path _ _ same c.publish.ensures.now),
    )

pub returns-clause-left : goal.returns-clause-left
returns-clause-left g c =
    let w = c.in_ok-staged.ensures.staged in
    let old = (g.D.Disk.state c.args.d.now).view in
    let mid = (g.D.Disk.state c.stage_file.new.d).view in
    let new = (g.D.Disk.state c.publish.new.d).view in
    let temp = string_bytes c.args.names.now.temporary in
    let path = path_with c.args.names.now (sha1 w.0) in
    let named : c.as_str.result.now ≡ path = c.as_str.ensures.value ∙ w.3 in (
      w.0,
      w.1,
      puts_part temp path w.0 c.requires.temporary (c.requires.lasting w.0) old mid (g.met.D.Disk.now_may_be_left c.args.d.now) c.stage_file.ensures.works.time new (staged_name c.in_ok-staged.staged) c.as_str.result.now c.in_ok-staged.ensures.name w.4 named c.publish.ensures.works.time c.publish.result c.publish.ensures.now,
      (w.2, puts_whole temp path w.0 c.requires.temporary (c.requires.lasting w.0) old mid (g.met.D.Disk.now_may_be_left c.args.d.now) c.stage_file.ensures.works.time new (staged_name c.in_ok-staged.staged) c.as_str.result.now c.in_ok-staged.ensures.name w.4 named c.publish.ensures.works.time c.in_ok-publish.ensures.now c.in_ok-publish.ensures.published),
    )

pub returns-clause-only : goal.returns-clause-only
returns-clause-only g c =
    let w = c.in_ok-staged.ensures.staged in
    let path = path_with c.args.names.now (sha1 w.0) in
    let same = c.as_str.ensures.value ∙ w.3 in (
      sha1 w.0,
      published_only (string_bytes c.args.names.now.temporary) path [] c.requires.temporary (c.requires.lasting w.0) c.publish.result (g.D.Disk.state c.args.d.now).view (g.D.Disk.state c.stage_file.new.d).view (g.D.Disk.state c.publish.new.d).view (staged_name c.in_ok-staged.staged) c.in_ok-staged.ensures.name c.stage_file.ensures.works.time c.stage_file.ensures.others
          (time_at _ _ _ path _ _ same c.publish.ensures.works.time) (now_at c.publish.result _ _ path _ _ same c.publish.ensures.now),
    )
