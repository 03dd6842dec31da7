use Rattle.base_disk.proofs.Replaced.{staged_crash, staged_now, published_crash, published_now, published_ends, published_whole, staged_only, published_only, unknown_same, unknown_on}
use Rattle.base_disk.proofs.replacement.replace.Goals as goal

pub returns-in_err-staged-clause-crash : goal.returns-in_err-staged-clause-crash
returns-in_err-staged-clause-crash g c = λ synced. staged_crash c.args.temp.now c.args.name.now c.args.bytes.now c.requires.temporary c.requires.lasting _ _ (g.met.D.Disk.now_may_be_left c.args.d.now) synced c.stage.ensures.works.time c.stage.ensures.others

pub returns-in_err-publish-clause-crash : goal.returns-in_err-publish-clause-crash
returns-in_err-publish-clause-crash g c = λ synced. published_crash c.args.temp.now c.args.name.now c.args.bytes.now c.requires.temporary c.requires.lasting _ _ _ _ c.in_ok-staged.ensures.name c.in_ok-staged.ensures.now c.stage.ensures.works.time c.publish.ensures.works.time (g.met.D.Disk.now_may_be_left c.args.d.now) synced c.publish.result c.publish.ensures.now

pub returns-clause-crash : goal.returns-clause-crash
returns-clause-crash g c = λ synced. published_crash c.args.temp.now c.args.name.now c.args.bytes.now c.requires.temporary c.requires.lasting _ _ _ _ c.in_ok-staged.ensures.name c.in_ok-staged.ensures.now c.stage.ensures.works.time c.publish.ensures.works.time (g.met.D.Disk.now_may_be_left c.args.d.now) synced c.publish.result c.publish.ensures.now

pub returns-clause-whole : goal.returns-clause-whole
returns-clause-whole g c = λ synced. published_ends c.args.temp.now c.args.name.now c.args.bytes.now c.requires.temporary c.requires.lasting _ _ _ _ c.in_ok-staged.ensures.name c.in_ok-staged.ensures.now c.stage.ensures.works.time c.publish.ensures.works.time (g.met.D.Disk.now_may_be_left c.args.d.now) synced c.in_ok-publish.ensures.now c.in_ok-publish.ensures.published

pub returns-in_err-staged-clause-now_part : goal.returns-in_err-staged-clause-now_part
returns-in_err-staged-clause-now_part g c = staged_now c.args.temp.now c.args.name.now c.args.bytes.now c.requires.temporary c.requires.lasting _ _ c.stage.ensures.others

pub returns-in_err-publish-clause-now_part : goal.returns-in_err-publish-clause-now_part
returns-in_err-publish-clause-now_part g c = published_now c.args.temp.now c.args.name.now c.args.bytes.now c.requires.temporary c.requires.lasting c.publish.result _ _ _ _ c.in_ok-staged.ensures.name c.in_ok-staged.ensures.now c.publish.ensures.now

pub returns-clause-now_part : goal.returns-clause-now_part
returns-clause-now_part g c = published_now c.args.temp.now c.args.name.now c.args.bytes.now c.requires.temporary c.requires.lasting c.publish.result _ _ _ _ c.in_ok-staged.ensures.name c.in_ok-staged.ensures.now c.publish.ensures.now

pub returns-clause-now_whole : goal.returns-clause-now_whole
returns-clause-now_whole g c = published_whole c.args.temp.now c.args.name.now c.args.bytes.now c.requires.temporary c.requires.lasting _ _ _ _ c.in_ok-staged.ensures.name c.in_ok-staged.ensures.now c.in_ok-publish.ensures.now

pub returns-in_err-staged-clause-unknown : goal.returns-in_err-staged-clause-unknown
returns-in_err-staged-clause-unknown g c = unknown_same c.args.temp.now _ _ c.stage.ensures.others

pub returns-in_err-publish-clause-unknown : goal.returns-in_err-publish-clause-unknown
returns-in_err-publish-clause-unknown g c = λ none. unknown_on c.publish.result _ _ _ (unknown_same c.args.temp.now _ _ c.stage.ensures.others none) c.publish.ensures.now

pub returns-clause-unknown : goal.returns-clause-unknown
returns-clause-unknown g c = λ none. unknown_on c.publish.result _ _ _ (unknown_same c.args.temp.now _ _ c.stage.ensures.others none) c.publish.ensures.now

pub returns-in_err-staged-clause-only : goal.returns-in_err-staged-clause-only
returns-in_err-staged-clause-only g c = staged_only c.args.temp.now c.args.name.now c.args.bytes.now c.requires.temporary c.requires.lasting _ _ c.stage.ensures.works.time c.stage.ensures.others

pub returns-in_err-publish-clause-only : goal.returns-in_err-publish-clause-only
returns-in_err-publish-clause-only g c = published_only c.args.temp.now c.args.name.now c.args.bytes.now c.requires.temporary c.requires.lasting c.publish.result _ _ _ _ c.in_ok-staged.ensures.name c.stage.ensures.works.time c.stage.ensures.others c.publish.ensures.works.time c.publish.ensures.now

pub returns-clause-only : goal.returns-clause-only
returns-clause-only g c = published_only c.args.temp.now c.args.name.now c.args.bytes.now c.requires.temporary c.requires.lasting c.publish.result _ _ _ _ c.in_ok-staged.ensures.name c.stage.ensures.works.time c.stage.ensures.others c.publish.ensures.works.time c.publish.ensures.now
