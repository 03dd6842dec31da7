use Rattle.backup_make.specs.Draft.{stanza_of}
use Rattle.backup_make.proofs.Besides.{fetched_beside}
use Rattle.backup_make.proofs.Commits.{stays_stored}
use Rattle.backup_make.proofs.Labels.{apart}
use Rattle.backup_make.proofs.Touched.{own_touched}
use Rattle.backup_make.proofs.draft_jobs.fetch.Goals as goal

pub returns-clause-fetched : goal.returns-clause-fetched
returns-clause-fetched g c = record { is_draft = c.requires.draft; come = c.in_ok-ends.ensures.stored.come }

pub returns-clause-staged : goal.returns-clause-staged
returns-clause-staged g c = record { sealed = c.in_ok-ends.ensures.sealed; stored = c.in_ok-ends.ensures.stored; label = tt }

pub returns-in_err-ends-clause-unlisted : goal.returns-in_err-ends-clause-unlisted
returns-in_err-ends-clause-unlisted g c = stays_stored c.args.draft (apart c.args.draft c.requires.draft) _ _ (g.met.D.Disk.now_may_be_left c.args.d.now) c.gather.ensures.touches

pub returns-clause-unlisted : goal.returns-clause-unlisted
returns-clause-unlisted g c = stays_stored c.args.draft (apart c.args.draft c.requires.draft) _ _ (g.met.D.Disk.now_may_be_left c.args.d.now) c.gather.ensures.touches

pub returns-in_err-ends-clause-beside : goal.returns-in_err-ends-clause-beside
returns-in_err-ends-clause-beside g c = fetched_beside (stanza_of c.args.draft) c.args.draft.label _ _ c.gather.ensures.touches

pub returns-clause-beside : goal.returns-clause-beside
returns-clause-beside g c = fetched_beside (stanza_of c.args.draft) c.args.draft.label _ _ c.gather.ensures.touches

pub returns-in_err-ends-clause-only : goal.returns-in_err-ends-clause-only
returns-in_err-ends-clause-only g c = own_touched (stanza_of c.args.draft) c.args.draft.label _ _ c.gather.ensures.touches

pub returns-clause-only : goal.returns-clause-only
returns-clause-only g c = own_touched (stanza_of c.args.draft) c.args.draft.label _ _ c.gather.ensures.touches
