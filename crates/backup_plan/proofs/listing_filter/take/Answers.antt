use Rattle.backup_plan.specs.Filter.{IsTimed}
use Rattle.backup_plan.specs.Views.{seen_of}
use Rattle.backup_plan.proofs.Taking.{all_of_one}
use Rattle.backup_plan.proofs.listing_filter.take.Goals as goal

pub returns-clause-timed : goal.returns-clause-timed
returns-clause-timed c = all_of_one IsTimed c.args.online (seen_of c.args.seen.now) (λ keep. c.in_ok-add.ensures.timed)
