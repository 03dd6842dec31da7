use Rattle.serde_json.specs.View.{view}
use Rattle.repo_manifest.proofs.log.log_of.Goals as goal

pub returns-clause-some : goal.returns-clause-some
returns-clause-some c = record {
  there = (view c.in_ok-find.field-0.now, c.in_ok-find.ensures.found);
  start = (c.segment_at.ensures.rules, c.segment_at.ensures.read);
  stop = (c.segment_at-2.ensures.rules, c.segment_at-2.ensures.read);
  from = (c.lsn_at.ensures.rules, c.lsn_at.ensures.read);
  to = (c.lsn_at-2.ensures.rules, c.lsn_at-2.ensures.read);
  size = (c.size_at.ensures.rules, c.size_at.ensures.read);
}
