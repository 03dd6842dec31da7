use Rattle.repo_manifest.proofs.backup_section.head_of.Goals as goal

pub returns : goal.returns
returns c = record {
  label = (c.label_at-label.ensures.rules, c.label_at-label.ensures.read);
  kind = c.label_kind-kind.ensures;
  has = c.prior_of.ensures.has;
  prior = c.prior_of.ensures.read;
  start = (c.second_at.ensures.rules, c.second_at.ensures.read);
  stop = (c.second_at-2.ensures.rules, c.second_at-2.ensures.read);
  log = c.log_of.ensures.some;
  none = c.log_of.ensures.none;
}
