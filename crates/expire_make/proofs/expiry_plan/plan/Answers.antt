use Rattle.base_model.specs.Values.{backup_info_of}
use Rattle.expire_make.proofs.Spelled.{text_of}
use Rattle.expire_make.proofs.expiry_plan.plan.Goals as goal

pub returns-clause-planned : goal.returns-clause-planned
returns-clause-planned c = λ stanza f has. record {
  list = backup_info_of c.args.list;
  has = has;
  is_left = c.in_ok-labels.ensures.left;
  fits = text_of (backup_info_of c.in_ok-labels.left) c.in_ok-labels.ensures.valid c.in_ok-labels.ensures.within;
  are_gone = c.in_ok-labels.ensures.labels;
}
