use Rattle.options_read.proofs.Texts.{after_of}
use Rattle.options_read.proofs.text.after_prefix.Goals as goal

pub returns : goal.returns
returns c = after_of c.args.prefix.now c.args.text.now c.strip_prefix.result c.strip_prefix.ensures.cases
