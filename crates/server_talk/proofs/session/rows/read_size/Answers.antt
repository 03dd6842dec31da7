use Rattle.server_talk.proofs.Sizes.{at_none, no_size}
use Rattle.server_talk.proofs.session.rows.read_size.Goals as goal

pub returns-clause-none : goal.returns-clause-none
returns-clause-none c = at_none c.read_seg_size.result (no_size c.args.text.now c.in_ok-bytes.bytes c.in_ok-bytes.ensures.value.1 c.in_ok-bytes.ensures.value.0) c.read_seg_size.ensures.none
