use Rattle.cmd_backup_offline.proofs.Bases.{draft_label}
use Rattle.cmd_backup_offline.proofs.offline_draft.draft_listed.Goals as goal

pub lines_of-requires : goal.lines_of-requires
lines_of-requires c = draft_label c.in_ok-draft.draft c.in_ok-draft.ensures.draft
