use Rattle.std.proofs.Common.{◌≡◌, ℕ, sym, subst, ap, ◌∙◌, ◌+◌}
use Rattle.base_model.specs.InfoFiles.{IsArchiveInfo, IsBackupInfo}
use Rattle.base_model.specs.Values.{archive_info_of, backup_info_of}
use Rattle.repo_stanza.proofs.Longer.{longer_archive_rules, longer_list_rules}
use Rattle.repo_stanza.proofs.pair_texts.longer_texts.Goals as goal

pub text_of-requires : goal.text_of-requires
text_of-requires c = subst IsBackupInfo (sym c.in_ok-list.ensures) (longer_list_rules (backup_info_of c.args.list) c.args.cluster.now c.requires.list c.requires.cluster (c.requires.next ∙ ap (λ (n : ℕ). n + 1) (sym c.requires.same)))

pub text_of-requires-2 : goal.text_of-requires-2
text_of-requires-2 c = subst IsArchiveInfo (sym c.in_ok-archive.ensures) (longer_archive_rules (archive_info_of c.args.archive) c.args.cluster.now c.requires.archive c.requires.cluster c.requires.next)
