use Rattle.std.proofs.Common.{map, [], ◌∷◌, length, ap, refl, arith, length-append}
use Rattle.base_model.specs.Values.{BackupInfo, backup_info_of, entry_of}
use Rattle.repo_stanza.proofs.Judged.{few_clusters, popped}
use Rattle.repo_stanza.proofs.Shorter.{shorter_rules, shorter_text}
use Rattle.repo_stanza.proofs.pair_rules.without_last.Goals as goal

pub overflow_cast-backup : goal.overflow_cast-backup
overflow_cast-backup c = omega (arith, few_clusters (backup_info_of c.args.backup) c.requires.valid, c.pop.ensures.len, c.len.ensures)

pub returns-clause-valid : goal.returns-clause-valid
returns-clause-valid c =
    let x = popped c.pop.result c.args.backup.history.items c.pop.new.self.items c.pop.ensures.items (c.pop.ensures.variant.1 (omega (arith, c.requires.some))) in
    let w : BackupInfo = record { current = c.len.result; history = c.pop.new.self.items; backups = map entry_of c.args.backup.backups.items } in
    shorter_rules (backup_info_of c.args.backup) w x.0 c.requires.valid x.1 (omega (arith, c.len.ensures)) (omega (arith, ap length x.1, length-append c.pop.new.self.items (x.0 ∷ []), c.requires.some)) refl c.requires.unused

pub returns-clause-shorter : goal.returns-clause-shorter
returns-clause-shorter c =
    let x = popped c.pop.result c.args.backup.history.items c.pop.new.self.items c.pop.ensures.items (c.pop.ensures.variant.1 (omega (arith, c.requires.some))) in
    let w : BackupInfo = record { current = c.len.result; history = c.pop.new.self.items; backups = map entry_of c.args.backup.backups.items } in
    shorter_text (backup_info_of c.args.backup) w x.0 c.requires.valid x.1 (omega (arith, c.len.ensures)) (omega (arith, ap length x.1, length-append c.pop.new.self.items (x.0 ∷ []), c.requires.some)) refl
