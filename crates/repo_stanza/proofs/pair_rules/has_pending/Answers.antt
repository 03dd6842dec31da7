use Rattle.std.proofs.Common.{List, map, sym, subst, arith}
use Rattle.base_model.specs.declared.labels.Entry as rust_entry
use Rattle.base_model.specs.Text.{In}
use Rattle.base_model.specs.Values.{archive_info_of, backup_info_of, entry_of}
use Rattle.repo_stanza.proofs.Judged.{pending_current, pending_unused, not_off, not_on}
use Rattle.repo_stanza.proofs.pair_rules.has_pending.Goals as goal

pub returns-then-backup-len-clause-other : goal.returns-then-backup-len-clause-other
returns-then-backup-len-clause-other c = λ t p.
    let e = pending_current (archive_info_of c.args.archive.now) (backup_info_of c.args.backup.now) p c.requires in
    omega (arith, e)

pub returns-clause-unused : goal.returns-clause-unused
returns-clause-unused c = λ t e at. c.lists_cluster.ensures.none (not_off _ t) e (subst (λ (es : List rust_entry.Entry). In e (map entry_of es)) (sym c.deref.ensures.value) at)

pub returns-clause-other : goal.returns-clause-other
returns-clause-other c = λ t p.
    let x = c.lists_cluster.ensures.some (not_on _ t) in
    pending_unused (archive_info_of c.args.archive.now) (backup_info_of c.args.backup.now) p c.requires x.0 (subst (λ (es : List rust_entry.Entry). In x.0 (map entry_of es)) c.deref.ensures.value x.1) x.2
