use Rattle.std.proofs.Common.{◌≡◌, [], ◌∷◌, Some, rules, ap, ◌∙◌}
use Rattle.base_text.specs.Sum.{IsSum}
use Rattle.base_devices.specs.DataFolder.{known_path}
use Rattle.base_model.specs.Names.{wal_text}
use Rattle.base_model.specs.Represents.{IsArchivePlace}
use Rattle.base_model.specs.Text.{Text}
use Rattle.cmd_archive_push.specs.LogFile.{known_file}
use Rattle.cmd_archive_push.specs.WalPath.{wal_path}
use Rattle.cmd_archive_push.proofs.Logged.{opened_read}
use Rattle.cmd_archive_push.proofs.Putting.{puts_first}
use Rattle.archive_spool.specs.Marks.{named}
use Rattle.cmd_archive_push_async.proofs.Paired.{pair_pushed}
use Rattle.cmd_archive_push_async.proofs.PutOne.{put_done, put_halted}
use Rattle.cmd_archive_push_async.proofs.Pushes.{tried_goes, done_goes, halted_goes, halted_sum, halted_fate, halted_cause, stored_fate, stored_sum}
use Rattle.cmd_archive_push_async.proofs.files.pushing.push_log.Goals as goal

pub push_from-requires-clause-known : goal.push_from-requires-clause-known
push_from-requires-clause-known g c =
    opened_read (g.T.DataFolder.state c.args.tree.now).nodes c.args.log.now _ c.prefix.result.bytes.now c.prefix.result.length c.prefix.ensures.bytes c.prefix.ensures.length c.requires.opened

pub returns-in-Ok-clause-goes : goal.returns-in-Ok-clause-goes
returns-in-Ok-clause-goes g c = λ bytes is.
    let place : (sum : Text) → IsSum sum → IsArchivePlace c.args.to.now.id c.args.name sum = search rules in
    let nodes = (g.T.DataFolder.state c.args.tree.now).nodes in
    let model : known_file nodes (known_path c.args.log.now.what) ≡ Some bytes = ap (known_file nodes) c.requires.opened.lies ∙ is in
    done_goes c.args.to.now.stanza.now c.args.to.now.id c.args.name bytes place (known_file nodes (known_path c.args.log.now.what)) model _ _ c.push_from.ensures.leaves.part
    c.args.to.now.system _ _ _ c.in-Ok.sum c.in-Ok.ensures.file.all c.in-Ok.ensures.answered

pub returns-in-Ok-clause-sum : goal.returns-in-Ok-clause-sum
returns-in-Ok-clause-sum g c =
    let place : (sum : Text) → IsSum sum → IsArchivePlace c.args.to.now.id c.args.name sum = search rules in
    let nodes = (g.T.DataFolder.state c.args.tree.now).nodes in
    stored_sum c.args.to.now.stanza.now c.args.to.now.id c.args.name c.args.to.now.system _ _ place (known_file nodes (known_path c.args.log.now.what)) (g.D.Disk.state c.args.repo.now).view.now ⊥ ⊥
    (λ bytes. known_file nodes (wal_path (wal_text c.args.name)) ≡ Some bytes) (λ bytes is. ap (known_file nodes) c.requires.opened.lies ∙ is)
    _ _ _ c.in-Ok.sum c.in-Ok.ensures.answered

pub returns-in-Ok-clause-fate : goal.returns-in-Ok-clause-fate
returns-in-Ok-clause-fate g c =
    let place : (sum : Text) → IsSum sum → IsArchivePlace c.args.to.now.id c.args.name sum = search rules in
    let nodes = (g.T.DataFolder.state c.args.tree.now).nodes in
    stored_fate c.args.to.now.stanza.now c.args.to.now.id c.args.name c.args.to.now.system _ _ place (known_file nodes (known_path c.args.log.now.what)) (g.D.Disk.state c.args.repo.now).view.now ⊥ ⊥
    (λ bytes. known_file nodes (wal_path (wal_text c.args.name)) ≡ Some bytes) (λ bytes is. ap (known_file nodes) c.requires.opened.lies ∙ is)
    _ _ c.in-Ok.sum c.in-Ok.ensures.answered

pub returns-in-Err-clause-goes : goal.returns-in-Err-clause-goes
returns-in-Err-clause-goes g c = λ bytes is.
    let place : (sum : Text) → IsSum sum → IsArchivePlace c.args.to.now.id c.args.name sum = search rules in
    let nodes = (g.T.DataFolder.state c.args.tree.now).nodes in
    let model : known_file nodes (known_path c.args.log.now.what) ≡ Some bytes = ap (known_file nodes) c.requires.opened.lies ∙ is in
    halted_goes c.args.to.now.stanza.now c.args.to.now.id (named c.args.name bytes) _ _
    (tried_goes c.args.to.now.stanza.now c.args.to.now.id c.args.name bytes place (known_file nodes (known_path c.args.log.now.what)) model _ _ c.push_from.ensures.leaves.part)
    c.in-Err.fault c.of_store.result c.of_store.ensures c.in-Err.ensures.refused c.refused.result c.refused.ensures

pub returns-in-Err-clause-sum : goal.returns-in-Err-clause-sum
returns-in-Err-clause-sum g c = halted_sum c.of_store.result (λ bytes. known_file (g.T.DataFolder.state c.args.tree.now).nodes (wal_path (wal_text c.args.name)) ≡ Some bytes) c.refused.result c.refused.ensures

pub returns-in-Err-clause-fate : goal.returns-in-Err-clause-fate
returns-in-Err-clause-fate g c =
    let place : (sum : Text) → IsSum sum → IsArchivePlace c.args.to.now.id c.args.name sum = search rules in
    let nodes = (g.T.DataFolder.state c.args.tree.now).nodes in
    halted_fate c.args.to.now.stanza.now c.args.to.now.id c.args.name c.args.to.now.system _ _ place (known_file nodes (known_path c.args.log.now.what)) (g.D.Disk.state c.args.repo.now).view.now _ _
    (λ bytes. known_file nodes (wal_path (wal_text c.args.name)) ≡ Some bytes) (λ bytes is. ap (known_file nodes) c.requires.opened.lies ∙ is)
    c.in-Err.fault c.of_store.result c.of_store.ensures c.in-Err.ensures.cause c.refused.result c.refused.ensures

pub returns-in-Err-clause-cause : goal.returns-in-Err-clause-cause
returns-in-Err-clause-cause g c =
    halted_cause c.args.to.now.stanza.now c.args.to.now.id c.args.name c.args.to.now.system _ _ _ (g.T.DataFolder.state c.args.tree.now).nodes (g.D.Disk.state c.args.repo.now).view (g.D.Disk.state c.push_from.new.d).view _ _
    c.in-Err.fault c.of_store.result c.of_store.ensures c.in-Err.ensures.refused c.in-Err.ensures.cause c.refused.result c.refused.ensures

pub returns-in-Ok-clause-pair : goal.returns-in-Ok-clause-pair
returns-in-Ok-clause-pair g c =
    let place : (sum : Text) → IsSum sum → IsArchivePlace c.args.to.now.id c.args.name sum = search rules in
    let w = c.push_from.ensures.leaves.writes in
    pair_pushed c.args.to.now.stanza.now c.args.to.now.id c.args.name place w.0 (g.D.Disk.state c.args.repo.now).view (g.D.Disk.state c.push_from.new.d).view w.2

pub returns-in-Err-clause-pair : goal.returns-in-Err-clause-pair
returns-in-Err-clause-pair g c =
    let place : (sum : Text) → IsSum sum → IsArchivePlace c.args.to.now.id c.args.name sum = search rules in
    let w = c.push_from.ensures.leaves.writes in
    pair_pushed c.args.to.now.stanza.now c.args.to.now.id c.args.name place w.0 (g.D.Disk.state c.args.repo.now).view (g.D.Disk.state c.push_from.new.d).view w.2

pub returns-in-Ok-clause-puts : goal.returns-in-Ok-clause-puts
returns-in-Ok-clause-puts g c = λ bytes is.
    let place : (sum : Text) → IsSum sum → IsArchivePlace c.args.to.now.id c.args.name sum = search rules in
    let nodes = (g.T.DataFolder.state c.args.tree.now).nodes in
    let model : known_file nodes (known_path c.args.log.now.what) ≡ Some bytes = ap (known_file nodes) c.requires.opened.lies ∙ is in
    put_done c.args.to.now.stanza.now c.args.to.now.id c.args.name bytes place (known_file nodes (known_path c.args.log.now.what)) model _ _ c.push_from.ensures.leaves.writes
    c.args.to.now.system _ _ _ c.in-Ok.sum c.in-Ok.ensures.file.alike c.in-Ok.ensures.answered

pub returns-in-Err-clause-puts : goal.returns-in-Err-clause-puts
returns-in-Err-clause-puts g c = λ bytes is.
    let place : (sum : Text) → IsSum sum → IsArchivePlace c.args.to.now.id c.args.name sum = search rules in
    let nodes = (g.T.DataFolder.state c.args.tree.now).nodes in
    let model : known_file nodes (known_path c.args.log.now.what) ≡ Some bytes = ap (known_file nodes) c.requires.opened.lies ∙ is in
    put_halted c.args.to.now.stanza.now c.args.to.now.id c.args.name bytes place (known_file nodes (known_path c.args.log.now.what)) model _ _ c.push_from.ensures.leaves.writes
    c.args.to.now.system _ _ _ _ c.in-Err.fault c.of_store.result c.of_store.ensures c.in-Err.ensures.refused c.in-Err.ensures.cause c.refused.result c.refused.ensures

pub returns-in-Ok-clause-puts_only : goal.returns-in-Ok-clause-puts_only
returns-in-Ok-clause-puts_only g c =
    let place : (sum : Text) → IsSum sum → IsArchivePlace c.args.to.now.id c.args.name sum = search rules in
    let w = c.push_from.ensures.leaves.writes in
    (named c.args.name w.0 ∷ [], puts_first c.args.to.now.stanza.now c.args.to.now.id c.args.name place w.0 (g.D.Disk.state c.args.repo.now).view (g.D.Disk.state c.push_from.new.d).view w.2)

pub returns-in-Err-clause-puts_only : goal.returns-in-Err-clause-puts_only
returns-in-Err-clause-puts_only g c =
    let place : (sum : Text) → IsSum sum → IsArchivePlace c.args.to.now.id c.args.name sum = search rules in
    let w = c.push_from.ensures.leaves.writes in
    (named c.args.name w.0 ∷ [], puts_first c.args.to.now.stanza.now c.args.to.now.id c.args.name place w.0 (g.D.Disk.state c.args.repo.now).view (g.D.Disk.state c.push_from.new.d).view w.2)
