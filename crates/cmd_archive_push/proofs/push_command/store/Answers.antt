use Rattle.std.proofs.Common.{◌∙◌, ap}
use Rattle.cmd_types.proofs.Besides.{archive_beside}
use Rattle.cmd_archive_push.specs.Outcomes.{pushed_lines}
use Rattle.cmd_archive_push.proofs.Doings.{halt_did, memory_did, end_did}
use Rattle.cmd_archive_push.proofs.Logged.{opened_read}
use Rattle.base_devices.specs.DataFolder.{known_path}
use Rattle.cmd_archive_push.proofs.Putting.{opened_puts}
use Rattle.cmd_archive_push.proofs.Opened.{opened_agrees, opened_alike, written_synced, opened_part, opened_whole, opened_lasts, opened_ends, opened_stored}
use Rattle.cmd_archive_push.proofs.push_command.store.Goals as goal

pub push_from-requires-clause-known : goal.push_from-requires-clause-known
push_from-requires-clause-known g c =
    opened_read (g.T.DataFolder.state c.args.tree.now).nodes c.args.log.now _ c.prefix.result.bytes.now c.prefix.result.length
    c.prefix.ensures.bytes c.prefix.ensures.length c.requires.opened

-- ---- the file wasn't stored

pub returns-in-Err-clause-does : goal.returns-in-Err-clause-does
returns-in-Err-clause-does g c = λ command asked.
    let part = opened_part c.args.stanza.now c.args.order.now
    (g.T.DataFolder.state c.args.tree.now).nodes c.args.log.now c.requires.opened c.args.at.now.id c.args.at.now.known.now
    (g.D.Disk.state c.args.repo.now).view
    (g.D.Disk.state c.push_from.new.d).view c.requires.current c.push_from.ensures.leaves command asked in
    halt_did c.args.stanza.now command _ _ part c.of_store.result c.in-Err.fault c.of_store.ensures
    c.in-Err.ensures.refused

pub returns-in-Err-clause-agrees : goal.returns-in-Err-clause-agrees
returns-in-Err-clause-agrees g c =
    opened_agrees c.args.stanza.now c.args.order.now c.args.at.now.id c.requires.fits _
    (g.D.Disk.state c.args.repo.now).view (g.D.Disk.state c.push_from.new.d).view c.push_from.ensures.leaves.writes

pub returns-in-Err-clause-cause : goal.returns-in-Err-clause-cause
returns-in-Err-clause-cause g c =
    opened_ends c.args.stanza.now c.args.order.now
    (g.T.DataFolder.state c.args.tree.now).nodes c.args.log.now c.requires.opened c.args.at.now.id c.args.at.now.known.now
    (g.D.Disk.state c.args.repo.now).view.now
    (g.D.Disk.state c.push_from.new.d).view.now c.requires.current _ _ _ _ c.of_store.result c.in-Err.fault
    c.of_store.ensures c.in-Err.ensures.cause

-- ---- it was stored, and there was no memory for the lines

pub returns-in_err-lines-in-Ok-clause-does : goal.returns-in_err-lines-in-Ok-clause-does
returns-in_err-lines-in-Ok-clause-does g c = λ command asked.
    let part = opened_part c.args.stanza.now c.args.order.now
    (g.T.DataFolder.state c.args.tree.now).nodes c.args.log.now c.requires.opened c.args.at.now.id c.args.at.now.known.now
    (g.D.Disk.state c.args.repo.now).view
    (g.D.Disk.state c.push_from.new.d).view c.requires.current c.push_from.ensures.leaves command asked in
    memory_did c.args.stanza.now command _ _ part c.from_residual.result c.from_residual.ensures.1

pub returns-in_err-lines-in-Ok-clause-agrees : goal.returns-in_err-lines-in-Ok-clause-agrees
returns-in_err-lines-in-Ok-clause-agrees g c =
    opened_agrees c.args.stanza.now c.args.order.now c.args.at.now.id c.requires.fits _
    (g.D.Disk.state c.args.repo.now).view (g.D.Disk.state c.push_from.new.d).view c.push_from.ensures.leaves.writes

-- ---- it was stored

pub returns-in_ok-lines-in-Ok-clause-does : goal.returns-in_ok-lines-in-Ok-clause-does
returns-in_ok-lines-in-Ok-clause-does g c = λ command asked.
    let part = opened_part c.args.stanza.now c.args.order.now
    (g.T.DataFolder.state c.args.tree.now).nodes c.args.log.now c.requires.opened c.args.at.now.id c.args.at.now.known.now
    (g.D.Disk.state c.args.repo.now).view
    (g.D.Disk.state c.push_from.new.d).view c.requires.current c.push_from.ensures.leaves command asked in
    end_did c.args.stanza.now command _ _ part
    (opened_whole c.args.stanza.now c.args.order.now
    (g.T.DataFolder.state c.args.tree.now).nodes c.args.log.now c.requires.opened c.args.at.now.id c.args.at.now.known.now
    (g.D.Disk.state c.args.repo.now).view
    (g.D.Disk.state c.push_from.new.d).view c.requires.current c.push_from.ensures.leaves c.in-Ok.ensures.file command asked)

pub returns-in_ok-lines-in-Ok-clause-lasts : goal.returns-in_ok-lines-in-Ok-clause-lasts
returns-in_ok-lines-in-Ok-clause-lasts g c = λ synced some.
    opened_lasts c.args.stanza.now c.args.order.now
    (g.T.DataFolder.state c.args.tree.now).nodes c.args.log.now c.requires.opened c.args.at.now.id c.args.at.now.known.now
    (g.D.Disk.state c.args.repo.now).view
    (g.D.Disk.state c.push_from.new.d).view c.requires.current c.push_from.ensures.leaves c.requires.fits
    c.in-Ok.ensures.file synced some

pub returns-in_ok-lines-in-Ok-clause-agrees : goal.returns-in_ok-lines-in-Ok-clause-agrees
returns-in_ok-lines-in-Ok-clause-agrees g c =
    opened_agrees c.args.stanza.now c.args.order.now c.args.at.now.id c.requires.fits _
    (g.D.Disk.state c.args.repo.now).view (g.D.Disk.state c.push_from.new.d).view c.push_from.ensures.leaves.writes

pub returns-in_ok-lines-in-Ok-clause-stored : goal.returns-in_ok-lines-in-Ok-clause-stored
returns-in_ok-lines-in-Ok-clause-stored g c =
    opened_stored c.args.stanza.now c.args.order.now
    (g.T.DataFolder.state c.args.tree.now).nodes c.args.log.now c.requires.opened c.args.at.now.id c.args.at.now.known.now
    (g.D.Disk.state c.args.repo.now).view.now
    (g.D.Disk.state c.push_from.new.d).view.now c.requires.current _ _ _ c.in-Ok.pushed _
    (c.in_ok-lines-in-Ok.ensures ∙ ap (pushed_lines c.in-Ok.pushed) (c.deref.ensures ∙ c.args.order.now.spelled))
    c.in-Ok.ensures.answered

pub returns-in-Err-clause-beside : goal.returns-in-Err-clause-beside
returns-in-Err-clause-beside g c = archive_beside c.args.stanza.now _ _ c.push_from.ensures.leaves.only

pub returns-in_err-lines-in-Ok-clause-beside : goal.returns-in_err-lines-in-Ok-clause-beside
returns-in_err-lines-in-Ok-clause-beside g c = archive_beside c.args.stanza.now _ _ c.push_from.ensures.leaves.only

pub returns-in_ok-lines-in-Ok-clause-beside : goal.returns-in_ok-lines-in-Ok-clause-beside
returns-in_ok-lines-in-Ok-clause-beside g c = archive_beside c.args.stanza.now _ _ c.push_from.ensures.leaves.only

pub returns-in-Err-clause-alike : goal.returns-in-Err-clause-alike
returns-in-Err-clause-alike g c =
    opened_alike c.args.stanza.now c.args.order.now c.args.at.now.id c.requires.fits _
    (g.D.Disk.state c.args.repo.now).view (g.D.Disk.state c.push_from.new.d).view c.push_from.ensures.leaves.writes

pub returns-in_err-lines-in-Ok-clause-alike : goal.returns-in_err-lines-in-Ok-clause-alike
returns-in_err-lines-in-Ok-clause-alike g c =
    opened_alike c.args.stanza.now c.args.order.now c.args.at.now.id c.requires.fits _
    (g.D.Disk.state c.args.repo.now).view (g.D.Disk.state c.push_from.new.d).view c.push_from.ensures.leaves.writes

pub returns-in_ok-lines-in-Ok-clause-alike : goal.returns-in_ok-lines-in-Ok-clause-alike
returns-in_ok-lines-in-Ok-clause-alike g c =
    opened_alike c.args.stanza.now c.args.order.now c.args.at.now.id c.requires.fits _
    (g.D.Disk.state c.args.repo.now).view (g.D.Disk.state c.push_from.new.d).view c.push_from.ensures.leaves.writes

pub returns-in-Err-clause-puts : goal.returns-in-Err-clause-puts
returns-in-Err-clause-puts g c =
    let at = c.requires.current in
    opened_puts c.args.stanza.now c.args.order.now (g.T.DataFolder.state c.args.tree.now).nodes (known_path c.args.log.now.what) c.requires.opened.lies c.args.at.now.id at.0 at.1
    (λ sum digest. record { version = c.requires.fits.0; number = c.requires.fits.1; fits = c.args.order.now.named.fits; digest = digest })
    (g.D.Disk.state c.args.repo.now).view (g.D.Disk.state c.push_from.new.d).view at.2.current c.push_from.ensures.leaves.writes

pub returns-in_err-lines-in-Ok-clause-puts : goal.returns-in_err-lines-in-Ok-clause-puts
returns-in_err-lines-in-Ok-clause-puts g c =
    let at = c.requires.current in
    opened_puts c.args.stanza.now c.args.order.now (g.T.DataFolder.state c.args.tree.now).nodes (known_path c.args.log.now.what) c.requires.opened.lies c.args.at.now.id at.0 at.1
    (λ sum digest. record { version = c.requires.fits.0; number = c.requires.fits.1; fits = c.args.order.now.named.fits; digest = digest })
    (g.D.Disk.state c.args.repo.now).view (g.D.Disk.state c.push_from.new.d).view at.2.current c.push_from.ensures.leaves.writes

pub returns-in_ok-lines-in-Ok-clause-puts : goal.returns-in_ok-lines-in-Ok-clause-puts
returns-in_ok-lines-in-Ok-clause-puts g c =
    let at = c.requires.current in
    opened_puts c.args.stanza.now c.args.order.now (g.T.DataFolder.state c.args.tree.now).nodes (known_path c.args.log.now.what) c.requires.opened.lies c.args.at.now.id at.0 at.1
    (λ sum digest. record { version = c.requires.fits.0; number = c.requires.fits.1; fits = c.args.order.now.named.fits; digest = digest })
    (g.D.Disk.state c.args.repo.now).view (g.D.Disk.state c.push_from.new.d).view at.2.current c.push_from.ensures.leaves.writes

pub returns-in-Err-clause-synced : goal.returns-in-Err-clause-synced
returns-in-Err-clause-synced g c =
    written_synced c.args.stanza.now c.args.at.now.id c.args.order.now.name c.push_from.ensures.leaves.writes.0
    (g.D.Disk.state c.args.repo.now).view (g.D.Disk.state c.push_from.new.d).view c.push_from.ensures.leaves.writes.2

pub returns-in_err-lines-in-Ok-clause-synced : goal.returns-in_err-lines-in-Ok-clause-synced
returns-in_err-lines-in-Ok-clause-synced g c =
    written_synced c.args.stanza.now c.args.at.now.id c.args.order.now.name c.push_from.ensures.leaves.writes.0
    (g.D.Disk.state c.args.repo.now).view (g.D.Disk.state c.push_from.new.d).view c.push_from.ensures.leaves.writes.2

pub returns-in_ok-lines-in-Ok-clause-synced : goal.returns-in_ok-lines-in-Ok-clause-synced
returns-in_ok-lines-in-Ok-clause-synced g c =
    written_synced c.args.stanza.now c.args.at.now.id c.args.order.now.name c.push_from.ensures.leaves.writes.0
    (g.D.Disk.state c.args.repo.now).view (g.D.Disk.state c.push_from.new.d).view c.push_from.ensures.leaves.writes.2
