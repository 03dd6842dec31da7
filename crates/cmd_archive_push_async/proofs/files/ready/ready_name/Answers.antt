use Rattle.std.proofs.Common.{◌∙◌, sym}
use Rattle.cmd_archive_push_async.proofs.Readies.{shows_ready, passes_ready, passes_other}
use Rattle.cmd_archive_push_async.proofs.files.ready.ready_name.Goals as goal

pub returns-then-not-is_file-clause-none : goal.returns-then-not-is_file-clause-none
returns-then-not-is_file-clause-none c = passes_other c.args.seen.now c.is_file.result c.is_file.ensures c.if-not-is_file.true

pub returns-clause-value : goal.returns-clause-value
returns-clause-value c =
    shows_ready c.args.seen.now c.as_bytes.result.now c.as_bytes-2.result.now c.as_bytes-3.result.now c.as_bytes.ensures.value c.as_bytes-2.ensures.value c.as_bytes-3.ensures.value (sym c.is_file.ensures ∙ c.if-not-is_file.false)
    c.name_between.result c.name_between.ensures.value c.name_between.ensures.fits

pub returns-clause-none : goal.returns-clause-none
returns-clause-none c =
    passes_ready c.args.seen.now c.as_bytes.result.now c.as_bytes-2.result.now c.as_bytes-3.result.now c.as_bytes.ensures.value c.as_bytes-2.ensures.value c.as_bytes-3.ensures.value
    c.name_between.result c.name_between.ensures.none
