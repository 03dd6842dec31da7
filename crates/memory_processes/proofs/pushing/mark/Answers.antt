use Rattle.std.proofs.Common.{[], ◌∷◌}
use Rattle.base_devices.proofs.Crashes.{crash_none}
use Rattle.base_model.specs.declared.wal.ArchiveName.TheVariants.{Segment as Whole}
use Rattle.base_model.specs.Names.{receipt_name}
use Rattle.memory_processes.specs.Pushing.{receipt_text}
use Rattle.memory_processes.proofs.Receipts.{mark_folder, mark_temporary, mark_lasting, mark_only}
use Rattle.memory_processes.proofs.pushing.mark.Goals as goal

pub returns-in_default-clause-crash : goal.returns-in_default-clause-crash
returns-in_default-clause-crash g c = λ synced. crash_none ((receipt_name c.args.stanza.now (Whole c.args.segment.now), receipt_text c.args.bytes.now) ∷ []) _

pub replace-requires-clause-folder : goal.replace-requires-clause-folder
replace-requires-clause-folder g c = mark_folder c.args.stanza.now c.args.segment.now c.args.bytes.now c.in-Ok.names c.in-Ok.ensures _ _ c.as_str.ensures.value c.as_str-2.ensures.value

pub replace-requires-clause-temporary : goal.replace-requires-clause-temporary
replace-requires-clause-temporary g c = mark_temporary c.args.stanza.now c.args.segment.now c.args.bytes.now c.in-Ok.names c.in-Ok.ensures _ _ c.as_str.ensures.value c.as_str-2.ensures.value

pub replace-requires-clause-lasting : goal.replace-requires-clause-lasting
replace-requires-clause-lasting g c = mark_lasting c.args.stanza.now c.args.segment.now c.args.bytes.now c.in-Ok.names c.in-Ok.ensures _ _ c.as_str.ensures.value c.as_str-2.ensures.value

pub returns-in-Ok-replace-clause-only : goal.returns-in-Ok-replace-clause-only
returns-in-Ok-replace-clause-only g c = mark_only c.args.stanza.now c.args.segment.now c.args.bytes.now c.in-Ok.names c.in-Ok.ensures _ _ c.as_str.ensures.value c.as_str-2.ensures.value _ _ c.replace.ensures.only

pub returns-clause-only : goal.returns-clause-only
returns-clause-only g c = mark_only c.args.stanza.now c.args.segment.now c.args.bytes.now c.in-Ok.names c.in-Ok.ensures _ _ c.as_str.ensures.value c.as_str-2.ensures.value _ _ c.replace.ensures.only
