use Rattle.base_model.specs.declared.wal.ArchiveName.TheVariants.{Segment as Whole}
use Rattle.archive_store.proofs.Placed.{shown_one, shown_two}
use Rattle.memory_processes.proofs.pushing.is_stored.Goals as goal

pub returns-in-Ok-One-clause-stored : goal.returns-in-Ok-One-clause-stored
returns-in-Ok-One-clause-stored g c = λ yes.
    shown_one c.args.stanza.now c.args.id.now (Whole c.args.segment.now) c.in-Ok.names c.in-Ok.ensures.names _ c.in-Ok-One.field-0 c.in-Ok-One.field-0-0 c.in-Ok-One.field-0-is c.in-Ok-One.ensures.shows

pub returns-in-Ok-Two-clause-stored : goal.returns-in-Ok-Two-clause-stored
returns-in-Ok-Two-clause-stored g c = λ yes.
    shown_two c.args.stanza.now c.args.id.now (Whole c.args.segment.now) c.in-Ok.names c.in-Ok.ensures.names _ c.in-Ok-Two.field-0 c.in-Ok-Two.field-0-0 c.in-Ok-Two.field-0-1 c.in-Ok-Two.field-0-is c.in-Ok-Two.ensures.shows
