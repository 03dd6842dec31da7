-- Which answer of archive-push a fault of the archive is, and which refusals come before its first step.
use Rattle.std.specs.Prelude.{Bool, true}
use Rattle.archive_lookup.specs.declared.stored.fault.ArchiveFault.{ArchiveFault}
use Rattle.archive_lookup.specs.declared.stored.fault.ArchiveFault.TheVariants.{HeaderForm as FormOf, SegmentSize as SizeOf, HeaderMismatch as MismatchOf, Ambiguous as AmbiguousOf, Duplicate as DuplicateOf, TooLong as LongOf, Disk as ArchiveDisk}
use Rattle.archive_store.specs.declared.fault.PushFault.{PushFault as StoreFault}
use Rattle.archive_store.specs.declared.fault.PushFault.TheVariants.{Archive, Source}
use Rattle.cmd_types.specs.declared.stages.object.Object.TheVariants.{Repo, TheDataFolder}
use Rattle.cmd_types.specs.declared.stages.halt.Halt.{Halt}
use Rattle.cmd_types.specs.declared.stages.halt.Halt.TheVariants.{Refused, Failed, NoMemory}
use Rattle.cmd_archive_push.specs.declared.fault.PushFault.{PushFault}
use Rattle.cmd_archive_push.specs.declared.fault.PushFault.TheVariants.{HeaderForm, SegmentSize, HeaderMismatch, Ambiguous, Duplicate, TooLong}

-- of a file that is stored: a push isn't refused for what is absent, damaged, or too much to list
abbrev pub of_archive : ArchiveFault → Halt PushFault
of_archive (FormOf info) = Refused (HeaderForm info)
of_archive (SizeOf known found) = Refused (SegmentSize known found)
of_archive (MismatchOf kept found) = Refused (HeaderMismatch kept found)
of_archive (AmbiguousOf first second) = Refused (Ambiguous first second)
of_archive (DuplicateOf kept found) = Refused (Duplicate kept found)
of_archive (LongOf name limit) = Refused (TooLong name limit)
of_archive ArchiveDisk = Failed Repo
of_archive other = NoMemory

abbrev pub of_store : StoreFault → Halt PushFault
of_store (Archive fault) = of_archive fault
of_store Source = Failed TheDataFolder

-- each comes before the first step
abbrev pub push_early : PushFault → Bool
push_early fault = true
