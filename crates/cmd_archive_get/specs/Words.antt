-- That the arguments are valid is known in one way only.
use Rattle.std.proofs.Props.{props}
use Rattle.base_model.specs.declared.wal.ArchiveName.{ArchiveName}
use Rattle.base_model.specs.declared.wal.ArchiveName.TheVariants.{Segment as Whole, Partial, History, Backup}
use Rattle.base_model.specs.Text.{Text}
use Rattle.base_model.specs.Represents.{IsWalName}
use Rattle.cmd_archive_get.specs.Getting.{AreArguments}

IsWalName-prop : (name : ArchiveName) → IsProp (IsWalName name)
IsWalName-prop (Whole s) = hlevel props
IsWalName-prop (Partial s) = hlevel props
IsWalName-prop (History t) = hlevel props
IsWalName-prop (Backup s offset) = hlevel props

-- arguments are those of a fetch in one way alone
pub AreArguments-prop : (folder word path : Text) (name : ArchiveName) → IsProp (AreArguments folder word path name)
AreArguments-prop folder word path name = hlevel (props, IsWalName-prop)
