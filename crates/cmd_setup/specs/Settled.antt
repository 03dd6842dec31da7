-- What is synced before the stages look at the repository.
use Rattle.std.specs.Prelude.{List, IsSome}
use Rattle.base_devices.specs.Content.{LiesDirectlyIn}
use Rattle.base_devices.specs.Moments.{View, SyncsFolders}
use Rattle.base_model.specs.Log.{Done, KeepsRepository}
use Rattle.base_model.specs.Names.{archive_folder}
use Rattle.base_model.specs.Repository.{Repository}
use Rattle.base_model.specs.Steady.{IsBegun}
use Rattle.base_model.specs.Text.{Text}
use Rattle.cmd_types.specs.declared.stages.plan.SyncScope.{SyncScope}
use Rattle.cmd_types.specs.declared.stages.plan.SyncScope.TheVariants.{Whole, Looked}

-- all of the stanza's folders were synced, or that of the archive pair
abbrev pub SettlesFor : SyncScope → Text → View → View → Type 0
SettlesFor Whole stanza old new = (q : Repository) (log : List Done) → KeepsRepository stanza q log old → IsSome old.now
    → IsBegun stanza q log new
SettlesFor Looked stanza old new = SyncsFolders (LiesDirectlyIn (archive_folder stanza)) old new
