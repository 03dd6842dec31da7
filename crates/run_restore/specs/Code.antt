-- What the code's values represent.
use Rattle.std.specs.Prelude.{◌≡◌, Option, option_map}
use Rattle.base_model.specs.Text.{Text}
use Rattle.cmd_restore.specs.declared.order.RecoverOrder.{RecoverOrder}
use Rattle.cmd_restore.specs.Fetching.{recovery_type}
use Rattle.cmd_restore.specs.Words.{ShowsChoice}
use Rattle.cmd_trait.specs.Meaning.{Place}
use Rattle.run_restore.specs.declared.restore.Restore.{Restore}
use Rattle.run_restore.specs.Restoring.{RestoreHow}

-- the label of the backup that is asked for, as it was given
abbrev pub set_of : Restore → Option Text
set_of c = option_map (λ w. w.now) c.set

-- how it is to be restored
abbrev pub how_of : Restore → RestoreHow
how_of c = record { workers = c.workers; delta = c.delta; recovery = recovery_type c.recovery }

-- how a backup is restored by the order
abbrev pub ordered_how : RecoverOrder → RestoreHow
ordered_how o = record { workers = o.workers; delta = o.delta; recovery = recovery_type o.recovery }

-- the order is what was asked for, at this place, with its label and its target read
abbrev pub IsOrderOf : Restore → Place → RecoverOrder → Type 0
IsOrderOf c p o = (o.data_folder.now ≡ p.data_folder) × (o.repository.now ≡ p.repository) × (ordered_how o ≡ how_of c)
    × ShowsChoice (set_of c) (recovery_type c.recovery) o.choice
