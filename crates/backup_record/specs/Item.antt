-- Which entry of a manifest is that of an item that was received. Own.
use Rattle.std.specs.Prelude.{◌≡◌, ◌<◌, ℕ, List, take, Some, slice_get}
use Rattle.base_text.specs.declared.sum.Sum.{Sum}
use Rattle.base_devices.specs.Content.{Name}
use Rattle.base_model.specs.declared.labels.Label.{Label}
use Rattle.base_model.specs.Text.{Text}
use Rattle.base_model.specs.Values.{FileEntry}
use Rattle.base_model.specs.Place.{place}
use Rattle.worker_protocol.specs.declared.sinks.ItemEnd.TheVariants.{Whole}
use Rattle.worker_protocol.specs.PartSinkState.{Done, JobItems}
use Rattle.backup_sink.specs.Placed.{held_sum}

-- The entry is that of an item that was received: these are its bytes, their number and sum are those that were
-- received, and it lies where they were put.
pub record IsItem (stanza : Text) (label : Label) (names : List Name) (kept : List JobItems) (e : FileEntry)
    (bytes : Text) : Type 0 where
  pub job : ℕ
  pub item : ℕ
  pub name : Name
  pub of : JobItems
  pub done : Done
  pub name_is : slice_get names job ≡ Some name
  pub of_is : slice_get kept job ≡ Some of
  pub done_is : slice_get of.done item ≡ Some done
  pub known : done.held.known ≡ Some bytes
  pub sum : Sum
  pub end : done.end ≡ Whole e.size sum
  pub sum_is : e.sum ≡ sum.0
  pub at : 0 < e.size → place stanza label e ≡ (name, held_sum (take item of.done))
