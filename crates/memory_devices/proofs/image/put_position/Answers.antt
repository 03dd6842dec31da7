use Rattle.std.proofs.Common.{Option, Some, ◌∙◌, ap, ℕ}
use Rattle.std.proofs.Math.Path.{fun_ext}
use Rattle.std.proofs.lemmas.Map.Text.{btree_map_updates_text}
use Rattle.base_devices.specs.Content.{Name, set_at}
use Rattle.memory_devices.specs.Image.{positions_in}
use Rattle.memory_devices.proofs.image.put_position.Goals as goal

pub returns : goal.returns
returns c =
    fun_ext (λ q. btree_map_updates_text _ c.args.positions.now c.insert.new.self (Some c.args.position) c.in_ok-insert.ensures.updates q)
    ∙ ap (λ (n : Name). set_at {X = Option ℕ} n (Some c.args.position) (positions_in c.args.positions.now)) c.in_ok-key.ensures.ok
