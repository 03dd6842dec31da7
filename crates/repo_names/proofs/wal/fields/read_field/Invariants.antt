use Rattle.std.proofs.Common.{◌≡◌, ◌<◌, ◌^◌, take}
use Rattle.base_model.specs.Text.{hex_upper}
use Rattle.repo_names.proofs.wal.fields.read_field.Given as goal

abbrev pub invariant-loop-digit : goal.invariant-loop-digit
invariant-loop-digit l = (take l.digit-index l.digits ≡ hex_upper l.digit-index l.value) × (l.value < 16 ^ l.digit-index)
