use Rattle.std.proofs.Common.{rules, ◌<◌, ◌^◌}
use Rattle.archive_lookup.proofs.OnePath.{number_none}
use Rattle.archive_lookup.proofs.stored.paths.read_number.Goals as goal

pub returns-clause-none : goal.returns-clause-none
returns-clause-none c =
    let small : c.in_ok-read_decimal.field-0 < 2 ^ 64 = search rules in
    rw c.ok.ensures.value (number_none c.args.text.now c.try_from.result c.in_ok-read_decimal.field-0 c.in_ok-read_decimal.ensures.value small c.try_from.ensures)
