use Rattle.std.proofs.Common.{◌≡◌, map, length, rules}
use Rattle.base_model.specs.Values.{entry_of}
use Rattle.expire_rules.specs.Needed.{of_cluster}
use Rattle.expire_rules.proofs.Keepings.{keeping_is}
use Rattle.expire_rules.proofs.needed.spans.Goals as goal

pub returns-clause-keeping : goal.returns-clause-keeping
returns-clause-keeping c =
    let first : c.len.result ≡ length c.in_ok-counted.counted.items = search rules in
    let second : c.len-2.result ≡ length c.in_ok-counted.counted.items = search rules in
    keeping_is c.args.rules.now c.args.current (of_cluster c.args.id.now.number (map entry_of c.args.entries.now)) c.in_ok-all.all.items c.in_ok-counted.counted.items _ _ _ _ _ _
    c.in_ok-all.ensures c.in_ok-counted.ensures c.deref.ensures.value first second c.archive_number-number.ensures c.keeps_all.ensures c.start_from.ensures
