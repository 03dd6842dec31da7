use Rattle.std.proofs.lemmas.List.Filters.{dedup_is}
use Rattle.cmd_verify.proofs.Ordered.{strict, each_was, all_are}
use Rattle.cmd_verify.proofs.findings.order.put_in_order.Goals as goal

pub returns : goal.returns
returns c =
    let is = dedup_is _ _ _ c.dedup.ensures.filtered in
    record {
      order = strict c.args.found.now.items c.sort_unstable.new.self.items c.dedup.new.self.items c.sort_unstable.ensures.permutation c.sort_unstable.ensures.sorted is;
      each = each_was c.args.found.now.items c.sort_unstable.new.self.items c.dedup.new.self.items c.sort_unstable.ensures.permutation c.sort_unstable.ensures.sorted is;
      all = all_are c.args.found.now.items c.sort_unstable.new.self.items c.dedup.new.self.items c.sort_unstable.ensures.permutation c.sort_unstable.ensures.sorted is;
    }
