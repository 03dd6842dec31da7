use Rattle.std.proofs.Common.{◌≡◌, length, rules, arith, refl}
use Rattle.std.proofs.lemmas.Grind.{common_steps}
use Rattle.base_devices.specs.DataFolder.{known_path}
use Rattle.cmd_archive_push.proofs.Logged.{as_prefix, prefix_there, prefix_begins, short_prefix, sized_prefix}
use Rattle.cmd_archive_push.proofs.log_file.measure.Goals as goal

pub returns-then-len-lt-PREFIX-clause-measured : goal.returns-then-len-lt-PREFIX-clause-measured
returns-then-len-lt-PREFIX-clause-measured g c =
    let nodes = (g.T.DataFolder.state c.args.tree.now).nodes in
    let path = known_path c.args.what in
    let prefix = c.in-Some.prefix.items in
    let is = as_prefix nodes path _ c.in-Some.prefix c.in-Some.is c.in_ok-prefix.ensures.bytes in
    let long : c.len-read.result ≡ length prefix = grind (arith, common_steps) in
    record {
      lies = refl;
      there = prefix_there path prefix nodes is;
      begins = prefix_begins path prefix nodes nodes _ refl is (short_prefix path prefix nodes _ long (search rules) is);
      within = search rules;
      enough = search rules;
    }

pub returns-in-Some-2-2-clause-measured : goal.returns-in-Some-2-2-clause-measured
returns-in-Some-2-2-clause-measured g c =
    let nodes = (g.T.DataFolder.state c.args.tree.now).nodes in
    let path = known_path c.args.what in
    let prefix = c.in-Some.prefix.items in
    let is = as_prefix nodes path _ c.in-Some.prefix c.in-Some.is c.in_ok-prefix.ensures.bytes in
    let long : c.len-read.result ≡ length prefix = grind (arith, common_steps) in
    record {
      lies = refl;
      there = prefix_there path prefix nodes is;
      begins = prefix_begins path prefix nodes nodes _ refl is
          (sized_prefix path prefix nodes _ c.in-Some-2-2.size _ _ c.read_prefix.ensures.looks.nodes long (search rules) is
          (search rules));
      within = search rules;
      enough = search rules;
    }
