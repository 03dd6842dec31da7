use Rattle.std.proofs.Common.{◌≡◌, ◌+◌, ◌-◌, arith, refl, sym, subst, ℕ}
use Rattle.archive_lookup.specs.Ends.{RepresentsAt}
use Rattle.cmd_verify.proofs.Neighbours.{seconds_none, seconds_next, seconds_all}
use Rattle.cmd_verify.proofs.findings.seconds.tell_seconds.Goals as goal

pub loop-i-init : goal.loop-i-init
loop-i-init c = record { place = omega arith; adds = seconds_none c.args.files.now 1 (omega arith) c.args.found.now.items }

pub loop-i-preserved : goal.loop-i-preserved
loop-i-preserved c =
    let l = c.loop-i in
    let files = c.args.files.now in
    let x = c.index-files-i.result in
    let y = c.index-files-i-in-loop-i.result in
    let low = l.invariant.place in
    let lt = c.loop-i-test.true in
    let at : l.i ≡ (l.i - 1) + 1 = omega (arith, low) in
    let first : RepresentsAt files (l.i - 1) x = (omega (arith, low, lt), sym c.index-files-i.is) in
    let second : RepresentsAt files l.i y = (lt, sym c.index-files-i-in-loop-i.is) in
    record {
      place = omega (arith, low);
      adds = seconds_next files (l.i - 1) x y first (subst (λ (k : ℕ). RepresentsAt files k y) at second) l.i (l.i + 1) at refl c.args.found.now.items l.found.items c.tell_second.new.found.items
          l.invariant.adds c.in_ok-tell_second.ensures;
    }

pub returns : goal.returns
returns c = λ stanza f are. seconds_all stanza f c.args.files.now are c.loop-i.i c.loop-i-test.false c.args.found.now.items c.loop-i.found.items c.loop-i.invariant.adds
