use Rattle.std.proofs.Common.{◌≡◌, string_bytes}
use Rattle.repo_ini.specs.Parts.{section_of}
use Rattle.repo_keys.proofs.Seeking.{here, whole_next, ahead_next, ahead_end, known_as_same, known_apart}
use Rattle.repo_keys.proofs.key_lookup.part_of.Goals as goal

pub returns-then-eq-clause-found : goal.returns-then-eq-clause-found
returns-then-eq-clause-found c =
    let part = c.part-item.result in (
      here section_of c.args.parts.now c.loop-part.part-index part c.loop-part-test.true c.part-item.is c.loop-part.invariant.whole,
      known_as_same c.as_str.result.now c.args.name.now (string_bytes part.name) c.eq.result c.eq.ensures c.if-eq.true c.as_str.ensures.value,
    )

pub loop-part-preserved : goal.loop-part-preserved
loop-part-preserved c =
    let parts = c.args.parts.now in
    let part = c.part-item.result in
    let apart = known_apart c.as_str.result.now c.args.name.now (string_bytes part.name) c.eq.result c.eq.ensures c.if-eq.false c.as_str.ensures.value in
    record {
      ahead = ahead_next section_of (λ s. s.name ≡ c.args.name.now) parts c.loop-part.part-index part c.loop-part-test.true c.part-item.is apart c.loop-part.invariant.ahead;
      whole = whole_next section_of parts c.loop-part.part-index part c.loop-part-test.true c.part-item.is c.loop-part.invariant.whole;
    }

pub returns-clause-none : goal.returns-clause-none
returns-clause-none c = λ s i named. ahead_end section_of (λ z. z.name ≡ c.args.name.now) c.args.parts.now c.loop-part.part-index c.loop-part-test.false c.loop-part.invariant.ahead s i named
