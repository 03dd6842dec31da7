use Rattle.std.proofs.Common.{sym, ◌∙◌, arith}
use Rattle.base_model.specs.InfoFiles.{IsSegment}
use Rattle.base_model.specs.Names.{segment_text}
use Rattle.repo_info.proofs.EntryParts.{same_segment}
use Rattle.repo_manifest.proofs.log.segment_at.Goals as goal

pub returns-in-Some-clause-read : goal.returns-in-Some-clause-read
returns-in-Some-clause-read c =
    let s = c.in-Some.segment in
    let rules : IsSegment s = record { timeline = omega arith; log = omega arith; seg = omega arith } in
    λ y h i. same_segment s y rules h (sym c.in-Some.ensures.value ∙ c.as_bytes.ensures.value ∙ c.text_at.ensures (segment_text y) i)

pub returns-in-Some-clause-rules : goal.returns-in-Some-clause-rules
returns-in-Some-clause-rules c = record { timeline = omega arith; log = omega arith; seg = omega arith }

pub returns-in-None-clause-rules : goal.returns-in-None-clause-rules
returns-in-None-clause-rules c = record { timeline = omega arith; log = omega arith; seg = omega arith }

pub returns-in-None-clause-read : goal.returns-in-None-clause-read
returns-in-None-clause-read c = λ y h i. absurd (c.in-None.ensures.none y h (c.as_bytes.ensures.value ∙ c.text_at.ensures (segment_text y) i))
