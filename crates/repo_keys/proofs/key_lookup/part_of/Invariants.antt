use Rattle.std.proofs.Common.{◌≡◌}
use Rattle.repo_ini.specs.Parts.{section_of}
use Rattle.repo_keys.proofs.Seeking.{Whole, Ahead}
use Rattle.repo_keys.proofs.key_lookup.part_of.Given as goal

-- the section is to come, and the sections to come are of the whole
abbrev pub invariant-loop-part : goal.invariant-loop-part
invariant-loop-part l = record {
  ahead : Ahead section_of (λ s. s.name ≡ l.name) l.parts l.part-index;
  whole : Whole section_of l.parts l.part-index;
}
