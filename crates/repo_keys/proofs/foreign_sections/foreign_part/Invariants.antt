use Rattle.base_model.specs.Text.{In}
use Rattle.repo_ini.specs.Parts.{section_of}
use Rattle.repo_keys.specs.Foreign.{names_of}
use Rattle.repo_keys.proofs.Seeking.{Whole, Others}
use Rattle.repo_keys.proofs.foreign_sections.foreign_part.Given as goal

-- a section that has none of the names is to come, and the sections to come are of the whole
abbrev pub invariant-loop-part : goal.invariant-loop-part
invariant-loop-part l = record {
  others : Others section_of (λ s. In s.name (names_of l.names)) l.parts l.part-index;
  whole : Whole section_of l.parts l.part-index;
}
