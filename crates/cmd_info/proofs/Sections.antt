-- The listed backups are the first section of their info text, if there are some.
use Rattle.std.proofs.Common.{◌≡◌, ℕ, ◌<◌, List, [], ◌∷◌, ◌++◌, map, length, get_or, refl, ap, ◌∙◌, arith}
use Rattle.std.specs.Vec.Iter.{into_iter_items, into_iter_steps}
use Rattle.std.specs.declared.vec.IntoIter.{IntoIter}
use Rattle.std.specs.Iterator.{Yields}
use Rattle.base_model.specs.declared.clusters.Cluster.{Cluster}
use Rattle.base_model.specs.Fields.{Field}
use Rattle.base_model.specs.InfoText.{Section}
use Rattle.base_model.specs.InfoFiles.{entry_field, backup_sections}
use Rattle.base_model.specs.Values.{Entry}
use Rattle.repo_ini.specs.declared.part.Part.{Part}
use Rattle.repo_ini.specs.Parts.{keys_of, sections_of}
use Rattle.cmd_info.specs.Labelled.{labelled_data}
use Rattle.cmd_info.specs.ReportData.{backup_data}

first_keys : List Section → List Field
first_keys [] = []
first_keys (s ∷ ss) = s.keys

pub some_part : (ps : List Part) (current : ℕ) (history : List Cluster) (es : List Entry) → 0 < length es
    → sections_of ps ≡ backup_sections (record { current = current; history = history; backups = es }) → 0 < length ps
unfolding backup_sections
some_part [] current history [] some e = absurd (omega arith)
some_part [] current history (x ∷ es) some e = let long = ap length e in absurd (omega (arith, long))
some_part (p ∷ ps) current history es some e = omega arith

pub first_part : (ps : List Part) (current : ℕ) (history : List Cluster) (es : List Entry) (d : Part) → 0 < length es
    → sections_of ps ≡ backup_sections (record { current = current; history = history; backups = es }) → keys_of (get_or ps 0 d) ≡ map entry_field es
unfolding backup_sections first_keys
first_part ps current history [] d some e = absurd (omega arith)
first_part [] current history (x ∷ es) d some e = let long = ap length e in absurd (omega (arith, long))
first_part (p ∷ ps) current history (x ∷ es) d some e = ap first_keys e

-- each under its label
pub labelled_entries : (es : List Entry) → map labelled_data (map entry_field es) ≡ map backup_data es
labelled_entries [] = refl
labelled_entries (e ∷ es) = ap (λ ds. backup_data e ∷ ds) (labelled_entries es)

-- what the iterator of a vector has given is a prefix of its items
pub taken_prefix : {X Z : Type 0} (s : IntoIter X Z) (xs : List X) (t : IntoIter X Z) → Yields into_iter_steps s xs t → into_iter_items s ≡ xs ++ into_iter_items t
taken_prefix s [] t y = ap into_iter_items y
taken_prefix s (x ∷ xs) t y = y.1.0 ∙ ap (λ ys. x ∷ ys) (taken_prefix y.0 xs t y.2)
