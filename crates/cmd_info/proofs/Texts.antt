-- What is shown of listed backups has texts.
use Rattle.std.proofs.Common.{ℕ, List, [], ◌∷◌, ◌++◌, map}
use Rattle.std.specs.List.{AllByRecursion}
use Rattle.base_model.specs.declared.labels.Entry as rust_entry
use Rattle.base_model.specs.InfoFiles.{AreListed}
use Rattle.base_model.specs.Values.{Entry, entry_of}
use Rattle.repo_info.proofs.EntryRules.{HasLabels-listed}
use Rattle.cmd_info.specs.Shown.{HasTexts}

pub texts_listed : (clusters : ℕ) (earlier : List Entry) (es : List rust_entry.Entry) → AreListed clusters earlier (map entry_of es) → AllByRecursion (λ e. HasTexts (entry_of e)) es
texts_listed clusters earlier [] h = tt
texts_listed clusters earlier (e ∷ es) h =
    (record { labels = HasLabels-listed clusters earlier (entry_of e) h.0; start = h.0.start; stop = h.0.stop }, texts_listed clusters (earlier ++ entry_of e ∷ []) es h.1)
