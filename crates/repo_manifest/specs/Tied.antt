-- Which keys of a manifest a rule ties together.
use Rattle.std.specs.Prelude.{◌≡◌, ◌⊎◌, List, [], ◌∷◌, codes}
use Rattle.base_model.specs.Text.{Text, ◌⫽◌, In}
use Rattle.base_model.specs.ManifestText.{data_path}
use Rattle.repo_manifest.specs.Wrong.{At}

-- the path itself, or a folder on it
abbrev pub IsOnPath : Text → Text → Type 0
IsOnPath path q = (q ≡ path) ⊎ ((last : Text) × (path ≡ q ⫽ last))

abbrev pub backup : Text
backup = codes "backup"

-- what the label decides
abbrev pub label_keys : List Text
label_keys = codes "backup-label" ∷ codes "backup-prior" ∷ codes "backup-type" ∷ []

-- the part of the log, which has all of these
abbrev pub log_keys : List Text
log_keys = codes "backup-archive-start" ∷ codes "backup-archive-stop" ∷ codes "backup-lsn-start"
    ∷ codes "backup-lsn-stop" ∷ codes "backup-wal-segment-size" ∷ []

abbrev pub AreOfOne : List Text → At → At → Type 0
AreOfOne keys a b = (a.0 ≡ backup) × (b.0 ≡ backup) × In a.1 keys × In b.1 keys

-- A file or folder and one on its path; the keys of the label; those of the log; and whether a server was asked, with
-- the log.
abbrev pub IsTied : At → At → Type 0
IsTied a b = ((p : Text) × (q : Text) × (a.1 ≡ data_path p) × (b.1 ≡ data_path q) × IsOnPath p q)
    ⊎ AreOfOne label_keys a b
    ⊎ AreOfOne log_keys a b
    ⊎ ((a ≡ (codes "backup:option", codes "option-online")) × (b ≡ (backup, codes "backup-archive-start")))
