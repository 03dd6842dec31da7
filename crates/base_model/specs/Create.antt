-- The writes of a new stanza.
use Rattle.std.specs.Prelude.{List, [], ◌∷◌, Bool, ◌&&◌, is_none}
use Rattle.base_devices.specs.Content.{Content}
use Rattle.base_devices.specs.Crash.{Write}
use Rattle.base_model.specs.declared.clusters.Cluster.{Cluster}
use Rattle.base_model.specs.Text.{Text}
use Rattle.base_model.specs.Names.{archive_info, backup_info, copy_of}
use Rattle.base_model.specs.InfoText.{info_text}
use Rattle.base_model.specs.InfoFiles.{archive_sections, backup_sections}
use Rattle.base_model.specs.Values.{ArchiveInfo, BackupInfo}
use Rattle.base_model.specs.Repository.{identity_of}

-- the values of the two pairs: the stanza's one cluster has number 1
abbrev pub first_archive : Cluster → ArchiveInfo
first_archive c = record { current = 1; history = identity_of c ∷ [] }

abbrev pub first_backup : Cluster → BackupInfo
first_backup c = record { current = 1; history = c ∷ []; backups = [] }

unfoldable pub first_archive_text : Cluster → Text
first_archive_text c = info_text (archive_sections (first_archive c))

unfoldable pub first_backup_text : Cluster → Text
first_backup_text c = info_text (backup_sections (first_backup c))

-- a text at both members of a pair, the main one first
abbrev pub member_writes : Text → Text → List Write
member_writes name bytes = (name, bytes) ∷ (copy_of name, bytes) ∷ []

-- the writes of a new stanza, in their order
abbrev pub pair_writes : Text → Cluster → List Write
pair_writes stanza c = (backup_info stanza, first_backup_text c) ∷ (copy_of (backup_info stanza), first_backup_text c)
    ∷ (archive_info stanza, first_archive_text c) ∷ (copy_of (archive_info stanza), first_archive_text c) ∷ []

-- none of the four members of the two pairs is there
abbrev pub lacks_pairs : Text → Content → Bool
lacks_pairs stanza f = is_none (f (archive_info stanza)) && is_none (f (copy_of (archive_info stanza)))
    && is_none (f (backup_info stanza)) && is_none (f (copy_of (backup_info stanza)))
