-- When the members of a repository's pairs agree.
use Rattle.std.specs.Prelude.{◌≡◌, IsSome}
use Rattle.base_devices.specs.Content.{Content}
use Rattle.base_model.specs.Text.{Text, In}
use Rattle.base_model.specs.Names.{archive_info, backup_info, manifest_name, copy_of}
use Rattle.base_model.specs.Repository.{Backup, Stanza}

-- both members of the pair are there, with the same bytes
abbrev pub AgreeAt : Content → Text → Type 0
AgreeAt f main = (f (copy_of main) ≡ f main) × IsSome (f main)

-- the same for both pairs and of each backup's manifest
pub record MembersAgree (stanza : Text) (f : Content) (s : Stanza) : Type 0 where
  pub archive : AgreeAt f (archive_info stanza)
  pub backup : AgreeAt f (backup_info stanza)
  pub manifests : (b : Backup) → In b s.backups → AgreeAt f (manifest_name stanza b.entry.label)
