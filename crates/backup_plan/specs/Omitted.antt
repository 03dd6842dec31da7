-- What a backup leaves out (pgBackRest user guide, "Backup"; PostgreSQL manual, "File System Level Backup" and
-- "Database File Layout"; some own).
use Rattle.std.specs.Prelude.{◌&&◌, ◌||◌, Bool, true, false, nat_eq, bytes_eq, codes}
use Rattle.std.specs.List.{list_any, starts_with, ends_with}
use Rattle.base_devices.specs.declared.data_folder.Node.{Node}
use Rattle.base_devices.specs.declared.data_folder.Node.TheVariants as nodes
use Rattle.base_devices.specs.Content.{is_below}
use Rattle.base_model.specs.Text.{Text}
use Rattle.base_model.specs.Paths.{elements}

-- a name of which nothing is kept: that of a sort's files, or of this program's
abbrev pub is_passing : Text → Bool
is_passing element = starts_with nat_eq element (codes "pgsql_tmp")
    || ends_with nat_eq element (codes ".pgbackrest.tmp")

-- a cache that a server makes anew
abbrev pub is_cache : Text → Bool
is_cache element = bytes_eq element (codes "pg_internal.init") || starts_with nat_eq element (codes "pg_internal.init.")

-- the path, or one below it
abbrev pub is_within : Text → Text → Bool
is_within name path = bytes_eq path name || is_below name path

-- what a running server writes at the top
abbrev pub is_lock : Text → Bool
is_lock path = is_within (codes "postmaster.pid") path || is_within (codes "postmaster.opts") path

-- what asks a server to restore
abbrev pub is_signal : Text → Bool
is_signal path = is_within (codes "recovery.signal") path || is_within (codes "standby.signal") path

-- what an older way of backup leaves
abbrev pub is_label : Text → Bool
is_label path = is_within (codes "backup_label") path || is_within (codes "tablespace_map") path

-- below a folder of which only the folder is kept
abbrev pub is_emptied : Bool → Text → Bool
is_emptied online path =
    is_below (codes "pg_replslot") path || is_below (codes "pg_dynshmem") path || is_below (codes "pg_notify") path
    || is_below (codes "pg_serial") path
    || is_below (codes "pg_snapshots") path || is_below (codes "pg_stat_tmp") path
    || is_below (codes "pg_subtrans") path || (online && is_below (codes "pg_wal") path)

abbrev pub is_file : Node → Bool
is_file (nodes.File size time) = true
is_file nodes.Folder = false
is_file nodes.Link = false
is_file nodes.Other = false

abbrev pub is_folder : Node → Bool
is_folder nodes.Folder = true
is_folder (nodes.File size time) = false
is_folder nodes.Link = false
is_folder nodes.Other = false

-- A folder in the place of the file of settings is left out, with all below it.
abbrev pub is_settings_folder : Text → Node → Bool
is_settings_folder path node = is_below (codes "postgresql.auto.conf") path
    || (bytes_eq path (codes "postgresql.auto.conf") && is_folder node)

-- by its path from the top
abbrev pub is_of_top : Bool → Text → Bool
is_of_top online path = is_lock path || is_signal path || (online && is_label path) || is_emptied online path

-- by its name, wherever it is
abbrev pub is_by_name : Text → Node → Bool
is_by_name path node = list_any is_passing (elements path) || (is_file node && list_any is_cache (elements path))

-- the node is left out
abbrev pub is_omitted : Bool → Text → Node → Bool
is_omitted online path node = is_by_name path node || is_of_top online path || is_settings_folder path node
