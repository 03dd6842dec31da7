use Rattle.std.proofs.Common.{◌≡◌, ◌++◌, [], map, drop}
use Rattle.base_model.specs.InfoFiles.{entry_field, AreListed}
use Rattle.base_model.specs.Values.{entry_of}
use Rattle.repo_ini.specs.Parts.{key_of}
use Rattle.repo_info.proofs.ListedKeys.{many}
use Rattle.repo_info.proofs.listed.listed_of.Given as goal

-- the backups so far are a list, and with the keys to come they are the whole
abbrev pub invariant-loop-i : goal.invariant-loop-i
invariant-loop-i l = record {
  listed : AreListed many [] (map entry_of l.backups.items);
  read : map entry_field (map entry_of l.backups.items) ++ map key_of (drop l.i l.keys) ≡ map key_of l.keys;
}
