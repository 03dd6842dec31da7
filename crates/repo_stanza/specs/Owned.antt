-- The names that are written for a stanza's pairs.
use Rattle.std.specs.Prelude.{◌⊎◌}
use Rattle.base_model.specs.Text.{Text}
use Rattle.base_model.specs.Names.{archive_info, backup_info}
use Rattle.repo_pair.specs.Member.{IsOfPair}

-- a member of one of the stanza's two pairs, or the name at which its bytes are put first
abbrev pub IsOfPairs : Text → Text → Type 0
IsOfPairs stanza n = IsOfPair (archive_info stanza) n ⊎ IsOfPair (backup_info stanza) n
