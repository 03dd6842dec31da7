-- What a drain leaves of the archive pair.
use Rattle.std.specs.Prelude.{IsSome, IfSome}
use Rattle.base_devices.specs.Crash.{IsAlikeAt}
use Rattle.base_devices.specs.Moments.{View}
use Rattle.base_model.specs.Names.{archive_info}
use Rattle.base_model.specs.Text.{Text}
use Rattle.base_model.specs.Walks.{IsSynced}
use Rattle.repo_pair.specs.Member.{IsMember}
use Rattle.cmd_types.specs.Current.{AgreesAtPair}

-- Where the pair's members have the same bytes they still do. Where no name that is looked at is unsynced none becomes
-- so, and all that a crash leaves still has both members as the disk has them.
pub record KeepsPair (stanza : Text) (old new : View) : Type 0 where
  pub known : IsSome old.now → IsSome new.now
  pub agrees : IsSome old.now → IfSome old.now (AgreesAtPair stanza) → IfSome new.now (AgreesAtPair stanza)
  pub synced : IsSynced stanza old → IsSome old.now → IsSynced stanza new
  pub alike : IsSynced stanza old → IsSome old.now → IsAlikeAt (IsMember (archive_info stanza)) old
      → IsAlikeAt (IsMember (archive_info stanza)) new
