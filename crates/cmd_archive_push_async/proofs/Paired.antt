-- What a drain leaves of the archive pair, push by push.
use Rattle.std.proofs.Common.{refl}
use Rattle.sha1.specs.Sha1.{sha1}
use Rattle.base_text.specs.Sum.{IsSum}
use Rattle.base_text.proofs.Digests.{IsSum-sha1}
use Rattle.base_devices.specs.Moments.{View}
use Rattle.base_model.specs.declared.wal.ArchiveId.{ArchiveId}
use Rattle.base_model.specs.declared.wal.ArchiveName.{ArchiveName}
use Rattle.base_model.specs.Represents.{IsArchivePlace, IsArchiveFile}
use Rattle.base_model.specs.Text.{Text}
use Rattle.archive_lookup.specs.Stored.{archive_path}
use Rattle.archive_store.specs.Pushes.{Writes}
use Rattle.cmd_archive_push.proofs.Putting.{puts_first}
use Rattle.cmd_archive_push.proofs.Stores.{agrees_on, members_on}
use Rattle.cmd_archive_push_async.specs.Paired.{KeepsPair}

pub pair_same : (stanza : Text) (v : View) → KeepsPair stanza v v
pair_same stanza v = record { known = λ some. some; agrees = λ some h. h; synced = λ t some. t; alike = λ t some h. h }

pub pair_on : (stanza : Text) (a b c : View) → KeepsPair stanza a b → KeepsPair stanza b c → KeepsPair stanza a c
pair_on stanza a b c p q = record {
  known = λ some. q.known (p.known some);
  agrees = λ some h. q.agrees (p.known some) (p.agrees some h);
  synced = λ t some. q.synced (p.synced t some) (p.known some);
  alike = λ t some h. q.alike (p.synced t some) (p.known some) (p.alike t some h);
}

-- a push leaves it unchanged
module _ (stanza : Text) (id : ArchiveId) (name : ArchiveName) (place : (sum : Text) → IsSum sum → IsArchivePlace id name sum) (bytes : Text) where
  abbrev path : Text
  path = archive_path stanza id name (sha1 bytes)

  file : IsArchiveFile stanza path
  file = record { id = id; file = name; sum = sha1 bytes; fits = place (sha1 bytes) (IsSum-sha1 bytes); is = refl }

  pub pair_pushed : (old new : View) → Writes stanza id name bytes old new → KeepsPair stanza old new
  pair_pushed old new w = record {
    known = w.now.known;
    agrees = λ some h. agrees_on stanza path bytes old.now new.now file w.now some h;
    synced = λ t some. (puts_first stanza id name place bytes old new w).synced t some;
    alike = λ t some h. members_on stanza path bytes old new file (w.crash t some) some h;
  }
