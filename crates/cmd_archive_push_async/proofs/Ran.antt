-- A drain under the id of the stanza's current cluster.
use Rattle.std.proofs.Common.{◌≡◌, [], ◌∷◌, ◌++◌, Option, ap, ◌∙◌, subst}
use Rattle.std.specs.Prelude.{ℕ, List, IfSome, IsSome, is_some}
use Rattle.base_devices.specs.Content.{Content}
use Rattle.base_devices.specs.Moments.{View}
use Rattle.base_devices.specs.DataFolder.{Nodes}
use Rattle.base_devices.proofs.Nows.{known_as}
use Rattle.base_disk.proofs.Images.{Law}
use Rattle.base_model.specs.declared.clusters.ClusterId.{ClusterId}
use Rattle.base_model.specs.declared.wal.ArchiveId.{ArchiveId}
use Rattle.base_model.specs.declared.wal.ArchiveName.{ArchiveName}
use Rattle.base_model.specs.Steps.{ArchivePushAsync, ArchivePushDrain}
use Rattle.base_model.specs.Text.{Text}
use Rattle.cmd_types.specs.Current.{HasCurrent, id_kept}
use Rattle.cmd_archive_push.proofs.Stores.{current_at}
use Rattle.cmd_archive_push_async.specs.declared.files.push_marks.Drained.{Drained}
use Rattle.cmd_archive_push_async.specs.Draining.{DrainsFrom}
use Rattle.cmd_archive_push_async.specs.Fates.{kept_files}
use Rattle.cmd_archive_push_async.specs.Keeping.{IsUnderCurrent, DrainsLog, turn_of}
use Rattle.cmd_archive_push_async.proofs.Commands.{drain_as, turn_as}
use Rattle.cmd_archive_push_async.proofs.Held.{gives_held}
use Rattle.cmd_archive_push_async.proofs.Kept.{drain_runs, drain_gives}

pub current_under : (stanza : Text) (id : ArchiveId) (now : Option Content) → (c : ClusterId) × (id ≡ id_kept c) × IfSome now (λ f. HasCurrent stanza f c) → IsUnderCurrent stanza id now
current_under stanza id now h = record {
  is = λ r some represents.
      let f = known_as now some in
      let has = subst (λ (o : Option Content). IfSome o (λ f. HasCurrent stanza f h.0)) f.1 h.2 in
      let x = current_at stanza f.0 r h.0 has (represents.represents f.0 f.1) in
      (x.0, x.1, (x.2.0, x.2.1, h.1 ∙ ap id_kept x.2.2));
}

pub drains_log : (stanza : Text) (id : ArchiveId) (system : ℕ) (f : Nodes) (names : List ArchiveName) (end : Option Drained) (held : Option Content) (repo new_repo spool new_spool : View) → Law spool → Law new_spool
    → (IsSome spool.now → IsSome held) → DrainsFrom stanza id system f names end held repo new_repo spool new_spool → DrainsLog stanza id system f names end held repo new_repo spool new_spool
drains_log stanza id system f names end held repo new_repo spool new_spool law new_law known d = record {
  drains = d;
  runs = λ current. drain_runs stanza id (kept_files d.entries) d.more (ArchivePushDrain (kept_files d.entries ++ d.more)) (drain_as id (kept_files d.entries ++ d.more)) repo new_repo current d.repository spool new_spool law new_law d.marks (λ some. d.part.known (known some)) end (λ some. (d.ended some).1);
  waited = λ current. drain_runs stanza id (kept_files d.entries) d.more (ArchivePushAsync (turn_of end id (kept_files d.entries ++ d.more) ∷ [])) (turn_as id (kept_files d.entries ++ d.more) (is_some end)) repo new_repo current d.repository spool new_spool law new_law d.marks (λ some. d.part.known (known some)) end (λ some. (d.ended some).1);
  receipts = λ apart. gives_held stanza id system f names d.entries d.more repo new_repo d.puts apart spool new_spool law new_law d.marks;
  gives = λ current. drain_gives stanza id (kept_files d.entries) d.more (ArchivePushDrain (kept_files d.entries ++ d.more)) (drain_as id (kept_files d.entries ++ d.more)) repo new_repo current d.repository spool new_spool law new_law d.marks (is_some end);
}
