use Rattle.std.proofs.Common.{refl}
use Rattle.sha1.specs.Sha1.{sha1}
use Rattle.base_devices.specs.Cause.{Rises}
use Rattle.archive_store.specs.declared.fault.PushFault.TheVariants.{Archive}
use Rattle.archive_lookup.specs.declared.stored.stored_lookup.Look.TheVariants.{Free, One, Two}
use Rattle.archive_store.specs.Pushing.{PushFromCause}
use Rattle.archive_store.proofs.Got.{err_by}
use Rattle.archive_store.proofs.Placed.{temporary_of, lies_of, lasting_of, looks_as, one_only, one_some}
use Rattle.archive_store.proofs.PushedFrom.{refused_for, two_refused, other_refused, still_leaves, stored_leaves, put_leaves, put_file, put_written}
use Rattle.archive_store.proofs.pushing.push_from.Goals as goal

-- ---- nothing was changed

pub returns-in_err-names-clause-leaves : goal.returns-in_err-names-clause-leaves
returns-in_err-names-clause-leaves g c =
    still_leaves c.args.stanza.now c.args.id.now c.args.name.now c.args.system (g.P.ByteSource.bytes c.args.pieces.now c.args.device.now) c.args.prefix.bytes.now c.args.prefix.length c.requires.known c.requires.within
    (g.D.Disk.state c.args.d.now).view (g.D.Disk.state c.look_checked.new.d).view c.look_checked.ensures.looks.time c.look_checked.ensures.looks.now

pub returns-in_err-compare-in-One-clause-leaves : goal.returns-in_err-compare-in-One-clause-leaves
returns-in_err-compare-in-One-clause-leaves g c =
    still_leaves c.args.stanza.now c.args.id.now c.args.name.now c.args.system (g.P.ByteSource.bytes c.args.pieces.now c.args.device.now) c.args.prefix.bytes.now c.args.prefix.length c.requires.known c.requires.within
    (g.D.Disk.state c.args.d.now).view (g.D.Disk.state c.look_checked.new.d).view c.look_checked.ensures.looks.time c.look_checked.ensures.looks.now

pub returns-in-One-clause-leaves : goal.returns-in-One-clause-leaves
returns-in-One-clause-leaves g c =
    still_leaves c.args.stanza.now c.args.id.now c.args.name.now c.args.system (g.P.ByteSource.bytes c.args.pieces.now c.args.device.now) c.args.prefix.bytes.now c.args.prefix.length c.requires.known c.requires.within
    (g.D.Disk.state c.args.d.now).view (g.D.Disk.state c.look_checked.new.d).view c.look_checked.ensures.looks.time c.look_checked.ensures.looks.now

pub returns-clause-leaves : goal.returns-clause-leaves
returns-clause-leaves g c =
    still_leaves c.args.stanza.now c.args.id.now c.args.name.now c.args.system (g.P.ByteSource.bytes c.args.pieces.now c.args.device.now) c.args.prefix.bytes.now c.args.prefix.length c.requires.known c.requires.within
    (g.D.Disk.state c.args.d.now).view (g.D.Disk.state c.look_checked.new.d).view c.look_checked.ensures.looks.time c.look_checked.ensures.looks.now

pub returns-in_err-names-clause-cause : goal.returns-in_err-names-clause-cause
returns-in_err-names-clause-cause g c =
    err_by (PushFromCause c.args.stanza.now c.args.id.now c.args.name.now c.args.system (g.P.ByteSource.bytes c.args.pieces.now c.args.device.now) c.args.prefix.bytes.now c.args.prefix.length (g.D.Disk.state c.args.d.now).view.now (Rises (g.D.Disk.state c.args.d.now).faults (g.D.Disk.state c.look_checked.new.d).faults) (Rises (g.P.ByteSource.faults c.args.device.now) (g.P.ByteSource.faults c.args.device.now)))
    c.from_residual.result (Archive c.in_err-names.field-0.0) c.from_residual.ensures.1
    (refused_for c.args.stanza.now c.args.id.now c.args.name.now c.args.system (g.P.ByteSource.bytes c.args.pieces.now c.args.device.now) c.args.prefix.bytes.now c.args.prefix.length c.requires.known c.requires.within
    (g.D.Disk.state c.args.d.now).view.now (Rises (g.D.Disk.state c.args.d.now).faults (g.D.Disk.state c.look_checked.new.d).faults) (Rises (g.P.ByteSource.faults c.args.device.now) (g.P.ByteSource.faults c.args.device.now)) c.in_err-names.field-0.0 c.in_err-names.ensures.cause)

-- ---- it was stored already, or with another sum

pub returns-in_err-compare-in-One-clause-cause : goal.returns-in_err-compare-in-One-clause-cause
returns-in_err-compare-in-One-clause-cause g c =
    err_by (PushFromCause c.args.stanza.now c.args.id.now c.args.name.now c.args.system (g.P.ByteSource.bytes c.args.pieces.now c.args.device.now) c.args.prefix.bytes.now c.args.prefix.length (g.D.Disk.state c.args.d.now).view.now (Rises (g.D.Disk.state c.args.d.now).faults (g.D.Disk.state c.look_checked.new.d).faults) (Rises (g.P.ByteSource.faults c.args.device.now) (g.P.ByteSource.faults c.compare.new.device)))
    c.from_residual-in_err-compare-in-One.result c.in_err-compare-in-One.field-0.0 c.from_residual-in_err-compare-in-One.ensures.1
    (other_refused c.args.stanza.now c.args.id.now c.args.name.now c.args.system (g.P.ByteSource.bytes c.args.pieces.now c.args.device.now) c.args.prefix.bytes.now c.args.prefix.length c.requires.known c.requires.within
    (g.D.Disk.state c.args.d.now).view.now (Rises (g.D.Disk.state c.args.d.now).faults (g.D.Disk.state c.look_checked.new.d).faults) (Rises (g.P.ByteSource.faults c.args.device.now) (g.P.ByteSource.faults c.compare.new.device)) c.in_ok-names.ensures.right c.in-One.kept.sum.0
    (one_only c.args.stanza.now c.args.id.now c.args.name.now c.in-One.kept _ (looks_as c.args.stanza.now c.args.id.now c.args.name.now (g.D.Disk.state c.args.d.now).view.now c.in_ok-names.look (One c.in-One.kept) c.in-One.is c.in_ok-names.ensures.shows)) c.in_err-compare-in-One.field-0.0 c.in_err-compare-in-One.ensures.cause)

pub returns-in-One-clause-file : goal.returns-in-One-clause-file
returns-in-One-clause-file g c =
    stored_leaves c.args.stanza.now c.args.id.now c.args.name.now c.args.system (g.P.ByteSource.bytes c.args.pieces.now c.args.device.now) c.args.prefix.bytes.now c.args.prefix.length c.requires.known c.requires.within
    c.in_ok-names.ensures.places (g.D.Disk.state c.args.d.now).view (g.D.Disk.state c.look_checked.new.d).view c.look_checked.ensures.looks.time c.look_checked.ensures.looks.now c.in_ok-names.ensures.settled
    (one_some c.args.stanza.now c.args.id.now c.args.name.now c.in-One.kept _ (looks_as c.args.stanza.now c.args.id.now c.args.name.now (g.D.Disk.state c.args.d.now).view.now c.in_ok-names.look (One c.in-One.kept) c.in-One.is c.in_ok-names.ensures.shows))

pub returns-clause-cause : goal.returns-clause-cause
returns-clause-cause g c =
    two_refused c.args.stanza.now c.args.id.now c.args.name.now c.args.system (g.P.ByteSource.bytes c.args.pieces.now c.args.device.now) c.args.prefix.bytes.now c.args.prefix.length c.requires.known c.requires.within
    (g.D.Disk.state c.args.d.now).view.now (Rises (g.D.Disk.state c.args.d.now).faults (g.D.Disk.state c.look_checked.new.d).faults) (Rises (g.P.ByteSource.faults c.args.device.now) (g.P.ByteSource.faults c.args.device.now)) c.in_ok-names.ensures.right c.in-Two.first c.in-Two.second
    (looks_as c.args.stanza.now c.args.id.now c.args.name.now (g.D.Disk.state c.args.d.now).view.now c.in_ok-names.look (Two c.in-Two.first c.in-Two.second) c.in-Two.is c.in_ok-names.ensures.shows)

-- ---- it is put

pub put_new-requires-clause-folder : goal.put_new-requires-clause-folder
put_new-requires-clause-folder g c =
    lies_of c.args.stanza.now c.args.id.now c.args.name.now c.in_ok-names.names c.in_ok-names.ensures.names

pub put_new-requires-clause-temporary : goal.put_new-requires-clause-temporary
put_new-requires-clause-temporary g c =
    temporary_of c.args.stanza.now c.args.id.now c.args.name.now c.in_ok-names.names c.in_ok-names.ensures.names

pub put_new-requires-clause-lasting : goal.put_new-requires-clause-lasting
put_new-requires-clause-lasting g c =
    λ bytes. lasting_of c.args.stanza.now c.args.id.now c.args.name.now c.in_ok-names.names c.in_ok-names.ensures.names c.in_ok-names.ensures.places bytes (sha1 bytes) refl

pub returns-in_err-sum-in-Free-clause-leaves : goal.returns-in_err-sum-in-Free-clause-leaves
returns-in_err-sum-in-Free-clause-leaves g c =
    let w = c.put_new.ensures.left in
    put_leaves c.args.stanza.now c.args.id.now c.args.name.now c.args.system (g.P.ByteSource.bytes c.args.pieces.now c.args.device.now) c.args.prefix.bytes.now c.args.prefix.length c.requires.known c.requires.within
    c.in_ok-names.ensures.places (g.D.Disk.state c.args.d.now).view (g.D.Disk.state c.look_checked.new.d).view c.look_checked.ensures.looks.time c.look_checked.ensures.looks.now c.in_ok-names.ensures.settled c.in_ok-names.names c.in_ok-names.ensures.names (g.D.Disk.state c.put_new.new.d).view
    (looks_as c.args.stanza.now c.args.id.now c.args.name.now (g.D.Disk.state c.args.d.now).view.now c.in_ok-names.look Free c.in-Free.is c.in_ok-names.ensures.shows)
    w.0 w.1 w.2 c.put_new.ensures.only.0 c.put_new.ensures.only.1

pub returns-in-Free-clause-leaves : goal.returns-in-Free-clause-leaves
returns-in-Free-clause-leaves g c =
    let w = c.put_new.ensures.left in
    put_leaves c.args.stanza.now c.args.id.now c.args.name.now c.args.system (g.P.ByteSource.bytes c.args.pieces.now c.args.device.now) c.args.prefix.bytes.now c.args.prefix.length c.requires.known c.requires.within
    c.in_ok-names.ensures.places (g.D.Disk.state c.args.d.now).view (g.D.Disk.state c.look_checked.new.d).view c.look_checked.ensures.looks.time c.look_checked.ensures.looks.now c.in_ok-names.ensures.settled c.in_ok-names.names c.in_ok-names.ensures.names (g.D.Disk.state c.put_new.new.d).view
    (looks_as c.args.stanza.now c.args.id.now c.args.name.now (g.D.Disk.state c.args.d.now).view.now c.in_ok-names.look Free c.in-Free.is c.in_ok-names.ensures.shows)
    w.0 w.1 w.2 c.put_new.ensures.only.0 c.put_new.ensures.only.1

pub returns-in-Free-clause-file : goal.returns-in-Free-clause-file
returns-in-Free-clause-file g c =
    let w = c.in_ok-sum-in-Free.ensures.left in
    put_file c.args.stanza.now c.args.id.now c.args.name.now c.args.system (g.P.ByteSource.bytes c.args.pieces.now c.args.device.now) c.args.prefix.bytes.now c.args.prefix.length c.requires.known c.requires.within
    c.in_ok-names.ensures.places (g.D.Disk.state c.args.d.now).view (g.D.Disk.state c.look_checked.new.d).view c.look_checked.ensures.looks.time c.look_checked.ensures.looks.now c.in_ok-names.ensures.settled c.in_ok-names.names c.in_ok-names.ensures.names (g.D.Disk.state c.put_new.new.d).view
    (looks_as c.args.stanza.now c.args.id.now c.args.name.now (g.D.Disk.state c.args.d.now).view.now c.in_ok-names.look Free c.in-Free.is c.in_ok-names.ensures.shows)
    w.0 w.1 w.2 w.3.1

pub returns-in-Free-clause-answered : goal.returns-in-Free-clause-answered
returns-in-Free-clause-answered g c =
    let w = c.in_ok-sum-in-Free.ensures.left in
    let free = (looks_as c.args.stanza.now c.args.id.now c.args.name.now (g.D.Disk.state c.args.d.now).view.now c.in_ok-names.look Free c.in-Free.is c.in_ok-names.ensures.shows) in
    record {
      bytes = w.0;
      read = w.1;
      summed = w.3.0;
      of_system = c.in_ok-names.ensures.right w.0 w.1.begins;
      new = λ _. (
        free,
        put_written c.args.stanza.now c.args.id.now c.args.name.now c.args.system (g.P.ByteSource.bytes c.args.pieces.now c.args.device.now) c.args.prefix.bytes.now c.args.prefix.length c.requires.known c.requires.within
            c.in_ok-names.ensures.places (g.D.Disk.state c.args.d.now).view (g.D.Disk.state c.look_checked.new.d).view c.look_checked.ensures.looks.time c.look_checked.ensures.looks.now c.in_ok-names.ensures.settled c.in_ok-names.names c.in_ok-names.ensures.names (g.D.Disk.state c.put_new.new.d).view free w.0 w.1 w.2 w.3.1,
      );
      same = λ e. cc e;
    }
