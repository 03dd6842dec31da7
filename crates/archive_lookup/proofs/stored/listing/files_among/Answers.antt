use Rattle.std.proofs.Common.{◌∙◌, refl}
use Rattle.archive_lookup.specs.declared.stored.files.Stored.{Stored}
use Rattle.archive_lookup.specs.Listing.{ShowsFile, PassesFile}
use Rattle.archive_lookup.proofs.Picked.{step_tell, step_pass}
use Rattle.archive_lookup.proofs.Listed.{shows_file, passes_file}
use Rattle.archive_lookup.proofs.stored.listing.files_among.Goals as goal
use Rattle.archive_lookup.proofs.stored.listing.files_among.Goals.{in-Some+in_ok-path+in_ok-push, in_default}

pub loop-name-preserved : goal.loop-name-preserved
loop-name-preserved c =
    elim c.match-read_path.branch [
      | in-Some+in_ok-path+in_ok-push w ↦
          let new : Stored = record { id = w.in-Some.known.id; name = w.in-Some.known.name; sum = w.in-Some.known.sum; size = c.loop-name-item.result.size; path = w.in_ok-path.path } in
          step_tell (ShowsFile c.args.folder.now) (PassesFile c.args.folder.now) c.args.found.now c.loop-name.name-index c.loop-name-item.result c.loop-name.files.items c.match-read_path.files.items new c.loop-name-test.true c.loop-name-item.is c.loop-name.invariant
          (shows_file c.args.folder.now _ _ c.loop-name-item.result new w.in-Some.ensures.value w.in-Some.ensures.fits c.as_bytes-in-loop-name.ensures.value c.as_bytes.ensures.value (w.in_ok-path.ensures.ok ∙ w.as_str.ensures.value) refl) (let e = w.in_ok-push.ensures.items in cc)
      | in_default w ↦
          step_pass (ShowsFile c.args.folder.now) (PassesFile c.args.folder.now) c.args.found.now c.loop-name.name-index c.loop-name-item.result c.loop-name.files.items c.match-read_path.files.items c.loop-name-test.true c.loop-name-item.is c.loop-name.invariant
          (passes_file c.args.folder.now _ _ c.loop-name-item.result w.in_default.ensures.none c.as_bytes-in-loop-name.ensures.value c.as_bytes.ensures.value) (cc)
    ]
