use Rattle.std.proofs.Common.{◌≡◌, ◌∙◌, ◌++◌, ◌∷◌, ◌<◌, [], sym, ap, arith, map, drop, length}
use Rattle.std.proofs.lemmas.List.{take_rest}
use Rattle.base_model.specs.Values.{file_entry_of}
use Rattle.cmd_backup_offline.proofs.Marks.{after_mark, after_none, moved, stayed}
use Rattle.cmd_backup_offline.proofs.equal.marks_of.Goals as goal
use Rattle.cmd_backup_offline.proofs.equal.marks_of.Goals.{in-Some+in_ok-push-in-Some, in-None+in_ok-push-in-None}

pub loop-file-preserved : goal.loop-file-preserved
loop-file-preserved c =
    let old = map file_entry_of c.args.old.now in
    let files = c.args.files.now in
    let i = c.loop-file.file-index in
    let jobs = c.loop-file.jobs_left.now in
    let ends = c.loop-file.ends_left.now in
    let marks = c.loop-file.marks.items in
    let less : i < length files = omega (arith, c.loop-file-test.true) in
    let inv = c.loop-file.invariant in
    elim c.match-next_mark.branch [
      | in-Some+in_ok-push-in-Some w ↦
          (let jobs_is : c.match-next_mark.jobs_left.now ≡ drop 1 jobs = ap (λ s. s.now) w.jobs_left-is ∙ take_rest jobs 1 in
          let ends_is : c.match-next_mark.ends_left.now ≡ drop 1 ends = ap (λ s. s.now) w.ends_left-is ∙ take_rest ends 1 in
          let marks_is : c.match-next_mark.marks.items ≡ marks ++ w.in-Some.equal ∷ [] = ap (λ v. v.items) w.marks-is ∙ w.in_ok-push-in-Some.ensures.items in
          moved old files i jobs _ ends _ marks _ w.in-Some.equal _ jobs_is ends_is marks_is
          (after_mark old files i c.file-item.result less c.file-item.is c.requires.files jobs ends marks _ inv.0 inv.1 inv.2 w.in-Some.equal (sym c.next_mark.ensures ∙ w.in-Some.is)))
      | in-None+in_ok-push-in-None w ↦
          (let jobs_is : c.match-next_mark.jobs_left.now ≡ jobs = ap (λ s. s.now) w.jobs_left-is in
          let ends_is : c.match-next_mark.ends_left.now ≡ ends = ap (λ s. s.now) w.ends_left-is in
          let marks_is = ap (λ v. v.items) w.marks-is ∙ w.in_ok-push-in-None.ensures.items in
          stayed old files i jobs _ ends _ marks _ _ jobs_is ends_is marks_is inv.1
          (after_none old files i c.file-item.result less c.file-item.is c.requires.files jobs ends marks _ inv.0 inv.1 inv.2 (sym c.next_mark.ensures ∙ w.in-None.is)))
    ]
