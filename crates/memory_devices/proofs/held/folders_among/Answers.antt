use Rattle.std.proofs.Common.{List, map, string_bytes, ◌∙◌, subst}
use Rattle.std.proofs.lemmas.List.{take_all}
use Rattle.base_devices.specs.declared.disk.Found.{Found}
use Rattle.memory_devices.proofs.Through.{AreThrough, through_known, through_passed, are_folders}
use Rattle.memory_devices.proofs.held.folders_among.Goals as goal
use Rattle.memory_devices.proofs.held.folders_among.Goals.{in-Some+in_ok-from_str+in_ok-push, in_default}

pub loop-name-preserved : goal.loop-name-preserved
loop-name-preserved c =
    let folder = c.args.folder.now in
    let found = c.args.found.now in
    let l = c.loop-name in
    elim c.match-folder_within.branch [
      | in-Some+in_ok-from_str+in_ok-push w ↦
          through_known folder found l.name-index c.loop-name-item.result l.known.items c.match-folder_within.known.items c.loop-name-test.true c.loop-name-item.is l.invariant
          w.in_ok-from_str.field-0 w.in-Some.within.now (let e = w.in_ok-push.ensures.items in cc) w.in_ok-from_str.ensures.ok w.in-Some.ensures.value
          (λ z rest h e. w.in-Some.ensures.within z rest h (c.as_str.ensures.value ∙ e))
      | in_default w ↦
          through_passed folder found l.name-index c.loop-name-item.result l.known.items c.match-folder_within.known.items c.loop-name-test.true c.loop-name-item.is l.invariant
          (cc) (λ z rest h e. w.in_default.ensures.within z rest h (c.as_str.ensures.value ∙ e))
    ]

pub returns : goal.returns
returns c =
    let folder = c.args.folder.now in
    let found = c.args.found.now in
    let known = map string_bytes c.loop-name.known.items in
    let whole : AreThrough folder found known = subst (λ (l : List Found). AreThrough folder l known) (take_all c.loop-name.name-index found c.loop-name-test.false) c.loop-name.invariant in
    are_folders folder found known whole
