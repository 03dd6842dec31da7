use Rattle.std.proofs.Common.{◌≡◌, None, string_bytes, rules, ap, sym, ◌∙◌}
use Rattle.std.specs.String.{string_cmp}
use Rattle.std.specs.BTreeMap.{IsOrdered}
use Rattle.std.specs.Map.Iter.{deref_pair}
use Rattle.std.proofs.lemmas.Map.Iter.{rest_more}
use Rattle.memory_devices.specs.Agrees.{bytes_at}
use Rattle.memory_devices.specs.Replay.{value_of}
use Rattle.memory_devices.specs.Image.{positions_in, left_names, named}
use Rattle.memory_devices.proofs.Left.{left_pushed, left_skipped, image_laid}
use Rattle.memory_devices.proofs.image.left_in.Goals as goal

pub loop-name-preserved-in_ok-push : goal.loop-name-preserved-in_ok-push
loop-name-preserved-in_ok-push c =
    let positions = positions_in c.args.positions.now in
    let given = bytes_at c.args.given.now in
    let e = deref_pair (c.in-Some.name, c.in-Some.trace) in
    let next = rest_more deref_pair c.loop-name.name-iterator c.next.new.self c.next.result (c.in-Some.name, c.in-Some.trace) (search rules) c.next.ensures.steps in
    let called : string_bytes c.in_ok-clone.field-0 ≡ string_bytes e.0 = search rules in
    left_pushed positions given c.loop-name.name-iterator c.next.new.self e next c.loop-name.names.items c.push.new.self.items (c.in_ok-clone.field-0, c.in-Some-value.bytes) c.deref.result.now (left_names positions given c.args.traces.now.entries)
    c.in_ok-push.ensures.items called c.deref.ensures (sym c.in_ok-value.ensures ∙ ap value_of c.in-Some-value.is) c.loop-name.invariant

pub loop-name-preserved : goal.loop-name-preserved
loop-name-preserved c =
    let positions = positions_in c.args.positions.now in
    let given = bytes_at c.args.given.now in
    let e = deref_pair (c.in-Some.name, c.in-Some.trace) in
    let next = rest_more deref_pair c.loop-name.name-iterator c.next.new.self c.next.result (c.in-Some.name, c.in-Some.trace) (search rules) c.next.ensures.steps in
    let none : c.in_ok-value.value ≡ None = search rules in
    left_skipped positions given c.loop-name.name-iterator c.next.new.self e next c.loop-name.names.items c.deref.result.now (left_names positions given c.args.traces.now.entries)
    c.deref.ensures (sym c.in_ok-value.ensures ∙ ap value_of none) c.loop-name.invariant

pub returns : goal.returns
returns c =
    let traces = c.args.traces.now in
    let positions = positions_in c.args.positions.now in
    let given = bytes_at c.args.given.now in
    let ordered : IsOrdered string_cmp traces = search rules in
    let g = c.into_iter-name-iterator.ensures in
    let whole : named c.loop-name.names.items ≡ left_names positions given traces.entries = search rules in
    image_laid traces ordered positions given c.requires c.loop-name.names.items whole
