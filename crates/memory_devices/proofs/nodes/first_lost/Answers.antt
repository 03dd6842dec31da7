use Rattle.std.proofs.Common.{◌≡◌, true, string_bytes, bytes_eq, ◌||◌, ◌∙◌, ap, rules}
use Rattle.std.specs.Map.Iter.{deref_pair}
use Rattle.std.proofs.lemmas.Map.Iter.{rest_more}
use Rattle.std.proofs.lemmas.Slice.Eq.{bytes_eq-Decides}
use Rattle.std.specs.List.{list_any, list_all}
use Rattle.memory_devices.specs.Nodes.{nodes_at, is_placed}
use Rattle.memory_devices.proofs.Bare.{key_there, all_rooted}
use Rattle.memory_devices.proofs.nodes.first_lost.Goals as goal

pub returns-then-not-has_its_folder : goal.returns-then-not-has_its_folder
returns-then-not-has_its_folder c =
    let path = c.deref-then-not-has_its_folder.result.now in
    let same : bytes_eq path (string_bytes c.in-Some.path.now) ≡ true = (bytes_eq-Decides path (string_bytes c.in-Some.path.now)).1 c.deref-then-not-has_its_folder.ensures in
    let next = rest_more deref_pair c.loop-path.path-iterator c.next.new.self c.next.result (c.in-Some.path, c.in-Some.field-0-1) (search rules) c.next.ensures.steps in
    let first : list_any (λ e. bytes_eq path (string_bytes e.0)) c.loop-path.path-iterator ≡ true =
    ap (list_any (λ e. bytes_eq path (string_bytes e.0))) next ∙ ap (λ b. b || list_any (λ e. bytes_eq path (string_bytes e.0)) c.next.new.self) same in
    (key_there c.args.nodes.now path (c.loop-path.invariant.there path first), search rules)

pub returns : goal.returns
returns c =
    let whole : list_all (λ e. is_placed (nodes_at c.args.nodes.now) (string_bytes e.0)) c.args.nodes.now.entries ≡ true = search rules in
    all_rooted c.args.nodes.now whole
