use Rattle.std.proofs.Common.{◌≡◌, List, ℕ, Some, ap, ◌∙◌, rules, ◌++◌}
use Rattle.base_devices.specs.Content.{put}
use Rattle.memory_devices.specs.Agrees.{bytes_at}
use Rattle.memory_devices.proofs.Maps.{bytes_set, set_held, lengthened_some}
use Rattle.memory_devices.proofs.Results.{on_err}
use Rattle.memory_devices.proofs.held.extend.Goals as goal

pub returns-in_ok-extend_from_slice-in-Some-clause-ok : goal.returns-in_ok-extend_from_slice-in-Some-clause-ok
returns-in_ok-extend_from_slice-in-Some-clause-ok c =
    let w = c.extend_from_slice.new.self in
    let f = bytes_at c.args.names.now in
    let had : f c.args.name.now ≡ Some c.in-Some.value.now.items = search rules in
    let longer : w.items ≡ c.in-Some.value.now.items ++ c.args.bytes.now = search rules in
    bytes_set c.args.names.now (c.get_mut.follows.lender w) c.args.name.now (Some w) ((c.get_mut.follows.holds w).3 (search rules))
    ∙ ap (λ (l : List ℕ). put c.args.name.now (Some l) f) longer
    ∙ lengthened_some c.args.name.now c.args.bytes.now c.in-Some.value.now.items f had

pub returns-in_err-extend_from_slice-in-Some-clause-err : goal.returns-in_err-extend_from_slice-in-Some-clause-err
returns-in_err-extend_from_slice-in-Some-clause-err c =
    let w = c.extend_from_slice.new.self in
    let f = bytes_at c.args.names.now in
    let had : f c.args.name.now ≡ Some c.in-Some.value.now.items = search rules in
    let same : w.items ≡ c.in-Some.value.now.items = search rules in
    on_err c.from_residual.result (bytes_set c.args.names.now (c.get_mut.follows.lender w) c.args.name.now (Some w) ((c.get_mut.follows.holds w).3 (search rules))
    ∙ ap (λ (l : List ℕ). put c.args.name.now (Some l) f) same
    ∙ set_held c.args.name.now (Some c.in-Some.value.now.items) f had)
