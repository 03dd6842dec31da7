use Rattle.std.proofs.Common.{◌≡◌, ℕ, Option, IsSome, true, ap, subst, ◌∙◌, rules}
use Rattle.base_devices.specs.Content.{Name, Content}
use Rattle.memory_devices.specs.Agrees.{bytes_at}
use Rattle.memory_devices.specs.Replay.{states_in}
use Rattle.memory_devices.specs.Image.{positions_at, left_of, are_unsynced}
use Rattle.memory_devices.proofs.Left.{given_unsynced}
use Rattle.memory_devices.proofs.image.image_in.Goals as goal

pub left_in-requires : goal.left_in-requires
left_in-requires c = λ q some.
    let all : are_unsynced (states_in c.args.traces.now) c.args.unsynced.now ≡ true = search rules in
    given_unsynced (states_in c.args.traces.now) c.args.unsynced.now all q (subst IsSome (ap (λ (f : Content). f q) c.in_ok-given.ensures) some)

pub returns-clause-content : goal.returns-clause-content
returns-clause-content c =
    let states = states_in c.args.traces.now in
    c.in_ok-left_in.ensures
    ∙ ap (λ (p : Name → Option ℕ). left_of states p (bytes_at c.in_ok-given.given)) c.in_ok-positions.ensures
    ∙ ap (λ (g : Content). left_of states (positions_at c.args.choice.now) g) c.in_ok-given.ensures
