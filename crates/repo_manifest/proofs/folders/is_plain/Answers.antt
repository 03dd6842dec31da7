use Rattle.std.proofs.Common.{◌≡◌, List, String, Global, length, [], ◌∷◌, Option, Some, None, refl, ap, sym, ◌∙◌, arith}
use Rattle.serde_json.specs.Data.{Data, null, boolean, number, string, array, Members, object, no_members}
use Rattle.serde_json.specs.Find.{as_object}
use Rattle.serde_json.specs.View.{view, members_view}
use Rattle.serde_json.specs.declared.value.Value.{Value}
use Rattle.repo_manifest.proofs.Forms.{no_truth}
use Rattle.repo_manifest.proofs.folders.is_plain.Goals as goal

object_of : (d : Data) (ms : Members) → ◌≡◌ {A = Option Members} (Some ms) (as_object d) → d ≡ object ms
object_of null ms e = cc e
object_of (boolean b) ms e = cc e
object_of (number n) ms e = cc e
object_of (string s) ms e = cc e
object_of (array ds) ms e = cc e
object_of (object os) ms e = let same : ms ≡ os = cc e in ap object (sym same)

none : (ms : List (String Global × Value)) → length ms ≡ 0 → object (members_view ms) ≡ object no_members
none [] h = refl
none (m ∷ ms) h = absurd (omega (arith, h))

nothing : (ms : List (String Global × Value)) → object (members_view ms) ≡ object no_members → length ms ≡ 0
nothing [] h = refl
nothing (m ∷ ms) h = cc h

no_object : (d : Data) → ◌≡◌ {A = Option Members} None (as_object d) → d ≡ object no_members → ⊥
no_object d h e = let x : ◌≡◌ {A = Option Members} None (Some no_members) = h ∙ ap as_object e in cc x

pub returns-in-Some : goal.returns-in-Some
returns-in-Some c =
    let h = c.is_empty.ensures in
    let ms = c.in-Some.members.now.entries in
    let is = object_of (view c.args.value.now) (members_view ms) c.in-Some.ensures in
    (λ t. is ∙ none ms (h.0 t), λ e. h.1 (nothing ms (sym is ∙ e)))

pub returns-in-None : goal.returns-in-None
returns-in-None c = (λ t. absurd (no_truth t), λ e. absurd (no_object (view c.args.value.now) c.in-None.ensures e))
