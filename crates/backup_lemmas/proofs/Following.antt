-- A command's ways one after another, and its moves.
use Rattle.std.proofs.Common.{◌≡◌, ⊎_elim, inl, inr, ◌+◌, ◌≤◌, ℕ, List, [], ◌∷◌, ◌++◌, map, Some, refl, sym, ◌∙◌, ap, arith, append_assoc}
use Rattle.std.specs.List.{flat_map}
use Rattle.base_devices.specs.Content.{Content}
use Rattle.base_devices.specs.Moments.{View, IsImage}
use Rattle.base_model.specs.declared.clusters.Cluster.{Cluster}
use Rattle.base_model.specs.InfoFiles.{AreFrom}
use Rattle.base_model.specs.Text.{Text, In}
use Rattle.base_model.specs.Repository.{Stanza, Repository}
use Rattle.base_model.specs.Represents.{Represents}
use Rattle.base_model.specs.Steps.{Step, Move, One, Any, IsPartOf, IsSomeOf, after, after_all, all_of, changed}
use Rattle.base_model.specs.Steady.{IsSteady, EachImage}
use Rattle.base_model.proofs.Begun.{either}
use Rattle.base_model.proofs.PushDone.{after_some}
use Rattle.base_model.proofs.Waited.{all_after}

-- ---- ways

-- at the end of a way on which all represents one repository the disk is steady at it
pub moves_steady : (stanza : Text) (r : Repository) (a b : View) → EachImage stanza (λ g. Represents stanza g r) a b → IsSteady stanza r b
moves_steady stanza r a b m = record { fixed = m.fixed; places = m.places; represents = λ f leaves. m.leaves b.moment f m.later (omega arith) leaves }

-- two ways are one
pub moves_on : (stanza : Text) (P Q R : Content → Type 0) (a b c : View) → ((g : Content) → P g → R g) → ((g : Content) → Q g → R g) → EachImage stanza P a b → EachImage stanza Q b c → EachImage stanza R a c
moves_on stanza P Q R a b c first second p q = record {
  later = omega (arith, p.later, q.later);
  past = λ t n v le k. p.past t n v le (q.past t n v (omega (arith, le, p.later)) k);
  past_unsynced = λ t n le. q.past_unsynced t n (omega (arith, le, p.later)) ∙ p.past_unsynced t n le;
  known = q.known;
  fixed = q.fixed;
  places = q.places;
  leaves = λ t g lo hi leaves. ⊎_elim
      (λ (now : c.now ≡ Some g). second g (q.leaves c.moment g q.later (omega arith) (inl now)))
      (λ (image : IsImage c t g). ⊎_elim
      (λ (le : t ≤ b.moment). first g (p.leaves t g lo le (inr (λ n. ⊎_elim (λ k. inl (q.past t n (g n) le k)) (λ l. inr (sym (q.past_unsynced t n le) ∙ l.0, l.1)) (image n)))))
      (λ (ge : b.moment ≤ t). second g (q.leaves t g ge hi (inr image)))
      (either t b.moment)) leaves;
}

-- ---- moves, and one step after them

pub all_then : (moves : List Move) (t : Step) → all_of (moves ++ One t ∷ []) ≡ all_of moves ++ t ∷ []
all_then [] t = refl
all_then (One u ∷ moves) t = ap (λ (l : List Step). u ∷ l) (all_then moves t)
all_then (Any groups ∷ moves) t = ap (λ (l : List Step). flat_map (λ g. g) groups ++ l) (all_then moves t) ∙ sym (append_assoc (flat_map (λ g. g) groups) (all_of moves) (t ∷ []))

pub part_then : (done : List Step) (moves : List Move) (t : Step) → IsPartOf done moves → IsPartOf done (moves ++ One t ∷ [])
part_then done [] t p = inl p
part_then done (One u ∷ moves) t p = ⊎_elim (λ (e : done ≡ []). inl e) (λ (q : (rest : List Step) × (done ≡ u ∷ rest) × IsPartOf rest moves). inr (q.0, q.1, part_then q.0 moves t q.2)) p
part_then done (Any groups ∷ moves) t p = ⊎_elim (λ (s : IsSomeOf done groups). inl s)
    (λ (q : (rest : List Step) × (done ≡ flat_map (λ g. g) groups ++ rest) × IsPartOf rest moves). inr (q.0, q.1, part_then q.0 moves t q.2)) p

pub all_part : (moves : List Move) → IsPartOf (all_of moves) moves
all_part [] = refl
all_part (One t ∷ moves) = inr (all_of moves, refl, all_part moves)
all_part (Any groups ∷ moves) = inr (all_of moves, refl, all_part moves)

-- what is left after them
pub after_then : (s : Stanza) (steps : List Step) (t : Step) → after (Some s) (steps ++ t ∷ []) ≡ Some (changed t (after_all s steps))
after_then s steps t = after_some s (steps ++ t ∷ []) ∙ ap (λ (x : Stanza). Some x) (all_after s steps (t ∷ []))

-- ---- clusters of a history have different numbers

low : (n : ℕ) (cs : List Cluster) (c : Cluster) → AreFrom n (map (λ (x : Cluster). x.id) cs) → In c cs → n ≤ c.id
low n [] c from at = absurd at
low n (x ∷ cs) c from at = ⊎_elim
    (λ (e : c ≡ x). let first = from.0 in let same = ap (λ (y : Cluster). y.id) e in omega (arith, first, same))
    (λ (k : In c cs). let r = low (n + 1) cs c from.1 k in omega (arith, r)) at

pub one_cluster : (n : ℕ) (cs : List Cluster) (c e : Cluster) → AreFrom n (map (λ (x : Cluster). x.id) cs) → In c cs → In e cs → c.id ≡ e.id → c ≡ e
one_cluster n [] c e from at_c at_e same = absurd at_c
one_cluster n (x ∷ cs) c e from at_c at_e same = ⊎_elim
    (λ (is_c : c ≡ x). ⊎_elim
    (λ (is_e : e ≡ x). is_c ∙ sym is_e)
    (λ (k : In e cs). let first = from.0 in let id = ap (λ (y : Cluster). y.id) is_c in let more = low (n + 1) cs e from.1 k in absurd (omega (arith, first, id, more, same)))
    at_e)
    (λ (j : In c cs). ⊎_elim
    (λ (is_e : e ≡ x). let first = from.0 in let id = ap (λ (y : Cluster). y.id) is_e in let more = low (n + 1) cs c from.1 j in absurd (omega (arith, first, id, more, same)))
    (λ (k : In e cs). one_cluster (n + 1) cs c e from.1 j k same)
    at_e)
    at_c
