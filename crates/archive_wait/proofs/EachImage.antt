-- What is done of steps of others that come one after another.
use Rattle.std.proofs.Common.{inl, ◌≡◌, inr, List, [], ◌∷◌, ◌++◌, Some, None, refl, ap, ◌∙◌, sym, subst, Bool, true, false, append_assoc, ⊎_elim}
use Rattle.std.specs.Prelude.{Option, IsSome}
use Rattle.std.specs.List.{flat_map}
use Rattle.base_devices.specs.Content.{Content}
use Rattle.base_model.specs.Text.{Text}
use Rattle.base_model.specs.Repository.{Stanza, Repository}
use Rattle.base_model.specs.Steps.{Step, Move, One, Any, Turn, ArchivePushAsync, IsPartOf, IsSomeOf, after, after_all, all_of, step, steps_of, turn_moves}
use Rattle.base_model.specs.Log.{Done, IsDone, Leads}
use Rattle.base_model.specs.Now.{NowRepresents, NowEffect}
use Rattle.base_model.proofs.Done.{part_none}
use Rattle.base_model.proofs.PushDone.{after_some}
use Rattle.base_model.proofs.Waited.{all_after, steps, own, own_all}

-- all of some moves, and then what is done of more
pub part_following : (xs ys : List Move) (more : List Step) → IsPartOf more ys → IsPartOf (all_of xs ++ more) (xs ++ ys)
part_following [] ys more p = p
part_following (One t ∷ xs) ys more p = inr (all_of xs ++ more, refl, part_following xs ys more p)
part_following (Any groups ∷ xs) ys more p =
    inr (all_of xs ++ more, append_assoc (flat_map (λ g. g) groups) (all_of xs) more, part_following xs ys more p)

all_following : (xs ys : List Move) → all_of xs ++ all_of ys ≡ all_of (xs ++ ys)
all_following [] ys = refl
all_following (One t ∷ xs) ys = ap (λ (l : List Step). t ∷ l) (all_following xs ys)
all_following (Any groups ∷ xs) ys = append_assoc (flat_map (λ g. g) groups) (all_of xs) (all_of ys)
    ∙ ap (λ (l : List Step). flat_map (λ g. g) groups ++ l) (all_following xs ys)

pub done_after : (whole : Bool) (xs ys : List Move) (more : List Step) → IsDone whole more ys →
    IsDone whole (all_of xs ++ more) (xs ++ ys)
done_after true xs ys more is = ap (λ (l : List Step). all_of xs ++ l) is ∙ all_following xs ys
done_after false xs ys more is = part_following xs ys more is

-- .. of steps of others
turns_done : (whole : Bool) (s : Stanza) (ts us : List Turn) (more : List Step) →
    IsDone whole more (turn_moves (after_all s (all_of (turn_moves s ts))) us) →
    IsDone whole (all_of (turn_moves s ts) ++ more) (turn_moves s (ts ++ us))
turns_done whole s [] us more is = is
turns_done whole s (t ∷ ts) us more is =
    let s1 = after_all s (steps s t) in
    let rest = turn_moves s1 ts in
    let split : all_of (own s t ++ rest) ≡ steps s t ++ all_of rest =
    sym (all_following (own s t) rest) ∙ ap (λ (l : List Step). l ++ all_of rest) (own_all s t) in
    let following : after_all s (all_of (own s t ++ rest)) ≡ after_all s1 (all_of rest) =
    ap (after_all s) split ∙ all_after s (steps s t) (all_of rest) in
    let inner = turns_done whole s1 ts us more
    (subst (λ (x : Stanza). IsDone whole more (turn_moves x us)) following is) in
    let outer = done_after whole (own s t) (turn_moves s1 (ts ++ us)) (all_of rest ++ more) inner in
    subst (λ (l : List Step). IsDone whole l (own s t ++ turn_moves s1 (ts ++ us)))
    (sym (append_assoc (all_of (own s t)) (all_of rest) more)
    ∙ ap (λ (l : List Step). l ++ more) (all_following (own s t) rest)) outer

pub after_following : (r : Repository) (xs ys : List Step) → after r (xs ++ ys) ≡ after (after r xs) ys
after_following r [] ys = refl
after_following r (t ∷ xs) ys = after_following (step r t) xs ys

-- ---- a log with the two waits is a log with both

abbrev pub entry : List Turn → Bool → Done
entry ts whole = record { command = ArchivePushAsync ts; acknowledged = whole }

pub leads_on : (ts us : List Turn) (whole : Bool) (old mid new : Repository) → Leads (entry ts true) old mid →
    Leads (entry us whole) mid new → Leads (entry (ts ++ us) whole) old new
leads_on ts us whole None mid new l k =
    let none : mid ≡ None = l.1 ∙ ap (λ (x : List Step). after None x) l.2 in
    subst (λ (m : Repository). Leads (entry us whole) m new) none k
leads_on ts us whole (Some s) mid new l k =
    let first = all_of (turn_moves s ts) in
    let is : mid ≡ Some (after_all s first) = l.1 ∙ ap (λ (x : List Step). after (Some s) x) l.2 ∙ after_some s first in
    let k2 = subst (λ (m : Repository). Leads (entry us whole) m new) is k in (
      first ++ k2.0,
      k2.1 ∙ ap (λ (m : Repository). after m k2.0) (sym (after_some s first)) ∙ sym (after_following (Some s) first k2.0),
      turns_done whole s ts us k2.0 k2.2,
    )

-- a part of the first is a part of both
pub part_under : (xs ys zs : List Move) (done : List Step) →
    ((d : List Step) → IsPartOf d ys → IsPartOf d zs) → IsPartOf done (xs ++ ys) → IsPartOf done (xs ++ zs)
part_under [] ys zs done more p = more done p
part_under (One t ∷ xs) ys zs done more p = ⊎_elim (λ (e : done ≡ []). inl e)
    (λ (q : (rest : List Step) × (done ≡ t ∷ rest) × IsPartOf rest (xs ++ ys)).
    inr (q.0, q.1, part_under xs ys zs q.0 more q.2)) p
part_under (Any groups ∷ xs) ys zs done more p = ⊎_elim (λ (h : IsSomeOf done groups). inl h)
    (λ (q : (rest : List Step) × (done ≡ flat_map (λ g. g) groups ++ rest) × IsPartOf rest (xs ++ ys)).
    inr (q.0, q.1, part_under xs ys zs q.0 more q.2)) p

turns_part : (s : Stanza) (ts us : List Turn) (done : List Step) → IsPartOf done (turn_moves s ts) →
    IsPartOf done (turn_moves s (ts ++ us))
turns_part s [] us done p = subst (λ (d : List Step). IsPartOf d (turn_moves s us)) (sym p) (part_none (turn_moves s us))
turns_part s (t ∷ ts) us done p = part_under (own s t) (turn_moves (after_all s (steps s t)) ts)
    (turn_moves (after_all s (steps s t)) (ts ++ us)) done (λ d h. turns_part (after_all s (steps s t)) ts us d h) p

pub leads_more : (ts us : List Turn) (old new : Repository) → Leads (entry ts false) old new →
    Leads (entry (ts ++ us) false) old new
leads_more ts us None new l = l
leads_more ts us (Some s) new l = (l.0, l.1, turns_part s ts us l.0 l.2)

-- Steps of others that succeeded, and then more of them, do to what a disk holds what all of them do.
pub turns_do : (stanza : Text) (ts us : List Turn) (whole : Bool) (a b c : Option Content) →
    NowEffect stanza (ArchivePushAsync ts) true a b → NowEffect stanza (ArchivePushAsync us) whole b c →
    NowEffect stanza (ArchivePushAsync (ts ++ us)) whole a c
turns_do stanza ts us whole a b c p q = record { known = λ some. q.known (p.known some); does = does }
  where
    does : (r : Repository) → Unit {0} → IsSome a → NowRepresents stanza r a →
        (done : List Step) × IsDone whole done (steps_of (ArchivePushAsync (ts ++ us)) r) × NowRepresents stanza (after r done) c
    does r from some now =
        let x = p.does r tt some now in
        let y = q.does (after r x.0) tt (p.known some) x.2 in
        let both = leads_on ts us whole r (after r x.0) (after (after r x.0) y.0) (x.0, refl, x.1) (y.0, refl, y.1) in
        (both.0, both.2, subst (λ (k : Repository). NowRepresents stanza k c) both.1 y.2)
