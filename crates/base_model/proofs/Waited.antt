-- Steps of others one after another are one wait.
use Rattle.std.proofs.Common.{◌≡◌, ◌⊎◌, ⊎_elim, inl, inr, ℕ, ◌≤◌, List, [], ◌∷◌, ◌++◌, map, Some, None, refl, ap, ◌∙◌, sym, subst, arith, Bool, true, false, append_assoc}
use Rattle.std.specs.Prelude.{IsSome, if◌then◌else◌}
use Rattle.std.specs.List.{flat_map}
use Rattle.std.proofs.lemmas.List.{append-nil}
use Rattle.base_devices.specs.Content.{Name, Value, Content}
use Rattle.base_devices.specs.Moments.{View, IsImage}
use Rattle.base_devices.specs.Crash.{Leaves}
use Rattle.base_model.specs.Text.{Text}
use Rattle.base_model.specs.Repository.{Stanza, Repository}
use Rattle.base_model.specs.Steps.{Step, Move, One, Any, Turn, ArchivePushAsync, IsPartOf, IsSomeOf, after, after_all, all_of, step, changed, stores_of, turn_moves}
use Rattle.base_model.specs.Log.{Done, Leads, Reaches, RepresentsAfter, KeepsRepository, IsDone}
use Rattle.base_model.specs.Steady.{CarriesOn, PassesOnly}
use Rattle.base_model.proofs.Done.{part_none}
use Rattle.base_model.proofs.PushDone.{all_one, after_some}

-- ---- moves after moves

pub all_following : (xs ys : List Move) → all_of (xs ++ ys) ≡ all_of xs ++ all_of ys
all_following [] ys = refl
all_following (One t ∷ xs) ys = ap (λ (l : List Step). t ∷ l) (all_following xs ys)
all_following (Any groups ∷ xs) ys = ap (λ (l : List Step). flat_map (λ g. g) groups ++ l) (all_following xs ys) ∙ sym (append_assoc (flat_map (λ g. g) groups) (all_of xs) (all_of ys))

-- a part of the first is a part of both
pub part_prefix : (done : List Step) (xs ys : List Move) → IsPartOf done xs → IsPartOf done (xs ++ ys)
part_prefix done [] ys p = subst (λ (d : List Step). IsPartOf d ys) (sym p) (part_none ys)
part_prefix done (One t ∷ xs) ys p = ⊎_elim (λ (e : done ≡ []). inl e) (λ (q : (rest : List Step) × (done ≡ t ∷ rest) × IsPartOf rest xs). inr (q.0, q.1, part_prefix q.0 xs ys q.2)) p
part_prefix done (Any groups ∷ xs) ys p = ⊎_elim (λ (s : IsSomeOf done groups). inl s)
    (λ (q : (rest : List Step) × (done ≡ flat_map (λ g. g) groups ++ rest) × IsPartOf rest xs). inr (q.0, q.1, part_prefix q.0 xs ys q.2)) p

-- all of the first, and a part of the second
pub part_following : (xs ys : List Move) (done : List Step) → IsPartOf done ys → IsPartOf (all_of xs ++ done) (xs ++ ys)
part_following [] ys done p = p
part_following (One t ∷ xs) ys done p = inr (all_of xs ++ done, refl, part_following xs ys done p)
part_following (Any groups ∷ xs) ys done p = inr (all_of xs ++ done, append_assoc (flat_map (λ g. g) groups) (all_of xs) done, part_following xs ys done p)

pub after_following : (r : Repository) (xs ys : List Step) → after r (xs ++ ys) ≡ after (after r xs) ys
after_following r [] ys = refl
after_following r (t ∷ xs) ys = after_following (step r t) xs ys

pub all_after : (s : Stanza) (xs ys : List Step) → after_all s (xs ++ ys) ≡ after_all (after_all s xs) ys
all_after s [] ys = refl
all_after s (t ∷ xs) ys = all_after (changed t s) xs ys

-- ---- steps of others after steps of others

module _ (s : Stanza) (t : Turn) where
  abbrev pub steps : List Step
  steps = flat_map (λ g. g) (stores_of s t.id t.pushed)

  abbrev pub own : List Move
  own = if t.ended then map One steps else Any (stores_of s t.id t.pushed) ∷ []

  pub own_all : all_of own ≡ steps
  own_all = by t.ended
    where
      by : (ended : Bool) → all_of (if ended then map One steps else Any (stores_of s t.id t.pushed) ∷ []) ≡ steps
      by true = all_one steps
      by false = append-nil steps

turns_after : (s : Stanza) (ts us : List Turn) → turn_moves s (ts ++ us) ≡ turn_moves s ts ++ turn_moves (after_all s (all_of (turn_moves s ts))) us
turns_after s [] us = refl
turns_after s (t ∷ ts) us =
    let s1 = after_all s (steps s t) in
    let rest = turn_moves s1 ts in
    ap (λ (m : List Move). own s t ++ m) (turns_after s1 ts us)
    ∙ sym (append_assoc (own s t) rest (turn_moves (after_all s1 (all_of rest)) us))
    ∙ ap (λ (x : Stanza). (own s t ++ rest) ++ turn_moves x us) (sym (
    ap (after_all s) (all_following (own s t) rest ∙ ap (λ (l : List Step). l ++ all_of rest) (own_all s t))
    ∙ all_after s (steps s t) (all_of rest)))

-- ---- a log with the two is a log with both

leads_first : (ts us : List Turn) (old new : Repository) → Leads (record { command = ArchivePushAsync ts; acknowledged = false }) old new → Leads (record { command = ArchivePushAsync (ts ++ us); acknowledged = false }) old new
leads_first ts us None new l = l
leads_first ts us (Some s) new l = (
  l.0,
  l.1,
  subst (λ (m : List Move). IsPartOf l.0 m) (sym (turns_after s ts us)) (part_prefix l.0 (turn_moves s ts) (turn_moves (after_all s (all_of (turn_moves s ts))) us) l.2),
)

module _ (ts us : List Turn) (whole : Bool) where
  abbrev first : Done
  first = record { command = ArchivePushAsync ts; acknowledged = true }

  abbrev second : Done
  second = record { command = ArchivePushAsync us; acknowledged = whole }

  abbrev both : Done
  both = record { command = ArchivePushAsync (ts ++ us); acknowledged = whole }

  both_done : (s : Stanza) (more : List Step) → IsDone whole more (turn_moves (after_all s (all_of (turn_moves s ts))) us) → IsDone whole (all_of (turn_moves s ts) ++ more) (turn_moves s (ts ++ us))
  both_done s more is = subst (λ (m : List Move). IsDone whole (all_of (turn_moves s ts) ++ more) m) (sym (turns_after s ts us)) (by whole is)
    where
      by : (w : Bool) → IsDone w more (turn_moves (after_all s (all_of (turn_moves s ts))) us) → IsDone w (all_of (turn_moves s ts) ++ more) (turn_moves s ts ++ turn_moves (after_all s (all_of (turn_moves s ts))) us)
      by true e = ap (λ (l : List Step). all_of (turn_moves s ts) ++ l) e ∙ sym (all_following (turn_moves s ts) (turn_moves (after_all s (all_of (turn_moves s ts))) us))
      by false p = part_following (turn_moves s ts) (turn_moves (after_all s (all_of (turn_moves s ts))) us) more p

  pub leads_both : (old mid new : Repository) → Leads first old mid → Leads second mid new → Leads both old new
  leads_both None mid new l k =
      let none : mid ≡ None = l.1 ∙ ap (after None) l.2 in
      subst (λ (m : Repository). Leads second m new) none k
  leads_both (Some s) mid new l k =
      let is : mid ≡ Some (after_all s (all_of (turn_moves s ts))) = l.1 ∙ ap (after (Some s)) l.2 ∙ after_some s (all_of (turn_moves s ts)) in
      let k2 : Leads second (Some (after_all s (all_of (turn_moves s ts)))) new = subst (λ (m : Repository). Leads second m new) is k in (
        all_of (turn_moves s ts) ++ k2.0,
        k2.1 ∙ ap (λ (m : Repository). after m k2.0) (sym (after_some s (all_of (turn_moves s ts)))) ∙ sym (after_following (Some s) (all_of (turn_moves s ts)) k2.0),
        both_done s k2.0 k2.2,
      )

  reaches_both : (q : Repository) (log : List Done) (r : Repository) → Reaches q (second ∷ first ∷ log) r → Reaches q (both ∷ log) r
  reaches_both q log r h = (h.1.0, h.1.1, leads_both h.1.0 h.0 r h.1.2 h.2)

  represents_both : (stanza : Text) (q : Repository) (log : List Done) (f : Content) → RepresentsAfter stanza q (second ∷ first ∷ log) f → RepresentsAfter stanza q (both ∷ log) f
  represents_both stanza q log f x = record { repository = x.repository; reached = reaches_both q log x.repository x.reached; sound = x.sound; represents = x.represents }

-- Steps of others that succeeded, and then more of them, do to a disk what all of them do.
pub turns_carry : (stanza : Text) (ts us : List Turn) (whole : Bool) (a b c : View) → (IsSome a.now → IsSome b.now) → CarriesOn stanza (ArchivePushAsync ts) true a b → CarriesOn stanza (ArchivePushAsync us) whole b c → CarriesOn stanza (ArchivePushAsync (ts ++ us)) whole a c
turns_carry stanza ts us whole a b c known p q = record {
  keeps = λ r log some keeps.
      let k = q.keeps r (first ts us whole ∷ log) (known some) (p.keeps r log some keeps) in
      record { fixed = k.fixed; places = k.places; represents = λ f leaves. represents_both ts us whole stanza r log f (k.represents f leaves) };
}

-- And at each moment they do a part of it. The second part of the way leaves the moments of the first unchanged.
module _ (stanza : Text) (ts us : List Turn) (a b c : View) (known : IsSome a.now → IsSome b.now) (later : b.moment ≤ c.moment)
    (past : (t : ℕ) (n : Name) (v : Value) → t ≤ b.moment → c.kept t n v → b.kept t n v) (past_unsynced : (t : ℕ) (n : Name) → t ≤ b.moment → c.unsynced t n ≡ b.unsynced t n) where
  either : (t s : ℕ) → (t ≤ s) ⊎ (s ≤ t)
  either t s = grind arith

  pub turns_pass : CarriesOn stanza (ArchivePushAsync ts) true a b → PassesOnly stanza (ArchivePushAsync ts) a b → PassesOnly stanza (ArchivePushAsync us) b c → PassesOnly stanza (ArchivePushAsync (ts ++ us)) a c
  turns_pass carries p q = record { between = between }
    where
      between : (r : Repository) (log : List Done) → IsSome a.now → KeepsRepository stanza r log a → (t : ℕ) (f : Content) → a.moment ≤ t → t ≤ c.moment → Leaves c t f
          → RepresentsAfter stanza r (record { command = ArchivePushAsync (ts ++ us); acknowledged = false } ∷ log) f
      between r log some keeps t f lo hi leaves = ⊎_elim
          (λ (now : c.now ≡ Some f). following c.moment later (omega arith) (inl now))
          (λ (image : IsImage c t f). ⊎_elim
          (λ (le : t ≤ b.moment). prefix (p.between r log some keeps t f lo le (inr (λ n. ⊎_elim (λ k. inl (past t n (f n) le k)) (λ l. inr (sym (past_unsynced t n le) ∙ l.0, l.1)) (image n)))))
          (λ (ge : b.moment ≤ t). following t ge hi (inr image))
          (either t b.moment)) leaves
        where
          prefix : RepresentsAfter stanza r (record { command = ArchivePushAsync ts; acknowledged = false } ∷ log) f → RepresentsAfter stanza r (record { command = ArchivePushAsync (ts ++ us); acknowledged = false } ∷ log) f
          prefix x = record { repository = x.repository; reached = (x.reached.0, x.reached.1, leads_first ts us x.reached.0 x.repository x.reached.2); sound = x.sound; represents = x.represents }

          following : (m : ℕ) → b.moment ≤ m → m ≤ c.moment → Leaves c m f → RepresentsAfter stanza r (record { command = ArchivePushAsync (ts ++ us); acknowledged = false } ∷ log) f
          following m ge le l = represents_both ts us false stanza r log f (q.between r (first ts us false ∷ log) (known some) (carries.keeps r log some keeps) m f ge le l)
