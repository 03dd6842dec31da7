-- From a log of which each repository has a file to what a disk then has.
use Rattle.std.proofs.Common.{◌≡◌, ⊎_elim, inl, inr, ◌⊎◌, Bool, true, false, List, [], ◌∷◌, ◌++◌, Some, None, refl, sym, ap, subst, ◌∙◌}
use Rattle.std.specs.Prelude.{filter, not, cond}
use Rattle.sha1.specs.Sha1.{sha1}
use Rattle.base_text.specs.Sum.{sum_text}
use Rattle.base_devices.specs.Content.{Content}
use Rattle.base_model.specs.Names.{archive_name}
use Rattle.base_model.specs.Text.{Text, In}
use Rattle.base_model.specs.Repository.{Archived, Stanza, Repository}
use Rattle.base_model.specs.Represents.{Represents, HasStanza, stored_name}
use Rattle.base_model.specs.Steps.{Named, Step, Create, Upgrade, Push, Note, AddBackup, Condemn, Forget, after, changed, is_same_file}
use Rattle.base_model.specs.Log.{Done, Reaches, RepresentsAfter}
use Rattle.base_model.proofs.Pushed.{in_left, file_of}
use Rattle.program_crashes.specs.Kept.{IsFile, HasFile, FromFile, HasStored, Forgets, Removes, IsThere}

-- a log that continues another one
pub reaches_parts : (q : Repository) (later log : List Done) (r : Repository) → Reaches q (later ++ log) r → (mid : Repository) × Reaches q log mid × Reaches mid later r
reaches_parts q [] log r h = (r, h, refl)
reaches_parts q (d ∷ later) log r h = let x = reaches_parts q later log h.0 h.1 in (x.0, x.1, (h.0, x.2, h.2))

-- ---- steps

pub filter_in : {X : Type 0} (p : X → Bool) (x : X) (xs : List X) → In x xs → p x ≡ true → In x (filter p xs)
filter_in {X} p x [] at is = absurd at
filter_in {X} p x (y ∷ xs) at is = by (λ h. filter_in p x xs h is) (p y) refl at
  where
    by : (In x xs → In x (filter p xs)) → (b : Bool) → p y ≡ b → In x (y ∷ xs) → In x (cond b (y ∷ filter p xs) (filter p xs))
    by more true e (inl h) = inl h
    by more true e (inr h) = inr (more h)
    by more false e (inl h) = let u : ◌≡◌ {A = Bool} false true = sym e ∙ ap p (sym h) ∙ is in cc
    by more false e (inr h) = more h

module _ (a : Archived) where
  -- one step
  one_step : (s : Stanza) (t : Step) (steps : List Step) → In a s.archived → In a (changed t s).archived ⊎ Forgets a (t ∷ steps)
  one_step s (Create c) steps at = inl at
  one_step s (Upgrade c) steps at = inl at
  one_step s (Push b) steps at = inl (in_left a s.archived (b ∷ []) at)
  one_step s (Note d) steps at = inl at
  one_step s (AddBackup b) steps at = inl at
  one_step s (Condemn test) steps at = inl at
  one_step s (Forget b) steps at = by (is_same_file b a) refl
    where
      by : (same : Bool) → is_same_file b a ≡ same → In a (changed (Forget b) s).archived ⊎ Forgets a (Forget b ∷ steps)
      by true e = inr (b, inl refl, e)
      by false e = inl (filter_in (λ c. not (is_same_file b c)) a s.archived at (ap not e))

  abbrev Has : Repository → Type 0
  Has r = (t : Stanza) × (r ≡ Some t) × In a t.archived

  -- steps one after another
  after_steps : (s : Stanza) (steps : List Step) → In a s.archived → Has (after (Some s) steps) ⊎ Forgets a steps
  after_steps s [] at = inl (s, refl, at)
  after_steps s (t ∷ steps) at = ⊎_elim
      (λ stays. ⊎_elim (λ has. inl has) (λ (f : Forgets a steps). inr (f.0, inr f.1, f.2)) (after_steps (changed t s) steps stays))
      (λ f. inr f) (one_step s t steps at)

  -- commands one after another
  pub after_log : (q : Repository) (log : List Done) (r : Repository) → Has q → Reaches q log r → Has r ⊎ Removes a q log r
  after_log q [] r has h = inl (has.0, h ∙ has.1, has.2)
  after_log q (d ∷ log) r has h = ⊎_elim
      (λ (mid : Has h.0). ⊎_elim
      (λ (new : Has (after (Some mid.0) h.2.0)). inl (new.0, h.2.1 ∙ ap (λ (m : Repository). after m h.2.0) mid.1 ∙ new.1, new.2))
      (λ f. inr (h.0, h.2.0, h.2.1, h.2.2, inr (h.1, f)))
      (after_steps mid.0 h.2.0 mid.2))
      (λ gone. inr (h.0, h.2.0, h.2.1, h.2.2, inl gone))
      (after_log q log h.0 has h.1)

-- ---- a disk

-- a stanza's file lies at its name
pub lies_at : (stanza : Text) (n : Named) (f : Content) (s : Stanza) (a : Archived) → HasStanza stanza f s → In a s.archived → IsFile n a → HasStored stanza n f
lies_at stanza n f s a has at is = (
  a.id,
  a.bytes,
  ap (λ name. f (archive_name stanza a.id name (sum_text (sha1 n.bytes)))) (sym is.0) ∙ ap (λ sum. f (archive_name stanza a.id a.name (sum_text sum))) (sym is.1)
      ∙ (has.archived (stored_name stanza a) a.bytes (file_of stanza a (has.named a at))).1 (a, at, refl, refl),
  is.1,
)

pub is_there : (stanza : Text) (n : Named) (later : List Done) (f : Content) → FromFile n (λ from log. RepresentsAfter stanza from (later ++ log) f) → IsThere stanza n later f
is_there stanza n later f x =
    let parts = reaches_parts x.from later x.log x.holds.repository x.holds.reached in
    by parts.0 (x.has parts.0 parts.1) parts.2
  where
    by : (mid : Repository) → HasFile n mid → Reaches mid later x.holds.repository → IsThere stanza n later f
    by None has reached = absurd has
    by (Some s) has reached = ⊎_elim
        (λ (new : Has has.0 x.holds.repository). inl (lies_at stanza n f new.0 has.0 (subst (λ (r : Repository). Represents stanza f r) new.1 x.holds.represents) new.2 has.2))
        (λ gone. inr (record { had = s; file = has.0; archived = has.1; is = has.2; repository = x.holds.repository; removes = gone; represents = x.holds.represents }))
        (after_log has.0 (Some s) later x.holds.repository (s, refl, has.1) reached)
