-- The last backup of a list that qualifies, looked for from the end.
use Rattle.std.proofs.Common.{◌≡◌, ⊎_elim, inl, inr, ℕ, List, [], ◌∷◌, ◌++◌, map, length, Bool, true, false, Option, Some, None, refl, sym, ap, ◌∙◌, subst, arith, append_assoc}
use Rattle.std.specs.Prelude.{IfSome, is_some}
use Rattle.base_devices.specs.Content.{Content}
use Rattle.base_model.specs.declared.labels.Entry as rust_entry
use Rattle.base_model.specs.declared.labels.Label.{Label}
use Rattle.base_model.specs.InfoFiles.{IsLabel}
use Rattle.base_model.specs.Text.{Text, In}
use Rattle.base_model.specs.Values.{Entry, entry_of}
use Rattle.restore_choice.specs.declared.backup_choice.Chosen.{Chosen}
use Rattle.restore_choice.specs.declared.choice.Deadline.{Deadline}
use Rattle.restore_choice.specs.declared.fault.ChoiceFault.{ChoiceFault}
use Rattle.restore_choice.specs.Choosing.{QualifiesOn, IsExcludedOn, IsReached, IsLastOn}
use Rattle.restore_choice.specs.Judging.{HaveLabels, ReadWith, JudgedAs, UnreadCause, SearchedAs, SearchCause}
use Rattle.restore_choice.specs.Views.{Ancestry}

-- the parts of a list, as one more is looked at
pub parts_on : (all rest earlier : List rust_entry.Entry) (x : rust_entry.Entry) (ys : List rust_entry.Entry) → all ≡ rest ++ ys → rest ≡ earlier ++ x ∷ [] → all ≡ earlier ++ x ∷ ys
parts_on all rest earlier x ys is last = is ∙ ap (λ (l : List rust_entry.Entry). l ++ ys) last ∙ append_assoc earlier (x ∷ []) ys

map_parts : (xs : List rust_entry.Entry) (x : rust_entry.Entry) (ys : List rust_entry.Entry) → map entry_of (xs ++ x ∷ ys) ≡ map entry_of xs ++ entry_of x ∷ map entry_of ys
map_parts [] x ys = refl
map_parts (z ∷ xs) x ys = ap (λ (l : List Entry). entry_of z ∷ l) (map_parts xs x ys)

in_parts : (xs : List rust_entry.Entry) (x : rust_entry.Entry) (ys : List rust_entry.Entry) → In (entry_of x) (map entry_of (xs ++ x ∷ ys))
in_parts [] x ys = inl refl
in_parts (z ∷ xs) x ys = inr (in_parts xs x ys)

-- one that is reached has a label that keeps the rules of labels
pub label_at : (all earlier : List rust_entry.Entry) (x : rust_entry.Entry) (ys : List rust_entry.Entry) → all ≡ earlier ++ x ∷ ys → HaveLabels all → IsLabel x.label
label_at all earlier x ys is labels = labels (entry_of x) (subst (λ (l : List rust_entry.Entry). In (entry_of x) (map entry_of l)) (sym is) (in_parts earlier x ys))

pub none_left : {X : Type 0} (xs : List X) → length xs ≡ 0 → xs ≡ []
none_left [] is = refl
none_left (x ∷ xs) is = absurd (omega (arith, is))

module _ (stanza : Text) (deadline : Option Deadline) (line : Option Ancestry) where
  -- a recovery can begin with none of these
  abbrev pub NoneOf : Content → List rust_entry.Entry → Type 0
  NoneOf f ys = (e : Entry) → In e (map entry_of ys) → IsExcludedOn stanza f deadline line e

  -- where the repository is known
  abbrev pub NoneIn : Option Content → List rust_entry.Entry → Type 0
  NoneIn repo ys = IfSome repo (λ f. NoneOf f ys)

  pub none_yet : (repo : Option Content) → NoneIn repo []
  none_yet None = tt
  none_yet (Some f) = λ e i. absurd i

  pub none_more : (repo : Option Content) (x : rust_entry.Entry) (ys : List rust_entry.Entry) → IfSome repo (λ f. IsExcludedOn stanza f deadline line (entry_of x)) → NoneIn repo ys → NoneIn repo (x ∷ ys)
  none_more None x ys off none = tt
  none_more (Some f) x ys off none = λ e i.
      ⊎_elim (λ (same : e ≡ entry_of x). subst (λ (d : Entry). IsExcludedOn stanza f deadline line d) (sym same) off) (λ j. none e j) i

  module _ (all earlier : List rust_entry.Entry) (x : rust_entry.Entry) (ys : List rust_entry.Entry) (is : all ≡ earlier ++ x ∷ ys) where
    reached : (f : Content) → NoneOf f ys → IsReached stanza f deadline line (map entry_of all) (entry_of x)
    reached f none = (map entry_of earlier, map entry_of ys, ap (map entry_of) is ∙ map_parts earlier x ys, none)

    found_on : (repo : Option Content) (c : Chosen) → NoneIn repo ys → c.label ≡ x.label → IfSome repo (λ f. QualifiesOn stanza f deadline line (entry_of x)) → IfSome repo (λ f. (e : Entry) × IsLastOn stanza f deadline line (map entry_of all) e × (e.label ≡ c.label))
    found_on None c none label q = tt
    found_on (Some f) c none label q = (entry_of x, (reached f none, q), sym label)

    -- one that is judged so is the last one
    pub judged_last : (repo : Option Content) (o : Option Chosen) → is_some o ≡ true → HaveLabels all → NoneIn repo ys → JudgedAs stanza repo deadline line (entry_of x) o → SearchedAs stanza repo deadline line (map entry_of all) o
    judged_last repo None some labels none h = cc
    judged_last repo (Some c) some labels none h = (subst IsLabel (sym h.0) (label_at all earlier x ys is labels), h.1, found_on repo c none h.0 h.2)

    -- or it doesn't qualify
    pub judged_none : (repo : Option Content) (o : Option Chosen) → is_some o ≡ false → NoneIn repo ys → JudgedAs stanza repo deadline line (entry_of x) o → NoneIn repo (x ∷ ys)
    judged_none repo None off none h = none_more repo x ys h none
    judged_none repo (Some c) off none h = cc

    -- its manifest isn't read
    pub unread_here : (repo : Option Content) → NoneIn repo ys → (e : ChoiceFault) → UnreadCause stanza repo deadline line (entry_of x) e → IfSome repo (λ f. SearchCause stanza f deadline line (map entry_of all) e)
    unread_here None none e h = tt
    unread_here (Some f) none e h = (entry_of x, reached f none, h)
