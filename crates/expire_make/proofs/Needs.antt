-- What an expiry leaves has each backup that stays, and each file that these need.
use Rattle.std.proofs.Common.{◌≡◌, inl, inr, true, List, [], ◌∷◌, ◌++◌, Some, ap, ◌∙◌, sym, subst}
use Rattle.std.specs.Prelude.{filter, not}
use Rattle.std.specs.List.{flat_map}
use Rattle.base_devices.specs.Content.{Content}
use Rattle.base_model.specs.Text.{Text, In}
use Rattle.base_model.specs.Repository.{Archived, Backup, Stanza, Repository}
use Rattle.base_model.specs.Represents.{Represents}
use Rattle.base_model.specs.Steps.{Step, Condemn, Retention, IsPartOf, IsSomeOf, changed, after, expiry_moves}
use Rattle.expire_rules.proofs.Lists.{filter_in}
use Rattle.expire_make.specs.Expiry.{HasNeeded}
use Rattle.expire_make.proofs.Forgets.{FitsPlace, groups, some_are, forgets_some, all_forgets, with_files}
use Rattle.expire_make.proofs.Sound.{spared}

module _ (stanza : Text) (k : Retention) (s : Stanza) (g : Content) (alike : (a b : Archived) → a.id ≡ b.id → a.name ≡ b.name → k.needed (changed (Condemn (k.condemned s)) s) a ≡ k.needed (changed (Condemn (k.condemned s)) s) b)
    (named : (a : Archived) → In a s.archived → FitsPlace a) where
  abbrev rest_of : Stanza
  rest_of = changed (Condemn (k.condemned s)) s

  abbrev lost : List Archived
  lost = filter (λ a. not (k.needed (changed (Condemn (k.condemned s)) s) a)) s.archived

  none : Represents stanza g (Some s) → HasNeeded stanza k s g
  none has = record { left = s; has = has; backups = λ b i off. i; files = λ a i need. i }

  some : (done rest : List Step) → done ≡ Condemn (k.condemned s) ∷ rest → IsSomeOf rest (groups lost) → Represents stanza g (after (Some s) done) → HasNeeded stanza k s g
  some done rest e of_them has =
      let (files, same, fewer, kept, apart) = some_are lost rest of_them s.archived rest_of in
      record {
        left = with_files rest_of files;
        has = let h : Represents stanza g (Some (with_files rest_of files)) = subst (λ (r : Repository). Represents stanza g r) same (subst (λ (d : List Step). Represents stanza g (after (Some s) d)) e has) in h;
        backups = λ b i off. filter_in (λ (b : Backup). not (k.condemned s b.entry.label)) b s.backups i (ap not off);
        files = λ a i need. kept a i (spared rest_of (k.needed rest_of) alike named a i need);
      }

  every : (ts : List Step) → ts ≡ flat_map (λ (g : List Step). g) (groups lost) ++ [] → IsSomeOf ts (groups lost)
  every ts e = subst (λ (d : List Step). IsSomeOf d (groups lost)) (sym (e ∙ all_forgets lost)) (forgets_some (λ _. true) lost)

  pub has_needed : (done : List Step) → IsPartOf done (expiry_moves k s) → Represents stanza g (after (Some s) done) → HasNeeded stanza k s g
  has_needed done (inl e) has = none (subst (λ (d : List Step). Represents stanza g (after (Some s) d)) e has)
  has_needed done (inr (rest, e, inl of_them)) has = some done rest e of_them has
  has_needed done (inr (rest, e, inr (more, all, end))) has = some done rest e (every rest (all ∙ ap (λ (d : List Step). flat_map (λ (g : List Step). g) (groups lost) ++ d) end)) has
