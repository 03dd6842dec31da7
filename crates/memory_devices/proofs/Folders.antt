-- The folder of a path: what comes before its last slash.
use Rattle.std.proofs.Common.{◌≡◌, ◌⊎◌, inl, inr, ⊎_elim, ℕ, cond, [], ◌∷◌, ◌++◌, Option, Some, None, refl, sym, ◌∙◌, ap, subst, arith}
use Rattle.std.specs.Prelude.{Contains}
use Rattle.std.proofs.lemmas.Bool.{ne_eqb}
use Rattle.std.proofs.lemmas.Bool.Decides.{nat_tests}
use Rattle.std.proofs.lemmas.List.Elements.{Contains-append_right, Contains-append_left, Contains-push, Contains-append_cases, Contains-push_cases}
use Rattle.base_devices.specs.Content.{Name}
use Rattle.memory_devices.specs.Nodes.{before_folder, folder_of}

-- what follows the last slash
pub after_slash : (prefix last : Name) → folder_of last ≡ None → folder_of (prefix ++ 47 ∷ last) ≡ Some prefix
after_slash [] last none = ap (before_folder 47) none
after_slash (c ∷ cs) last none = ap (before_folder c) (after_slash cs last none)

-- an earlier slash
pub before_slash : (prefix rest r : Name) → folder_of rest ≡ Some r → folder_of (prefix ++ 47 ∷ rest) ≡ Some (prefix ++ 47 ∷ r)
before_slash [] rest r is = ap (before_folder 47) is
before_slash (c ∷ cs) rest r is = ap (before_folder c) (before_slash cs rest r is)

pub no_slash : (xs : Name) → (Contains xs 47 → ⊥) → folder_of xs ≡ None
no_slash [] none = refl
no_slash (c ∷ cs) none =
    ap (before_folder c) (no_slash cs (λ has. none (Contains-append_right (c ∷ []) cs 47 has)))
    ∙ ap (λ b. cond b (Some []) None) (ne_eqb c 47 (λ is. none (subst (λ n. Contains (n ∷ cs) 47) (sym is) (Contains-append_left (47 ∷ []) cs 47 (Contains-push [] 47)))))

none_before : (c : ℕ) (o : Option Name) → before_folder c o ≡ None → (o ≡ None) × (c ≡ 47 → ⊥)
none_before c None is = (refl, λ e. no_none (subst (λ n. before_folder n None ≡ None) e is))
  where
    no_none : before_folder 47 None ≡ None → ⊥
    no_none h = cc
none_before c (Some f) is = cc

pub slash_free : (xs : Name) → folder_of xs ≡ None → Contains xs 47 → ⊥
slash_free [] none has = absurd (omega (arith, has.1))
slash_free (c ∷ cs) none has = cases (none_before c (folder_of cs) none) (slash_free cs) (Contains-append_cases (c ∷ []) cs 47 has)
  where
    cases : (folder_of cs ≡ None) × (c ≡ 47 → ⊥) → (folder_of cs ≡ None → Contains cs 47 → ⊥) → Contains (c ∷ []) 47 ⊎ Contains cs 47 → ⊥
    cases p rest (inl here) = ⊎_elim (λ none. absurd (omega (arith, none.1))) (λ is. p.1 is) (Contains-push_cases [] c 47 here)
    cases p rest (inr later) = rest p.0 later

slash_is : (c : ℕ) (prefix : Name) → before_folder c None ≡ Some prefix → (c ≡ 47) × (prefix ≡ [])
slash_is c prefix is = grind (arith, nat_tests)

pub split : (path prefix : Name) → folder_of path ≡ Some prefix → (last : Name) × (path ≡ prefix ++ 47 ∷ last) × (folder_of last ≡ None)
split [] prefix is = cc
split (c ∷ cs) prefix is = at (split cs) (folder_of cs) refl is
  where
    at : ((f : Name) → folder_of cs ≡ Some f → (last : Name) × (cs ≡ f ++ 47 ∷ last) × (folder_of last ≡ None)) → (o : Option Name) → folder_of cs ≡ o → before_folder c o ≡ Some prefix
        → (last : Name) × (c ∷ cs ≡ prefix ++ 47 ∷ last) × (folder_of last ≡ None)
    at rest None none is = let p = slash_is c prefix is in (cs, ap (λ n. n ∷ cs) p.0 ∙ ap (λ f. f ++ 47 ∷ cs) (sym p.1), none)
    at rest (Some f) some is =
        let r = rest f some in
        let same : c ∷ f ≡ prefix = cc is in
        (r.0, ap (λ l. c ∷ l) r.1 ∙ ap (λ l. l ++ 47 ∷ r.0) same, r.2)
