use Rattle.std.proofs.Common.{◌≡◌, List, [], ◌∷◌, Bool, true, false, cond, not, map, filter, bytes_eq, string_bytes, refl, ◌∙◌, ap, rules}
use Rattle.std.proofs.lemmas.Fn.{filter_same}
use Rattle.base_devices.specs.Content.{Name}
use Rattle.base_devices.specs.Locking.{without}
use Rattle.adapters_files.specs.declared.locks.Lock.{Lock}
use Rattle.adapters_files.proofs.locks.RealLocksLocks.release.Goals as goal

abbrev names : List Lock → List Name
names = map (λ (x : Lock). string_bytes x.name)

one_more : (b : Bool) (x : Lock) (xs : List Lock) → names (cond b (x ∷ xs) xs) ≡ cond b (string_bytes x.name ∷ names xs) (names xs)
one_more true x xs = refl
one_more false x xs = refl

-- the names of the locks that stay
others : (name : Name) (locks : List Lock) → names (filter (λ x. not (bytes_eq name (string_bytes x.name))) locks) ≡ without name (names locks)
others name [] = refl
others name (x ∷ xs) =
    one_more (not (bytes_eq name (string_bytes x.name))) x _
    ∙ ap (λ (l : List Name). cond (not (bytes_eq name (string_bytes x.name))) (string_bytes x.name ∷ l) l) (others name xs)

pub returns-clause-taken : goal.returns-clause-taken
returns-clause-taken c =
    ap names (filter_same _ (λ (x : Lock). not (bytes_eq c.args.name.now (string_bytes x.name))) _ (λ x b f called. (search rules, search rules)) _ _ c.retain.ensures.filtered)
    ∙ others c.args.name.now c.args.self.now.taken.items
