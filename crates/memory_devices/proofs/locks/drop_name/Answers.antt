use Rattle.std.proofs.Common.{◌≡◌, List, String, Bool, not, filter, true, false, cond, [], ◌∷◌, ap, ◌∙◌, bytes_eq, string_bytes, refl, rules}
use Rattle.std.specs.declared.alloc.Global.{Global}
use Rattle.std.proofs.lemmas.Fn.{filter_same}
use Rattle.base_devices.specs.Content.{Name}
use Rattle.base_devices.specs.Locking.{without}
use Rattle.memory_devices.specs.Locks.{names_in}
use Rattle.memory_devices.proofs.locks.drop_name.Goals as goal

one_more : (b : Bool) (x : String Global) (xs : List (String Global)) → names_in (cond b (x ∷ xs) xs) ≡ cond b (string_bytes x ∷ names_in xs) (names_in xs)
one_more true x xs = refl
one_more false x xs = refl

-- the names of the texts that stay
others : (name : Name) (xs : List (String Global)) → names_in (filter (λ x. not (bytes_eq name (string_bytes x))) xs) ≡ without name (names_in xs)
others name [] = refl
others name (x ∷ xs) = one_more (not (bytes_eq name (string_bytes x))) x _ ∙ ap (λ (l : List Name). cond (not (bytes_eq name (string_bytes x))) (string_bytes x ∷ l) l) (others name xs)

pub returns : goal.returns
returns c =
    ap names_in (filter_same _ (λ (x : String Global). not (bytes_eq c.args.name.now (string_bytes x))) _ (λ x b f called. (search rules, search rules)) _ _ c.retain.ensures.filtered)
    ∙ others c.args.name.now c.args.names.now.items
