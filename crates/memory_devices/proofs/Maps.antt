-- What a map with text keys has after one change, by what is shown of its values.
use Rattle.std.proofs.Common.{◌≡◌, ℕ, Bool, true, false, cond, List, ◌++◌, Option, Some, String, Vec, string_bytes, refl, sym, ◌∙◌, ap, arith}
use Rattle.std.specs.declared.alloc.Global.{Global}
use Rattle.std.specs.Prelude.{option_map, bytes_eq}
use Rattle.std.specs.String.{string_cmp}
use Rattle.std.specs.Ordering.{nat_cmp}
use Rattle.std.specs.Cmp.Lexicographic.{slice_cmp}
use Rattle.std.specs.BTreeMap.{BTreeMap, UpdatesBy, get_by_text}
use Rattle.std.proofs.lemmas.Map.Text.{btree_map_updates_text}
use Rattle.std.proofs.Math.Path.{fun_ext}
use Rattle.std.proofs.lemmas.Grind.{common_steps}
use Rattle.std.proofs.lemmas.Slice.Eq.{bytes_eq-Decides}
use Rattle.base_devices.specs.Content.{Name, Value, Content, set_at, put, lengthened}
use Rattle.memory_devices.specs.Agrees.{bytes_at}

module _ {V : Type 0} where
  -- to put what is there changes nothing
  pub set_held : (name : Name) (x : V) (f : Name → V) → f name ≡ x → set_at name x f ≡ f
  set_held name x f is = fun_ext (at name x f is)
    where
      at : (name : Name) (x : V) (f : Name → V) → f name ≡ x → (q : Name) → set_at name x f q ≡ f q
      at name x f is q = grind (arith, common_steps, bytes_eq-Decides name q)

  -- to set the one name and to drop the other, if it is another, is to move
  pub moved_split : (none : V) (from to : Name) (f : Name → V)
      → cond (bytes_eq from to) (set_at to (f from) f) (set_at from none (set_at to (f from) f)) ≡ set_at to (f from) (set_at from none f)
  moved_split none from to f = fun_ext (at none from to f)
    where
      at : (none : V) (from to : Name) (f : Name → V) (q : Name)
          → cond (bytes_eq from to) (set_at to (f from) f) (set_at from none (set_at to (f from) f)) q ≡ set_at to (f from) (set_at from none f) q
      at none from to f q = grind (arith, common_steps, bytes_eq-Decides from q, bytes_eq-Decides to q, bytes_eq-Decides from to)

module _ {X Y : Type 0} (show : X → Y) where
  -- what is shown of each value
  abbrev pub shown_at : BTreeMap (String Global) X → Name → Option Y
  shown_at m q = option_map show (get_by_text m q)

  map_cond : (b : Bool) (x y : Option X) → option_map show (cond b x y) ≡ cond b (option_map show x) (option_map show y)
  map_cond true x y = refl
  map_cond false x y = refl

  -- one name was set or removed
  pub shown_set : (m n : BTreeMap (String Global) X) (bs : Name) (w : Option X) → UpdatesBy string_cmp (λ k. slice_cmp nat_cmp bs (string_bytes k)) m n w
      → shown_at n ≡ set_at bs (option_map show w) (shown_at m)
  shown_set m n bs w updates = fun_ext (λ q. ap (option_map show) (btree_map_updates_text bs m n w updates q) ∙ map_cond (bytes_eq bs q) w (get_by_text m q))

  -- the same at a name that is known otherwise
  pub shown_put : (m n : BTreeMap (String Global) X) (bs name : Name) (w : Option X) → UpdatesBy string_cmp (λ k. slice_cmp nat_cmp bs (string_bytes k)) m n w
      → bs ≡ name → shown_at n ≡ set_at name (option_map show w) (shown_at m)
  shown_put m n bs name w updates same = shown_set m n bs w updates ∙ ap (λ (b : Name). set_at b (option_map show w) (shown_at m)) same

abbrev pub items_of : Option (Vec ℕ Global) → Value
items_of = option_map (λ (v : Vec ℕ Global). v.items)

pub lengthened_some : (name : Name) (bytes old : List ℕ) (f : Content) → f name ≡ Some old → put name (Some (old ++ bytes)) f ≡ lengthened name bytes f
lengthened_some name bytes old f is = ap (λ (v : Value). put name (option_map (λ (old : List ℕ). old ++ bytes) v) f) (sym is)

abbrev pub Map : Type 0
Map = BTreeMap (String Global) (Vec ℕ Global)

pub bytes_set : (m n : Map) (bs : Name) (w : Option (Vec ℕ Global)) → UpdatesBy string_cmp (λ k. slice_cmp nat_cmp bs (string_bytes k)) m n w → bytes_at n ≡ put bs (items_of w) (bytes_at m)
bytes_set m n bs w updates = shown_set (λ (v : Vec ℕ Global). v.items) m n bs w updates
