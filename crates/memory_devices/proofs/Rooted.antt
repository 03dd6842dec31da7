-- Each node stays in a folder that is there.
use Rattle.std.proofs.Common.{◌≡◌, ◌⊎◌, inl, inr, ℕ, ◌≤◌, suc, zero, Bool, true, false, cond, List, [], ◌∷◌, ◌++◌, length, Option, Some, None, IsSome, bytes_eq, refl, sym, ◌∙◌, ap, subst, arith, length-append}
use Rattle.std.specs.Prelude.{option_map, Result, Ok, Err, OnOk, OnErr}
use Rattle.std.proofs.lemmas.Slice.Eq.{bytes_eq-Decides}
use Rattle.base_devices.specs.Content.{Name}
use Rattle.base_devices.specs.DataFolder.{Held, file, folder, link, other, Nodes, HasItsFolder, with_node, with_time, timed_file, moved_node}
use Rattle.memory_devices.specs.Nodes.{folder_of, is_folder, is_file, is_in, is_placed, takes_file, Rooted, longer_node}
use Rattle.memory_devices.proofs.Folders.{after_slash, before_slash, no_slash, slash_free, split}

two : (b : Bool) → (b ≡ true) ⊎ (b ≡ false)
two true = inl refl
two false = inr refl

folder_is : (o : Option Held) → is_folder o ≡ true → o ≡ Some folder
folder_is None is = cc
folder_is (Some (file bytes time)) is = cc
folder_is (Some folder) is = refl
folder_is (Some link) is = cc
folder_is (Some other) is = cc

no_some : IsSome {T = Held} None → ⊥
no_some h = cc

file_no_folder : (o : Option Held) → is_file o ≡ true → is_folder o ≡ false
file_no_folder None is = refl
file_no_folder (Some (file bytes time)) is = refl
file_no_folder (Some folder) is = cc
file_no_folder (Some link) is = refl
file_no_folder (Some other) is = refl

pub takes_no_folder : (o : Option Held) → takes_file o ≡ true → is_folder o ≡ false
takes_no_folder None is = refl
takes_no_folder (Some h) is = file_no_folder (Some h) is

pub folder_there : (o : Option Held) → is_folder o ≡ true → IsSome o
folder_there o is = subst IsSome (sym (folder_is o is)) refl

module _ (f : Nodes) where
  pub placed_from : (path : Name) → HasItsFolder f path → is_placed f path ≡ true
  placed_from path has = at (folder_of path) refl
    where
      at : (o : Option Name) → folder_of path ≡ o → is_in f o ≡ true
      at None is = refl
      at (Some prefix) is = let s = split path prefix is in ap is_folder (has prefix s.0 s.1 (slash_free s.0 s.2))

  pub folder_from : (path : Name) → is_placed f path ≡ true → HasItsFolder f path
  folder_from path placed prefix last is none = folder_is (f prefix) (sym (ap (is_in f) (ap folder_of is ∙ after_slash prefix last (no_slash last none))) ∙ placed)

  -- each folder on a path is there
  prefixes : (n : ℕ) (prefix rest : Name) → Rooted f → length rest ≤ n → IsSome (f (prefix ++ 47 ∷ rest)) → is_folder (f prefix) ≡ true
  prefixes zero prefix [] rooted short some = sym (ap (is_in f) (after_slash prefix [] refl)) ∙ rooted (prefix ++ 47 ∷ []) some
  prefixes zero prefix (c ∷ cs) rooted short some = absurd (omega (arith, short))
  prefixes (suc n) prefix rest rooted short some = at (prefixes n) (folder_of rest) refl
    where
      at : ((prefix rest : Name) → Rooted f → length rest ≤ n → IsSome (f (prefix ++ 47 ∷ rest)) → is_folder (f prefix) ≡ true) → (o : Option Name) → folder_of rest ≡ o → is_folder (f prefix) ≡ true
      at earlier None is = sym (ap (is_in f) (after_slash prefix rest is)) ∙ rooted (prefix ++ 47 ∷ rest) some
      at earlier (Some r) is =
          let s = split rest r is in
          let shorter : length r ≤ n = omega (arith, short, ap length s.1, length-append r (47 ∷ s.0)) in
          let above : is_folder (f (prefix ++ 47 ∷ r)) ≡ true = sym (ap (is_in f) (before_slash prefix rest r is)) ∙ rooted (prefix ++ 47 ∷ rest) some in
          earlier prefix r rooted shorter (folder_there (f (prefix ++ 47 ∷ r)) above)

  pub on_path : (prefix rest : Name) → Rooted f → IsSome (f (prefix ++ 47 ∷ rest)) → f prefix ≡ Some folder
  on_path prefix rest rooted some = folder_is (f prefix) (prefixes (length rest) prefix rest rooted (omega arith) some)

  -- nothing lies below what is no folder
  pub none_below : (path : Name) → Rooted f → is_folder (f path) ≡ false → (rest : Name) → f (path ++ 47 ∷ rest) ≡ None
  none_below path rooted none rest = at (f (path ++ 47 ∷ rest)) refl
    where
      at : (o : Option Held) → f (path ++ 47 ∷ rest) ≡ o → o ≡ None
      at None is = refl
      at (Some h) is = let there : is_folder (f path) ≡ true = ap is_folder (on_path path rest rooted (subst IsSome (sym is) refl)) in cc

  still_in : (path : Name) (v : Option Held) → (is_folder (f path) ≡ true → is_folder v ≡ true) → (o : Option Name) → is_in f o ≡ true → is_in (with_node path v f) o ≡ true
  still_in path v kept None placed = refl
  still_in path v kept (Some prefix) placed = at (bytes_eq path prefix) refl
    where
      at : (b : Bool) → bytes_eq path prefix ≡ b → is_folder (cond b v (f prefix)) ≡ true
      at true is = kept (ap (λ p. is_folder (f p)) ((bytes_eq-Decides path prefix).0 is) ∙ placed)
      at false is = placed

  pub put_rooted : (path : Name) (v : Held) → Rooted f → is_placed f path ≡ true → (is_folder (f path) ≡ true → is_folder (Some v) ≡ true) → Rooted (with_node path (Some v) f)
  put_rooted path v rooted placed kept q some = still_in path (Some v) kept (folder_of q) (at (bytes_eq path q) refl)
    where
      at : (b : Bool) → bytes_eq path q ≡ b → is_placed f q ≡ true
      at true is = ap (is_placed f) (sym ((bytes_eq-Decides path q).0 is)) ∙ placed
      at false is = rooted q (subst IsSome (ap (λ b. cond b (Some v) (f q)) is) some)

  -- another value at a path, as much a folder as the one before
  pub same_rooted : (path : Name) (change : Held → Held) → ((h : Held) → is_folder (Some (change h)) ≡ is_folder (Some h)) → Rooted f → Rooted (with_node path (option_map change (f path)) f)
  same_rooted path change same rooted q some = still_in path (option_map change (f path)) (kept (f path)) (folder_of q) (rooted q (at (bytes_eq path q) refl some))
    where
      kept : (o : Option Held) → is_folder o ≡ true → is_folder (option_map change o) ≡ true
      kept None is = is
      kept (Some h) is = same h ∙ is

      there : (o : Option Held) → IsSome (option_map change o) → IsSome o
      there None is = is
      there (Some h) is = refl

      at : (b : Bool) → bytes_eq path q ≡ b → IsSome (cond b (option_map change (f path)) (f q)) → IsSome (f q)
      at true is some = subst (λ p. IsSome (f p)) ((bytes_eq-Decides path q).0 is) (there (f path) some)
      at false is some = some

  pub take_rooted : (path : Name) → Rooted f → ((rest : Name) → f (path ++ 47 ∷ rest) ≡ None) → Rooted (with_node path None f)
  take_rooted path rooted bare q some = in_other (folder_of q) refl (rooted q (there (bytes_eq path q) some))
    where
      there : (b : Bool) → IsSome (cond b None (f q)) → IsSome (f q)
      there true is = cc
      there false is = is

      in_other : (o : Option Name) → folder_of q ≡ o → is_in f o ≡ true → is_in (with_node path None f) o ≡ true
      in_other None is placed = refl
      in_other (Some prefix) is placed = at (bytes_eq path prefix) refl
        where
          at : (b : Bool) → bytes_eq path prefix ≡ b → is_folder (cond b None (f prefix)) ≡ true
          at false apart = placed
          at true same =
              let s = split q prefix is in
              let here : q ≡ path ++ 47 ∷ s.0 = s.1 ∙ ap (λ p. p ++ 47 ∷ s.0) (sym ((bytes_eq-Decides path prefix).0 same)) in
              let none : f q ≡ None = ap f here ∙ bare s.0 in
              absurd (no_some (subst IsSome none (there (bytes_eq path q) some)))

-- a file that moves to a place in a folder, over no folder
pub move_rooted : (f : Nodes) (from to : Name) → Rooted f → is_file (f from) ≡ true → is_placed f to ≡ true → is_folder (f to) ≡ false → Rooted (moved_node from to f)
move_rooted f from to rooted source placed target = at (f from) source
  where
    no_folder : is_folder (f from) ≡ false
    no_folder = file_no_folder (f from) source

    rest_rooted : Rooted (with_node from None f)
    rest_rooted = take_rooted f from rooted (none_below f from rooted no_folder)

    rest_placed : is_placed (with_node from None f) to ≡ true
    rest_placed = still_in f from None (λ yes. sym no_folder ∙ yes) (folder_of to) placed

    over : (v : Held) (b : Bool) → is_folder (cond b None (f to)) ≡ true → is_folder (Some v) ≡ true
    over v true is = cc
    over v false is = cc target

    at : (o : Option Held) → is_file o ≡ true → Rooted (with_node to o (with_node from None f))
    at None is = cc
    at (Some v) is = put_rooted (with_node from None f) to v rest_rooted rest_placed (over v (bytes_eq from to))

-- a tree after a call that changed it at `Ok` alone
pub either_rooted : {T E : Type 0} (r : Result T E) (f g h : Nodes) → OnOk r (g ≡ h) → OnErr r (g ≡ f) → Rooted f → Rooted h → Rooted g
either_rooted (Ok x) f g h ok err old new = subst Rooted (sym ok) new
either_rooted (Err e) f g h ok err old new = subst Rooted (sym err) old

longer_folder : (more : List ℕ) (h : Held) → is_folder (Some (longer_node more h)) ≡ is_folder (Some h)
longer_folder more (file bytes time) = refl
longer_folder more folder = refl
longer_folder more link = refl
longer_folder more other = refl

pub longer_rooted : (f : Nodes) (path : Name) (more : List ℕ) → Rooted f → Rooted (with_node path (option_map (longer_node more) (f path)) f)
longer_rooted f path more rooted = same_rooted f path (longer_node more) (longer_folder more) rooted

-- a file with another time
abbrev timed : ℕ → Held → Held
timed time (file bytes old) = file bytes time
timed time folder = folder
timed time link = link
timed time other = other

timed_folder : (time : ℕ) (h : Held) → is_folder (Some (timed time h)) ≡ is_folder (Some h)
timed_folder time (file bytes old) = refl
timed_folder time folder = refl
timed_folder time link = refl
timed_folder time other = refl

timed_is : (time : ℕ) (o : Option Held) → option_map (timed time) o ≡ with_time time o
timed_is time None = refl
timed_is time (Some (file bytes old)) = refl
timed_is time (Some folder) = refl
timed_is time (Some link) = refl
timed_is time (Some other) = refl

pub timed_rooted : (f : Nodes) (path : Name) (time : ℕ) → Rooted f → Rooted (timed_file path time f)
timed_rooted f path time rooted = subst (λ (o : Option Held). Rooted (with_node path o f)) (timed_is time (f path)) (same_rooted f path (timed time) (timed_folder time) rooted)

-- a folder is made where a folder may be, and a file is begun where a file may be
pub make_rooted : (f : Nodes) (path : Name) → Rooted f → is_placed f path ≡ true → Rooted (with_node path (Some folder) f)
make_rooted f path rooted placed = put_rooted f path folder rooted placed (λ was. refl)

pub begin_rooted : (f : Nodes) (path : Name) (h : Held) → Rooted f → is_placed f path ≡ true → takes_file (f path) ≡ true → Rooted (with_node path (Some h) f)
begin_rooted f path h rooted placed takes = put_rooted f path h rooted placed (λ was. let none : is_folder (f path) ≡ false = takes_no_folder (f path) takes in cc)
