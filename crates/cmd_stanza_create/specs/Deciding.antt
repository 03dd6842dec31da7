-- Which cluster a data folder states is decided by its bytes. Own.
use Rattle.std.proofs.Common.{◌≡◌, ◌⊎◌, ⊎_elim, inl, inr, ℕ, zero, suc, ◌<◌, ◌≤◌, [], ◌∷◌, ◌++◌, length, take, drop, Bool, true, false, Option, Some, None, refl, sym, subst, ◌∙◌, arith, ap}
use Rattle.std.specs.Prelude.{bytes_eq, IsSome, IsSomeAnd, decimal}
use Rattle.std.proofs.lemmas.Slice.Eq.{bytes_eq-Decides}
use Rattle.base_devices.specs.DataFolder.{Nodes}
use Rattle.base_model.specs.declared.clusters.Cluster.{Cluster}
use Rattle.base_model.specs.Steps.{Command}
use Rattle.base_model.specs.Text.{Text, little_endian}
use Rattle.repo_stanza.specs.declared.control.Control.{Control}
use Rattle.repo_stanza.specs.ControlFile.{Shows, first_cluster}
use Rattle.cmd_types.specs.Cluster.{control_bytes, version_bytes, FolderShows, IsClusterOf}

-- it holds, or it doesn't
abbrev Decided : Type 0 → Type 0
Decided P = P ⊎ (P → ⊥)

-- it holds of one of them, or of none
abbrev SomeOrNone : {X : Type 0} → (X → Type 0) → Type 0
SomeOrNone {X} P = ((x : X) × P x) ⊎ ((x : X) → P x → ⊥)

same_text : (a b : Text) → Decided (a ≡ b)
same_text a b = go (bytes_eq a b) refl
  where
    go : (e : Bool) → bytes_eq a b ≡ e → Decided (a ≡ b)
    go true is = inl ((bytes_eq-Decides a b).0 is)
    go false is = inr (λ same. let u : ◌≡◌ {A = Bool} false true = sym is ∙ (bytes_eq-Decides a b).1 same in cc)

at_least : (k n : ℕ) → Decided (k ≤ n)
at_least k n = ⊎_elim (λ (le : k ≤ n). inl le) (λ (lt : n < k). inr (λ le. omega (arith, le, lt))) (split k n)
  where
    split : (k n : ℕ) → (k ≤ n) ⊎ (n < k)
    split zero n = inl (omega arith)
    split (suc k) zero = inr (omega arith)
    split (suc k) (suc n) = by (split k n)
      where
        by : (k ≤ n) ⊎ (n < k) → (suc k ≤ suc n) ⊎ (suc n < suc k)
        by (inl le) = inl (omega (arith, le))
        by (inr lt) = inr (omega (arith, lt))

both_of : {P Q : Type 0} → Decided P → Decided Q → Decided (P × Q)
both_of (inr off) q = inr (λ x. off x.0)
both_of (inl p) (inl q) = inl (p, q)
both_of (inl p) (inr off) = inr (λ x. off x.1)

below_or : (k n : ℕ) → k < suc n → (k < n) ⊎ (k ≡ n)
below_or zero zero lt = inr refl
below_or zero (suc n) lt = inl (omega arith)
below_or (suc k) zero lt = absurd (omega (arith, lt))
below_or (suc k) (suc n) lt = by (below_or k n (omega (arith, lt)))
  where
    by : (k < n) ⊎ (k ≡ n) → (suc k < suc n) ⊎ (suc k ≡ suc n)
    by (inl less) = inl (omega (arith, less))
    by (inr same) = inr (ap suc same)

-- of a number below a bound
some_below : (P : ℕ → Type 0) → ((k : ℕ) → Decided (P k)) → (n : ℕ) → SomeOrNone (λ (k : ℕ). (k < n) × P k)
some_below P each zero = inr (λ k x. omega (arith, x.0))
some_below P each (suc n) = ⊎_elim
    (λ (x : (k : ℕ) × ((k < n) × P k)). inl (x.0, (omega (arith, x.1.0), x.1.1)))
    (λ (never : (k : ℕ) → ((k < n) × P k) → ⊥). ⊎_elim
    (λ (p : P n). inl (n, (omega arith, p)))
    (λ (off : P n → ⊥). inr (λ k x. ⊎_elim (λ (lt : k < n). never k (lt, x.1)) (λ (e : k ≡ n). off (subst P e x.1)) (below_or k n x.0))) (each n)) (some_below P each n)

abbrev control_of : Text → ℕ → Control
control_of c n = record { system = little_endian (take 8 c); control = little_endian (take 4 (drop 8 c)); catalog = little_endian (take 4 (drop 12 c)); version = n }

shows_some : (c v : Text) → SomeOrNone (λ (known : Control). Shows c v known)
shows_some c v = ⊎_elim
    (λ (long : 16 ≤ length c). ⊎_elim
    (λ (x : (n : ℕ) × ((n < 18) × ((15 ≤ n) × (v ≡ decimal n ++ 10 ∷ [])))). inl (
      control_of c x.0,
      record {
        long = long;
        system = refl;
        control_version = refl;
        catalog = refl;
        version_text = x.1.1.1;
        supported = (x.1.1.0, omega (arith, x.1.0));
      },
    ))
    (λ none. inr (λ known t. none known.version (omega (arith, t.supported.1), (t.supported.0, t.version_text))))
    (some_below _ (λ n. both_of (at_least 15 n) (same_text v (decimal n ++ 10 ∷ []))) 18))
    (λ short. inr (λ known t. short t.long)) (at_least 16 (length c))

abbrev OfTwo : Option Text → Option Text → Control → Type 0
OfTwo c v known = IsSomeAnd c (λ x. IsSomeAnd v (λ y. Shows x y known))

two_tell : (c v : Option Text) → SomeOrNone (λ (known : Control). OfTwo c v known)
two_tell None v = inr (λ known h. h)
two_tell (Some c) None = inr (λ known h. h)
two_tell (Some c) (Some v) = shows_some c v

folder_shows : (f : Nodes) → SomeOrNone (λ (known : Control). FolderShows f known)
folder_shows f = two_tell (control_bytes f) (version_bytes f)

-- the command is this one, of the cluster that the folder states
abbrev pub IsOfFolder : (Option Cluster → Command) → Nodes → Command → Type 0
IsOfFolder make f command = (cluster : Option Cluster) × IsClusterOf f cluster × (command ≡ make cluster)

command_of : (make : Option Cluster → Command) (f : Nodes) → (command : Command) × IsOfFolder make f command
command_of make f = ⊎_elim
    (λ (x : (known : Control) × FolderShows f known). (make (Some (first_cluster x.0)), (Some (first_cluster x.0), (x.0, x.1, refl), refl)))
    (λ (none : (known : Control) → FolderShows f known → ⊥). (make None, (None, none, refl))) (folder_shows f)

-- there is one such command of a folder that is known
pub one_there : (make : Option Cluster → Command) (o : Option Nodes) (P : Command → Type 0) → IsSome o → ((command : Command) → IsSomeAnd o (λ f. IsOfFolder make f command) → P command) → (command : Command) × IsSomeAnd o (λ f. IsOfFolder make f command) × P command
one_there make None P known on = cc
one_there make (Some f) P known on = let x = command_of make f in (x.0, x.1, on x.0 x.1)
