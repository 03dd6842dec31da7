-- Of all names only those of a pair change.
use Rattle.std.proofs.Common.{◌≡◌, ◌⊎◌, ⊎_elim, inl, inr, ◌++◌, ◌∙◌, subst}
use Rattle.std.specs.Prelude.{codes}
use Rattle.base_devices.specs.Content.{Name}
use Rattle.base_devices.specs.Moments.{View}
use Rattle.base_devices.specs.States.{DiskState, OnlyReads}
use Rattle.base_disk.specs.Store.{ChangesOnly}
use Rattle.base_disk.proofs.Changes.{only_none, only_rests, only_on, only_wide}
use Rattle.base_model.specs.Text.{Text}
use Rattle.base_model.specs.Names.{copy_of}
use Rattle.repo_pair.specs.Member.{IsOfPair}

pub none_owned : (name : Text) (a : View) → ChangesOnly (IsOfPair name) a a
none_owned name a = only_none (IsOfPair name) a

pub looked_owned : (name : Text) (a b : DiskState) → OnlyReads a b → ChangesOnly (IsOfPair name) a.view b.view
looked_owned name a b looks = only_rests (IsOfPair name) a.view b.view looks.time looks.now

pub owned_on : (name : Text) (a b : DiskState) (c : View) → OnlyReads a b → ChangesOnly (IsOfPair name) b.view c → ChangesOnly (IsOfPair name) a.view c
owned_on name a b c looks p = only_on (IsOfPair name) a.view b.view c (looked_owned name a b looks) p

-- one member, by way of a temporary name
module _ (temp name : Name) where
  pub looked_two : (a b : DiskState) → OnlyReads a b → ChangesOnly (λ n. (n ≡ temp) ⊎ (n ≡ name)) a.view b.view
  looked_two a b looks = only_rests (λ n. (n ≡ temp) ⊎ (n ≡ name)) a.view b.view looks.time looks.now

  pub two_on : (a b : DiskState) (c : View) → OnlyReads a b → ChangesOnly (λ n. (n ≡ temp) ⊎ (n ≡ name)) b.view c → ChangesOnly (λ n. (n ≡ temp) ⊎ (n ≡ name)) a.view c
  two_on a b c looks p = only_on (λ n. (n ≡ temp) ⊎ (n ≡ name)) a.view b.view c (looked_two a b looks) p

-- both members, the names made from the main one's
module _ (name temp copy : Text) (is_temp : temp ≡ name ++ codes ".pgbackrest.tmp") (is_copy : copy ≡ copy_of name) where
  pub saved_only : (a b : View) → ChangesOnly (λ n. (n ≡ temp) ⊎ ((n ≡ name) ⊎ (n ≡ copy))) a b → ChangesOnly (IsOfPair name) a b
  saved_only a b p = only_wide (λ n. (n ≡ temp) ⊎ ((n ≡ name) ⊎ (n ≡ copy))) (IsOfPair name) a b
      (λ n h. ⊎_elim (λ (e : n ≡ temp). inl (e ∙ is_temp)) (λ (m : (n ≡ name) ⊎ (n ≡ copy)). inr (⊎_elim (λ (e : n ≡ name). inl e) (λ (e : n ≡ copy). inr (e ∙ is_copy)) m)) h) p

-- one of them
module _ (name temp : Text) (is_temp : temp ≡ name ++ codes ".pgbackrest.tmp") where
  pub main_only : (a b : View) → ChangesOnly (λ n. (n ≡ temp) ⊎ (n ≡ name)) a b → ChangesOnly (IsOfPair name) a b
  main_only a b p = only_wide (λ n. (n ≡ temp) ⊎ (n ≡ name)) (IsOfPair name) a b (λ n h. ⊎_elim (λ (e : n ≡ temp). inl (e ∙ is_temp)) (λ (e : n ≡ name). inr (inl e)) h) p

  pub copy_only : (copy : Text) (a b c : View) → copy ≡ copy_of name → ChangesOnly (IsOfPair name) a b → ChangesOnly (λ n. (n ≡ temp) ⊎ (n ≡ copy)) b c → ChangesOnly (IsOfPair name) a c
  copy_only copy a b c is p q = only_on (IsOfPair name) a b c p
      (only_wide (λ n. (n ≡ temp) ⊎ (n ≡ copy)) (IsOfPair name) b c (λ n h. ⊎_elim (λ (e : n ≡ temp). inl (e ∙ is_temp)) (λ (e : n ≡ copy). inr (inr (e ∙ is))) h) q)

-- a name that is spelled another way
pub owned_as : (name given : Text) (a b : View) → given ≡ name → ChangesOnly (IsOfPair given) a b → ChangesOnly (IsOfPair name) a b
owned_as name given a b is p = subst (λ (n : Text). ChangesOnly (IsOfPair n) a b) is p
