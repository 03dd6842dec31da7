-- Files without bytes, one after another.
use Rattle.std.proofs.Common.{ℕ, zero, suc, Bool, true, false, ◌≡◌, ◌≢◌, ◌⊎◌, inl, inr, ⊎_elim, ◌<◌, refl, sym, ap, ◌∙◌, subst, arith, List, [], ◌∷◌, ◌++◌, length, take, map, get_or, Option, Some, None, bytes_eq}
use Rattle.std.specs.Prelude.{IfSome}
use Rattle.std.proofs.lemmas.Slice.Eq.{bytes_eq-Decides}
use Rattle.base_devices.specs.Content.{at}
use Rattle.base_devices.specs.DataFolder.{Nodes, Held, file, folder, IsPlaced}
use Rattle.base_model.specs.Text.{Text, In}
use Rattle.base_model.specs.Values.{FileEntry}
use Rattle.restore_steps.specs.Clearing.{HasTimed, is_bare, ArePlaced, Bares}

pub in_left : {A : Type 0} (x : A) (xs ys : List A) → In x xs → In x (xs ++ ys)
in_left x [] ys i = absurd i
in_left x (y ∷ xs) ys (inl e) = inl e
in_left x (y ∷ xs) ys (inr i) = inr (in_left x xs ys i)

pub in_right : {A : Type 0} (x : A) (xs ys : List A) → In x ys → In x (xs ++ ys)
in_right x [] ys i = i
in_right x (y ∷ xs) ys i = inr (in_right x xs ys i)

pub in_split : {A : Type 0} (x y : A) (xs : List A) → In x (xs ++ y ∷ []) → In x xs ⊎ (x ≡ y)
in_split x y [] (inl e) = inr e
in_split x y [] (inr i) = absurd i
in_split x y (z ∷ xs) (inl e) = inl (inl e)
in_split x y (z ∷ xs) (inr i) = ⊎_elim (λ h. inl (inr h)) (λ e. inr e) (in_split x y xs i)

pub in_take : {A X : Type 0} (f : A → X) (xs : List A) (n : ℕ) (x : X) → In x (map f (take n xs)) → In x (map f xs)
in_take f [] zero x i = absurd i
in_take f [] (suc n) x i = absurd i
in_take f (y ∷ ys) zero x i = absurd i
in_take f (y ∷ ys) (suc n) x (inl e) = inl e
in_take f (y ∷ ys) (suc n) x (inr i) = inr (in_take f ys n x i)

pub in_at : {A X : Type 0} (f : A → X) (xs : List A) (i : ℕ) (a : A) → i < length xs → a ≡ get_or xs i a → In (f a) (map f xs)
in_at f [] i a lt e = absurd (omega (arith, lt))
in_at f (y ∷ ys) zero a lt e = inl (ap f e)
in_at f (y ∷ ys) (suc i) a lt e = inr (in_at f ys i a (omega (arith, lt)) e)

-- a file whose path stays is still there
has_still : (e : FileEntry) (a b : Option Nodes) → at e.path b ≡ at e.path a → IfSome a (HasTimed e.path [] e.time) → IfSome b (HasTimed e.path [] e.time)
has_still e a None same has = tt
has_still e None (Some g) same has = let h : ◌≡◌ {A = Option (Option Held)} (Some (g e.path)) None = same in cc
has_still e (Some f) (Some g) same has = let h : ◌≡◌ {A = Option (Option Held)} (Some (g e.path)) (Some (f e.path)) = same in let one : g e.path ≡ f e.path = cc in one ∙ has

pub no_bares : (o : Option Nodes) → Bares [] o o
no_bares o = record { each = λ e i bare. absurd i; others = λ q apart. refl }

pub bares_more : (es : List FileEntry) (e : FileEntry) (o a b : Option Nodes) → ((d : FileEntry) → In d es → d.path ≡ e.path → d ≡ e) → Bares es o a → (is_bare e ≡ true → IfSome b (HasTimed e.path [] e.time)) → ((q : Text) → (is_bare e ≡ true → q ≢ e.path) → at q b ≡ at q a) → Bares (es ++ e ∷ []) o b
bares_more es e o a b once prev now step = record {
  each = λ d i bare. ⊎_elim (λ was. by d was bare (bytes_eq d.path e.path) refl (is_bare e) refl) (λ same. subst (λ (x : FileEntry). is_bare x ≡ true → IfSome b (HasTimed x.path [] x.time)) (sym same) now bare) (in_split d e es i);
  others = λ q apart. step q (λ bare is. apart e (in_right e es (e ∷ []) (inl refl)) bare is) ∙ prev.others q (λ d i. apart d (in_left d es (e ∷ []) i));
}
  where
    by : (d : FileEntry) → In d es → is_bare d ≡ true → (s : Bool) → bytes_eq d.path e.path ≡ s → (t : Bool) → is_bare e ≡ t → IfSome b (HasTimed d.path [] d.time)
    by d i bare true same true its = subst (λ (x : FileEntry). IfSome b (HasTimed x.path [] x.time)) (sym (once d i ((bytes_eq-Decides d.path e.path).0 same))) (now its)
    by d i bare true same false its = has_still d a b (step d.path (λ t. let h : ◌≡◌ {A = Bool} true false = sym t ∙ its in cc)) (prev.each d i bare)
    by d i bare false same t its = has_still d a b (step d.path (λ _ is. let h : ◌≡◌ {A = Bool} false true = sym same ∙ (bytes_eq-Decides d.path e.path).1 is in cc)) (prev.each d i bare)

-- the files that were begun leave each other's folders
pub still_placed : (es : List FileEntry) (e : FileEntry) (old now : Option Nodes) → In e es → ArePlaced es old → ((q : Text) → ((d : FileEntry) → In d es → q ≢ d.path) → at q now ≡ at q old) → IsPlaced now e.path
still_placed es e old None i placed others = tt
still_placed es e None (Some g) i placed others = λ prefix last path plain.
    let h : ◌≡◌ {A = Option (Option Held)} (Some (g prefix)) None = others prefix (λ d j is. placed.apart d e j i prefix last path (sym is)) in cc
still_placed es e (Some f) (Some g) i placed others = λ prefix last path plain.
    let h : ◌≡◌ {A = Option (Option Held)} (Some (g prefix)) (Some (f prefix)) = others prefix (λ d j is. placed.apart d e j i prefix last path (sym is)) in
    let same : g prefix ≡ f prefix = cc in
    same ∙ placed.each e i prefix last path plain
