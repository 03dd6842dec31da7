-- Which files are noted after stores: each that is then archived with its sum.
use Rattle.std.proofs.Common.{◌≡◌, ◌≢◌, ◌⊎◌, ⊎_elim, inl, inr, Bool, true, false, List, [], ◌∷◌, ◌++◌, map, Option, Some, refl, ap, ap₂, ◌∙◌, sym, subst}
use Rattle.std.specs.Prelude.{if◌then◌else◌}
use Rattle.std.specs.List.{flat_map}
use Rattle.std.proofs.lemmas.List.{append-nil}
use Rattle.std.proofs.lemmas.Slice.Eq.{bytes_eq-Decides}
use Rattle.sha1.specs.Sha1.{sha1}
use Rattle.base_model.specs.declared.wal.ArchiveId.{ArchiveId}
use Rattle.base_model.specs.declared.wal.ArchiveName.{ArchiveName}
use Rattle.base_model.specs.Text.{Text, ◌⫽◌, In}
use Rattle.base_model.specs.Names.{id_text, wal_text}
use Rattle.base_model.specs.Repository.{Archived, Drained, Stanza, AreApart}
use Rattle.base_model.specs.Represents.{IsArchivePlace}
use Rattle.base_model.specs.Steps.{Step, Create, Upgrade, Push, Note, AddBackup, Condemn, Forget, Move, One, Any, Named, IsPartOf, IsSomeOf, after_all, all_of, changed, push_of, store_of, stores_of, archived_of, is_archived, is_same_file, has_other}
use Rattle.base_model.specs.Log.{IsDone}
use Rattle.base_model.proofs.PushDone.{all_one}
use Rattle.base_model.proofs.Pushed.{in_left, in_either, archived_by, other_as}
use Rattle.base_model.proofs.Turned.{store_both, store_either}
use Rattle.base_model.proofs.Waited.{all_after}
use Rattle.archive_lookup.proofs.Cuts.{divided}
use Rattle.archive_lookup.proofs.OnePath.{id_lacks, id_of_text, wal_injective}

-- ---- files of one id and name

abbrev path_of : Archived → Text
path_of a = id_text a.id ⫽ wal_text a.name

same_path : (a b : Archived) → is_same_file a b ≡ true → path_of a ≡ path_of b
same_path a b same = (bytes_eq-Decides (path_of a) (path_of b)).0 same

path_same : (a b : Archived) → path_of a ≡ path_of b → is_same_file a b ≡ true
path_same a b same = (bytes_eq-Decides (path_of a) (path_of b)).1 same

pub one_file : (a b : Archived) → a.id ≡ b.id → a.name ≡ b.name → is_same_file a b ≡ true
one_file a b id name = path_same a b (ap₂ (λ (i : ArchiveId) (n : ArchiveName). id_text i ⫽ wal_text n) id name)

-- files of one id and name have one sum
abbrev pub HaveOneSum : List Archived → Type 0
HaveOneSum files = (x y : Archived) → In x files → In y files → is_same_file x y ≡ true → sha1 x.bytes ≡ sha1 y.bytes

-- what a name states where it fits
fits_same : (x y : Archived) (s t : Text) → IsArchivePlace x.id x.name s → IsArchivePlace y.id y.name t → is_same_file x y ≡ true → (x.id ≡ y.id) × (x.name ≡ y.name)
fits_same x y s t p q same =
    let d = divided 47 (id_text x.id) (id_text y.id) (wal_text x.name) (wal_text y.name) (id_lacks x.id) (id_lacks y.id) (same_path x y same) in
    (id_of_text x.id y.id p.version p.number q.version q.number d.0, wal_injective x.name y.name p.fits q.fits d.1)

apart_one : (files : List Archived) → AreApart files → (x y : Archived) → In x files → In y files → x.id ≡ y.id → x.name ≡ y.name → x ≡ y
apart_one [] apart x y i j id name = absurd i
apart_one (z ∷ files) apart x y i j id name = ⊎_elim
    (λ (e : x ≡ z). ⊎_elim
    (λ (k : y ≡ z). e ∙ sym k)
    (λ (k : In y files). absurd (apart.0 y k (sym id ∙ ap (λ (a : Archived). a.id) e, sym name ∙ ap (λ (a : Archived). a.name) e)))
    j)
    (λ (h : In x files). ⊎_elim
    (λ (k : y ≡ z). absurd (apart.0 x h (id ∙ ap (λ (a : Archived). a.id) k, name ∙ ap (λ (a : Archived). a.name) k)))
    (λ (k : In y files). apart_one files apart.1 x y h k id name)
    j) i

-- files that are apart, at names that fit
pub apart_sums : (files : List Archived) → AreApart files → ((a : Archived) → In a files → IsArchivePlace a.id a.name (sha1 a.bytes)) → HaveOneSum files
apart_sums files apart named x y i j same =
    let e = fits_same x y (sha1 x.bytes) (sha1 y.bytes) (named x i) (named y j) same in
    ap (λ (a : Archived). sha1 a.bytes) (apart_one files apart x y i j e.0 e.1)

-- ---- what stores do to the files

-- steps that remove no file
abbrev IsStore : Step → Type 0
IsStore (Create c) = ⊥
IsStore (Upgrade c) = ⊥
IsStore (Push a) = Unit {0}
IsStore (Note d) = Unit {0}
IsStore (AddBackup b) = ⊥
IsStore (Condemn t) = ⊥
IsStore (Forget a) = ⊥

abbrev AreStores : List Step → Type 0
AreStores steps = (t : Step) → In t steps → IsStore t

in_right : {X : Type 0} (x : X) (xs ys : List X) → In x ys → In x (xs ++ ys)
in_right x [] ys h = h
in_right x (z ∷ xs) ys h = inr (in_right x xs ys h)

in_parts : {X : Type 0} (x : X) (xs ys : List X) → In x (xs ++ ys) → In x xs ⊎ In x ys
in_parts x [] ys h = inr h
in_parts x (z ∷ xs) ys h = ⊎_elim (λ (e : x ≡ z). inl (inl e)) (λ k. ⊎_elim (λ i. inl (inr i)) (λ i. inr i) (in_parts x xs ys k)) h

one_from : (a : Archived) (t : Step) (s : Stanza) → IsStore t → In a (changed t s).archived → In a s.archived ⊎ (Push a ≡ t)
one_from a (Create c) s is at = absurd is
one_from a (Upgrade c) s is at = absurd is
one_from a (Push b) s is at = ⊎_elim (λ i. inl i) (λ (e : a ≡ b). inr (ap (λ (x : Archived). Push x) e)) (in_either a b s.archived at)
one_from a (Note d) s is at = inl at
one_from a (AddBackup b) s is at = absurd is
one_from a (Condemn t) s is at = absurd is
one_from a (Forget b) s is at = absurd is

one_keeps : (a : Archived) (t : Step) (s : Stanza) → IsStore t → In a s.archived → In a (changed t s).archived
one_keeps a (Create c) s is at = absurd is
one_keeps a (Upgrade c) s is at = absurd is
one_keeps a (Push b) s is at = in_left a s.archived (b ∷ []) at
one_keeps a (Note d) s is at = at
one_keeps a (AddBackup b) s is at = absurd is
one_keeps a (Condemn t) s is at = absurd is
one_keeps a (Forget b) s is at = absurd is

in_end : {X : Type 0} (x : X) (xs : List X) → In x (xs ++ x ∷ [])
in_end x [] = inl refl
in_end x (z ∷ xs) = inr (in_end x xs)

-- a file that is archived then was so, or was pushed
all_from : (a : Archived) (steps : List Step) (s : Stanza) → AreStores steps → In a (after_all s steps).archived → In a s.archived ⊎ In (Push a) steps
all_from a [] s are at = inl at
all_from a (t ∷ steps) s are at = ⊎_elim
    (λ (i : In a (changed t s).archived). ⊎_elim (λ k. inl k) (λ (e : Push a ≡ t). inr (inl e)) (one_from a t s (are t (inl refl)) i))
    (λ (i : In (Push a) steps). inr (inr i))
    (all_from a steps (changed t s) (λ u i. are u (inr i)) at)

all_keep : (a : Archived) (steps : List Step) (s : Stanza) → AreStores steps → In a s.archived → In a (after_all s steps).archived
all_keep a [] s are at = at
all_keep a (t ∷ steps) s are at = all_keep a steps (changed t s) (λ u i. are u (inr i)) (one_keeps a t s (are t (inl refl)) at)

all_push : (a : Archived) (steps : List Step) (s : Stanza) → AreStores steps → In (Push a) steps → In a (after_all s steps).archived
all_push a [] s are at = absurd at
all_push a (t ∷ steps) s are at = ⊎_elim
    (λ (e : Push a ≡ t). all_keep a steps (changed t s) (λ u i. are u (inr i)) (subst (λ (u : Step). In a (changed u s).archived) e (in_end a s.archived)))
    (λ (i : In (Push a) steps). all_push a steps (changed t s) (λ u k. are u (inr k)) i)
    at

-- some of the steps archive no more than all of them
pub fewer_files : (done steps : List Step) (s : Stanza) → AreStores steps → ((t : Step) → In t done → In t steps) → (a : Archived) → In a (after_all s done).archived → In a (after_all s steps).archived
fewer_files done steps s are within a at = ⊎_elim
    (λ (i : In a s.archived). all_keep a steps s are i)
    (λ (i : In (Push a) done). all_push a steps s are (within (Push a) i))
    (all_from a done s (λ t i. are t (within t i)) at)

-- ---- the steps of stores

push_stores : (s : Stanza) (a : Archived) → AreStores (push_of s a)
push_stores s a = by (is_archived a s.archived)
  where
    by : (archived : Bool) → AreStores (if archived then [] else Push a ∷ [])
    by true t i = absurd i
    by false t i = ⊎_elim (λ (e : t ≡ Push a). subst IsStore (sym e) tt) (λ (k : ⊥). absurd k) i

abbrev pub note_of : Named → Drained
note_of n = record { name = n.name; sum = sha1 n.bytes }

store_stores : (s : Stanza) (id : ArchiveId) (n : Named) → AreStores (store_of s id n)
store_stores s id n = ⊎_elim
    (λ (e : store_of s id n ≡ []). subst AreStores (sym e) (λ t i. absurd i))
    (λ (e : store_of s id n ≡ push_of s (archived_of id n) ++ Note (note_of n) ∷ []). subst AreStores (sym e) (λ t i. ⊎_elim
    (λ k. push_stores s (archived_of id n) t k)
    (λ k. ⊎_elim (λ (e : t ≡ Note (note_of n)). subst IsStore (sym e) tt) (λ (none : ⊥). absurd none) k)
    (in_parts t (push_of s (archived_of id n)) (Note (note_of n) ∷ []) i)))
    (store_either id n s)

abbrev pub all_stores : Stanza → ArchiveId → List Named → List Step
all_stores s id ns = flat_map (λ g. g) (stores_of s id ns)

pub stores_stores : (s : Stanza) (id : ArchiveId) (ns : List Named) → (t : Step) → In t (all_stores s id ns) → IsStore t
stores_stores s id [] t i = absurd i
stores_stores s id (n ∷ ns) t i = ⊎_elim (λ k. store_stores s id n t k) (λ k. stores_stores (after_all s (store_of s id n)) id ns t k)
    (in_parts t (store_of s id n) (all_stores (after_all s (store_of s id n)) id ns) i)

-- a push keeps one sum for a name
push_sums : (s : Stanza) (a : Archived) → HaveOneSum s.archived → HaveOneSum (after_all s (push_of s a)).archived
push_sums s a one = by (is_archived a s.archived) refl
  where
    off : is_archived a s.archived ≡ false → (x : Archived) → In x s.archived → path_of x ≡ path_of a → ⊥
    off none x i same = let e : ◌≡◌ {A = Bool} false true = sym none ∙ archived_by a x s.archived i (path_same a x (sym same)) in cc

    more : is_archived a s.archived ≡ false → HaveOneSum (s.archived ++ a ∷ [])
    more none x y i j same = ⊎_elim
        (λ (h : In x s.archived). ⊎_elim
        (λ (k : In y s.archived). one x y h k same)
        (λ (k : y ≡ a). absurd (off none x h (same_path x y same ∙ ap path_of k)))
        (in_either y a s.archived j))
        (λ (h : x ≡ a). ⊎_elim
        (λ (k : In y s.archived). absurd (off none y k (sym (same_path x y same) ∙ ap path_of h)))
        (λ (k : y ≡ a). ap (λ (z : Archived). sha1 z.bytes) (h ∙ sym k))
        (in_either y a s.archived j))
        (in_either x a s.archived i)

    by : (archived : Bool) → is_archived a s.archived ≡ archived → HaveOneSum (after_all s (if archived then [] else Push a ∷ [])).archived
    by true is = one
    by false is = more is

store_sums : (s : Stanza) (id : ArchiveId) (n : Named) → HaveOneSum s.archived → HaveOneSum (after_all s (store_of s id n)).archived
store_sums s id n one = ⊎_elim
    (λ (e : store_of s id n ≡ []). subst (λ (l : List Step). HaveOneSum (after_all s l).archived) (sym e) one)
    (λ (e : store_of s id n ≡ push_of s (archived_of id n) ++ Note (note_of n) ∷ []).
    subst (λ (x : Stanza). HaveOneSum x.archived) (sym (ap (after_all s) e ∙ all_after s (push_of s (archived_of id n)) (Note (note_of n) ∷ []))) (push_sums s (archived_of id n) one))
    (store_either id n s)

pub stores_sums : (s : Stanza) (id : ArchiveId) (ns : List Named) → HaveOneSum s.archived → HaveOneSum (after_all s (all_stores s id ns)).archived
stores_sums s id [] one = one
stores_sums s id (n ∷ ns) one =
    let s1 = after_all s (store_of s id n) in
    subst (λ (x : Stanza). HaveOneSum x.archived) (sym (all_after s (store_of s id n) (all_stores s1 id ns))) (stores_sums s1 id ns (store_sums s id n one))

-- ---- what stays noted

-- no step removes a note
keeps_notes : (d : Drained) (t : Step) (s : Stanza) → In d s.drained → In d (changed t s).drained
keeps_notes d (Create c) s at = at
keeps_notes d (Push a) s at = at
keeps_notes d (Note e) s at = in_left d s.drained (e ∷ []) at
keeps_notes d (AddBackup b) s at = at
keeps_notes d (Condemn test) s at = at
keeps_notes d (Forget a) s at = at
keeps_notes d (Upgrade c) s at = at

pub all_keep_notes : (d : Drained) (steps : List Step) (s : Stanza) → In d s.drained → In d (after_all s steps).drained
all_keep_notes d [] s at = at
all_keep_notes d (t ∷ steps) s at = all_keep_notes d steps (changed t s) (keeps_notes d t s at)

-- the store of a file of which no other is archived
pub store_noted : (s : Stanza) (id : ArchiveId) (n : Named) → has_other (archived_of id n) s.archived ≡ false → In (note_of n) (after_all s (store_of s id n)).drained
store_noted s id n off = subst (λ (x : Stanza). In (note_of n) x.drained)
    (sym (ap (after_all s) (store_both id n s off) ∙ all_after s (push_of s (archived_of id n)) (Note (note_of n) ∷ []))) (in_end (note_of n) (after_all s (push_of s (archived_of id n))).drained)

-- a file with its sum is archived
pub record HasIt (id : ArchiveId) (n : Named) (files : List Archived) : Type 0 where
  pub file : Archived
  pub archived : In file files
  pub same : is_same_file (archived_of id n) file ≡ true
  pub of_sum : sha1 file.bytes ≡ sha1 n.bytes

-- then no other is
none_other : (id : ArchiveId) (n : Named) (files : List Archived) (s : Stanza) → HaveOneSum files → HasIt id n files → ((a : Archived) → In a s.archived → In a files) → has_other (archived_of id n) s.archived ≡ false
none_other id n files s one has more = by (has_other (archived_of id n) s.archived) refl
  where
    by : (other : Bool) → has_other (archived_of id n) s.archived ≡ other → other ≡ false
    by false is = refl
    by true is =
        let y = other_as (archived_of id n) s.archived is in
        let same : is_same_file has.file y.0 ≡ true = path_same has.file y.0 (sym (same_path (archived_of id n) has.file has.same) ∙ same_path (archived_of id n) y.0 y.2) in
        absurd (y.3 (sym has.of_sum ∙ one has.file y.0 has.archived (more y.0 y.1) same))

-- each file is noted that is archived with its sum after all of them
pub all_noted : (id : ArchiveId) (ns : List Named) (n : Named) (s : Stanza) → In n ns → HaveOneSum (after_all s (all_stores s id ns)).archived → HasIt id n (after_all s (all_stores s id ns)).archived
    → In (note_of n) (after_all s (all_stores s id ns)).drained
all_noted id [] n s at one has = absurd at
all_noted id (m ∷ ns) n s at one has =
    let s1 = after_all s (store_of s id m) in
    let rest = all_stores s1 id ns in
    let is = all_after s (store_of s id m) rest in
    ⊎_elim
    (λ (e : n ≡ m).
    let off = none_other id n (after_all s (all_stores s id (m ∷ ns))).archived s one has (λ a i. all_keep a (all_stores s id (m ∷ ns)) s (stores_stores s id (m ∷ ns)) i) in
    subst (λ (x : Stanza). In (note_of n) x.drained) (sym is) (all_keep_notes (note_of n) rest s1
    (subst (λ (k : Named). In (note_of n) (after_all s (store_of s id k)).drained) e (store_noted s id n off))))
    (λ (k : In n ns). subst (λ (x : Stanza). In (note_of n) x.drained) (sym is)
    (all_noted id ns n s1 k (subst (λ (x : Stanza). HaveOneSum x.archived) is one) (subst (λ (x : Stanza). HasIt id n x.archived) is has)))
    at

-- ---- what is done of a step of others

some_within : (done : List Step) (groups : List (List Step)) → IsSomeOf done groups → (t : Step) → In t done → In t (flat_map (λ g. g) groups)
some_within done [] is t at = subst (λ (d : List Step). In t d) is at
some_within done (g ∷ groups) is t at = ⊎_elim
    (λ (p : IsSomeOf done groups). in_right t g (flat_map (λ g. g) groups) (some_within done groups p t at))
    (λ (p : (rest : List Step) × (done ≡ g ++ rest) × IsSomeOf rest groups). ⊎_elim
    (λ i. in_left t g (flat_map (λ g. g) groups) i)
    (λ i. in_right t g (flat_map (λ g. g) groups) (some_within p.0 groups p.2 t i))
    (in_parts t g p.0 (subst (λ (d : List Step). In t d) p.1 at)))
    is

-- no more than all of the stores
pub turn_within : (ended : Bool) (done : List Step) (groups : List (List Step)) → IsDone ended done ((if ended then map One (flat_map (λ g. g) groups) else Any groups ∷ []) ++ [])
    → (t : Step) → In t done → In t (flat_map (λ g. g) groups)
turn_within true done groups is t at =
    let steps = flat_map (λ g. g) groups in
    subst (λ (d : List Step). In t d) (is ∙ ap all_of (append-nil (map One steps)) ∙ all_one steps) at
turn_within false done groups is t at = ⊎_elim
    (λ (p : IsSomeOf done groups). some_within done groups p t at)
    (λ (p : (rest : List Step) × (done ≡ flat_map (λ g. g) groups ++ rest) × (rest ≡ [])).
    subst (λ (d : List Step). In t d) (p.1 ∙ ap (λ (l : List Step). flat_map (λ g. g) groups ++ l) p.2 ∙ append-nil (flat_map (λ g. g) groups)) at)
    is
