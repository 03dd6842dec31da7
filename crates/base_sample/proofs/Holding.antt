-- What a change of one node leaves of what the folder has.
use Rattle.std.proofs.Common.{ℕ, zero, suc, Bool, true, false, cond, ◌≡◌, ◌⊎◌, inl, inr, ◌<◌, ◌≤◌, ◌+◌, ◌*◌, ◌^◌, add-one, refl, sym, ap, ◌∙◌, subst, arith, List, [], ◌∷◌, ◌++◌, length, Option, Some, None, Result, Ok, Err, option_map, bytes_eq, codes, rules, map, slice_get, string_bytes}
use Rattle.std.specs.Prelude.{◌≢◌, IfSome, OnOk}
use Rattle.std.proofs.lemmas.Bool.{cases_lt}
use Rattle.std.proofs.lemmas.Slice.Eq.{bytes_eq-Decides}
use Rattle.base_devices.specs.Content.{Value, Content, SameBut, at, put, lengthened}
use Rattle.base_devices.specs.DataFolder.{Nodes, Held, file, folder, with_node, longer, lengthened_file, IsPlaced, IsTreeListing, ChangesTree}
use Rattle.base_devices.specs.declared.data_folder.FolderEntry.{FolderEntry}
use Rattle.base_model.specs.Restored.{HoldsTree}
use Rattle.base_model.specs.Text.{Text, In}
use Rattle.base_sample.specs.Bytes.{relation_path, relation_bytes, version_path, control_path, version_bytes, control_bytes}
use Rattle.base_sample.specs.Folder.{sample_folders, relations, made}
use Rattle.base_sample.specs.Having.{Has, HasFile, IsEmpty, IsTaken, nothing}
use Rattle.base_sample.proofs.Paths.{relation_out, relation_placed, placed_top, placed_in}

-- ---- one node of a folder

pub apart_of : (p q : Text) → bytes_eq p q ≡ false → q ≢ p
apart_of p q unlike e = let h : ◌≡◌ {A = Bool} true false = sym ((bytes_eq-Decides p q).1 (sym e)) ∙ unlike in cc

pub same_of : (p q : Text) → bytes_eq p q ≡ true → p ≡ q
same_of p q alike = (bytes_eq-Decides p q).0 alike

-- a file is put at a path
file_put : (c : Content) (p b : Text) (f g : Nodes) → ¬ In p sample_folders → HasFile p b g → ((q : Text) → q ≢ p → g q ≡ f q) → HoldsTree c sample_folders f → HoldsTree (put p (Some b) c) sample_folders g
file_put c p b f g out is same had = record {
  file = λ path bytes e. by_file path bytes (bytes_eq p path) refl e;
  folder = λ path i. same path (λ e. out (subst (λ (t : Text). In t sample_folders) e i)) ∙ had.folder path i;
  nothing = λ path e off. by_none path (bytes_eq p path) refl e off;
}
  where
    by_file : (path bytes : Text) (s : Bool) → bytes_eq p path ≡ s → cond s (Some b) (c path) ≡ Some bytes → (time : ℕ) × (g path ≡ Some (file bytes time))
    by_file path bytes true alike w =
        let is_b : b ≡ bytes = cc in
        (is.0, ap g (sym (same_of p path alike)) ∙ is.1 ∙ ap (λ (x : Text). Some (file x is.0)) is_b)
    by_file path bytes false unlike w = let h = had.file path bytes w in (h.0, same path (apart_of p path unlike) ∙ h.1)

    by_none : (path : Text) (s : Bool) → bytes_eq p path ≡ s → cond s (Some b) (c path) ≡ None → ¬ In path sample_folders → g path ≡ None
    by_none path true alike w off = let h : ◌≡◌ {A = Value} (Some b) None = w in cc
    by_none path false unlike w off = same path (apart_of p path unlike) ∙ had.nothing path w off

-- a path holds nothing any more
none_put : (c : Content) (p : Text) (f g : Nodes) → ¬ In p sample_folders → g p ≡ None → ((q : Text) → q ≢ p → g q ≡ f q) → HoldsTree c sample_folders f → HoldsTree (put p None c) sample_folders g
none_put c p f g out is same had = record {
  file = λ path bytes e. by_file path bytes (bytes_eq p path) refl e;
  folder = λ path i. same path (λ e. out (subst (λ (t : Text). In t sample_folders) e i)) ∙ had.folder path i;
  nothing = λ path e off. by_none path (bytes_eq p path) refl e off;
}
  where
    by_file : (path bytes : Text) (s : Bool) → bytes_eq p path ≡ s → cond s None (c path) ≡ Some bytes → (time : ℕ) × (g path ≡ Some (file bytes time))
    by_file path bytes true alike w = let h : ◌≡◌ {A = Value} None (Some bytes) = w in cc
    by_file path bytes false unlike w = let h = had.file path bytes w in (h.0, same path (apart_of p path unlike) ∙ h.1)

    by_none : (path : Text) (s : Bool) → bytes_eq p path ≡ s → cond s None (c path) ≡ None → ¬ In path sample_folders → g path ≡ None
    by_none path true alike w off = ap g (sym (same_of p path alike)) ∙ is
    by_none path false unlike w off = same path (apart_of p path unlike) ∙ had.nothing path w off

with_same : (p : Text) (x : Option Held) (f : Nodes) → with_node p x f p ≡ x
with_same p x f = ap (λ (s : Bool). cond s x (f p)) ((bytes_eq-Decides p p).1 refl)

with_other : (p : Text) (x : Option Held) (f : Nodes) (q : Text) → q ≢ p → with_node p x f q ≡ f q
with_other p x f q off = by (bytes_eq p q) refl
  where
    by : (s : Bool) → bytes_eq p q ≡ s → cond s x (f q) ≡ f q
    by true alike = absurd (off (sym (same_of p q alike)))
    by false unlike = refl

-- a file gets longer
more_put : (c : Content) (p more : Text) (time : ℕ) (f : Nodes) → ¬ In p sample_folders → HoldsTree c sample_folders f → HoldsTree (lengthened p more c) sample_folders (lengthened_file p more time f)
more_put c p more time f out had = by (c p) refl
  where
    g : Nodes
    g = lengthened_file p more time f

    by : (v : Value) → c p ≡ v → HoldsTree (lengthened p more c) sample_folders (lengthened_file p more time f)
    by None e =
        let bare : f p ≡ None = had.nothing p e out in
        let now : g p ≡ None = with_same p (longer more time (f p)) f ∙ ap (longer more time) bare in
        subst (λ (v : Value). HoldsTree (put p (option_map (λ (old : Text). old ++ more) v) c) sample_folders g) (sym e)
        (none_put c p f g out now (λ q off. with_other p (longer more time (f p)) f q off) had)
    by (Some b) e =
        let h = had.file p b e in
        let now : g p ≡ Some (file (b ++ more) time) = with_same p (longer more time (f p)) f ∙ ap (longer more time) h.1 in
        subst (λ (v : Value). HoldsTree (put p (option_map (λ (old : Text). old ++ more) v) c) sample_folders g) (sym e)
        (file_put c p (b ++ more) f g out (time, now) (λ q off. with_other p (longer more time (f p)) f q off) had)

-- ---- where the folder is known

known : (a b : Option Held) → ◌≡◌ {A = Option (Option Held)} (Some a) (Some b) → a ≡ b
known a b e = cc

pub has_file : (c : Content) (p b : Text) (old new : Option Nodes) → ¬ In p sample_folders → IfSome new (HasFile p b) → SameBut p old new → Has c old → Has (put p (Some b) c) new
has_file c p b old None out is same had = tt
has_file c p b None (Some g) out is same had =
    let h : ◌≡◌ {A = Option (Option Held)} (Some (g (0 ∷ p))) None = same (0 ∷ p) (λ e. omega (arith, ap length e)) in cc
has_file c p b (Some f) (Some g) out is same had = file_put c p b f g out is (λ q off. known (g q) (f q) (same q off)) had

pub has_more : (c : Content) (p more : Text) (time : ℕ) (old new : Option Nodes) → ¬ In p sample_folders → new ≡ option_map (lengthened_file p more time) old → Has c old → Has (lengthened p more c) new
has_more c p more time None new out is had = subst (Has (lengthened p more c)) (sym is) tt
has_more c p more time (Some f) new out is had = subst (Has (lengthened p more c)) (sym is) (more_put c p more time f out had)

pub has_none : (c : Content) (p : Text) (old new : Option Nodes) → ¬ In p sample_folders → new ≡ option_map (with_node p None) old → Has c old → Has (put p None c) new
has_none c p None new out is had = subst (Has (put p None c)) (sym is) tt
has_none c p (Some f) new out is had = subst (Has (put p None c)) (sym is) (none_put c p f (with_node p None f) out (with_same p None f) (λ q off. with_other p None f q off) had)

-- besides a path that gets another node all is unchanged
pub but_one : (p : Text) (x : Option Held) (old new : Option Nodes) → new ≡ option_map (with_node p x) old → SameBut p old new
but_one p x None new is q off = ap (at q) is
but_one p x (Some f) new is q off = ap (at q) is ∙ ap (λ (v : Option Held). Some v) (with_other p x f q off)

-- ---- the files of a sample cluster

pub no_relations : (o : Option Nodes) → Has nothing o → Has (relations 0) o
unfolding relations
no_relations o had = had

-- the folder has one relation file more
pub relations_more : (k : ℕ) (old new : Option Nodes) → k < 2 ^ 31 → IfSome new (HasFile (relation_path k) (relation_bytes k)) → SameBut (relation_path k) old new → Has (relations k) old → Has (relations (k + 1)) new
unfolding relations
relations_more k old new fits is same had = subst (λ (n : ℕ). Has (relations n) new) (sym (add-one k))
    (has_file (relations k) (relation_path k) (relation_bytes k) old new (relation_out k fits) is same had)

-- a path without a file is that of none of them
pub relation_other : (n k : ℕ) (q : Text) → k < n → relations n q ≡ None → q ≢ relation_path k
unfolding relations
relation_other zero k q lt none e = omega (arith, lt)
relation_other (suc n) k q lt none e = by (bytes_eq (relation_path n) q) refl none (relation_other n k q)
  where
    last : bytes_eq (relation_path n) q ≡ false → (k < n) ⊎ (n ≤ k) → ((k < n → relations n q ≡ None → q ≢ relation_path k)) → relations n q ≡ None → ⊥
    last unlike (inl less) rest w = rest less w e
    last unlike (inr more) rest w = let is : k ≡ n = omega arith in apart_of (relation_path n) q unlike (e ∙ ap relation_path is)

    by : (s : Bool) → bytes_eq (relation_path n) q ≡ s → cond s (Some (relation_bytes n)) (relations n q) ≡ None → (k < n → relations n q ≡ None → q ≢ relation_path k) → ⊥
    by true alike w rest = let h : ◌≡◌ {A = Value} (Some (relation_bytes n)) None = w in cc
    by false unlike w rest = last unlike (cases_lt k n) rest w

-- a relation file has its folder
pub relation_is_placed : (c : Content) (i : ℕ) (o : Option Nodes) → i < 2 ^ 31 → Has c o → IsPlaced o (relation_path i)
unfolding sample_folders
relation_is_placed c i None fits had = tt
relation_is_placed c i (Some f) fits had = relation_placed f i fits (had.folder (codes "base/5") (inr (inl refl)))

-- ---- the folders, and the first and the last files

pub base_placed : (o : Option Nodes) → IsPlaced o (codes "base")
base_placed None = tt
base_placed (Some f) = placed_top f (codes "base") (search rules)

pub global_placed : (o : Option Nodes) → IsPlaced o (codes "global")
global_placed None = tt
global_placed (Some f) = placed_top f (codes "global") (search rules)

pub five_placed : (old new : Option Nodes) → new ≡ option_map (with_node (codes "base") (Some folder)) old → IsPlaced new (codes "base/5")
five_placed None new is = subst (λ (o : Option Nodes). IsPlaced o (codes "base/5")) (sym is) tt
five_placed (Some f) new is = subst (λ (o : Option Nodes). IsPlaced o (codes "base/5")) (sym is)
    (placed_in (with_node (codes "base") (Some folder) f) (codes "base") (codes "5") (search rules) (with_same (codes "base") (Some folder) f))

-- an empty folder that gets the three folders
three_folders : (f : Nodes) → IsEmpty f → HoldsTree nothing sample_folders (with_node (codes "global") (Some folder) (with_node (codes "base/5") (Some folder) (with_node (codes "base") (Some folder) f)))
unfolding sample_folders
three_folders f bare = record {
  file = λ path bytes e. (let h : ◌≡◌ {A = Value} None (Some bytes) = e in cc);
  folder = λ path i. by path i;
  nothing = λ path e off. off_all path off;
}
  where
    one : Nodes
    one = with_node (codes "base") (Some folder) f

    two : Nodes
    two = with_node (codes "base/5") (Some folder) one

    three : Nodes
    three = with_node (codes "global") (Some folder) two

    by : (path : Text) → In path sample_folders → three path ≡ Some folder
    by path (inl e) = subst (λ (t : Text). three t ≡ Some folder) (sym e) refl
    by path (inr (inl e)) = subst (λ (t : Text). three t ≡ Some folder) (sym e) refl
    by path (inr (inr (inl e))) = subst (λ (t : Text). three t ≡ Some folder) (sym e) refl
    by path (inr (inr (inr none))) = absurd none

    off_all : (path : Text) → ¬ In path sample_folders → three path ≡ None
    off_all path off = with_other (codes "global") (Some folder) two path (λ e. off (inr (inr (inl e))))
        ∙ with_other (codes "base/5") (Some folder) one path (λ e. off (inr (inl e)))
        ∙ with_other (codes "base") (Some folder) f path (λ e. off (inl e))
        ∙ bare path

folders_put : (old first second third : Option Nodes) → first ≡ option_map (with_node (codes "base") (Some folder)) old → second ≡ option_map (with_node (codes "base/5") (Some folder)) first → third ≡ option_map (with_node (codes "global") (Some folder)) second → IfSome old IsEmpty → Has nothing third
folders_put None first second third a b c bare = subst (Has nothing) (sym (c ∙ ap (option_map (with_node (codes "global") (Some folder))) (b ∙ ap (option_map (with_node (codes "base/5") (Some folder))) a))) tt
folders_put (Some f) first second third a b c bare = subst (Has nothing) (sym (c ∙ ap (option_map (with_node (codes "global") (Some folder))) (b ∙ ap (option_map (with_node (codes "base/5") (Some folder))) a))) (three_folders f bare)

pub folders_made : {E : Type 0} (result : Result (Unit {0}) E) (old first second third : Option Nodes) → first ≡ option_map (with_node (codes "base") (Some folder)) old → second ≡ option_map (with_node (codes "base/5") (Some folder)) first → ChangesTree result (with_node (codes "global") (Some folder)) second third → OnOk result (IfSome old IsEmpty → Has nothing third)
folders_made (Ok r) old first second third a b c = folders_put old first second third a b c
folders_made (Err e) old first second third a b c = tt

pub version_placed : (o : Option Nodes) → IsPlaced o version_path
version_placed None = tt
version_placed (Some f) = placed_top f version_path (search rules)

pub control_placed : (c : Content) (o : Option Nodes) → Has c o → IsPlaced o control_path
unfolding sample_folders
control_placed c None had = tt
control_placed c (Some f) had = placed_in f (codes "global") (codes "pg_control") (search rules) (had.folder (codes "global") (inr (inr (inl refl))))

pub version_out : ¬ In version_path sample_folders
unfolding sample_folders
version_out (inl e) = cc
version_out (inr (inl e)) = cc
version_out (inr (inr (inl e))) = cc
version_out (inr (inr (inr none))) = absurd none

pub control_out : ¬ In control_path sample_folders
unfolding sample_folders
control_out (inl e) = cc
control_out (inr (inl e)) = cc
control_out (inr (inr (inl e))) = cc
control_out (inr (inr (inr none))) = absurd none

-- the first node of a listing is there
pub first_taken : (seen : List FolderEntry) (s : FolderEntry) (path : Text) (nodes : Option Nodes) → slice_get seen 0 ≡ Some s → path ≡ string_bytes s.path → IfSome nodes (λ f. IsTreeListing f (map (λ (x : FolderEntry). (string_bytes x.path, x.node)) seen)) → IfSome nodes (IsTaken path)
first_taken seen s path None head is listing = tt
first_taken [] s path (Some f) head is listing = cc
first_taken (x ∷ xs) s path (Some f) head is listing =
    let same : x ≡ s = cc in
    let there = listing.each (string_bytes x.path) x.node (0, omega arith, refl) in
    (there.0, ap f (is ∙ ap (λ (y : FolderEntry). string_bytes y.path) (sym same)) ∙ there.1)

pub changed_other : {E : Type 0} (p : Text) (x : Option Held) (q : Text) (result : Result (Unit {0}) E) (old new : Option Nodes) → ChangesTree result (with_node p x) old new → q ≢ p → at q new ≡ at q old
changed_other p x q (Ok r) old new is off = but_one p x old new is q off
changed_other p x q (Err e) old new is off = ap (at q) is

-- the version file and the control file after the relation files
pub all_made : {E : Type 0} (was : Type 0) (n : ℕ) (bytes : Text) (result : Result (Unit {0}) E) (old first second : Option Nodes) → bytes ≡ control_bytes → IfSome first (HasFile version_path version_bytes) → SameBut version_path old first → OnOk result (IfSome second (HasFile control_path bytes)) → SameBut control_path first second → (was → Has (relations (100 * n)) old) → OnOk result (was → Has (made n) second)
all_made was n bytes (Err e) old first second is a b c d had = tt
all_made was n bytes (Ok r) old first second is a b c d had = λ w. has_file (put version_path (Some version_bytes) (relations (100 * n))) control_path control_bytes first second control_out (subst (λ (t : Text). IfSome second (HasFile control_path t)) is c) d
    (has_file (relations (100 * n)) version_path version_bytes old first version_out a b (had w))
