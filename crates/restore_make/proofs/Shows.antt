-- Candidates among the nodes that a listing shows.
use Rattle.std.proofs.Common.{ℕ, zero, suc, Bool, true, false, ◌≡◌, ◌≢◌, ◌⊎◌, inl, inr, ⊎_elim, ◌<◌, ◌&&◌, refl, sym, ap, ◌∙◌, subst, arith, List, [], ◌∷◌, ◌++◌, length, map, Option, Some, slice_get, get_or, Less, Equal, Greater, nat_cmp}
use Rattle.std.specs.Prelude.{◌==◌}
use Rattle.std.specs.Cmp.Lexicographic.{slice_cmp}
use Rattle.std.specs.List.{HoldsAt}
use Rattle.std.specs.List.Sorted.{IsPartitionPoint}
use Rattle.std.proofs.lemmas.Bool.{and_parts}
use Rattle.std.proofs.lemmas.Bool.Decides.{nat_tests}
use Rattle.base_devices.specs.Order.{are_in_order}
use Rattle.base_devices.specs.declared.data_folder.Node.{Node}
use Rattle.base_devices.specs.declared.data_folder.Node.TheVariants.{File, Folder, Link, Other}
use Rattle.base_model.specs.declared.files.FileEntry as rust
use Rattle.restore_make.specs.Recovered.{Recovery}
use Rattle.base_model.specs.Text.{Text, In}
use Rattle.base_model.specs.Values.{FileEntry, file_entry_of}
use Rattle.backup_plan.proofs.Lists.{of_map}
use Rattle.backup_plan.proofs.Searched.{found, absent}
use Rattle.backup_plan.proofs.Sought.{name_of}
use Rattle.restore_steps.proofs.Bare.{in_left, in_split}
use Rattle.restore_steps.proofs.Ordered.{one_name}
use Rattle.restore_steps.proofs.Listing.{map_get}
use Rattle.restore_make.specs.declared.candidates.Candidate.{Candidate}
use Rattle.restore_make.specs.Options.{is_ordinary}
use Rattle.restore_make.specs.Kept.{IsShown}
use Rattle.restore_make.specs.Digested.{file_of, is_like, IsPlaceOf, IsLike, IsCandidate, IsCandidateBy, AddsCandidate, AreCandidates, HasCandidates}
use Rattle.restore_make.proofs.ReadJobs.{in_at}
use Rattle.restore_make.proofs.Writes.{get_some}

-- ---- a place that is looked for

get_or_is : {A : Type 0} (xs : List A) (i : ℕ) (x : A) → slice_get xs i ≡ Some x → get_or xs i x ≡ x
get_or_is [] i x e = cc
get_or_is (y ∷ ys) zero x e = let h : ◌≡◌ {A = Option _} (Some y) (Some x) = e in cc
get_or_is (y ∷ ys) (suc i) x e = get_or_is ys i x e

module _ (files : List rust.FileEntry) (key : Text) (i : ℕ) where
  pub place_found : HoldsAt (λ e. slice_cmp nat_cmp (name_of e) key ≡ Equal) files i → i < length files → IsPlaceOf (map file_entry_of files) key i
  place_found h less =
      let x = get_some files i less in
      (file_entry_of x.0, map_get file_entry_of files i x.0 x.1, ap name_of (sym (get_or_is files i x.0 x.1)) ∙ found name_of key files i x.0 h)

  pub place_absent : IsPartitionPoint (λ e. slice_cmp nat_cmp (name_of e) key ≡ Less) (λ e. slice_cmp nat_cmp (name_of e) key ≡ Greater) files i → (e : FileEntry) → In e (map file_entry_of files) → e.path ≢ key
  place_absent point e here same =
      let r = of_map file_entry_of files e here in
      absent name_of key files i point r.0 r.1 (ap (λ (x : FileEntry). x.path) r.2 ∙ same)

-- ---- nodes

-- a node of an ordinary entry is a file of its size
like_parts : (r : Recovery) (e : FileEntry) (node : Node) → is_like r e node ≡ true → (is_ordinary r e ≡ true) × ((time : ℕ) × (node ≡ File e.size time))
like_parts r e (File size time) is =
    let h = and_parts (size == e.size) (is_ordinary r e) is in
    let same : size ≡ e.size = (let t : (size == e.size) ≡ true = h.0 in grind (arith, nat_tests)) in
    (h.1, (time, ap (λ (n : ℕ). File n time) same))
like_parts r e Folder is = cc
like_parts r e Link is = cc
like_parts r e Other is = cc

pub like_by : (r : Recovery) (e : FileEntry) (time : ℕ) → is_ordinary r e ≡ true → is_like r e (File e.size time) ≡ true
like_by r e time is = two (e.size == e.size) (is_ordinary r e) (grind (arith, nat_tests)) is
  where
    two : (a b : Bool) → a ≡ true → b ≡ true → a && b ≡ true
    two a b x y = cc

true_false : (b : Bool) → b ≡ true → b ≡ false → ⊥
true_false b x y = cc

-- no entry is the node's
pub none_like : (r : Recovery) (es : List FileEntry) (path : Text) (node : Node) → ((e : FileEntry) → In e es → e.path ≢ path) → (e : FileEntry) → In e es → ¬ IsLike r (path, node) e
none_like r es path node none e i like = none e i like.0

-- the one of its path isn't
pub unlike : (r : Recovery) (es : List FileEntry) (place : ℕ) (d : FileEntry) (path : Text) (node : Node) → are_in_order (map (λ (e : FileEntry). e.path) es) ≡ true → IsPlaceOf es path place → slice_get es place ≡ Some d → is_like r d node ≡ false → (e : FileEntry) → In e es → ¬ IsLike r (path, node) e
unlike r es place d path node order at here off e i like =
    let h : ◌≡◌ {A = Option FileEntry} (Some at.0) (Some d) = sym at.1 ∙ here in
    let is : at.0 ≡ d = cc in
    let same : e ≡ d = one_name (λ (x : FileEntry). x.path) es e d order i (in_at es place d here) (like.0 ∙ sym at.2 ∙ ap (λ (x : FileEntry). x.path) is) in
    true_false (is_like r d node) (subst (λ (x : FileEntry). is_like r x node ≡ true) same like.1) off

pub path_at : (es : List FileEntry) (place : ℕ) (d : FileEntry) (path : Text) → IsPlaceOf es path place → slice_get es place ≡ Some d → d.path ≡ path
path_at es place d path at here =
    let h : ◌≡◌ {A = Option FileEntry} (Some at.0) (Some d) = sym at.1 ∙ here in
    let is : at.0 ≡ d = cc in
    ap (λ (x : FileEntry). x.path) (sym is) ∙ at.2

-- ---- going through a listing

-- one more at the end of a list
at_prefix : {A : Type 0} (xs ys : List A) (k : ℕ) (x : A) → slice_get xs k ≡ Some x → slice_get (xs ++ ys) k ≡ Some x
at_prefix [] ys k x e = cc
at_prefix (z ∷ xs) ys zero x e = e
at_prefix (z ∷ xs) ys (suc k) x e = at_prefix xs ys k x e

at_last : {A : Type 0} (xs : List A) (y : A) → slice_get (xs ++ y ∷ []) (length xs) ≡ Some y
at_last [] y = refl
at_last (x ∷ xs) y = at_last xs y

at_split : {A : Type 0} (xs : List A) (y : A) (k : ℕ) (x : A) → slice_get (xs ++ y ∷ []) k ≡ Some x → (slice_get xs k ≡ Some x) ⊎ (x ≡ y)
at_split [] y zero x e = let h : ◌≡◌ {A = Option _} (Some y) (Some x) = e in inr cc
at_split [] y (suc k) x e = cc
at_split (z ∷ xs) y zero x e = inl e
at_split (z ∷ xs) y (suc k) x e = at_split xs y k x e

module _ (r : Recovery) (es : List FileEntry) where
  shown_more : (seen more : List (Text × Node)) (e : FileEntry) → IsShown seen e → IsShown (seen ++ more) e
  shown_more seen more e x = (x.0, in_left (e.path, File e.size x.0) seen more x.1)

  candidate_more : (seen more : List (Text × Node)) (c : Candidate) → IsCandidate r es seen c → IsCandidate r es (seen ++ more) c
  candidate_more seen more c x = record { at = x.at; ordinary = x.ordinary; shown = shown_more seen more (file_of c) x.shown }

  candidate_by : (seen : List (Text × Node)) (s : Text × Node) (c : Candidate) → IsCandidateBy r es s c → IsCandidate r es (seen ++ s ∷ []) c
  candidate_by seen s c x =
      let parts = like_parts r (file_of c) s.1 x.1.1 in
      let is : ((file_of c).path, File (file_of c).size parts.1.0) ≡ s = ap (λ (p : Text). (p, File (file_of c).size parts.1.0)) x.1.0 ∙ ap (λ (n : Node). (s.0, n)) (sym parts.1.1) in
      record { at = x.0; ordinary = parts.0; shown = (parts.1.0, last seen ((file_of c).path, File (file_of c).size parts.1.0) s is) }
    where
      last : (xs : List (Text × Node)) (y z : Text × Node) → y ≡ z → In y (xs ++ z ∷ [])
      last [] y z same = inl same
      last (x ∷ xs) y z same = inr (last xs y z same)

  -- a node that is a candidate, or none
  more_candidates : (seen : List (Text × Node)) (s : Text × Node) (cs new : List Candidate) (c : Candidate) → new ≡ cs ++ c ∷ [] → IsCandidateBy r es s c → AreCandidates r es seen cs → AreCandidates r es (seen ++ s ∷ []) new
  more_candidates seen s cs new c is by before k d at_k = ⊎_elim
      (λ at. candidate_more seen (s ∷ []) d (before k d at))
      (λ same. subst (λ (x : Candidate). IsCandidate r es (seen ++ s ∷ []) x) (sym same) (candidate_by seen s c by))
      (at_split cs c k d (ap (λ (l : List Candidate). slice_get l k) (sym is) ∙ at_k))

  still_candidates : (seen : List (Text × Node)) (s : Text × Node) (cs : List Candidate) → AreCandidates r es seen cs → AreCandidates r es (seen ++ s ∷ []) cs
  still_candidates seen s cs before k d at_k = candidate_more seen (s ∷ []) d (before k d at_k)

  shown_split : (seen : List (Text × Node)) (s : Text × Node) (e : FileEntry) → is_ordinary r e ≡ true → IsShown (seen ++ s ∷ []) e → IsShown seen e ⊎ IsLike r s e
  shown_split seen s e ordinary x = ⊎_elim
      (λ before. inl (x.0, before))
      (λ (same : (e.path, File e.size x.0) ≡ s). inr (ap (λ (p : Text × Node). p.0) same, subst (λ (n : Node). is_like r e n ≡ true) (ap (λ (p : Text × Node). p.1) same) (like_by r e x.0 ordinary)))
      (in_split (e.path, File e.size x.0) s seen x.1)

  more_had : are_in_order (map (λ (e : FileEntry). e.path) es) ≡ true → (seen : List (Text × Node)) (s : Text × Node) (cs new : List Candidate) (c : Candidate) → new ≡ cs ++ c ∷ [] → IsCandidateBy r es s c → HasCandidates r es seen cs → HasCandidates r es (seen ++ s ∷ []) new
  more_had order seen s cs new c is by before e i ordinary shown = ⊎_elim
      (λ earlier. let x = before e i ordinary earlier in (x.0, x.1, ap (λ (l : List Candidate). slice_get l x.0) is ∙ at_prefix cs (c ∷ []) x.0 x.1 x.2, x.3))
      (λ (like : IsLike r s e).
      let same : file_of c ≡ e = one_name (λ (x : FileEntry). x.path) es (file_of c) e order (in_at es c.place (file_of c) by.0) i (by.1.0 ∙ sym like.0) in
      (length cs, c, ap (λ (l : List Candidate). slice_get l (length cs)) is ∙ at_last cs c, by.0 ∙ ap (λ (x : FileEntry). Some x) same))
      (shown_split seen s e ordinary shown)

  still_had : (seen : List (Text × Node)) (s : Text × Node) (cs : List Candidate) → ((e : FileEntry) → In e es → ¬ IsLike r s e) → HasCandidates r es seen cs → HasCandidates r es (seen ++ s ∷ []) cs
  still_had seen s cs none before e i ordinary shown = ⊎_elim (λ earlier. before e i ordinary earlier) (λ (like : IsLike r s e). absurd (none e i like)) (shown_split seen s e ordinary shown)

  -- ---- one more node

  pub are_more : (seen : List (Text × Node)) (s : Text × Node) (cs new : List Candidate) → AddsCandidate r es s cs new → AreCandidates r es seen cs → AreCandidates r es (seen ++ s ∷ []) new
  are_more seen s cs new (inl x) before = subst (λ (l : List Candidate). AreCandidates r es (seen ++ s ∷ []) l) (sym x.0) (still_candidates seen s cs before)
  are_more seen s cs new (inr x) before = more_candidates seen s cs new x.0 x.1 x.2 before

  pub had_more : are_in_order (map (λ (e : FileEntry). e.path) es) ≡ true → (seen : List (Text × Node)) (s : Text × Node) (cs new : List Candidate) → AddsCandidate r es s cs new → HasCandidates r es seen cs → HasCandidates r es (seen ++ s ∷ []) new
  had_more order seen s cs new (inl x) before = subst (λ (l : List Candidate). HasCandidates r es (seen ++ s ∷ []) l) (sym x.0) (still_had seen s cs x.1 before)
  had_more order seen s cs new (inr x) before = more_had order seen s cs new x.0 x.1 x.2 before
