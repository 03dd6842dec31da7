-- Marks of files that are kept.
use Rattle.std.proofs.Common.{ℕ, zero, suc, Bool, true, false, cond, ◌≡◌, ◌≢◌, ⊎_elim, ◌<◌, ◌≤◌, ◌+◌, refl, sym, ap, ◌∙◌, subst, arith, List, [], ◌∷◌, ◌++◌, length, map, set, Option, Some, slice_get, get_or}
use Rattle.std.specs.Prelude.{unwrap_or}
use Rattle.std.proofs.lemmas.List.{length-set}
use Rattle.base_devices.specs.Links.{LinkState}
use Rattle.base_devices.specs.declared.data_folder.Node.{Node}
use Rattle.restore_make.specs.Recovered.{Recovery}
use Rattle.base_model.specs.Text.{Text, In}
use Rattle.base_model.specs.Values.{FileEntry}
use Rattle.worker_protocol.specs.declared.sinks.ItemEnd.{ItemEnd}
use Rattle.worker_pool.proofs.Going.{some_of}
use Rattle.worker_pool.specs.Digests.{IsWhole, is_equal}
use Rattle.worker_pool.proofs.Digests.{whole_of, equal_of}
use Rattle.restore_steps.proofs.Listing.{get_set_other, either_is, some_within}
use Rattle.restore_make.specs.declared.candidates.Candidate.{Candidate}
use Rattle.restore_make.specs.Options.{Options}
use Rattle.restore_make.specs.Entries.{AreOf}
use Rattle.restore_make.specs.Kept.{mark_at, marked, IsAlike, AllAlike, MarksAlike}
use Rattle.restore_make.specs.Digested.{file_of, AreCandidates, HasCandidates, AreEnds, marked_one, NoneMarked, IsMarkedBy, MarksEqual}
use Rattle.restore_make.proofs.ReadEntries.{at_marked, marked_at}
use Rattle.restore_make.proofs.ReadJobs.{at_in, in_at, got_map}
use Rattle.restore_make.proofs.Writes.{get_some}

-- ---- marks

pub there : {A : Type 0} (xs : List A) (i : ℕ) (d : A) → i < length xs → slice_get xs i ≡ Some (get_or xs i d)
there [] i d lt = absurd (omega (arith, lt))
there (x ∷ xs) zero d lt = refl
there (x ∷ xs) (suc i) d lt = there xs i d (omega (arith, lt))

pub none_more : (marks : List Bool) → NoneMarked marks → NoneMarked (marks ++ false ∷ [])
none_more [] none zero = refl
none_more [] none (suc i) = refl
none_more (b ∷ marks) none zero = none zero
none_more (b ∷ marks) none (suc i) = none_more marks (λ k. none (suc k)) i

mark_same : (marks : List Bool) (i : ℕ) (b : Bool) → i < length marks → mark_at (set marks i b) i ≡ b
mark_same [] i b lt = absurd (omega (arith, lt))
mark_same (x ∷ marks) zero b lt = refl
mark_same (x ∷ marks) (suc i) b lt = mark_same marks i b (omega (arith, lt))

mark_other : (marks : List Bool) (i k : ℕ) (b : Bool) → k ≢ i → mark_at (set marks i b) k ≡ mark_at marks k
mark_other marks i k b off = ap (λ (o : Option Bool). unwrap_or o false) (get_set_other marks i k b off)

module _ (cs : List Candidate) (ends : List (Option ItemEnd)) where
  -- the place of an equal candidate is marked
  pub by_more : (marks : List Bool) (n : ℕ) (c : Candidate) (end : Option ItemEnd) → slice_get cs n ≡ Some c → slice_get ends n ≡ Some end → is_equal (file_of c) end ≡ true → IsMarkedBy cs ends marks → IsMarkedBy cs ends (set marks c.place true)
  by_more marks n c end is end_is equal before i marked = ⊎_elim
      (λ (e : i ≡ c.place). record { number = n; candidate = c; is = is; at = sym e; end = end; end_is = end_is; equal = equal })
      (λ (off : i ≢ c.place). before i (sym (mark_other marks c.place i true off) ∙ marked))
      (either_is i c.place)

  -- those before n are marked where they are equal
  abbrev pub MarkedTo : ℕ → List Bool → Type 0
  MarkedTo n marks = (k : ℕ) (c : Candidate) (end : Option ItemEnd) → k < n → slice_get cs k ≡ Some c → slice_get ends k ≡ Some end → is_equal (file_of c) end ≡ true → mark_at marks c.place ≡ true

  pub marked_more : (marks : List Bool) (n : ℕ) (c : Candidate) → c.place < length marks → slice_get cs n ≡ Some c → MarkedTo n marks → MarkedTo (n + 1) (set marks c.place true)
  marked_more marks n c within is before k d end lt at_k end_k equal = ⊎_elim
      (λ (same : d.place ≡ c.place). ap (mark_at (set marks c.place true)) same ∙ mark_same marks c.place true within)
      (λ (off : d.place ≢ c.place). mark_other marks c.place d.place true off ∙ ⊎_elim
      (λ (e : k ≡ n). let h : ◌≡◌ {A = Option Candidate} (Some d) (Some c) = sym at_k ∙ ap (slice_get cs) e ∙ is in let one : d ≡ c = cc in absurd (off (ap (λ (x : Candidate). x.place) one)))
      (λ (other : k ≢ n). before k d end (omega (arith, lt, other)) at_k end_k equal)
      (either_is k n))
      (either_is d.place c.place)

  pub unmarked_more : (marks : List Bool) (n : ℕ) (c : Candidate) (end : Option ItemEnd) → slice_get cs n ≡ Some c → slice_get ends n ≡ Some end → is_equal (file_of c) end ≡ false → MarkedTo n marks → MarkedTo (n + 1) marks
  unmarked_more marks n c end is end_is off before k d x lt at_k end_k equal = ⊎_elim
      (λ (e : k ≡ n).
      let h : ◌≡◌ {A = Option Candidate} (Some d) (Some c) = sym at_k ∙ ap (slice_get cs) e ∙ is in
      let g : ◌≡◌ {A = Option (Option ItemEnd)} (Some x) (Some end) = sym end_k ∙ ap (slice_get ends) e ∙ end_is in
      let one : d ≡ c = cc in
      let its : x ≡ end = cc in
      let t : ◌≡◌ {A = Bool} true false = sym equal ∙ ap (λ (y : Candidate). is_equal (file_of y) x) one ∙ ap (is_equal (file_of c)) its ∙ off in cc)
      (λ (other : k ≢ n). before k d x (omega (arith, lt, other)) at_k end_k equal)
      (either_is k n)

  -- with one more
  pub one_by : (marks new : List Bool) (n : ℕ) (c : Candidate) (end : Option ItemEnd) → slice_get cs n ≡ Some c → slice_get ends n ≡ Some end → new ≡ marked_one c end marks → IsMarkedBy cs ends marks → IsMarkedBy cs ends new
  one_by marks new n c end is end_is step before = subst (λ (l : List Bool). IsMarkedBy cs ends l) (sym step) (go (is_equal (file_of c) end) refl)
    where
      go : (b : Bool) → is_equal (file_of c) end ≡ b → IsMarkedBy cs ends (cond b (set marks c.place true) marks)
      go true t = by_more marks n c end is end_is t before
      go false t = before

  pub one_more : (marks new : List Bool) (n : ℕ) (c : Candidate) (end : Option ItemEnd) → c.place < length marks → slice_get cs n ≡ Some c → slice_get ends n ≡ Some end → new ≡ marked_one c end marks → MarkedTo n marks → MarkedTo (n + 1) new
  one_more marks new n c end within is end_is step before = subst (λ (l : List Bool). MarkedTo (n + 1) l) (sym step) (go (is_equal (file_of c) end) refl)
    where
      go : (b : Bool) → is_equal (file_of c) end ≡ b → MarkedTo (n + 1) (cond b (set marks c.place true) marks)
      go true t = marked_more marks n c within is before
      go false t = unmarked_more marks n c end is end_is t before

pub one_long : (marks new : List Bool) (c : Candidate) (end : Option ItemEnd) → new ≡ marked_one c end marks → length new ≡ length marks
one_long marks new c end step = ap (λ (l : List Bool). length l) step ∙ go (is_equal (file_of c) end)
  where
    go : (b : Bool) → length (cond b (set marks c.place true) marks) ≡ length marks
    go true = length-set marks c.place true
    go false = refl

pub ended_at : (cs : List Candidate) (k n : ℕ) (c : Candidate) → slice_get cs k ≡ Some c → length cs ≡ n → k < n
ended_at cs k n c is long = omega (arith, some_within cs k c is, long)

-- candidates are entries
pub candidate_in : (r : Recovery) (es : List FileEntry) (seen : List (Text × Node)) (cs : List Candidate) → AreCandidates r es seen cs → (e : FileEntry) → In e (map file_of cs) → In e es
candidate_in r es seen cs are e i =
    let x = at_in (map file_of cs) e i in
    let c = got_map file_of cs x.0 e x.1 in
    subst (λ (d : FileEntry). In d es) c.2 (in_at es c.0.place (file_of c.0) (are x.0 c.0 c.1).at)

-- there are as many ends
pub ends_long : (links : List LinkState) (cs : List Candidate) (ends : List (Option ItemEnd)) → AreEnds links cs ends → length cs ≤ length ends
ends_long links cs ends known = go (length cs) refl
  where
    go : (n : ℕ) → length cs ≡ n → length cs ≤ length ends
    go zero e = omega (arith, e)
    go (suc n) e =
        let c = get_some cs n (omega (arith, e)) in
        let end = some_of _ (slice_get ends n) (known.each n c.0 c.1) in
        omega (arith, e, some_within ends n end.0 end.1)

-- ---- what the marks show

not_marked : (es : List FileEntry) (e : FileEntry) → In (e, true) (marked es []) → ⊥
not_marked es e i = let x = at_marked es [] e true i in let h : ◌≡◌ {A = Bool} false true = x.2 in cc

module _ (links : List LinkState) (o : Options) (seen : List (Text × Node)) (es : List FileEntry) where
  pub none_alike : AllAlike links o seen es []
  none_alike e i = absurd (not_marked es e i)

  pub never_alike : o.delta ≡ false → MarksAlike links o seen es []
  never_alike off tree repo read delta = let h : ◌≡◌ {A = Bool} true false = sym delta ∙ off in cc

  module _ (cs : List Candidate) (ends : List (Option ItemEnd)) (marks : List Bool) (are : AreCandidates o.recovery es seen cs) (has : HasCandidates o.recovery es seen cs) (known : AreEnds links cs ends) where
    pub all_alike : o.delta ≡ true → IsMarkedBy cs ends marks → AllAlike links o seen es marks
    all_alike delta by e i =
        let x = at_marked es marks e true i in
        let y = by x.0 x.2 in
        let c = are y.number y.candidate y.is in
        let h : ◌≡◌ {A = Option FileEntry} (Some (file_of y.candidate)) (Some e) = sym c.at ∙ ap (slice_get es) y.at ∙ x.1 in
        let same : file_of y.candidate ≡ e = cc in
        subst (λ (d : FileEntry). IsAlike links o seen d) same (record {
          delta = delta;
          ordinary = c.ordinary;
          shown = c.shown;
          digested = known.known y.number y.candidate y.end y.is y.end_is (file_of y.candidate).size (file_of y.candidate).sum (whole_of (file_of y.candidate) y.end y.equal);
        })

    pub marks_alike : MarksEqual cs ends marks → MarksAlike links o seen es marks
    marks_alike all tree repo read delta e i ordinary shown bytes there are_of =
        let x = has e i ordinary shown in
        let c = are x.0 x.1 x.2 in
        let h : ◌≡◌ {A = Option FileEntry} (Some (file_of x.1)) (Some e) = sym c.at ∙ x.3 in
        let same : file_of x.1 ≡ e = cc in
        let end = some_of _ (slice_get ends x.0) (known.each x.0 x.1 x.2) in
        let whole = subst (λ (d : FileEntry). (bs : Text) → tree d.path ≡ Some bs → AreOf d bs → IsWhole end.0 d.size d.sum) same (end.2 tree repo read) bytes there are_of in
        let equal : is_equal (file_of x.1) end.0 ≡ true = ap (λ (d : FileEntry). is_equal d end.0) same ∙ equal_of e end.0 whole in
        subst (λ (b : Bool). In (e, b) (marked es marks)) (all x.0 x.1 end.0 x.2 end.1 equal) (marked_at es marks x.1.place e x.3)
