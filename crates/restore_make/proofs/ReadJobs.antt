-- The jobs of a restore, by the entries that are read.
use Rattle.std.proofs.Common.{ℕ, zero, suc, Bool, true, false, ◌≡◌, ◌≢◌, ◌⊎◌, inl, inr, ⊎_elim, ◌<◌, refl, sym, ap, ◌∙◌, subst, arith, List, [], ◌∷◌, ◌++◌, length, map, Option, Some, None, slice_get, cond, All, append_assoc}
use Rattle.std.specs.List.{AllByRecursion}
use Rattle.std.proofs.lemmas.List.{length-map, map-append, append-nil}
use Rattle.std.proofs.lemmas.List.Elements.{All-from_recursion}
use Rattle.base_devices.specs.Order.{are_in_order}
use Rattle.base_devices.specs.Crash.{IsTemporary}
use Rattle.base_model.specs.declared.labels.Label.{Label}
use Rattle.restore_make.specs.Recovered.{Recovery}
use Rattle.base_model.specs.Text.{Text, In}
use Rattle.base_model.specs.Values.{FileEntry}
use Rattle.repo_ini.proofs.Orders.{not_itself}
use Rattle.backup_plan.proofs.Searched.{later}
use Rattle.worker_protocol.specs.declared.frames.frames.Root.TheVariants.{Repo}
use Rattle.worker_protocol.specs.declared.frames.frames.JobKind.TheVariants.{Read}
use Rattle.worker_protocol.specs.declared.frames.frames.Job as rust_job
use Rattle.worker_protocol.specs.Frames.{Item, Job, FitsJob}
use Rattle.worker_protocol.specs.Views.{job_of}
use Rattle.restore_steps.proofs.Ordered.{tail_order}
use Rattle.restore_steps.specs.declared.contents.files.Wanted.{Wanted}
use Rattle.restore_steps.specs.Files.{temporary_path}
use Rattle.restore_steps.specs.Apart.{AreApart}
use Rattle.restore_steps.proofs.Listing.{map_get, some_within}
use Rattle.restore_steps.specs.Sources.{source, reading}
use Rattle.restore_make.specs.Written.{IsJobOf, AreJobsOf}
use Rattle.restore_make.specs.Entries.{is_read, read_one, reads_of, Want, want_of, want_in}
use Rattle.restore_make.proofs.Names.{lasts}
use Rattle.restore_make.proofs.ReadEntries.{name_of, ordinary_some, in_read}

abbrev pub path_of : FileEntry → Text
path_of e = e.path

-- an entry with its mark
abbrev pub Marked : Type 0
Marked = FileEntry × Bool

-- ---- going through files

reads_more : (r : Recovery) (es : List Marked) (e : Marked) → reads_of r (es ++ e ∷ []) ≡ reads_of r es ++ read_one r e
reads_more r [] e = append-nil (read_one r e)
reads_more r (d ∷ es) e = ap (λ l. read_one r d ++ l) (reads_more r es e) ∙ sym (append_assoc (read_one r d) (reads_of r es) (read_one r e))

-- one more of them
pub planned_more : {X : Type 0} (r : Recovery) (f : FileEntry → X) (start now new : List X) (es : List Marked) (e : Marked) → now ≡ start ++ map f (reads_of r es) → new ≡ now ++ map f (read_one r e) → new ≡ start ++ map f (reads_of r (es ++ e ∷ []))
planned_more r f start now new es e was step =
    step ∙ ap (λ l. l ++ map f (read_one r e)) was ∙ append_assoc start (map f (reads_of r es)) (map f (read_one r e))
    ∙ ap (λ l. start ++ l) (sym (map-append f (reads_of r es) (read_one r e)) ∙ ap (map f) (sym (reads_more r es e)))

-- a file that is read, and one that isn't
one_read : (r : Recovery) (e : Marked) → is_read r e ≡ true → read_one r e ≡ e.0 ∷ []
one_read r e is = ap (λ (b : Bool). cond b (e.0 ∷ []) []) is

none_read : (r : Recovery) (e : Marked) → is_read r e ≡ false → read_one r e ≡ []
none_read r e is = ap (λ (b : Bool). cond b (e.0 ∷ []) []) is

pub added : {A X : Type 0} (r : Recovery) (view : A → X) (f : FileEntry → X) (old new : List A) (a : A) (e : Marked) → is_read r e ≡ true → new ≡ old ++ a ∷ [] → view a ≡ f e.0 → map view new ≡ map view old ++ map f (read_one r e)
added r view f old new a e is items same =
    ap (map view) items ∙ map-append view old (a ∷ []) ∙ ap (λ x. map view old ++ x ∷ []) same ∙ ap (λ l. map view old ++ map f l) (sym (one_read r e is))

pub kept_same : {A X : Type 0} (r : Recovery) (view : A → X) (f : FileEntry → X) (old : List A) (e : Marked) → is_read r e ≡ false → map view old ≡ map view old ++ map f (read_one r e)
kept_same r view f old e is = sym (append-nil (map view old)) ∙ ap (λ l. map view old ++ map f l) (sym (none_read r e is))

-- ---- elements

pub got_map : {A B : Type 0} (f : A → B) (xs : List A) (i : ℕ) (b : B) → slice_get (map f xs) i ≡ Some b → (a : A) × (slice_get xs i ≡ Some a) × (f a ≡ b)
got_map f [] i b e = cc
got_map {A} {B} f (x ∷ xs) zero b e = let h : ◌≡◌ {A = Option B} (Some (f x)) (Some b) = e in (x, refl, cc)
got_map f (x ∷ xs) (suc i) b e = got_map f xs i b e

pub at_in : {A : Type 0} (xs : List A) (x : A) → In x xs → (i : ℕ) × (slice_get xs i ≡ Some x)
at_in [] x i = absurd i
at_in (y ∷ xs) x (inl e) = (0, ap (λ z. Some z) (sym e))
at_in (y ∷ xs) x (inr i) = let h = at_in xs x i in (suc h.0, h.1)

pub in_at : {A : Type 0} (xs : List A) (i : ℕ) (x : A) → slice_get xs i ≡ Some x → In x xs
in_at [] i x e = cc
in_at {A} (y ∷ xs) zero x e = let h : ◌≡◌ {A = Option A} (Some y) (Some x) = e in inl cc
in_at (y ∷ xs) (suc i) x e = inr (in_at xs i x e)

-- entries that are read have one path each
once_read : (r : Recovery) (ps : List Marked) → are_in_order (map name_of ps) ≡ true → (i j : ℕ) (d e : FileEntry) → slice_get (reads_of r ps) i ≡ Some d → slice_get (reads_of r ps) j ≡ Some e → d.path ≡ e.path → i ≡ j
once_read r [] order i j d e at_i at_j same = cc
once_read r (p ∷ ps) order i j d e at_i at_j same = go (is_read r p) i j (λ k l x y. once_read r ps (tail_order name_of p ps order) k l d e x y same) at_i at_j
  where
    following : (k : ℕ) (x : FileEntry) → slice_get (reads_of r ps) k ≡ Some x → p.0.path ≡ x.path → ⊥
    following k x is eq = not_itself p.0.path x.path (later name_of p.0.path ps (x, false) order (in_read r ps x (in_at (reads_of r ps) k x is)).0) eq

    go : (b : Bool) (k l : ℕ) → ((m n : ℕ) → slice_get (reads_of r ps) m ≡ Some d → slice_get (reads_of r ps) n ≡ Some e → m ≡ n) → slice_get (cond b (p.0 ∷ []) [] ++ reads_of r ps) k ≡ Some d → slice_get (cond b (p.0 ∷ []) [] ++ reads_of r ps) l ≡ Some e → k ≡ l
    go false k l next x y = next k l x y
    go true zero zero next x y = refl
    go true zero (suc l) next x y = let h : ◌≡◌ {A = Option FileEntry} (Some p.0) (Some d) = x in let eq : p.0 ≡ d = cc in absurd (following l e y (ap path_of eq ∙ same))
    go true (suc k) zero next x y = let h : ◌≡◌ {A = Option FileEntry} (Some p.0) (Some e) = y in let eq : p.0 ≡ e = cc in absurd (following k d x (ap path_of eq ∙ sym same))
    go true (suc k) (suc l) next x y = ap (λ n. suc n) (next k l x y)

-- ---- the plan

module _ (stanza : Text) (own : Label) (r : Recovery) (ps : List Marked) (jobs : List Job) (ws : List Wanted) (jobs_are : jobs ≡ map (reading stanza own) (reads_of r ps)) (wanted_are : map want_in ws ≡ map want_of (reads_of r ps)) where
  -- the entry of a file that is requested
  pub entry_at : (i : ℕ) (w : Wanted) → slice_get ws i ≡ Some w → (e : FileEntry) × (slice_get (reads_of r ps) i ≡ Some e) × (want_of e ≡ want_in w)
  entry_at i w is = got_map want_of (reads_of r ps) i (want_in w) (subst (λ (l : List Want). slice_get l i ≡ Some (want_in w)) wanted_are (map_get want_in ws i w is))

  -- the file that is requested of an entry
  pub wanted_of_entry : (i : ℕ) (e : FileEntry) → slice_get (reads_of r ps) i ≡ Some e → (w : Wanted) × (slice_get ws i ≡ Some w) × (want_in w ≡ want_of e)
  wanted_of_entry i e is = got_map want_in ws i (want_of e) (subst (λ (l : List Want). slice_get l i ≡ Some (want_of e)) (sym wanted_are) (map_get want_of (reads_of r ps) i e is))

  pub job_at : (i : ℕ) (e : FileEntry) → slice_get (reads_of r ps) i ≡ Some e → slice_get jobs i ≡ Some (reading stanza own e)
  job_at i e is = ap (λ (l : List Job). slice_get l i) jobs_are ∙ map_get (reading stanza own) (reads_of r ps) i e is

  pub are_jobs : AreJobsOf ws jobs
  are_jobs = record {
    count = sym (length-map ws want_in) ∙ ap (λ (l : List Want). length l) wanted_are ∙ length-map (reads_of r ps) want_of ∙ sym (length-map (reads_of r ps) (reading stanza own)) ∙ ap (λ (l : List Job). length l) (sym jobs_are);
    each = λ i w j is_w is_j.
        let e = entry_at i w is_w in
        let h : ◌≡◌ {A = Option Job} (Some j) (Some (reading stanza own e.0)) = sym is_j ∙ job_at i e.0 e.1 in
        let is : j ≡ reading stanza own e.0 = cc in
        let size : e.0.size ≡ w.size = ap (λ (x : Want). x.size) e.2 in
        record {
          item = source stanza own e.0;
          items = ap (λ (x : Job). x.items) is;
          kind = ap (λ (x : Job). x.kind) is;
          root = refl;
          size = size;
          some = subst (λ (n : ℕ). 0 < n) size (ordinary_some r e.0 (in_read r ps e.0 (in_at (reads_of r ps) i e.0 e.1)).1);
        };
  }

  pub apart : are_in_order (map name_of ps) ≡ true → ((e : FileEntry) → In (e, false) ps → ¬ IsTemporary e.path) → AreApart (map (λ (w : Wanted). w.path.now) ws)
  apart order lasting = record {
    once = λ i j p is_i is_j.
        let d = path_at i p is_i in
        let e = path_at j p is_j in
        once_read r ps order i j d.0 e.0 d.1 e.1 (d.2 ∙ sym e.2);
    lasting = λ i j p q is_i is_j.
        let e = path_at i p is_i in
        lasts q p (subst (λ (t : Text). ¬ IsTemporary t) e.2 (lasting e.0 (in_read r ps e.0 (in_at (reads_of r ps) i e.0 e.1)).0));
  }
    where
      path_at : (i : ℕ) (p : Text) → slice_get (map (λ (w : Wanted). w.path.now) ws) i ≡ Some p → (e : FileEntry) × (slice_get (reads_of r ps) i ≡ Some e) × (e.path ≡ p)
      path_at i p is =
          let w = got_map (λ (w : Wanted). w.path.now) ws i p is in
          let e = entry_at i w.0 w.1 in
          (e.0, e.1, ap (λ (x : Want). x.path) e.2 ∙ w.2)

-- each job fits
pub all_fit : (f : FileEntry → Job) (es : List FileEntry) (jobs : List rust_job.Job) → map job_of jobs ≡ map f es → ((e : FileEntry) → In e es → FitsJob (f e)) → All (λ (j : rust_job.Job). FitsJob (job_of j)) jobs
all_fit f es jobs are fits = All-from_recursion (λ (j : rust_job.Job). FitsJob (job_of j)) jobs (go es jobs are fits)
  where
    go : (ds : List FileEntry) (js : List rust_job.Job) → map job_of js ≡ map f ds → ((e : FileEntry) → In e ds → FitsJob (f e)) → AllByRecursion (λ (j : rust_job.Job). FitsJob (job_of j)) js
    go ds [] is each = tt
    go [] (j ∷ js) is each = cc
    go (d ∷ ds) (j ∷ js) is each =
        let first : job_of j ≡ f d = cc in
        let rest : map job_of js ≡ map f ds = cc in
        (subst FitsJob (sym first) (each d (inl refl)), go ds js rest (λ e i. each e (inr i)))
