-- What an expiry leaves is sound.
use Rattle.std.proofs.Common.{◌≡◌, inl, inr, Bool, true, false, List, [], ◌∷◌, ◌++◌, cond, Option, Some, None, refl, ap, ◌∙◌, sym, subst}
use Rattle.std.specs.Prelude.{IfSome, filter, not}
use Rattle.std.specs.List.{flat_map}
use Rattle.std.proofs.lemmas.List.Elements.{filter-append}
use Rattle.std.proofs.lemmas.Bool.{false≢true, not-true, false_from_ne_true}
use Rattle.base_model.specs.declared.clusters.Cluster.{Cluster}
use Rattle.base_model.specs.declared.labels.Label.{Label}
use Rattle.base_model.specs.declared.wal.Segment.{Segment}
use Rattle.base_model.specs.declared.wal.WalPart.{WalPart}
use Rattle.base_model.specs.declared.wal.ArchiveName.TheVariants.{Segment as Whole}
use Rattle.base_model.specs.Text.{In}
use Rattle.base_model.specs.Repository.{Archived, Backup, Stanza, Repository, id_of, IsSound, IsSoundStanza, IsSoundBackup, AreSound, HasItsSegments, IsWithinSpan, AreApart}
use Rattle.base_model.specs.Steps.{Step, Condemn, Any, Retention, IsSomeOf, is_same_file, changed, after, all_of, expiry_moves}
use Rattle.base_model.specs.Log.{IsDone}
use Rattle.base_model.proofs.Logged.{no_step}
use Rattle.expire_rules.proofs.Lists.{in_filter, filter_in}
use Rattle.expire_make.proofs.CondemnedRepresents.{IsClosed, prior_off}
use Rattle.expire_make.proofs.Forgets.{FitsPlace, same_file, groups, forgets_some, all_forgets, some_are, with_files}

if_some : {X : Type 0} (P Q : X → Type 0) (o : Option X) → ((x : X) → o ≡ Some x → P x → Q x) → IfSome o P → IfSome o Q
if_some P Q None wider h = tt
if_some P Q (Some x) wider h = wider x refl h

-- ---- Condemn

module _ (s : Stanza) (test : Label → Bool) (closed : IsClosed s test) where
  abbrev spares : Backup → Bool
  spares b = not (test b.entry.label)

  abbrev left : Stanza
  left = changed (Condemn test) s

  kept_backup : (earlier : List Backup) (b : Backup) → In b s.backups → spares b ≡ true → IsSoundBackup s earlier b → IsSoundBackup left (filter spares earlier) b
  kept_backup earlier b at spared h = record {
    cluster = h.cluster;
    span = h.span;
    prior = if_some (λ (l : Label). (p : Backup) × In p earlier × (p.entry.label ≡ l) × (p.entry.db ≡ b.entry.db)) (λ (l : Label). (p : Backup) × In p (filter spares earlier) × (p.entry.label ≡ l) × (p.entry.db ≡ b.entry.db)) b.entry.prior
        (λ l is x. (x.0, filter_in spares x.0 earlier x.1 (ap not (ap test x.2 ∙ prior_off s test closed b at l is (not-true (test b.entry.label) spared))), x.2, x.3)) h.prior;
    segments = h.segments;
  }

  kept_backups : (earlier bs : List Backup) → ((b : Backup) → In b bs → In b s.backups) → AreSound s earlier bs → AreSound left (filter spares earlier) (filter spares bs)
  kept_backups earlier [] of_it h = tt
  kept_backups earlier (b ∷ bs) of_it h = by (kept_backups (earlier ++ b ∷ []) bs (λ x i. of_it x (inr i)) h.1) (spares b) refl
    where
      nil : (xs : List Backup) → xs ++ [] ≡ xs
      nil [] = refl
      nil (x ∷ xs) = ap (λ (ys : List Backup). x ∷ ys) (nil xs)

      by : AreSound left (filter spares (earlier ++ b ∷ [])) (filter spares bs) → (q : Bool) → spares b ≡ q → AreSound left (filter spares earlier) (cond q (b ∷ filter spares bs) (filter spares bs))
      by more true e = (
        kept_backup earlier b (of_it b (inl refl)) e h.0,
        subst (λ (xs : List Backup). AreSound left xs (filter spares bs)) (filter-append spares earlier (b ∷ []) ∙ ap (λ (q : Bool). filter spares earlier ++ cond q (b ∷ []) []) e) more,
      )
      by more false e = subst (λ (xs : List Backup). AreSound left xs (filter spares bs)) (filter-append spares earlier (b ∷ []) ∙ ap (λ (q : Bool). filter spares earlier ++ cond q (b ∷ []) []) e ∙ nil (filter spares earlier)) more

  pub condemned_sound : IsSoundStanza s → IsSoundStanza (changed (Condemn test) s)
  condemned_sound h = record {
    some = h.some;
    numbers = h.numbers;
    neighbours = h.neighbours;
    ids = h.ids;
    apart = h.apart;
    backups = kept_backups [] s.backups (λ b i. i) h.backups;
  }

-- ---- Forgets

-- each segment of a backup is needed
abbrev pub NeedsSegments : (Archived → Bool) → Stanza → Type 0
NeedsSegments needed s = (b : Backup) → In b s.backups → IfSome b.wal (λ w. (segment : Segment) (c : Cluster) → In c s.history → c.id ≡ b.entry.db → IsWithinSpan w.size.0 w.span segment
    → (a : Archived) → In a s.archived → a.id ≡ id_of c → a.name ≡ Whole segment → needed a ≡ true)

module _ (s : Stanza) (needed : Archived → Bool) (alike : (a b : Archived) → a.id ≡ b.id → a.name ≡ b.name → needed a ≡ needed b) (named : (a : Archived) → In a s.archived → FitsPlace a) where
  -- a needed file is no other one's same
  pub spared : (a : Archived) → In a s.archived → needed a ≡ true → (x : Archived) → In x (filter (λ a. not (needed a)) s.archived) → is_same_file x a ≡ false
  spared a at need x i = false_from_ne_true (is_same_file x a) (λ one.
      let k = in_filter (λ a. not (needed a)) x s.archived i in
      let who = same_file x a (named x k.0) (named a at) one in
      false≢true (sym (not-true (needed x) k.1) ∙ alike x a who.0 who.1 ∙ need))

module _ (s : Stanza) (needed : Archived → Bool) (alike : (a b : Archived) → a.id ≡ b.id → a.name ≡ b.name → needed a ≡ needed b) (named : (a : Archived) → In a s.archived → FitsPlace a) (needs : NeedsSegments needed s) (sound : IsSoundStanza s) where
  abbrev unneeded : List Archived
  unneeded = filter (λ a. not (needed a)) s.archived

  module _ (files : List Archived) (fewer : (a : Archived) → In a files → In a s.archived) (kept : (a : Archived) → In a s.archived → ((x : Archived) → In x unneeded → is_same_file x a ≡ false) → In a files) where
    segments_kept : (b : Backup) → In b s.backups → HasItsSegments s b → HasItsSegments (with_files s files) b
    segments_kept b at h = by b.wal (needs b at) h
      where
        by : (o : Option WalPart) → IfSome o (λ w. (segment : Segment) (c : Cluster) → In c s.history → c.id ≡ b.entry.db → IsWithinSpan w.size.0 w.span segment → (a : Archived) → In a s.archived → a.id ≡ id_of c → a.name ≡ Whole segment → needed a ≡ true)
            → IfSome o (λ w. (segment : Segment) (c : Cluster) → In c s.history → c.id ≡ b.entry.db → IsWithinSpan w.size.0 w.span segment → (a : Archived) × In a s.archived × (a.id ≡ id_of c) × (a.name ≡ Whole segment))
            → IfSome o (λ w. (segment : Segment) (c : Cluster) → In c s.history → c.id ≡ b.entry.db → IsWithinSpan w.size.0 w.span segment → (a : Archived) × In a files × (a.id ≡ id_of c) × (a.name ≡ Whole segment))
        by None need old = tt
        by (Some w) need old = λ segment c in_c db within.
            let (a, i, id, name) = old segment c in_c db within in
            (a, kept a i (spared s needed alike named a i (need segment c in_c db within a i id name)), id, name)

    backups_kept : (earlier bs : List Backup) → ((b : Backup) → In b bs → In b s.backups) → AreSound s earlier bs → AreSound (with_files s files) earlier bs
    backups_kept earlier [] of_it h = tt
    backups_kept earlier (b ∷ bs) of_it h = (record { cluster = h.0.cluster; span = h.0.span; prior = h.0.prior; segments = segments_kept b (of_it b (inl refl)) h.0.segments }, backups_kept (earlier ++ b ∷ []) bs (λ x i. of_it x (inr i)) h.1)

    fewer_sound : AreApart files → IsSoundStanza (with_files s files)
    fewer_sound apart = record {
      some = sound.some;
      numbers = sound.numbers;
      neighbours = sound.neighbours;
      ids = λ a i. sound.ids a (fewer a i);
      apart = apart;
      backups = backups_kept [] s.backups (λ b i. i) sound.backups;
    }

  pub some_sound : (done : List Step) → IsSomeOf done (groups (filter (λ a. not (needed a)) s.archived)) → IsSound (after (Some s) done)
  some_sound done is =
      let (files, same, fewer, kept, apart) = some_are unneeded done is s.archived s in
      subst (λ (r : Repository). IsSound r) (sym same) (fewer_sound files fewer kept (apart sound.apart))

-- ---- both

module _ (k : Retention) (s : Stanza) (closed : IsClosed s (k.condemned s)) where
  abbrev rest_of : Stanza
  rest_of = changed (Condemn (k.condemned s)) s

  abbrev lost : List Archived
  lost = filter (λ a. not (k.needed (changed (Condemn (k.condemned s)) s) a)) s.archived

  module _ (alike : (a b : Archived) → a.id ≡ b.id → a.name ≡ b.name → k.needed (changed (Condemn (k.condemned s)) s) a ≡ k.needed (changed (Condemn (k.condemned s)) s) b) (named : (a : Archived) → In a s.archived → FitsPlace a)
      (needs : NeedsSegments (k.needed (changed (Condemn (k.condemned s)) s)) (changed (Condemn (k.condemned s)) s)) (sound : IsSoundStanza s) where
    some : (done rest : List Step) → done ≡ Condemn (k.condemned s) ∷ rest → IsSomeOf rest (groups lost) → IsSound (after (Some s) done)
    some done rest e of_them = subst (λ (d : List Step). IsSound (after (Some s) d)) (sym e) (some_sound rest_of (k.needed rest_of) alike named needs (condemned_sound s (k.condemned s) closed sound) rest of_them)

    every : IsSomeOf (all_of (Any (groups lost) ∷ [])) (groups lost)
    every = subst (λ (d : List Step). IsSomeOf d (groups lost)) (sym (all_forgets lost)) (forgets_some (λ _. true) lost)

    pub expiry_sound : (whole : Bool) (done : List Step) → IsDone whole done (expiry_moves k s) → IsSound (after (Some s) done)
    expiry_sound true done e = some done (all_of (Any (groups lost) ∷ [])) e every
    expiry_sound false done (inl e) = no_step (Some s) done sound e
    expiry_sound false done (inr (rest, e, inl of_them)) = some done rest e of_them
    expiry_sound false done (inr (rest, e, inr (more, all, none))) = some done (all_of (Any (groups lost) ∷ [])) (e ∙ ap (λ (d : List Step). Condemn (k.condemned s) ∷ d) (all ∙ ap (λ (d : List Step). flat_map (λ (g : List Step). g) (groups lost) ++ d) none)) every
