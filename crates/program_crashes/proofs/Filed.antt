-- A log after which each repository has a file.
use Rattle.std.proofs.Common.{◌≡◌, ⊎_elim, inl, inr, Bool, true, false, List, [], ◌∷◌, ◌++◌, map, Option, Some, None, refl, sym, ap, ap₂, subst, ◌∙◌}
use Rattle.std.specs.Prelude.{filter, not, cond, IfSome, if◌then◌else◌}
use Rattle.std.specs.List.{flat_map}
use Rattle.std.proofs.lemmas.Slice.Eq.{bytes_eq-Decides}
use Rattle.sha1.specs.Sha1.{sha1}
use Rattle.base_devices.specs.Content.{Content}
use Rattle.base_devices.specs.Moments.{View}
use Rattle.base_devices.specs.Crash.{Leaves}
use Rattle.base_model.specs.declared.clusters.Cluster.{Cluster}
use Rattle.base_model.specs.declared.wal.ArchiveId.{ArchiveId}
use Rattle.base_model.specs.declared.wal.ArchiveName.{ArchiveName}
use Rattle.base_model.specs.declared.wal.ArchiveName.TheVariants.{Segment as Whole}
use Rattle.base_model.specs.declared.wal.Segment.{Segment}
use Rattle.base_model.specs.declared.wal.WalPart.{WalPart}
use Rattle.base_model.specs.Names.{id_text, wal_text}
use Rattle.base_model.specs.Text.{Text, In, ◌⫽◌}
use Rattle.base_model.specs.Repository.{Archived, Backup, Drained, Stanza, Repository, IsSound, IsSoundStanza, HasItsSegments, IsWithinSpan, AreSound, AreApart, IsNew, id_of}
use Rattle.base_model.specs.Represents.{Represents, HasStanza, IsArchivePlace, stored_name}
use Rattle.base_model.specs.Steps.{Named, One, Push, Note, Retention, Turn, StanzaCreate, ArchivePushAsync, Expire, Forget, after, all_of, new_stanza, is_same_file, is_archived, has_other, expiry_moves, turn_moves, steps_of, Command}
use Rattle.base_model.specs.Log.{Done, Leads, Reaches, IsDrained, RepresentsAfter, Keeps}
use Rattle.base_model.proofs.Frame.{beside, stanza_beside}
use Rattle.base_model.proofs.Pushed.{in_left, in_either, archived_as, not_so, new_no_other, file_of}
use Rattle.base_model.proofs.Turned.{note_represents}
use Rattle.program_crashes.specs.Kept.{IsFile, HasFile, FromFile}
use Rattle.program_crashes.proofs.Files.{filter_in}

-- ---- lists

in_filter : {X : Type 0} (p : X → Bool) (x : X) (xs : List X) → In x (filter p xs) → In x xs × (p x ≡ true)
in_filter {X} p x [] at = absurd at
in_filter {X} p x (y ∷ xs) at = by (λ h. in_filter p x xs h) (p y) refl at
  where
    by : (In x (filter p xs) → In x xs × (p x ≡ true)) → (b : Bool) → p y ≡ b → In x (cond b (y ∷ filter p xs) (filter p xs)) → In x (y ∷ xs) × (p x ≡ true)
    by more true e (inl h) = (inl h, ap p h ∙ e)
    by more true e (inr h) = let k = more h in (inr k.0, k.1)
    by more false e h = let k = more h in (inr k.0, k.1)

all_stay : {X : Type 0} (xs : List X) → filter (λ x. not false) xs ≡ xs
all_stay [] = refl
all_stay (x ∷ xs) = ap (λ ys. x ∷ ys) (all_stay xs)

in_last : {X : Type 0} (x : X) (xs : List X) → In x (xs ++ x ∷ [])
in_last x [] = inl refl
in_last x (y ∷ xs) = inr (in_last x xs)

unlike : {P : Type 0} (b : Bool) → b ≡ true → b ≡ false → P
unlike b is other = let u : ◌≡◌ {A = Bool} true false = sym is ∙ other in cc

-- ---- files that are the same

itself : (a : Archived) → is_same_file a a ≡ true
itself a = (bytes_eq-Decides (id_text a.id ⫽ wal_text a.name) (id_text a.id ⫽ wal_text a.name)).1 refl

same_through : (a b c : Archived) → is_same_file a b ≡ true → is_same_file b c ≡ true → is_same_file a c ≡ true
same_through a b c p q = (bytes_eq-Decides (id_text a.id ⫽ wal_text a.name) (id_text c.id ⫽ wal_text c.name)).1
    ((bytes_eq-Decides (id_text a.id ⫽ wal_text a.name) (id_text b.id ⫽ wal_text b.name)).0 p ∙ (bytes_eq-Decides (id_text b.id ⫽ wal_text b.name) (id_text c.id ⫽ wal_text c.name)).0 q)

one_file : (a x : Archived) → a.id ≡ x.id → a.name ≡ x.name → is_same_file a x ≡ true
one_file a x id name = (bytes_eq-Decides (id_text a.id ⫽ wal_text a.name) (id_text x.id ⫽ wal_text x.name)).1
    (ap (λ i. id_text i ⫽ wal_text a.name) id ∙ ap (λ n. id_text x.id ⫽ wal_text n) name)

-- what is left of the files without those that are the same as these
abbrev left : List Archived → List Archived → List Archived
left [] files = files
left (x ∷ xs) files = left xs (filter (λ b. not (is_same_file x b)) files)

no_true : (b : Bool) → not b ≡ true → b ≡ false
no_true true e = cc
no_true false e = refl

yes_true : (b : Bool) → not (not b) ≡ true → b ≡ true
yes_true true e = refl
yes_true false e = cc

of_left : (xs files : List Archived) (b : Archived) → In b (left xs files) → In b files × ((x : Archived) → In x xs → is_same_file x b ≡ false)
of_left [] files b at = (at, λ x i. absurd i)
of_left (x ∷ xs) files b at =
    let h = of_left xs (filter (λ c. not (is_same_file x c)) files) b at in
    let k = in_filter (λ c. not (is_same_file x c)) b files h.0 in
    (k.0, λ y i. ⊎_elim (λ (same : y ≡ x). ap (λ z. is_same_file z b) same ∙ no_true (is_same_file x b) k.1) (λ j. h.1 y j) i)

stays_left : (xs files : List Archived) (b : Archived) → In b files → ((x : Archived) → In x xs → is_same_file x b ≡ false) → In b (left xs files)
stays_left [] files b at off = at
stays_left (x ∷ xs) files b at off = stays_left xs (filter (λ c. not (is_same_file x c)) files) b (filter_in (λ c. not (is_same_file x c)) b files at (ap not (off x (inl refl)))) (λ y i. off y (inr i))

apart_filter : (p : Archived → Bool) (files : List Archived) → AreApart files → AreApart (filter p files)
apart_filter p [] apart = tt
apart_filter p (y ∷ files) apart = by (apart_filter p files apart.1) (p y)
  where
    by : AreApart (filter p files) → (b : Bool) → AreApart (cond b (y ∷ filter p files) (filter p files))
    by more true = ((λ z i same. apart.0 z (in_filter p z files i).0 same), more)
    by more false = more

apart_left : (xs files : List Archived) → AreApart files → AreApart (left xs files)
apart_left [] files apart = apart
apart_left (x ∷ xs) files apart = apart_left xs (filter (λ c. not (is_same_file x c)) files) (apart_filter (λ c. not (is_same_file x c)) files apart)

apart_one : (xs : List Archived) → AreApart xs → (a b : Archived) → In a xs → In b xs → a.id ≡ b.id → a.name ≡ b.name → a ≡ b
apart_one [] apart a b i j id name = absurd i
apart_one (x ∷ xs) apart a b (inl p) (inl q) id name = p ∙ sym q
apart_one (x ∷ xs) apart a b (inl p) (inr j) id name = absurd (apart.0 b j (sym id ∙ ap (λ (y : Archived). y.id) p, sym name ∙ ap (λ (y : Archived). y.name) p))
apart_one (x ∷ xs) apart a b (inr i) (inl q) id name = absurd (apart.0 a i (id ∙ ap (λ (y : Archived). y.id) q, name ∙ ap (λ (y : Archived). y.name) q))
apart_one (x ∷ xs) apart a b (inr i) (inr j) id name = apart_one xs apart.1 a b i j id name

apart_more : (a : Archived) (files : List Archived) → AreApart files → ((x : Archived) → In x files → is_same_file a x ≡ false) → AreApart (files ++ a ∷ [])
apart_more a [] apart off = ((λ b at same. at), tt)
apart_more a (x ∷ files) apart off = (new, apart_more a files apart.1 (λ y at. off y (inr at)))
  where
    new : IsNew x (files ++ a ∷ [])
    new b at same = ⊎_elim (λ i. apart.0 b i same)
        (λ (e : b ≡ a). unlike (is_same_file a x) (one_file a x (sym (ap (λ (y : Archived). y.id) e) ∙ same.0) (sym (ap (λ (y : Archived). y.name) e) ∙ same.1)) (off x (inl refl))) (in_either b a files at)

abbrev with_files : Stanza → List Archived → Stanza
with_files s files = record s { archived = files }

forget_each : (xs files : List Archived) (s : Stanza) → after (Some (with_files s files)) (flat_map (λ g. g) (map (λ b. Forget b ∷ []) xs) ++ []) ≡ Some (with_files s (left xs files))
forget_each [] files s = refl
forget_each (x ∷ xs) files s = forget_each xs (filter (λ b. not (is_same_file x b)) files) s

-- ---- the log

module _ (a : Archived) where
  abbrev first_cluster : Cluster
  first_cluster = record { id = 1; system = 0; version = 0; control = 0; catalog = 0 }

  abbrev cleared : Retention
  cleared = record { condemned = λ s l. false; needed = λ s b. not (is_same_file a b) }

  abbrev turn : Turn
  turn = record { id = a.id; pushed = record { name = a.name; bytes = a.bytes } ∷ []; ended = true }

  abbrev creates : Done
  creates = record { command = StanzaCreate (Some first_cluster); acknowledged = true }

  abbrev clears : Done
  clears = record { command = Expire cleared; acknowledged = true }

  abbrev turns : Done
  turns = record { command = ArchivePushAsync (turn ∷ []); acknowledged = true }

  -- the file is removed, with each that is the same, and pushed
  abbrev filed : List Done → List Done
  filed log = turns ∷ clears ∷ creates ∷ log

  -- those that are the same
  abbrev olds : Stanza → List Archived
  olds s = filter (λ b. not (not (is_same_file a b))) s.archived

  abbrev without : Stanza → Stanza
  without s = with_files s (left (olds s) s.archived)

  abbrev note : Drained
  note = record { name = a.name; sum = sha1 a.bytes }

  abbrev more : Stanza → Stanza
  more s = record s { archived = s.archived ++ a ∷ []; drained = s.drained ++ note ∷ [] }

  abbrev NoSame : List Archived → Type 0
  NoSame files = (x : Archived) → In x files → is_same_file a x ≡ false

  none_same : (s : Stanza) → NoSame (left (olds s) s.archived)
  none_same s x at = by (is_same_file a x) refl
    where
      h : In x s.archived × ((y : Archived) → In y (olds s) → is_same_file y x ≡ false)
      h = of_left (olds s) s.archived x at

      by : (b : Bool) → is_same_file a x ≡ b → is_same_file a x ≡ false
      by false e = e
      by true e = unlike (is_same_file x x) (itself x) (h.1 x (filter_in (λ b. not (not (is_same_file a b))) x s.archived h.0 (ap (λ b. not (not b)) e)))

  clears_is : (s : Stanza) → after (Some s) (all_of (expiry_moves cleared s)) ≡ Some (without s)
  clears_is s = forget_each (olds s) s.archived (record s { backups = filter (λ b. not false) s.backups })
      ∙ ap (λ (bs : List Backup). Some (record s { backups = bs; archived = left (olds s) s.archived })) (all_stay s.backups)

  turns_is : (t : Stanza) → NoSame t.archived → after (Some t) (all_of (turn_moves t (turn ∷ []))) ≡ Some (more t)
  turns_is t none = by (has_other a t.archived) (is_archived a t.archived) (new_no_other a t.archived new) new
    where
      new : is_archived a t.archived ≡ false
      new = not_so (is_archived a t.archived) (λ e. let y = archived_as a t.archived e in unlike (is_same_file a y.0) y.2 (none y.0 y.1))

      by : (o b : Bool) → o ≡ false → b ≡ false → after (Some t) (all_of (map One ((if o then [] else (if b then [] else Push a ∷ []) ++ Note note ∷ []) ++ []) ++ [])) ≡ Some (more t)
      by true b e f = cc
      by false true e f = cc
      by false false e f = refl

  all_led : (c : Command) (m r : Repository) → Leads (record { command = c; acknowledged = true }) m r → r ≡ after m (all_of (steps_of c m))
  all_led c m r l = l.1 ∙ ap (after m) l.2

  -- the stanza that is there then
  abbrev created : Repository → Stanza
  created None = new_stanza first_cluster
  created (Some s) = s

  creates_is : (m r : Repository) → Leads creates m r → r ≡ Some (created m)
  creates_is None r l = all_led (StanzaCreate (Some first_cluster)) None r l
  creates_is (Some s) r l = all_led (StanzaCreate (Some first_cluster)) (Some s) r l

  filed_is : (q : Repository) (log : List Done) (r : Repository) → Reaches q (filed log) r → (s : Stanza) × (r ≡ Some (more (without s)))
  filed_is q log r h =
      let s = created h.1.1.0 in
      let one : h.1.0 ≡ Some s = creates_is h.1.1.0 h.1.0 h.1.1.2 in
      let two : h.0 ≡ Some (without s) = all_led (Expire cleared) h.1.0 h.0 h.1.2 ∙ ap (λ (m : Repository). after m (all_of (steps_of (Expire cleared) m))) one ∙ clears_is s in
      (s, all_led (ArchivePushAsync (turn ∷ [])) h.0 r h.2 ∙ ap (λ (m : Repository). after m (all_of (steps_of (ArchivePushAsync (turn ∷ [])) m))) two ∙ turns_is (without s) (none_same s))

  filed_has : (n : Named) → IsFile n a → (q : Repository) (log : List Done) (r : Repository) → Reaches q (filed log) r → HasFile n r
  filed_has n is q log r h = let x = filed_is q log r h in
      subst (λ (r : Repository). HasFile n r) (sym x.1) (a, in_last a (left (olds x.0) x.0.archived), is)

  reaches_filed : (q : Repository) (log : List Done) (s : Stanza) → Reaches q log (Some s) → Reaches q (filed log) (Some (more (without s)))
  reaches_filed q log s h = (
    Some (without s),
    (Some s, (Some s, h, ([], refl, refl)), (all_of (expiry_moves cleared s), sym (clears_is s), refl)),
    (all_of (turn_moves (without s) (turn ∷ [])), sym (turns_is (without s) (none_same s)), refl),
  )

  -- ---- where it was there already

  module _ (s : Stanza) (sound : IsSoundStanza s) (at : In a s.archived) (one : (x : Archived) → In x s.archived → is_same_file a x ≡ true → (a.id ≡ x.id) × (a.name ≡ x.name)) where
    to_old : (x : Archived) → In x (more (without s)).archived → In x s.archived
    to_old x i = ⊎_elim (λ h. (of_left (olds s) s.archived x h).0) (λ (e : x ≡ a). subst (λ (y : Archived). In y s.archived) (sym e) at) (in_either x a (left (olds s) s.archived) i)

    to_new : (x : Archived) → In x s.archived → In x (more (without s)).archived
    to_new x i = by (is_same_file a x) refl
      where
        apart_of : is_same_file a x ≡ false → (y : Archived) → In y (olds s) → is_same_file y x ≡ false
        apart_of e y j = not_so (is_same_file y x) (λ same. unlike (is_same_file a x) (same_through a y x (yes_true (is_same_file a y) (in_filter (λ b. not (not (is_same_file a b))) y s.archived j).1) same) e)

        by : (b : Bool) → is_same_file a x ≡ b → In x (more (without s)).archived
        by false e = in_left x (left (olds s) s.archived) (a ∷ []) (stays_left (olds s) s.archived x i (apart_of e))
        by true e = let k = one x i e in subst (λ (y : Archived). In y (more (without s)).archived) (apart_one s.archived sound.apart a x at i k.0 k.1) (in_last a (left (olds s) s.archived))

    if_some : {X : Type 0} (P Q : X → Type 0) (o : Option X) → ((x : X) → P x → Q x) → IfSome o P → IfSome o Q
    if_some P Q None with_q h = tt
    if_some P Q (Some x) with_q h = with_q x h

    segments : (b : Backup) → HasItsSegments s b → HasItsSegments (more (without s)) b
    segments b h = if_some
        (λ (w : WalPart). (segment : Segment) (c : Cluster) → In c s.history → c.id ≡ b.entry.db → IsWithinSpan w.size.0 w.span segment → (x : Archived) × In x s.archived × (x.id ≡ id_of c) × (x.name ≡ Whole segment))
        (λ (w : WalPart). (segment : Segment) (c : Cluster) → In c s.history → c.id ≡ b.entry.db → IsWithinSpan w.size.0 w.span segment → (x : Archived) × In x (more (without s)).archived × (x.id ≡ id_of c) × (x.name ≡ Whole segment))
        b.wal (λ w old segment c i db within. let x = old segment c i db within in (x.0, to_new x.0 x.1, x.2, x.3)) h

    backups : (earlier those : List Backup) → AreSound s earlier those → AreSound (more (without s)) earlier those
    backups earlier [] h = tt
    backups earlier (b ∷ those) h = (record { cluster = h.0.cluster; span = h.0.span; prior = h.0.prior; segments = segments b h.0.segments }, backups (earlier ++ b ∷ []) those h.1)

    filed_sound : IsSoundStanza (more (without s))
    filed_sound = record {
      some = sound.some;
      numbers = sound.numbers;
      neighbours = sound.neighbours;
      ids = λ x i. sound.ids x (to_old x i);
      apart = apart_more a (left (olds s) s.archived) (apart_left (olds s) s.archived sound.apart) (none_same s);
      backups = backups [] s.backups sound.backups;
    }

    filed_represents : (stanza : Text) (f : Content) → HasStanza stanza f s → HasStanza stanza f (more (without s))
    filed_represents stanza f has = note_represents note (record s { archived = (more (without s)).archived }) stanza f
        (stanza_beside stanza f f (beside stanza f f (record { fixed = λ n h. refl; places = λ n h. refl })) s has (more (without s)).archived
        (λ x i. has.named x (to_old x i))
        (λ name bytes file. (
          (λ is. let x = (has.archived name bytes file).0 is in (x.0, to_new x.0 x.1, x.2, x.3)),
          (λ x. (has.archived name bytes file).1 (x.0, to_old x.0 x.1, x.2, x.3)),
        )))

  -- ---- disks that have it

  module _ (stanza : Text) (fits : IsArchivePlace a.id a.name (sha1 a.bytes))
      (one_of : (x : Archived) → IsArchivePlace x.id x.name (sha1 x.bytes) → is_same_file a x ≡ true → (a.id ≡ x.id) × (a.name ≡ x.name))
      (one_at : (x : Archived) → IsArchivePlace x.id x.name (sha1 x.bytes) → stored_name stanza a ≡ stored_name stanza x → (a.id ≡ x.id) × (a.name ≡ x.name)) where
    as_one : (x : Archived) → a.id ≡ x.id → a.name ≡ x.name → a.bytes ≡ x.bytes → x ≡ a
    as_one x id name bytes = ap₂ (λ (i : ArchiveId) (n : ArchiveName). let y : Archived = record { id = i; name = n; bytes = x.bytes } in y) (sym id) (sym name) ∙ ap (λ (t : Text). let y : Archived = record { id = a.id; name = a.name; bytes = t } in y) (sym bytes)

    is_archived_in : (f : Content) (s : Stanza) → HasStanza stanza f s → f (stored_name stanza a) ≡ Some a.bytes → In a s.archived
    is_archived_in f s has lies =
        let x = (has.archived (stored_name stanza a) a.bytes (file_of stanza a fits)).0 lies in
        let k = one_at x.0 (has.named x.0 x.1) x.2 in
        subst (λ (y : Archived). In y s.archived) (as_one x.0 k.0 k.1 x.3) x.1

    still_represents : (q : Repository) (log : List Done) (f : Content) → f (stored_name stanza a) ≡ Some a.bytes → RepresentsAfter stanza q log f → RepresentsAfter stanza q (filed log) f
    still_represents q log f lies x = by x.repository x.reached x.sound x.represents
      where
        by : (r : Repository) → Reaches q log r → IsSound r → Represents stanza f r → RepresentsAfter stanza q (filed log) f
        by None reached sound represents = let e : ◌≡◌ {A = Option Text} None (Some a.bytes) = sym (represents.archived (stored_name stanza a) (file_of stanza a fits)) ∙ lies in cc
        by (Some s) reached sound represents =
            let at = is_archived_in f s represents lies in
            let one : (x : Archived) → In x s.archived → is_same_file a x ≡ true → (a.id ≡ x.id) × (a.name ≡ x.name) = λ x i same. one_of x (represents.named x i) same in
            record {
              repository = Some (more (without s));
              reached = reaches_filed q log s reached;
              sound = filed_sound s sound at one;
              represents = filed_represents s sound at one stanza f represents;
            }

    still_drained : (q : Repository) (log : List Done) (name : ArchiveName) (sum : Text) (r : Repository) → Reaches q log r → IsDrained r name sum → (x : Repository) × Reaches q (filed log) x × IsDrained x name sum
    still_drained q log name sum None reached drained = absurd drained
    still_drained q log name sum (Some s) reached drained = (Some (more (without s)), reaches_filed q log s reached, in_left _ s.drained (note ∷ []) drained)

    pub keeps_file : (n : Named) → IsFile n a → (q : Repository) (log : List Done) (repo spool : View) → Keeps stanza q log repo spool
        → ((f : Content) → Leaves repo repo.moment f → f (stored_name stanza a) ≡ Some a.bytes) → FromFile n (λ from l. Keeps stanza from l repo spool)
    keeps_file n is q log repo spool keeps lies = record {
      from = q;
      log = filed log;
      has = filed_has n is q log;
      holds = record {
        repository = record {
          fixed = keeps.repository.fixed;
          places = keeps.repository.places;
          represents = λ f leaves. still_represents q log f (lies f leaves) (keeps.repository.represents f leaves);
        };
        receipts = record {
          fixed = keeps.receipts.fixed;
          receipts = λ f leaves name sum fit receipt. let x = keeps.receipts.receipts f leaves name sum fit receipt in still_drained q log name sum x.0 x.1 x.2;
        };
      };
    }
