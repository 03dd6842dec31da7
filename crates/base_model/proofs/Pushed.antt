-- One archived file more.
use Rattle.std.proofs.Common.{◌≡◌, ◌≢◌, ◌⊎◌, ◌↔◌, ⊎_elim, inl, inr, List, [], ◌∷◌, ◌++◌, Option, Some, None, refl, ap, ◌∙◌, sym, subst, Bool, true, false}
use Rattle.std.specs.Prelude.{IsSome, IfSome, bytes_eq, ◌||◌, ◌&&◌, not, if◌then◌else◌}
use Rattle.std.proofs.lemmas.Slice.Eq.{bytes_eq-Decides}
use Rattle.sha1.specs.Sha1.{sha1}
use Rattle.base_text.specs.Sum.{IsSum, sum_text}
use Rattle.base_devices.specs.Content.{Content, put}
use Rattle.base_devices.specs.Moments.{View, LeavesNoMore, is_unsynced}
use Rattle.base_devices.specs.Crash.{Leaves, Crash, Ends, FirstOf, AllOf, NowChanges}
use Rattle.base_devices.proofs.Nows.{known_as}
use Rattle.base_model.specs.declared.wal.ArchiveId.{ArchiveId}
use Rattle.base_model.specs.declared.wal.Segment.{Segment}
use Rattle.base_model.specs.declared.wal.ArchiveName.TheVariants.{Segment as Whole}
use Rattle.base_model.specs.Text.{Text, In}
use Rattle.base_model.specs.Names.{archive_name}
use Rattle.base_model.specs.Repository.{Archived, Stanza}
use Rattle.base_model.specs.Represents.{Represents, HasStanza, IsArchiveFile, IsArchivePlace, stored_name}
use Rattle.base_model.specs.Steps.{changed, Push, is_same_file, is_archived, has_other, push_of}
use Rattle.base_model.specs.Log.{IsPairMember, IsPlaceOf}
use Rattle.base_model.specs.Now.{NowRepresents}
use Rattle.base_model.specs.Steady.{IsSteady, EachImage}
use Rattle.base_model.proofs.NameLemmas.{file_info_apart, file_info_copy_apart, file_backup_apart, file_backup_copy_apart}
use Rattle.base_model.proofs.Frame.{AgreesBeside, AgreesPast, past_alike, past_past, stanza_beside, alike_represents}
use Rattle.base_model.proofs.Created.{put_other, put_same}
use Rattle.base_model.proofs.Made.{now_of}
use Rattle.base_model.proofs.Healed.{put_past}
use Rattle.base_model.proofs.ArchiveNames.{same_name, same_file}
use Rattle.base_model.proofs.Passing.{crash_moves, crash_places, crash_steady}
use Rattle.base_model.proofs.Steady.{steady_rests, prefix_moves}

-- ---- lists

pub in_left : {X : Type 0} (x : X) (xs ys : List X) → In x xs → In x (xs ++ ys)
in_left x [] ys h = absurd h
in_left x (z ∷ xs) ys h = ⊎_elim (λ (e : x ≡ z). inl e) (λ k. inr (in_left x xs ys k)) h

in_end : {X : Type 0} (x : X) (xs : List X) → In x (xs ++ x ∷ [])
in_end x [] = inl refl
in_end x (z ∷ xs) = inr (in_end x xs)

pub in_either : {X : Type 0} (x y : X) (xs : List X) → In x (xs ++ y ∷ []) → In x xs ⊎ (x ≡ y)
in_either x y [] h = ⊎_elim (λ (e : x ≡ y). inr e) (λ k. absurd k) h
in_either x y (z ∷ xs) h = ⊎_elim (λ (e : x ≡ z). inl (inl e)) (λ k. ⊎_elim (λ i. inl (inr i)) (λ (e : x ≡ y). inr e) (in_either x y xs k)) h

pub at_known : (P : Content → Type 0) (o : Option Content) (f : Content) → o ≡ Some f → IfSome o P → P f
at_known P o f is h = let Q : Option Content → Type 0 = λ x. IfSome x P in let at : Q (Some f) = subst Q is h in at

some_same : (x y : Text) → ◌≡◌ {A = Option Text} (Some x) (Some y) → y ≡ x
some_same x y e = cc

not_both : (o : Option Text) (x : Text) → o ≡ None → o ≡ Some x → ⊥
not_both o x none some = let e : ◌≡◌ {A = Option Text} None (Some x) = sym none ∙ some in cc

-- ---- which files are archived

or_left : (p q : Bool) → p ≡ true → (p || q) ≡ true
or_left true q e = refl
or_left false q e = cc

or_right : (p q : Bool) → q ≡ true → (p || q) ≡ true
or_right true q e = refl
or_right false q e = e

or_either : (p q : Bool) → (p || q) ≡ true → (p ≡ true) ⊎ (q ≡ true)
or_either true q e = inl refl
or_either false q e = inr e

pub archived_by : (a x : Archived) (files : List Archived) → In x files → is_same_file a x ≡ true → is_archived a files ≡ true
archived_by a x [] at same = absurd at
archived_by a x (b ∷ files) at same = ⊎_elim (λ (e : x ≡ b). or_left (is_same_file a b) (is_archived a files) (subst (λ (y : Archived). is_same_file a y ≡ true) e same))
    (λ k. or_right (is_same_file a b) (is_archived a files) (archived_by a x files k same)) at

pub archived_as : (a : Archived) (files : List Archived) → is_archived a files ≡ true → (x : Archived) × In x files × (is_same_file a x ≡ true)
archived_as a [] e = cc
archived_as a (b ∷ files) e = ⊎_elim (λ same. (b, inl refl, same)) (λ later. let x = archived_as a files later in (x.0, inr x.1, x.2)) (or_either (is_same_file a b) (is_archived a files) e)

and_both : (p q : Bool) → (p && q) ≡ true → (p ≡ true) × (q ≡ true)
and_both true true e = (refl, refl)
and_both true false e = cc
and_both false q e = cc

not_true : (p : Bool) → not p ≡ true → p ≡ true → ⊥
not_true true e k = cc
not_true false e k = cc

pub not_so : (p : Bool) → (p ≡ true → ⊥) → p ≡ false
not_so true off = absurd (off refl)
not_so false off = refl

-- a file of its name with another sum
pub other_as : (a : Archived) (files : List Archived) → has_other a files ≡ true → (x : Archived) × In x files × (is_same_file a x ≡ true) × (sha1 a.bytes ≢ sha1 x.bytes)
other_as a [] e = cc
other_as a (b ∷ files) e = ⊎_elim
    (λ here. let k = and_both (is_same_file a b) (not (bytes_eq (sha1 a.bytes) (sha1 b.bytes))) here in
    (b, inl refl, k.0, λ same. not_true (bytes_eq (sha1 a.bytes) (sha1 b.bytes)) k.1 ((bytes_eq-Decides (sha1 a.bytes) (sha1 b.bytes)).1 same)))
    (λ later. let x = other_as a files later in (x.0, inr x.1, x.2, x.3))
    (or_either (is_same_file a b && not (bytes_eq (sha1 a.bytes) (sha1 b.bytes))) (has_other a files) e)

-- where each file of its name has its sum, there is no other
pub no_other : (a : Archived) (files : List Archived) → ((x : Archived) → In x files → is_same_file a x ≡ true → sha1 a.bytes ≡ sha1 x.bytes) → has_other a files ≡ false
no_other a files alike = not_so (has_other a files) (λ e. let x = other_as a files e in x.3 (alike x.0 x.1 x.2))

-- of a file that isn't archived there is none
pub new_no_other : (a : Archived) (files : List Archived) → is_archived a files ≡ false → has_other a files ≡ false
new_no_other a files new = no_other a files (λ x at same. let e : ◌≡◌ {A = Bool} false true = sym new ∙ archived_by a x files at same in cc)

push_chosen : (a : Archived) (archived : Bool) → (archived ≡ true → ⊥) → (if archived then [] else Push a ∷ []) ≡ Push a ∷ []
push_chosen a true off = absurd (off refl)
push_chosen a false off = refl

none_chosen : (a : Archived) (archived : Bool) → archived ≡ true → (if archived then [] else Push a ∷ []) ≡ []
none_chosen a true e = refl
none_chosen a false e = cc

-- ---- a file more

pub file_of : (stanza : Text) (a : Archived) → IsArchivePlace a.id a.name (sha1 a.bytes) → IsArchiveFile stanza (stored_name stanza a)
file_of stanza a fits = record { id = a.id; file = a.name; sum = sha1 a.bytes; fits = fits; is = refl }

module _ (stanza : Text) (a : Archived) (fits : IsArchivePlace a.id a.name (sha1 a.bytes)) where
  abbrev name : Text
  name = stored_name stanza a

  abbrev stored : Content → Content
  stored f = put name (Some a.bytes) f

  pair_apart : (n : Text) → IsPairMember stanza n → n ≢ name
  pair_apart n (inl e) k = file_info_apart stanza name (file_of stanza a fits) (sym k ∙ e)
  pair_apart n (inr (inl e)) k = file_info_copy_apart stanza name (file_of stanza a fits) (sym k ∙ e)
  pair_apart n (inr (inr (inl e))) k = file_backup_apart stanza name (file_of stanza a fits) (sym k ∙ e)
  pair_apart n (inr (inr (inr e))) k = file_backup_copy_apart stanza name (file_of stanza a fits) (sym k ∙ e)

  stored_past : (f : Content) → AgreesPast stanza f (stored f)
  stored_past f = put_past stanza name a.bytes f refl

  stored_beside : (f : Content) → AgreesBeside stanza f (stored f)
  stored_beside f = record {
    pairs = λ n h. put_other name (Some a.bytes) f n (pair_apart n h);
    listed = (stored_past f).listed;
    places = (stored_past f).places;
  }

  stored_named : (s : Stanza) → ((x : Archived) → In x s.archived → IsArchivePlace x.id x.name (sha1 x.bytes)) → (x : Archived) → In x (s.archived ++ a ∷ []) → IsArchivePlace x.id x.name (sha1 x.bytes)
  stored_named s named x at = ⊎_elim (named x) (λ (e : x ≡ a). subst (λ (y : Archived). IsArchivePlace y.id y.name (sha1 y.bytes)) (sym e) fits) (in_either x a s.archived at)

  abbrev IsStoredIn : List Archived → Text → Text → Type 0
  IsStoredIn files n bytes = (x : Archived) × In x files × (n ≡ stored_name stanza x) × (bytes ≡ x.bytes)

  stored_archived : (f : Content) (s : Stanza) → HasStanza stanza f s → f (stored_name stanza a) ≡ None → (n bytes : Text) → IsArchiveFile stanza n → (put (stored_name stanza a) (Some a.bytes) f n ≡ Some bytes) ↔ IsStoredIn (s.archived ++ a ∷ []) n bytes
  stored_archived f s h absent n bytes is_file = go (bytes_eq name n) refl
    where
      here : name ≡ n → stored f n ≡ Some a.bytes
      here same = ap (stored f) (sym same) ∙ put_same name (Some a.bytes) f

      go : (q : Bool) → bytes_eq name n ≡ q → (stored f n ≡ Some bytes) ↔ IsStoredIn (s.archived ++ a ∷ []) n bytes
      go true e =
          let same : name ≡ n = (bytes_eq-Decides name n).0 e in (
            (λ is. (a, in_end a s.archived, sym same, some_same a.bytes bytes (sym (here same) ∙ is))),
            (λ (x : IsStoredIn (s.archived ++ a ∷ []) n bytes). ⊎_elim
                (λ (i : In x.0 s.archived). absurd (not_both (f n) bytes (ap f (sym same) ∙ absent) ((h.archived n bytes is_file).1 (x.0, i, x.2, x.3))))
                (λ (i : x.0 ≡ a). here same ∙ ap (λ (b : Text). Some b) (sym (x.3 ∙ ap (λ (y : Archived). y.bytes) i)))
                (in_either x.0 a s.archived x.1)),
          )
      go false e =
          let off : n ≢ name = λ k. let u : ◌≡◌ {A = Bool} false true = sym e ∙ (bytes_eq-Decides name n).1 (sym k) in cc in
          let same : stored f n ≡ f n = put_other name (Some a.bytes) f n off in (
            (λ is. let x = (h.archived n bytes is_file).0 (sym same ∙ is) in (x.0, in_left x.0 s.archived (a ∷ []) x.1, x.2, x.3)),
            (λ (x : IsStoredIn (s.archived ++ a ∷ []) n bytes). ⊎_elim
                (λ (i : In x.0 s.archived). same ∙ (h.archived n bytes is_file).1 (x.0, i, x.2, x.3))
                (λ (i : x.0 ≡ a). absurd (off (x.2 ∙ ap (stored_name stanza) i)))
                (in_either x.0 a s.archived x.1)),
          )

  pub stored_represents : (f : Content) (s : Stanza) → HasStanza stanza f s → f (stored_name stanza a) ≡ None → HasStanza stanza (put (stored_name stanza a) (Some a.bytes) f) (changed (Push a) s)
  stored_represents f s h absent = stanza_beside stanza f (stored f) (stored_beside f) s h (s.archived ++ a ∷ []) (stored_named s h.named) (stored_archived f s h absent)

  -- where one content that has the stanza lacks the file, all that have it do
  pub absent_all : (f g : Content) (s : Stanza) → HasStanza stanza f s → HasStanza stanza g s → f (stored_name stanza a) ≡ None → g (stored_name stanza a) ≡ None
  absent_all f g s h k none = elim (g name) as (λ found. g name ≡ found → found ≡ None) [
    | None ↦ λ e. refl
    | Some bytes ↦ λ e. absurd (not_both (f name) bytes none ((h.archived name bytes (file_of stanza a fits)).1 ((k.archived name bytes (file_of stanza a fits)).0 e)))
  ] refl

  -- ---- the write of it

  push_part : (f g : Content) (s : Stanza) → f (stored_name stanza a) ≡ None → HasStanza stanza f s → FirstOf ((stored_name stanza a, a.bytes) ∷ []) f g → Represents stanza g (Some s) ⊎ Represents stanza g (Some (changed (Push a) s))
  push_part f g s none h w = ⊎_elim (λ k. inl (alike_represents stanza f g (Some s) k h))
      (λ k. inr (alike_represents stanza (stored f) g (Some (changed (Push a) s)) k (stored_represents f s h none))) w

  push_whole : (f g : Content) (s : Stanza) → f (stored_name stanza a) ≡ None → HasStanza stanza f s → AllOf ((stored_name stanza a, a.bytes) ∷ []) f g → Represents stanza g (Some (changed (Push a) s))
  push_whole f g s none h w = alike_represents stanza (stored f) g (Some (changed (Push a) s)) w (stored_represents f s h none)

  push_past : (f g : Content) → FirstOf ((stored_name stanza a, a.bytes) ∷ []) f g → AgreesPast stanza f g
  push_past f g w = ⊎_elim (λ k. past_alike stanza f g k) (λ k. past_past stanza f (stored f) g (stored_past f) (past_alike stanza (stored f) g k)) w

  module _ (s : Stanza) (v b d : View) (steady : IsSteady stanza (Some s) v) (known : IsSome v.now) (absent : IfSome v.now (λ f. f (stored_name stanza a) ≡ None))
      (rests : LeavesNoMore v b) (same : b.now ≡ v.now) (crash : Crash (FirstOf ((stored_name stanza a, a.bytes) ∷ [])) b d) where
    some_b : IsSome b.now
    some_b = subst (λ (o : Option Content). IsSome o) (sym same) known

    steady_b : IsSteady stanza (Some s) b
    steady_b = steady_rests stanza (Some s) v b rests same steady

    absent_in : (g : Content) → HasStanza stanza g s → g name ≡ None
    absent_in g h = let f = known_as v.now known in absent_all f.0 g s (steady.represents f.0 (inl f.1)) h (at_known (λ f. f name ≡ None) v.now f.0 f.1 absent)

    places : (g : Content) → Leaves d d.moment g → (n : Text) → IsPlaceOf stanza g n → is_unsynced d n ≡ false
    places = crash_places stanza (Some s) (FirstOf ((name, a.bytes) ∷ [])) b d steady_b some_b crash push_past

    pub push_moves : EachImage stanza (λ g. Represents stanza g (Some s) ⊎ Represents stanza g (Some (changed (Push a) s))) v d
    push_moves = prefix_moves stanza (Some s) (λ g. Represents stanza g (Some s) ⊎ Represents stanza g (Some (changed (Push a) s))) v b d rests steady (λ g h. inl h)
        (crash_moves stanza (Some s) (FirstOf ((name, a.bytes) ∷ [])) b d steady_b some_b crash (λ g. Represents stanza g (Some s) ⊎ Represents stanza g (Some (changed (Push a) s)))
        (λ f g h w. push_part f g s (absent_in f h) h w) places)

    pub push_steady : Ends (AllOf ((stored_name stanza a, a.bytes) ∷ [])) b d → IsSteady stanza (Some (changed (Push a) s)) d
    push_steady ends = crash_steady stanza (Some s) (FirstOf ((name, a.bytes) ∷ [])) b d steady_b some_b crash (AllOf ((name, a.bytes) ∷ [])) ends (Some (changed (Push a) s))
        (λ f g h w. push_whole f g s (absent_in f h) h w) places

  -- ---- what the disk holds

  module _ (s : Stanza) (old new : Option Content) (some : IsSome old) (now : NowRepresents stanza (Some s) old) (absent : IfSome old (λ f. f (stored_name stanza a) ≡ None)) where
    pub push_now : NowChanges (FirstOf ((stored_name stanza a, a.bytes) ∷ [])) old new → NowRepresents stanza (Some s) new ⊎ NowRepresents stanza (Some (changed (Push a) s)) new
    push_now goes =
        let f = known_as old some in
        let g = known_as new (goes.known some) in
        ⊎_elim (λ (h : Represents stanza g.0 (Some s)). inl (now_of stanza (Some s) new g.0 g.1 h)) (λ (h : Represents stanza g.0 (Some (changed (Push a) s))). inr (now_of stanza (Some (changed (Push a) s)) new g.0 g.1 h))
        (push_part f.0 g.0 s (at_known (λ f. f name ≡ None) old f.0 f.1 absent) (now.represents f.0 f.1) (goes.goes f.0 g.0 f.1 g.1))

    pub pushed_now : NowChanges (AllOf ((stored_name stanza a, a.bytes) ∷ [])) old new → NowRepresents stanza (Some (changed (Push a) s)) new
    pushed_now goes = let f = known_as old some in
        record { represents = λ g is. push_whole f.0 g s (at_known (λ f. f name ≡ None) old f.0 f.1 absent) (now.represents f.0 f.1) (goes.goes f.0 g f.1 is) }

-- ---- a segment, by the names at which it may lie

-- f stores the segment with no sum
abbrev pub LacksSegment : Text → ArchiveId → Segment → Content → Type 0
LacksSegment stanza id segment f = (sum : Text) → ¬ (IsSum sum × IsSome (f (archive_name stanza id (Whole segment) (sum_text sum))))

-- f stores it with some sum
abbrev pub HasSegment : Text → ArchiveId → Segment → Content → Type 0
HasSegment stanza id segment f = (sum : Text) × IsSum sum × IsSome (f (archive_name stanza id (Whole segment) (sum_text sum)))

none_of_it : (o : Option Text) → ¬ IsSome o → o ≡ None
none_of_it None off = refl
none_of_it (Some x) off = absurd (off refl)

some_text : (o : Option Text) → IsSome o → (x : Text) × (o ≡ Some x)
some_text None some = cc
some_text (Some x) some = (x, refl)

module _ (stanza : Text) (id : ArchiveId) (segment : Segment) (bytes : Text) where
  abbrev a : Archived
  a = record { id = id; name = Whole segment; bytes = bytes }

  pub new_push : (f : Content) (s : Stanza) → HasStanza stanza f s → ((sum : Text) → IsSum sum → f (archive_name stanza id (Whole segment) (sum_text sum)) ≡ None)
      → push_of s (record { id = id; name = Whole segment; bytes = bytes }) ≡ Push (record { id = id; name = Whole segment; bytes = bytes }) ∷ []
  new_push f s h none = push_chosen a (is_archived a s.archived) (λ e.
      let x = archived_as a s.archived e in
      let place = h.named x.0 x.1 in
      not_both (f (stored_name stanza x.0)) x.0.bytes (ap f (same_name stanza x.0 id segment bytes (sum_text (sha1 x.0.bytes)) x.2) ∙ none (sha1 x.0.bytes) place.digest)
      ((h.archived (stored_name stanza x.0) x.0.bytes (file_of stanza x.0 place)).1 (x.0, x.1, refl, refl)))

  pub lacks_at : (f : Content) → LacksSegment stanza id segment f → (sum : Text) → IsSum sum → f (archive_name stanza id (Whole segment) (sum_text sum)) ≡ None
  lacks_at f lacks sum is = none_of_it (f (archive_name stanza id (Whole segment) (sum_text sum))) (λ some. lacks sum (is, some))

  module _ (fits : IsArchivePlace id (Whole segment) (sha1 bytes)) where
    pub no_push : (f : Content) (s : Stanza) → HasStanza stanza f s → (sum : Text) → IsSum sum → IsSome (f (archive_name stanza id (Whole segment) (sum_text sum))) → push_of s (record { id = id; name = Whole segment; bytes = bytes }) ≡ []
    no_push f s h sum is some =
        let place : IsArchivePlace id (Whole segment) sum = record { version = fits.version; number = fits.number; fits = fits.fits; digest = is } in
        let found = some_text (f (archive_name stanza id (Whole segment) (sum_text sum))) some in
        let x = (h.archived (archive_name stanza id (Whole segment) (sum_text sum)) found.0 (record { id = id; file = Whole segment; sum = sum; fits = place; is = refl })).0 found.1 in
        none_chosen a (is_archived a s.archived) (archived_by a x.0 s.archived x.1 (same_file stanza x.0 id segment bytes (sha1 x.0.bytes) sum (h.named x.0 x.1) place (sym x.2)))
