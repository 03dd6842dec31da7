-- What a link that reads some files is still to give, frame by frame.
use Rattle.std.proofs.Common.{ℕ, ◌≡◌, ◌≢◌, ◌<◌, ◌≤◌, ◌+◌, ◌^◌, ◌⊎◌, inl, inr, List, [], ◌∷◌, ◌++◌, Bool, true, Option, Some, None, length, take, drop, map, refl, sym, ap, subst, arith, ◌∙◌, append_assoc, length-append, length-take, length-drop, get_or}
use Rattle.std.specs.Prelude.{◌==◌}
use Rattle.std.specs.List.{flat_map}
use Rattle.std.specs.Int.{w32, w64, to_be_bytes, from_be_bytes}
use Rattle.std.proofs.lemmas.Bool.{cases_lt}
use Rattle.std.proofs.lemmas.Bool.Decides.{nat_tests}
use Rattle.std.proofs.lemmas.Nat.{from_be_bytes-to_be_bytes_4, from_be_bytes-to_be_bytes_8}
use Rattle.std.proofs.lemmas.List.{take-append-drop, take_at, drop_at}
use Rattle.sha1.specs.Sha1.{sha1}
use Rattle.base_text.proofs.Digests.{IsSum-sha1}
use Rattle.base_devices.specs.Content.{Content, Value}
use Rattle.base_devices.specs.Links.{Modelled, LinkState}
use Rattle.base_model.specs.Text.{Text}
use Rattle.worker_protocol.specs.declared.frames.frames.Root.{Root}
use Rattle.worker_protocol.specs.declared.frames.frames.Root.TheVariants.{DataFolder, Repo}
use Rattle.worker_protocol.specs.declared.frames.frames.JobKind.{JobKind}
use Rattle.worker_protocol.specs.declared.frames.frames.JobKind.TheVariants.{Read, Digest}
use Rattle.worker_protocol.specs.Frames.{Item, Frame, framed, spell, part_size}
use Rattle.worker_protocol.specs.Frames.Frame.{Part, End, Vanished, Unread}
use Rattle.worker_protocol.specs.Replies.{payload, item_rest, absent_reply, item_reply, replies}
use Rattle.worker_protocol.proofs.ReplyFrames.{parts_none, parts_more}
use Rattle.worker_protocol.specs.Takes.{TakesPrefix}
use Rattle.worker_protocol.specs.Receives.{IsReplyFrame, OffersReply, BeginsReply}
use Rattle.worker_pool.specs.Reads.{WhereRead, IsSteadyWorker, IsHonest, IsPayload, IsSumOf, file_of}
use Rattle.worker_pool.specs.Going.{IsPending, Shows, ShowsItem, ShowsItems, IsDrained}

append_nil : {X : Type 0} (xs : List X) → xs ++ [] ≡ xs
append_nil [] = refl
append_nil (x ∷ xs) = ap (λ l. x ∷ l) (append_nil xs)

none_of : {X : Type 0} (xs : List X) → length xs ≡ 0 → xs ≡ []
none_of [] e = refl
none_of (x ∷ xs) e = absurd (omega arith)

some_bytes : 0 < part_size
unfolding part_size
some_bytes = omega arith

part_small : part_size < 2 ^ 32
unfolding part_size
part_small = omega arith

-- ---- one frame's front states it

apart : (a b : Text) (x y : ℕ) → x ≢ y → (x ∷ a) ≡ (y ∷ b) → ⊥
apart a b x y n e = n (ap (λ l. get_or l 0 0) e)

prefixes_same : (a b x y : Text) → length a ≡ length b → a ++ x ≡ b ++ y → (a ≡ b) × (x ≡ y)
prefixes_same a b x y n e = (
  sym (take_at a x (length a) refl) ∙ ap (take (length a)) e ∙ take_at b y (length a) (sym n),
  sym (drop_at a x (length a) refl) ∙ ap (drop (length a)) e ∙ drop_at b y (length a) (sym n),
)

same_body : (k : ℕ) (a b x y : Text) → length a < 2 ^ 32 → length b < 2 ^ 32 → framed k a ++ x ≡ framed k b ++ y → (a ≡ b) × (x ≡ y)
same_body k a b x y s t e =
    let lens : to_be_bytes w32 (length a) ≡ to_be_bytes w32 (length b) = ap (λ l. take 4 (drop 1 l)) e in
    let len : length a ≡ length b = sym (from_be_bytes-to_be_bytes_4 (length a) s) ∙ ap (from_be_bytes w32) lens ∙ from_be_bytes-to_be_bytes_4 (length b) t in
    prefixes_same a b x y len (ap (drop 5) e)

-- ---- the frames that an item begins with

rest_none : (whole : Text) (next : List Frame) → item_rest Read whole [] next ≡ End (length whole) (sha1 whole) ∷ next
unfolding item_rest
rest_none whole next = ap (λ (ps : List Text). map Part ps ++ End (length whole) (sha1 whole) ∷ next) parts_none

rest_more : (whole : Text) (b : ℕ) (more : Text) (next : List Frame) → item_rest Read whole (b ∷ more) next ≡ Part (take part_size (b ∷ more)) ∷ item_rest Read whole (drop part_size (b ∷ more)) next
unfolding item_rest
rest_more whole b more next = ap (λ (ps : List Text). map Part ps ++ End (length whole) (sha1 whole) ∷ next) (parts_more b more)

rest_digest : (whole more : Text) (next : List Frame) → item_rest Digest whole more next ≡ End (length whole) (sha1 whole) ∷ next
unfolding item_rest
rest_digest whole more next = refl

-- ---- a part

-- the rest after a part is none, or the part was full
cut_full : (b : ℕ) (more : Text) → (drop part_size (b ∷ more) ≡ []) ⊎ (length (take part_size (b ∷ more)) ≡ part_size)
cut_full b more = elim (cases_lt part_size (length (b ∷ more))) [
  | inl l ↦ inr (omega (arith, l, length-take part_size (b ∷ more)))
  | inr l ↦ inl (none_of (drop part_size (b ∷ more)) (omega (arith, l, length-drop part_size (b ∷ more))))
]

record AfterPart (whole more v rest : Text) (next : List Frame) : Type 0 where
  after : Text
  is : more ≡ v ++ after
  full : (after ≡ []) ⊎ (length v ≡ part_size)
  rest_is : rest ≡ flat_map spell (item_rest Read whole after next)

rest_part : (whole more : Text) (next : List Frame) (v rest : Text) → 0 < length v → length v ≤ part_size → flat_map spell (item_rest Read whole more next) ≡ framed 80 v ++ rest → AfterPart whole more v rest next
rest_part whole [] next v rest some few e =
    absurd (apart _ _ 69 80 (λ q. omega arith) (sym (ap (flat_map spell) (rest_none whole next)) ∙ e))
rest_part whole (b ∷ more) next v rest some few e =
    let e2 : framed 80 (take part_size (b ∷ more)) ++ flat_map spell (item_rest Read whole (drop part_size (b ∷ more)) next) ≡ framed 80 v ++ rest = sym (ap (flat_map spell) (rest_more whole b more next)) ∙ e in
    let same = same_body 80 (take part_size (b ∷ more)) v _ rest (omega (arith, length-take part_size (b ∷ more), part_small)) (omega (arith, few, part_small)) e2 in
    record {
      after = drop part_size (b ∷ more);
      is = sym (take-append-drop part_size (b ∷ more)) ∙ ap (λ l. l ++ drop part_size (b ∷ more)) same.0;
      full = subst (λ x. (drop part_size (b ∷ more) ≡ []) ⊎ (length x ≡ part_size)) same.0 (cut_full b more);
      rest_is = sym same.1;
    }

-- the first byte of the reply to an absent item
absent_prefix : (root : Root) (next : List Frame) (k : ℕ) (y : Text) → k ≢ 86 → k ≢ 85 → flat_map spell (absent_reply root next) ≡ k ∷ y → ⊥
absent_prefix DataFolder next k y n m e = n (sym (ap (λ l. get_or l 0 0) e))
absent_prefix Repo next k y n m e = m (sym (ap (λ l. get_or l 0 0) e))

-- what a part of a reader's reply is
pub record IsNextPart (kind : JobKind) (i : Item) (p v : Text) (full : Bool) : Type 0 where
  pub reads : kind ≡ Read
  pub full_is : full ≡ true
  pub room : length p + length v ≤ i.size

no_nil : (v after : Text) → 0 < length v → v ++ after ≡ [] → ⊥
no_nil [] after some e = absurd (omega arith)
no_nil (x ∷ v) after some e = absurd cc

full_more : (more v after : Text) (full : Bool) → 0 < length v → more ≡ v ++ after → (more ≡ []) ⊎ (full ≡ true) → full ≡ true
full_more more v after full some e (inl n) = absurd (no_nil v after some (sym e ∙ n))
full_more more v after full some e (inr t) = t

eqb_same : (a b : ℕ) → a ≡ b → (a == b) ≡ true
eqb_same a b e = grind (arith, nat_tests, e)

full_after : (after v : Text) → (after ≡ []) ⊎ (length v ≡ part_size) → (after ≡ []) ⊎ ((length v == part_size) ≡ true)
full_after after v (inl e) = inl e
full_after after v (inr e) = inr (eqb_same (length v) part_size e)

pub pend_part : (kind : JobKind) (i : Item) (file : Value) (left : List Item) (p v : Text) (full : Bool) (tree repo : Content) (pending rest : Text) → 0 < length v → length v ≤ part_size
    → IsPending kind i file left p full tree repo pending → pending ≡ spell (Part v) ++ rest
    → IsNextPart kind i p v full × IsPending kind i file left (p ++ v) (length v == part_size) tree repo rest
pend_part kind i None left p v full tree repo pending rest some few h e = absurd (absent_prefix i.root (replies kind left tree repo) 80 _ (λ q. omega arith) (λ q. omega arith) (sym h.1 ∙ e))
pend_part Digest i (Some file) left p v full tree repo pending rest some few h e =
    absurd (apart _ _ 69 80 (λ q. omega arith) (sym (ap (flat_map spell) (rest_digest (payload i file) h.0 (replies Digest left tree repo))) ∙ sym h.3 ∙ e))
pend_part Read i (Some file) left p v full tree repo pending rest some few h e =
    let q = rest_part (payload i file) h.0 (replies Read left tree repo) v rest some few (sym h.3 ∙ e) in
    let len : length (p ++ h.0) ≤ i.size = subst (λ t. length t ≤ i.size) h.1 (omega (arith, length-take i.size (drop i.at file))) in (
      record {
        reads = refl;
        full_is = full_more h.0 v q.after full some q.is h.2;
        room = omega (arith, len, length-append p h.0, ap length q.is, length-append v q.after);
      },
      (q.after, h.1 ∙ ap (λ l. p ++ l) q.is ∙ sym (append_assoc p v q.after), full_after q.after v q.full, q.rest_is),
    )

-- ---- an end

end_same : (a n : ℕ) (x s u v : Text) → a < 2 ^ 64 → n < 2 ^ 64 → length x ≡ 20 → length s ≡ 20 → framed 69 (to_be_bytes w64 a ++ x) ++ u ≡ framed 69 (to_be_bytes w64 n ++ s) ++ v → (n ≡ a) × (s ≡ x) × (v ≡ u)
end_same a n x s u v la ln lx ls e =
    let b = same_body 69 (to_be_bytes w64 a ++ x) (to_be_bytes w64 n ++ s) u v (omega (arith, lx)) (omega (arith, ls)) e in
    let nums : to_be_bytes w64 a ≡ to_be_bytes w64 n = ap (take 8) b.0 in
    let n_is : n ≡ a = sym (from_be_bytes-to_be_bytes_8 n ln) ∙ ap (from_be_bytes w64) (sym nums) ∙ from_be_bytes-to_be_bytes_8 a la in
    (n_is, ap (drop 8) (sym b.0), sym b.1)

record AfterEnd (kind : JobKind) (whole more : Text) (n : ℕ) (s rest : Text) (next : List Frame) : Type 0 where
  all : kind ≡ Read → more ≡ []
  sums : IsSumOf n s whole
  rest_is : rest ≡ flat_map spell next

rest_end : (kind : JobKind) (whole more : Text) (next : List Frame) (n : ℕ) (s rest : Text) → length whole < 2 ^ 64 → n < 2 ^ 64 → length s ≡ 20 → flat_map spell (item_rest kind whole more next) ≡ framed 69 (to_be_bytes w64 n ++ s) ++ rest → AfterEnd kind whole more n s rest next
rest_end Read whole [] next n s rest lw ln ls e =
    let q = end_same (length whole) n (sha1 whole) s (flat_map spell next) rest lw ln (IsSum-sha1 whole).0 ls (sym (ap (flat_map spell) (rest_none whole next)) ∙ e) in
    record { all = λ t. refl; sums = record { number = q.0; digest = q.1 }; rest_is = q.2 }
rest_end Read whole (b ∷ more) next n s rest lw ln ls e = absurd (apart _ _ 80 69 (λ q. omega arith) (sym (ap (flat_map spell) (rest_more whole b more next)) ∙ e))
rest_end Digest whole more next n s rest lw ln ls e =
    let q = end_same (length whole) n (sha1 whole) s (flat_map spell next) rest lw ln (IsSum-sha1 whole).0 ls (sym (ap (flat_map spell) (rest_digest whole more next)) ∙ e) in
    record { all = λ t. absurd (let f : Digest ≡ Read = t in cc); sums = record { number = q.0; digest = q.1 }; rest_is = q.2 }

-- what the end of an item of a reader's reply is
pub record IsNextEnd (kind : JobKind) (i : Item) (file : Value) (p : Text) (n : ℕ) (s : Text) : Type 0 where
  pub whole : Text
  pub is : IsPayload i file whole
  pub sums : IsSumOf n s whole
  pub read : kind ≡ Read → p ≡ whole
  pub size : length whole ≤ i.size

pub pend_end : (kind : JobKind) (i : Item) (file : Value) (left : List Item) (p : Text) (full : Bool) (tree repo : Content) (n : ℕ) (s pending rest : Text) → i.size < 2 ^ 64 → n < 2 ^ 64 → length s ≡ 20
    → IsPending kind i file left p full tree repo pending → pending ≡ spell (End n s) ++ rest → IsNextEnd kind i file p n s × (rest ≡ flat_map spell (replies kind left tree repo))
pend_end kind i None left p full tree repo n s pending rest li ln ls h e = absurd (absent_prefix i.root (replies kind left tree repo) 69 _ (λ q. omega arith) (λ q. omega arith) (sym h.1 ∙ e))
pend_end kind i (Some file) left p full tree repo n s pending rest li ln ls h e =
    let len : length (payload i file) ≤ i.size = omega (arith, length-take i.size (drop i.at file)) in
    let q = rest_end kind (payload i file) h.0 (replies kind left tree repo) n s rest (omega (arith, len, li)) ln ls (sym h.3 ∙ e) in
    (record { whole = payload i file; is = refl; sums = q.sums; read = λ t. sym (h.1 ∙ ap (λ l. p ++ l) (q.all t) ∙ append_nil p); size = len }, q.rest_is)

-- ---- an absent file

rest_prefix : (kind : JobKind) (whole more : Text) (next : List Frame) (k : ℕ) (y : Text) → k ≢ 69 → k ≢ 80 → flat_map spell (item_rest kind whole more next) ≡ k ∷ y → ⊥
rest_prefix Read whole [] next k y n m e = apart _ _ 69 k (λ q. n (sym q)) (sym (ap (flat_map spell) (rest_none whole next)) ∙ e)
rest_prefix Read whole (b ∷ more) next k y n m e = apart _ _ 80 k (λ q. m (sym q)) (sym (ap (flat_map spell) (rest_more whole b more next)) ∙ e)
rest_prefix Digest whole more next k y n m e = apart _ _ 69 k (λ q. n (sym q)) (sym (ap (flat_map spell) (rest_digest whole more next)) ∙ e)

-- what the message that an item is absent is in a reader's reply
pub record IsNextGone (i : Item) (file : Value) (p : Text) : Type 0 where
  pub absent : file ≡ None
  pub root : i.root ≡ DataFolder
  pub none : p ≡ []

absent_gone : (root : Root) (next : List Frame) (rest : Text) → flat_map spell (absent_reply root next) ≡ spell Vanished ++ rest → (root ≡ DataFolder) × (rest ≡ flat_map spell next)
absent_gone DataFolder next rest e = (refl, sym (ap (drop 5) e))
absent_gone Repo next rest e = absurd (apart _ _ 85 86 (λ q. omega arith) e)

pub pend_gone : (kind : JobKind) (i : Item) (file : Value) (left : List Item) (p : Text) (full : Bool) (tree repo : Content) (pending rest : Text)
    → IsPending kind i file left p full tree repo pending → pending ≡ spell Vanished ++ rest → IsNextGone i file p × (rest ≡ flat_map spell (replies kind left tree repo))
pend_gone kind i None left p full tree repo pending rest h e =
    let q = absent_gone i.root (replies kind left tree repo) rest (sym h.1 ∙ e) in
    (record { absent = refl; root = q.0; none = h.0 }, q.1)
pend_gone kind i (Some file) left p full tree repo pending rest h e = absurd (rest_prefix kind (payload i file) h.0 (replies kind left tree repo) 86 _ (λ q. omega arith) (λ q. omega arith) (sym h.3 ∙ e))

absent_unread : (root : Root) (next : List Frame) (y : Text) → flat_map spell (absent_reply root next) ≡ 85 ∷ y → root ≡ Repo
absent_unread DataFolder next y e = absurd (apart _ _ 86 85 (λ q. omega arith) e)
absent_unread Repo next y e = refl

pub pend_unread : (kind : JobKind) (i : Item) (file : Value) (left : List Item) (p : Text) (full : Bool) (tree repo : Content) (pending rest : Text)
    → IsPending kind i file left p full tree repo pending → pending ≡ spell Unread ++ rest → (i.root ≡ Repo) × (file ≡ None)
pend_unread kind i None left p full tree repo pending rest h e = (absent_unread i.root (replies kind left tree repo) _ (sym h.1 ∙ e), refl)
pend_unread kind i (Some file) left p full tree repo pending rest h e = absurd (rest_prefix kind (payload i file) h.0 (replies kind left tree repo) 85 _ (λ q. omega arith) (λ q. omega arith) (sym h.3 ∙ e))

-- ---- a reader's next bytes are a frame

record BeginsWith (pending : Text) : Type 0 where
  frame : Frame
  fits : IsReplyFrame frame
  rest : Text
  is : pending ≡ spell frame ++ rest

absent_begins : (root : Root) (next : List Frame) → BeginsWith (flat_map spell (absent_reply root next))
absent_begins DataFolder next = record { frame = Vanished; fits = tt; rest = flat_map spell next; is = refl }
absent_begins Repo next = record { frame = Unread; fits = tt; rest = []; is = refl }

end_begins : (whole : Text) (next : List Frame) → length whole < 2 ^ 64 → BeginsWith (flat_map spell (End (length whole) (sha1 whole) ∷ next))
end_begins whole next lw = record { frame = End (length whole) (sha1 whole); fits = (lw, (IsSum-sha1 whole).0); rest = flat_map spell next; is = refl }

rest_begins : (kind : JobKind) (whole more : Text) (next : List Frame) → length whole < 2 ^ 64 → BeginsWith (flat_map spell (item_rest kind whole more next))
rest_begins Read whole [] next lw = subst (λ fs. BeginsWith (flat_map spell fs)) (sym (rest_none whole next)) (end_begins whole next lw)
rest_begins Read whole (b ∷ more) next lw =
    let len = length-take part_size (b ∷ more) in
    subst (λ fs. BeginsWith (flat_map spell fs)) (sym (rest_more whole b more next))
    (record { frame = Part (take part_size (b ∷ more)); fits = (omega (arith, len, some_bytes), omega (arith, len)); rest = flat_map spell (item_rest Read whole (drop part_size (b ∷ more)) next); is = refl })
rest_begins Digest whole more next lw = subst (λ fs. BeginsWith (flat_map spell fs)) (sym (rest_digest whole more next)) (end_begins whole next lw)

pend_begins : (kind : JobKind) (i : Item) (file : Value) (left : List Item) (p : Text) (full : Bool) (tree repo : Content) (pending : Text) → i.size < 2 ^ 64 → IsPending kind i file left p full tree repo pending → BeginsWith pending
pend_begins kind i None left p full tree repo pending li h = subst BeginsWith (sym h.1) (absent_begins i.root (replies kind left tree repo))
pend_begins kind i (Some file) left p full tree repo pending li h =
    subst BeginsWith (sym h.3) (rest_begins kind (payload i file) h.0 (replies kind left tree repo) (omega (arith, li, length-take i.size (drop i.at file))))

-- ---- known links

-- bytes that were given, and what is then still to be given
pub shows_prefix : (P Q : Content → Content → Text → Type 0) (from old new : Option Modelled) (bytes : Text) → Shows P from old → TakesPrefix old new bytes
    → ((tree repo : Content) (pending rest : Text) → P tree repo pending → pending ≡ bytes ++ rest → Q tree repo rest) → Shows Q from new
shows_prefix P Q None None None bytes h t step = tt
shows_prefix P Q None None (Some c) bytes h t step = absurd (let e : Some c ≡ None = t in cc)
shows_prefix P Q None (Some b) new bytes h t step = absurd h
shows_prefix P Q (Some a) None new bytes h t step = absurd h
shows_prefix P Q (Some a) (Some b) None bytes h t step = absurd (let e = t.2 in cc)
shows_prefix P Q (Some a) (Some b) (Some c) bytes h t step =
    let same : record b { pending = t.0 } ≡ c = (let w = t.2 in cc) in
    subst (λ x. Shows Q (Some a) (Some x)) same (h.0, λ tree repo r. step tree repo b.pending t.0 (h.1 tree repo r) t.1)

-- what holds of all roots that the link reads
pub shows_where : (P : Content → Content → Text → Type 0) (Q : Content → Content → Type 0) (from old new : Option Modelled) (bytes : Text) → Shows P from old → TakesPrefix old new bytes
    → ((tree repo : Content) (pending rest : Text) → P tree repo pending → pending ≡ bytes ++ rest → Q tree repo) → WhereRead from Q
shows_where P Q None old new bytes h t step = tt
shows_where P Q (Some a) None new bytes h t step = absurd h
shows_where P Q (Some a) (Some b) new bytes h t step = λ tree repo r. step tree repo b.pending t.0 (h.1 tree repo r) t.1

-- an honest link reads some roots
pub honest_has : (from : Option Modelled) (Q : Content → Content → Type 0) → WhereRead from Q → IsHonest from → (tree : Content) × (repo : Content) × Q tree repo
honest_has None Q h w = absurd w
honest_has (Some a) Q h w = (w.tree, w.repo, h w.tree w.repo w.reads)

-- a steady worker is honest
pub worker_honest : (from : Option Modelled) → IsSteadyWorker from → IsHonest from
worker_honest None w = w
worker_honest (Some a) w = record { tree = w.tree; repo = w.repo; reads = w.reads }

record Offered (now : Option Modelled) : Type 0 where
  shows : Modelled
  is : now ≡ Some shows
  begins : BeginsWith shows.pending

offered : (from now : Option Modelled) (kind : JobKind) (i : Item) (left : List Item) (p : Text) (full : Bool) → i.size < 2 ^ 64 → ShowsItem kind i left p full from now → IsHonest from → Offered now
offered None now kind i left p full li h w = absurd w
offered (Some a) None kind i left p full li h w = absurd h
offered (Some a) (Some b) kind i left p full li h w = record {
  shows = b;
  is = refl;
  begins = pend_begins kind i (file_of i w.tree w.repo) left p full w.tree w.repo b.pending li (h.1 w.tree w.repo w.reads);
}

still_steady : (P : Content → Content → Text → Type 0) (from now : Option Modelled) (t : Modelled) → Shows P from now → IsSteadyWorker from → now ≡ Some t → t.steady ≡ true
still_steady P None now t h w e = absurd w
still_steady P (Some a) None t h w e = absurd h
still_steady P (Some a) (Some b) t h w e = subst (λ (x : Modelled). x.steady ≡ true) (let q : b ≡ t = cc in q) (h.0.1 ∙ w.steady)

-- an honest link in a reply has a frame of it to give next
pub honest_begins : (from : Option Modelled) (s : LinkState) (kind : JobKind) (i : Item) (left : List Item) (p : Text) (full : Bool) → i.size < 2 ^ 64 → ShowsItem kind i left p full from s.known → IsHonest from → BeginsReply s
honest_begins from s kind i left p full li h w =
    let o = offered from s.known kind i left p full li h w in
    (o.begins.frame, o.begins.fits, record { shows = o.shows; is = o.is; rest = o.begins.rest; pending = o.begins.is })

-- a steady worker in a reply offers a frame of it
pub worker_offers : (from : Option Modelled) (s : LinkState) (kind : JobKind) (i : Item) (left : List Item) (p : Text) (full : Bool) → i.size < 2 ^ 64 → ShowsItem kind i left p full from s.known → IsSteadyWorker from → OffersReply s
worker_offers from s kind i left p full li h w =
    let o = offered from s.known kind i left p full li h (worker_honest from w) in
    (o.begins.frame, o.begins.fits, record { shows = o.shows; is = o.is; steady = still_steady _ from s.known o.shows h w o.is; rest = o.begins.rest; pending = o.begins.is })

-- ---- between items and jobs

shows_as : (P Q : Content → Content → Text → Type 0) (from now : Option Modelled) → Shows P from now → ((tree repo : Content) (pending : Text) → P tree repo pending → Q tree repo pending) → Shows Q from now
shows_as P Q None None h step = tt
shows_as P Q None (Some b) h step = absurd h
shows_as P Q (Some a) None h step = absurd h
shows_as P Q (Some a) (Some b) h step = (h.0, λ tree repo r. step tree repo b.pending (h.1 tree repo r))

pend_first : (kind : JobKind) (i : Item) (file : Value) (left : List Item) (tree repo : Content) (pending : Text) → pending ≡ flat_map spell (item_reply kind i file (replies kind left tree repo)) → IsPending kind i file left [] true tree repo pending
pend_first kind i None left tree repo pending e = (refl, e)
pend_first kind i (Some file) left tree repo pending e = (payload i file, refl, inr refl, e)

replies_first : (kind : JobKind) (i : Item) (left : List Item) (tree repo : Content) → replies kind (i ∷ left) tree repo ≡ item_reply kind i (file_of i tree repo) (replies kind left tree repo)
unfolding replies
replies_first kind i left tree repo = refl

replies_none : (kind : JobKind) (tree repo : Content) → replies kind [] tree repo ≡ []
unfolding replies
replies_none kind tree repo = refl

pub shows_first : (kind : JobKind) (i : Item) (left : List Item) (from now : Option Modelled) → ShowsItems kind (i ∷ left) from now → ShowsItem kind i left [] true from now
shows_first kind i left from now h = shows_as _ (λ tree repo pending. IsPending kind i (file_of i tree repo) left [] true tree repo pending) from now h (λ tree repo pending e. pend_first kind i (file_of i tree repo) left tree repo pending (e ∙ ap (flat_map spell) (replies_first kind i left tree repo)))

pub shows_none : (kind : JobKind) (from now : Option Modelled) → ShowsItems kind [] from now → IsDrained from now
shows_none kind from now h = shows_as _ (λ tree repo pending. pending ≡ []) from now h (λ tree repo pending e. e ∙ ap (flat_map spell) (replies_none kind tree repo))
