-- Sending the bytes of an item, part by part.
use Rattle.std.proofs.Common.{◌≡◌, ◌⊎◌, inl, inr, ℕ, zero, suc, ◌+◌, ◌<◌, ◌≤◌, Bool, true, false, List, [], ◌∷◌, ◌++◌, length, take, drop, map, min, Option, Some, None, Result, Ok, Err, refl, sym, ◌∙◌, ap, arith, subst, append_assoc}
use Rattle.std.specs.Prelude.{IfSome}
use Rattle.std.specs.Result.{IsErr}
use Rattle.std.specs.List.{flat_map}
use Rattle.std.proofs.Math.Seq.{take-add, take-append_seam}
use Rattle.std.proofs.lemmas.List.{length-take, length-drop, take_min, take_all, drop-drop}
use Rattle.sha1.specs.Sha1.{sha1, Holds}
use Rattle.sha1.specs.declared.Sha1.{Sha1}
use Rattle.base_devices.specs.Cause.{Rises}
use Rattle.base_devices.specs.Content.{Value}
use Rattle.base_model.specs.Text.{Text}
use Rattle.worker_process.specs.declared.serve_fault.ServeFault.{ServeFault}
use Rattle.worker_protocol.specs.declared.frames.frames.JobKind.{JobKind}
use Rattle.worker_protocol.specs.declared.frames.frames.JobKind.TheVariants.{Read, Digest}
use Rattle.worker_protocol.specs.Frames.{Item, Frame, spell, part_size}
use Rattle.worker_protocol.specs.Frames.Frame.{Part, End, Unread}
use Rattle.worker_protocol.specs.Replies.{payload, item_rest, item_reply}
use Rattle.worker_process.specs.Writing.{IsWritten, IsPrefixWritten}
use Rattle.worker_process.specs.Answers.{part_frames, KnownItem, Shows, KnownUnread, IsNextPart}
use Rattle.worker_process.proofs.Written.{none_written, nothing_written, frames_more, frames_prefix}
use Rattle.worker_protocol.proofs.ReplyFrames.{parts_none, parts_more}

-- ---- the frames of a part

one_part : (kind : JobKind) (whole more : Text) (next : List Frame) → 0 < length more → item_rest kind whole more next ≡ part_frames kind (take part_size more) ++ item_rest kind whole (drop part_size more) next
unfolding item_rest
one_part kind whole [] next some = absurd (omega arith)
one_part Read whole (b ∷ more) next some = ap (λ (l : List Text). map Part l ++ End (length whole) (sha1 whole) ∷ next) (parts_more b more)
one_part Digest whole (b ∷ more) next some = refl

last_part : (kind : JobKind) (whole : Text) (next : List Frame) → item_rest kind whole [] next ≡ End (length whole) (sha1 whole) ∷ next
unfolding item_rest
last_part Read whole next = ap (λ (l : List Text). map Part l ++ End (length whole) (sha1 whole) ∷ next) parts_none
last_part Digest whole next = refl

none_left : (bytes : Text) (n : ℕ) → length bytes ≤ n → drop n bytes ≡ []
none_left [] zero le = refl
none_left [] (suc n) le = refl
none_left (b ∷ bytes) zero le = absurd (omega arith)
none_left (b ∷ bytes) (suc n) le = none_left bytes n (omega arith)

drop_min : (m : ℕ) (bytes : Text) (n : ℕ) → n ≡ min m (length bytes) → drop m bytes ≡ drop n bytes
drop_min zero bytes n is = ap (λ (k : ℕ). drop k bytes) {x = 0} {y = n} (omega arith)
drop_min (suc m) [] n is = sym (none_left [] n (omega arith))
drop_min (suc m) (b ∷ bytes) zero is = absurd (omega arith)
drop_min (suc m) (b ∷ bytes) (suc n) is = drop_min m bytes n (omega arith)

some_size : 0 < part_size
unfolding part_size
some_size = omega arith

size_is : part_size ≡ 32768
unfolding part_size
size_is = refl

take_nothing : (n : ℕ) → take {A = ℕ} n [] ≡ []
take_nothing zero = refl
take_nothing (suc n) = refl

-- ---- this many bytes are reported, and this many come after the room for a head

pub record IsKnown (kind : JobKind) (item : Item) (bytes : Text) (known count : ℕ) (room : Text) (old now : Option Text) : Type 0 where
  pub part : take count (drop 5 room) ≡ take part_size (drop known (payload item bytes))
  pub within : known ≤ length (payload item bytes)
  pub shown : List Frame
  pub reply : item_reply kind item (Some bytes) [] ≡ shown ++ item_rest kind (payload item bytes) (drop known (payload item bytes)) []
  pub written : IsWritten old (flat_map spell shown) now

pub known_none : (kind : JobKind) (item : Item) (bytes : Text) (first : ℕ) (room : Text) (old : Option Text) → take first (drop 5 room) ≡ take part_size (payload item bytes) → IsKnown kind item bytes 0 first room old old
known_none kind item bytes first room old part = record { part = part; within = omega arith; shown = []; reply = refl; written = none_written old }

-- the size of the part that is there
count_is : (kind : JobKind) (item : Item) (bytes : Text) (known count : ℕ) (room : Text) (old now : Option Text) → length room ≡ 32773 → count ≤ 32768 → IsKnown kind item bytes known count room old now → count ≡ min part_size (length (drop known (payload item bytes)))
count_is kind item bytes known count room old now long fits t = omega (arith, length-take count (drop 5 room), length-drop 5 room, ap length t.part, length-take part_size (drop known (payload item bytes)))

-- the part was sent: what is sent now, before the next one is read
pub record IsPartKnown (kind : JobKind) (item : Item) (bytes : Text) (known last : ℕ) (old now : Option Text) : Type 0 where
  pub within : known ≤ length (payload item bytes)
  pub ends : last < part_size → drop known (payload item bytes) ≡ []
  pub shown : List Frame
  pub reply : item_reply kind item (Some bytes) [] ≡ shown ++ item_rest kind (payload item bytes) (drop known (payload item bytes)) []
  pub written : IsWritten old (flat_map spell shown) now

module _ (kind : JobKind) (item : Item) (bytes : Text) (known count : ℕ) (room : Text) (old now : Option Text) (long : length room ≡ 32773) (fits : count ≤ 32768) (some : 0 < count) (t : IsKnown kind item bytes known count room old now) where
  abbrev whole : Text
  whole = payload item bytes

  abbrev more : Text
  more = drop known whole

  count_min : count ≡ min part_size (length more)
  count_min = count_is kind item bytes known count room old now long fits t

  dropped : drop part_size more ≡ drop (known + count) whole
  dropped = drop_min part_size more count count_min ∙ drop-drop count known whole

  reply_is : item_reply kind item (Some bytes) [] ≡ (t.shown ++ part_frames kind (take count (drop 5 room))) ++ item_rest kind whole (drop (known + count) whole) []
  reply_is =
      t.reply
      ∙ ap (λ (l : List Frame). t.shown ++ l) (one_part kind whole more [] (omega (arith, count_min)))
      ∙ ap (λ (l : Text). t.shown ++ (part_frames kind (take part_size more) ++ item_rest kind whole l [])) dropped
      ∙ ap (λ (l : Text). t.shown ++ (part_frames kind l ++ item_rest kind whole (drop (known + count) whole) [])) (sym t.part)
      ∙ sym (append_assoc t.shown (part_frames kind (take count (drop 5 room))) (item_rest kind whole (drop (known + count) whole) []))

  pub part_known : (new : Option Text) → IsWritten now (flat_map spell (part_frames kind (take count (drop 5 room)))) new → IsPartKnown kind item bytes (known + count) count old new
  part_known new wrote = record {
    within = omega (arith, count_min, length-drop known whole, t.within);
    ends = λ short. none_left whole (known + count) (omega (arith, short, count_min, length-drop known whole));
    shown = t.shown ++ part_frames kind (take count (drop 5 room));
    reply = reply_is;
    written = frames_more old now new t.shown (part_frames kind (take count (drop 5 room))) t.written wrote;
  }

  pub part_failed : (failed : Type 0) (e : ServeFault) (new : Option Text) → IsPrefixWritten now (flat_map spell (part_frames kind (take count (drop 5 room)))) new → KnownItem kind item (Some bytes) failed (Err e) old new
  part_failed failed e new wrote = (
    true,
    item_reply kind item (Some bytes) [],
    (refl, inl refl),
    frames_prefix old now new t.shown (part_frames kind (take count (drop 5 room))) (item_rest kind whole (drop (known + count) whole) []) (item_reply kind item (Some bytes) [])
        (reply_is ∙ append_assoc t.shown (part_frames kind (take count (drop 5 room))) (item_rest kind whole (drop (known + count) whole) [])) t.written wrote,
  )

  pub part_hashed : (old_digest new_digest : Sha1) → Holds old_digest (take known whole) → ((m : Text) → Holds old_digest m → Holds new_digest (m ++ take count (drop 5 room))) → Holds new_digest (take (known + count) whole)
  part_hashed old_digest new_digest held adds =
      subst (λ (m : Text). Holds new_digest m)
      (ap (λ (l : Text). take known whole ++ l) (t.part ∙ sym (ap (λ (k : ℕ). take k more) count_min ∙ take_min part_size more)) ∙ sym (take-add known count whole))
      (adds (take known whole) held)

module _ (kind : JobKind) (item : Item) (bytes : Text) (known last : ℕ) (old now : Option Text) (t : IsPartKnown kind item bytes known last old now) where
  pub known_next : (room : Text) (n : ℕ) → IsNextPart (drop known (payload item bytes)) last (drop 5 room) n → IsKnown kind item bytes known n room old now
  known_next room n next = record { part = next t.ends; within = t.within; shown = t.shown; reply = t.reply; written = t.written }

  pub known_unread : (failed : Type 0) (result : Result Bool ServeFault) (new : Option Text) → failed → KnownUnread result now new → KnownItem kind item (Some bytes) failed result old new
  known_unread failed (Ok goes) new rose wrote = subst (λ (b : Bool). KnownItem kind item (Some bytes) failed (Ok b) old new) (sym wrote.1) (
    t.shown ++ Unread ∷ [],
    inr (rose, record { count = length t.shown; is = ap (λ (l : List Frame). l ++ Unread ∷ []) (sym (ap (take (length t.shown)) t.reply ∙ take-append_seam t.shown (item_rest kind (payload item bytes) (drop known (payload item bytes)) []))) }),
    frames_more old now new t.shown (Unread ∷ []) t.written wrote.0,
  )
  known_unread failed (Err e) new rose wrote = (
    false,
    t.shown ++ Unread ∷ [],
    inr (rose, record { count = length t.shown; is = ap (λ (l : List Frame). l ++ Unread ∷ []) (sym (ap (take (length t.shown)) t.reply ∙ take-append_seam t.shown (item_rest kind (payload item bytes) (drop known (payload item bytes)) []))) }),
    frames_prefix old now new t.shown (Unread ∷ []) [] (t.shown ++ Unread ∷ []) refl t.written wrote.0,
  )

  -- no bytes were written since
  pub known_stopped : (failed : Type 0) (e : ServeFault) → KnownItem kind item (Some bytes) failed (Err e) old now
  known_stopped failed e = (
    true,
    item_reply kind item (Some bytes) [],
    (refl, inl refl),
    frames_prefix old now now t.shown [] (item_rest kind (payload item bytes) (drop known (payload item bytes)) []) (item_reply kind item (Some bytes) []) t.reply t.written (nothing_written now),
  )

-- ---- the end

pub known_end : (kind : JobKind) (item : Item) (bytes : Text) (known : ℕ) (room : Text) (old now : Option Text) → IsKnown kind item bytes known 0 room old now → (known ≡ length (payload item bytes)) × (take known (payload item bytes) ≡ payload item bytes)
known_end kind item bytes known room old now t =
    let whole = payload item bytes in
    let none : length (drop known whole) ≡ 0 = omega (arith, ap length t.part, length-take part_size (drop known whole), some_size) in
    let over : length whole ≤ known = omega (arith, none, length-drop known whole) in
    (omega (arith, over, t.within), take_all known whole over)

module _ (kind : JobKind) (item : Item) (bytes : Text) (known : ℕ) (room : Text) (old now : Option Text) (failed : Type 0) (digest : Sha1) (sum : Text) (t : IsKnown kind item bytes known 0 room old now) (held : Holds digest (take known (payload item bytes)))
    (sums : (m : Text) → Holds digest m → sum ≡ sha1 m) where
  abbrev bytes_asked : Text
  bytes_asked = payload item bytes

  none_more : drop known bytes_asked ≡ []
  none_more = none_left bytes_asked known (omega (arith, (known_end kind item bytes known room old now t).0))

  end_is : item_reply kind item (Some bytes) [] ≡ t.shown ++ End known sum ∷ []
  end_is =
      let e = known_end kind item bytes known room old now t in
      t.reply
      ∙ ap (λ (l : Text). t.shown ++ item_rest kind bytes_asked l []) none_more
      ∙ ap (λ (l : List Frame). t.shown ++ l) (last_part kind bytes_asked [])
      ∙ ap (λ (n : ℕ). t.shown ++ End n (sha1 bytes_asked) ∷ []) (sym e.0)
      ∙ ap (λ (s : Text). t.shown ++ End known s ∷ []) (sym (sums (take known bytes_asked) held ∙ ap sha1 e.1))

  pub end_known : (result : Result Bool ServeFault) (new : Option Text) → Shows (End known sum ∷ []) true result now new → KnownItem kind item (Some bytes) failed result old new
  end_known (Ok goes) new wrote = subst (λ (b : Bool). KnownItem kind item (Some bytes) failed (Ok b) old new) (sym wrote.1) (t.shown ++ End known sum ∷ [], (sym end_is, inl refl), frames_more old now new t.shown (End known sum ∷ []) t.written wrote.0)
  end_known (Err e) new wrote = (true, item_reply kind item (Some bytes) [], (refl, inl refl), frames_prefix old now new t.shown (End known sum ∷ []) [] (item_reply kind item (Some bytes) []) end_is t.written wrote.0)

-- the next part of none
pub no_next : (item : Item) (bytes : Text) (known last : ℕ) (room : Text) → (last < part_size) ⊎ (known ≡ item.size) → IsNextPart (drop known (payload item bytes)) last room 0
no_next item bytes known last room (inl short) ends = sym (ap (take part_size) (ends short) ∙ take_nothing part_size)
no_next item bytes known last room (inr all) ends = sym (ap (take part_size) (none_left (payload item bytes) known (omega (arith, all, length-take item.size (drop item.at bytes)))) ∙ take_nothing part_size)

pub if_some : {X : Type 0} (o : Option X) (P Q : X → Type 0) → ((x : X) → P x → Q x) → IfSome o P → IfSome o Q
if_some None P Q f p = tt
if_some (Some x) P Q f p = f x p

pub if_both : {X : Type 0} (o p : Option X) (P Q R : X → Type 0) → p ≡ o → ((x : X) → P x → Q x → R x) → IfSome o P → IfSome p Q → IfSome o R
if_both None p P Q R same f a b = tt
if_both {X = X} (Some x) p P Q R same f a b = f x a (subst (λ (q : Option X). IfSome q Q) same b)

-- after a fault nothing more is sent
pub any_fault : (kind : JobKind) (item : Item) (value : Value) (failed : Type 0) (result : Result Bool ServeFault) (old new : Option Text) → IsErr result → ((e : ServeFault) → KnownItem kind item value failed (Err e) old new) → KnownItem kind item value failed result old new
any_fault kind item value failed (Ok goes) old new err known = cc
any_fault kind item value failed (Err e) old new err known = known e

pub rises_from : (a b c : ℕ) → a ≤ b → Rises b c → Rises a c
rises_from a b c le rose = omega arith

pub each_some : {X : Type 0} (o : Option X) (P : X → Type 0) → ((x : X) → P x) → IfSome o P
each_some None P f = tt
each_some (Some x) P f = f x
