-- What lies in a label's folder stays there while the label file is stored, and while others push to the archive.
use Rattle.std.proofs.Common.{◌≡◌, ⊎_elim, ℕ, Bool, true, false, List, get_or, Option, Some, None, refl, sym, ◌∙◌, ap, subst, arith, slice_get, option_map}
use Rattle.std.specs.Prelude.{IfSome, IsSome, IsSomeAnd, IsTrue}
use Rattle.base_disk.specs.Store.{ChangesOnly}
use Rattle.base_devices.specs.Content.{Name, Value, Content, HasBytes, Holds, SameBut, at, is_below}
use Rattle.base_devices.specs.Crash.{IsTemporary}
use Rattle.base_devices.specs.Links.{LinkState}
use Rattle.base_devices.specs.Moments.{View, GrowsBy, MayKeep}
use Rattle.base_model.specs.Text.{Text}
use Rattle.base_model.specs.Names.{archive_folder}
use Rattle.backup_sink.specs.declared.keeper.EndedItem.{EndedItem}
use Rattle.backup_sink.specs.Placed.{IsPlaced}
use Rattle.backup_sink.specs.Sealed.{IsSealed, IsSealedAt}
use Rattle.backup_sink.proofs.Filed.{has_at, holds_at, sealed_more}
use Rattle.backup_sink.proofs.Synced.{stays}
use Rattle.backup_make.specs.declared.draft.Draft.{Draft}
use Rattle.backup_make.specs.Draft.{stanza_of, is_own_of, label_name, IsDraft, IsFree}
use Rattle.backup_make.specs.Online.{Online}
use Rattle.backup_make.specs.Staged.{HasLabel, IsStaged}
use Rattle.backup_make.specs.Stored.{HasOwn, Stored}
use Rattle.backup_make.proofs.Far.{own_is, below_is, heads_apart}
use Rattle.backup_make.proofs.LabelFile.{label_apart, label_own}

weaker : {X : Type 0} (o : Option X) (P Q : X → Type 0) → ((x : X) → P x → Q x) → IsSomeAnd o P → IsSomeAnd o Q
weaker None P Q to h = h
weaker (Some x) P Q to h = to x h

some_value : (v w : Value) → ◌≡◌ {A = Option Value} (Some v) (Some w) → v ≡ w
some_value v w e = cc

-- ---- where the jobs' names have what they had

module _ (d : Draft) (links : List LinkState) (ends : List (List EndedItem)) (a b : Option Content) (s : Stored d links ends a) (known : IsSome b → IsSome a) (same : (j : ℕ) (n : Name) → slice_get s.names j ≡ Some n → at n b ≡ at n a) where
  chosen : Bool → Value → Value → Value
  chosen true v w = v
  chosen false v w = w

  module _ (f k g : Content) (is_a : a ≡ Some f) (is_b : b ≡ Some k) (has : HasOwn d b g) where
    -- a content that has what the disk held, at own names
    mix : Content
    mix n = chosen (is_own_of d n) (f n) (g n)

    at_own : (n : Name) → is_own_of d n ≡ true → mix n ≡ f n
    unfolding mix chosen
    at_own n is = ap (λ (c : Bool). chosen c (f n) (g n)) is

    mix_has : HasOwn d a mix
    mix_has n is lasts bytes = subst (λ (o : Option Content). Holds o n (mix n)) (sym is_a) (at_own n is)

    -- it is like this one at a job's name that has bytes
    back : (j : ℕ) (n : Name) (whole : Text) → slice_get s.names j ≡ Some n → mix n ≡ Some whole → g n ≡ Some whole
    back j n whole at_j is =
        let own = s.own j n at_j in
        let old : f n ≡ Some whole = sym (at_own n own.0) ∙ is in
        let now : k n ≡ f n = some_value (k n) (f n) (ap (λ (o : Option Content). at n o) (sym is_b) ∙ same j n at_j ∙ ap (λ (o : Option Content). at n o) is_a) in
        let bytes : HasBytes b n = subst (λ (o : Option Content). HasBytes o n) (sym is_b) (subst (λ (v : Value). IsSome v) (sym (now ∙ old)) refl) in
        let held : g n ≡ k n = subst (λ (o : Option Content). Holds o n (g n)) is_b (has n own.0 own.1 bytes) in
        held ∙ now ∙ old

    placed_back : IsPlaced s.names s.kept mix → IsPlaced s.names s.kept g
    placed_back p = record {
      placed = λ j i n q x at_j at_k at_i some. weaker x.held.known _ _
          (λ bytes h. ((h.0.0, back j n h.0.0 at_j h.0.1, h.0.2), h.1))
          (p.placed j i n q x at_j at_k at_i some);
    }

  known_of : (o : Option Content) → IsSome o → (f : Content) × (o ≡ Some f)
  known_of None h = absurd (let e : ◌≡◌ {A = Bool} false true = h in cc)
  known_of (Some f) h = (f, refl)

  pub stored_on : Stored d links ends b
  stored_on = record {
    names = s.names;
    names_are = s.names_are;
    own = s.own;
    kept = s.kept;
    received = s.received;
    payload = s.payload;
    are = s.are;
    come = s.come;
    got = λ some. s.got (known some);
    placed = λ some g has. (
        let k = known_of b some in
        let f = known_of a (known some) in
        placed_back f.0 k.0 g f.1 k.1 has (s.placed (known some) (mix f.0 k.0 g f.1 k.1 has) (mix_has f.0 k.0 g f.1 k.1 has))
        );
    filled = λ some j i n k x at_j at_k at_i more. (
        let h = s.filled (known some) j i n k x at_j at_k at_i more in
        has_at b a n (sym (same j n at_j)) h
        );
  }

-- ---- the label file is stored

known_by : (o w : Option Content) (n : Name) (t : Text) → at n w ≡ option_map (λ (x : Content). Some t) o → IsSome w → (IsSome o) × Holds w n (Some t)
known_by None None n t e h = absurd (let x : ◌≡◌ {A = Bool} false true = h in cc)
known_by None (Some g) n t e h = let x : ◌≡◌ {A = Option Value} (Some (g n)) None = e in cc
known_by (Some f) None n t e h = absurd (let x : ◌≡◌ {A = Bool} false true = h in cc)
known_by (Some f) (Some g) n t e h = (refl, sym (some_value (g n) (Some t) e))

module _ (d : Draft) (is_draft : IsDraft d) (free : IsFree d) (o : Online) (a b : View) (others : SameBut (label_name d) a.now b.now) (value : at (label_name d) b.now ≡ option_map (λ (x : Content). Some o.label_file) a.now)
    (time : GrowsBy (λ n _. n ≡ label_name d) (λ n. n ≡ label_name d) a b) (here : IsSealedAt (label_name d) b) where
  pub label_staged : (links : List LinkState) (ends : List (List EndedItem)) → IsStaged d None links ends a → IsStaged d (Some o) links ends b
  label_staged links ends staged = record {
    sealed = sealed_more (is_own_of d) (label_name d) a b others time staged.sealed here;
    stored = stored_on d links ends a.now b.now staged.stored (λ some. (known_by a.now b.now (label_name d) o.label_file value some).0)
        (λ j n at_j. others n (label_apart d is_draft free staged.stored.names staged.stored.names_are j n at_j));
    label = λ some. (known_by a.now b.now (label_name d) o.label_file value some).1;
  }

-- ---- others push to the archive

known_at : (o w : Option Content) (n : Name) → at n w ≡ at n o → IsSome w → IsSome o
known_at None None n e h = h
known_at None (Some g) n e h = let x : ◌≡◌ {A = Option Value} (Some (g n)) None = e in cc
known_at (Some f) w n e h = refl

module _ (d : Draft) (o : Option Online) (a b : View) (only : ChangesOnly (λ n. IsTrue (is_below (archive_folder (stanza_of d)) n)) a b) where
  abbrev InArchive : Name → Type 0
  InArchive n = IsTrue (is_below (archive_folder (stanza_of d)) n)

  -- an own name lies among the backups
  out : (n : Name) → is_own_of d n ≡ true → ¬ InArchive n
  out n is below =
      let r = own_is (stanza_of d) d.label n is in
      let q = below_is (archive_folder (stanza_of d)) n below in
      heads_apart n n (ap (λ (m : Name). get_or m 0 0) q.1) (ap (λ (m : Name). get_or m 0 0) r.2) refl

  same_own : (n : Name) → is_own_of d n ≡ true → at n b.now ≡ at n a.now
  same_own n is = only.now n (out n is)

  known : IsSome b.now → IsSome a.now
  known some = known_at a.now b.now (label_name d) (same_own (label_name d) (label_own d)) some

  still_sealed : IsSealed (is_own_of d) a → IsSealed (is_own_of d) b
  still_sealed sealed = record {
    synced = λ n is has. stays (λ n _. InArchive n) (λ n. InArchive n × IsTemporary n) a b n only.time (λ h. out n is h.0) (sealed.synced n is (has_at a.now b.now n (same_own n is) has));
    only = λ n x is has may. holds_at a.now b.now n x (same_own n is) (sealed.only n x is (has_at a.now b.now n (same_own n is) has)
        (⊎_elim (λ (k : MayKeep a n x). k) (λ (k : InArchive n). absurd (out n is k)) (only.time.grows b.moment n x only.time.later (omega arith) may)));
  }

  -- what lies in the label's folder lies there still
  pub staged_still : (links : List LinkState) (ends : List (List EndedItem)) → IsStaged d o links ends a → IsStaged d o links ends b
  staged_still links ends staged = record {
    sealed = still_sealed staged.sealed;
    stored = stored_on d links ends a.now b.now staged.stored known (λ j n at_j. same_own n (staged.stored.own j n at_j).0);
    label = by o staged.label;
  }
    where
      by : (o : Option Online) → IfSome o (HasLabel d a.now) → IfSome o (HasLabel d b.now)
      by None h = tt
      by (Some x) h = λ some. holds_at a.now b.now (label_name d) (Some x.label_file) (same_own (label_name d) (label_own d)) (h (known some))
