-- A backup that is stored and then listed: what a crash leaves of it.
use Rattle.std.proofs.Common.{◌≡◌, ◌≢◌, ◌≤◌, ◌⊎◌, ◌++◌, ℕ, Bool, true, false, List, [], ◌∷◌, Option, Some, None, refl, sym, ◌∙◌, ap, subst, arith, inl, inr, ⊎_elim, codes}
use Rattle.std.specs.Prelude.{IsTrue, IsSome, IsSomeAnd}
use Rattle.base_devices.specs.Content.{Name, Value, Content, HasBytes, Holds, put}
use Rattle.base_devices.specs.Moments.{View, IsImage, is_unsynced, MayKeep}
use Rattle.base_devices.specs.Crash.{IsTemporary, Alike, Leaves, Crash, Ends, FirstOf, AllOf}
use Rattle.base_disk.proofs.Images.{put_other, put_same}
use Rattle.base_model.specs.Text.{Text}
use Rattle.base_model.specs.Names.{copy_of}
use Rattle.base_model.specs.Create.{member_writes}
use Rattle.backup_sink.specs.Relation.{Touches}
use Rattle.backup_sink.specs.Sealed.{IsSealed}
use Rattle.backup_sink.specs.Way.{Way, MayUnsync, IsBeside}
use Rattle.backup_sink.proofs.Ways.{Law, Same, way_of, way_as, way_on, way_touches}

-- each own name that had bytes has them
pub record HasStored (own : Name → Bool) (now : Option Content) (g : Content) : Type 0 where
  pub stored : (n : Name) → own n ≡ true → ¬ IsTemporary n → HasBytes now n → Holds now n (g n)

-- The label's pair and the stanza's have these texts, and what was stored in the label's folder is there.
pub record IsMade (own : Name → Bool) (pair main : Name) (text info : Text) (now : Option Content) (f g : Content) : Type 0 where
  pub info_is : g main ≡ Some info
  pub manifest_is : g pair ≡ Some text
  pub has : HasStored own now g
  pub others : (n : Name) → own n ≡ false → ¬ IsTemporary n → n ≢ pair → n ≢ copy_of pair → n ≢ main → n ≢ copy_of main → g n ≡ f n

-- the two members of a pair, written
module _ (name : Name) (text : Text) where
  abbrev both : Content → Content
  both f = put (copy_of name) (Some text) (put name (Some text) f)

  both_other : (f : Content) (n : Name) → n ≢ name → n ≢ copy_of name → both f n ≡ f n
  both_other f n off off_copy = put_other (copy_of name) (Some text) (put name (Some text) f) n off_copy ∙ put_other name (Some text) f n off

  -- at other names nothing changes
  pub first_other : (f g : Content) → FirstOf (member_writes name text) f g → (n : Name) → ¬ IsTemporary n → n ≢ name → n ≢ copy_of name → g n ≡ f n
  first_other f g w n lasts off off_copy = ⊎_elim
      (λ (a : Alike f g). a.same n lasts)
      (λ v. ⊎_elim
      (λ (a : Alike (put name (Some text) f) g). a.same n lasts ∙ put_other name (Some text) f n off)
      (λ (a : Alike (both f) g). a.same n lasts ∙ both_other f n off off_copy) v) w

  pub all_other : (f g : Content) → AllOf (member_writes name text) f g → (n : Name) → ¬ IsTemporary n → n ≢ name → n ≢ copy_of name → g n ≡ f n
  all_other f g a n lasts off off_copy = a.same n lasts ∙ both_other f n off off_copy

  module _ (lasts : ¬ IsTemporary name) (two : name ≢ copy_of name) where
    pub all_main : (f g : Content) → AllOf (member_writes name text) f g → g name ≡ Some text
    all_main f g a = a.same name lasts ∙ put_other (copy_of name) (Some text) (put name (Some text) f) name two ∙ put_same name (Some text) f

    -- nothing was written, or the main member has the text
    pub first_main : (f g : Content) → FirstOf (member_writes name text) f g → Alike f g ⊎ (g name ≡ Some text)
    first_main f g w = ⊎_elim
        (λ (a : Alike f g). inl a)
        (λ v. ⊎_elim
        (λ (a : Alike (put name (Some text) f) g). inr (a.same name lasts ∙ put_same name (Some text) f))
        (λ (a : Alike (both f) g). inr (all_main f g a)) v) w

-- what is sealed is in all that may be left
pub sealed_in : (own : Name → Bool) (v : View) → IsSealed own v → (f : Content) → Leaves v v.moment f → (n : Name) → own n ≡ true → HasBytes v.now n → Holds v.now n (f n)
sealed_in own v sealed f leaves n is has = ⊎_elim
    (λ (now : v.now ≡ Some f). subst (λ (o : Option Content). Holds o n (f n)) (sym now) refl)
    (λ (image : IsImage v v.moment f). ⊎_elim (λ k. sealed.only n (f n) is has k)
    (λ (h : IsTrue (v.unsynced v.moment n) × IsSome (f n)). let u : ◌≡◌ {A = Bool} true false = sym h.0 ∙ sealed.synced n is has in cc) (image n))
    leaves

module _ (own : Name → Bool) (pair main : Name) (text info : Text) (pair_lasts : ¬ IsTemporary pair) (main_lasts : ¬ IsTemporary main) (pair_two : pair ≢ copy_of pair) (main_two : main ≢ copy_of main)
    (pair_out : own pair ≡ false) (copy_out : own (copy_of pair) ≡ false) (main_out : own main ≡ false) (main_copy_out : own (copy_of main) ≡ false)
    (apart : (pair ≢ main) × (pair ≢ copy_of main)) where
  abbrev pub Done : Option Content → Content → Content → Type 0
  Done now f g = IsBeside own pair f g ⊎ IsMade own pair main text info now f g

  abbrev pub may : Name → Type 0
  may n = MayUnsync own n

  own_apart : (n m : Name) → own n ≡ true → own m ≡ false → n ≢ m
  own_apart n m is out e = let u : ◌≡◌ {A = Bool} true false = sym is ∙ ap own e ∙ out in cc

  beside_same : (f g : Content) → ((n : Name) → own n ≡ false → g n ≡ f n) → IsBeside own pair f g
  beside_same f g same = record { others = λ n out lasts off off_copy. same n out }

  -- storing
  pub stored_way : (a b : View) → Law a → Touches own a b → Way may (IsBeside own pair) a b
  stored_way a b law touches = way_as may (λ f g. (n : Name) → own n ≡ false → g n ≡ f n) (IsBeside own pair) a b (λ known. beside_same) (way_touches own a b touches law (pair, pair_out) may (λ n h. inl h))

  -- storing, and then the label's pair
  pub manifest_way : (a b c : View) → Way may (IsBeside own pair) a b → Crash (FirstOf (member_writes pair text)) b c → Way may (IsBeside own pair) a c
  manifest_way a b c p q = way_on may (IsBeside own pair) (FirstOf (member_writes pair text)) (IsBeside own pair) a b c p
      (way_of may (FirstOf (member_writes pair text)) (FirstOf (member_writes pair text)) b c (λ n h. inr h) (λ f g w. w) q) (λ f g s. s)
      (λ known f g h leaves s w. record { others = λ n out lasts off off_copy. first_other pair text g h w n lasts off off_copy ∙ s.others n out lasts off off_copy })

  -- at the end of which it has the label's manifest and all that was stored
  pub record IsListed (now : Option Content) (f g : Content) : Type 0 where
    pub beside : IsBeside own pair f g
    pub manifest_is : g pair ≡ Some text
    pub has : HasStored own now g

  pub ready : (a b c : View) → Way may (IsBeside own pair) a b → Way may (IsBeside own pair) a c → IsSealed own b → Ends (AllOf (member_writes pair text)) b c → IsSome a.now → (g : Content) → Leaves c c.moment g
      → (f : Content) × Leaves a a.moment f × IsListed b.now f g
  ready a b c p r sealed ends known g leaves =
      let x = ends.comes (p.known known) g leaves in
      let y = p.comes known b.moment x.0 p.later (omega arith) x.1 in (
        y.0,
        y.1,
        record {
          beside = record { others = λ n out lasts off off_copy. all_other pair text x.0 g x.2 n lasts off off_copy ∙ y.2.others n out lasts off off_copy };
          manifest_is = all_main pair text pair_lasts pair_two x.0 g x.2;
          has = record {
            stored = λ n is lasts has. subst (λ (v : Value). Holds b.now n v) (sym (all_other pair text x.0 g x.2 n lasts (own_apart n pair is pair_out) (own_apart n (copy_of pair) is copy_out)))
                (sealed_in own b sealed x.0 x.1 n is has);
          };
        },
      )

  listed_done : (now : Option Content) (f g h : Content) → IsListed now f g → FirstOf (member_writes main info) g h → Done now f h
  listed_done now f g h l w = ⊎_elim
      (λ (a : Alike g h). inl (record { others = λ n out lasts off off_copy. a.same n lasts ∙ l.beside.others n out lasts off off_copy }))
      (λ new. inr (made now f g h l w new))
      (first_main main info main_lasts main_two g h w)
    where
      made : (now : Option Content) (f g h : Content) → IsListed now f g → FirstOf (member_writes main info) g h → h main ≡ Some info → IsMade own pair main text info now f h
      made now f g h l w new = record {
        info_is = new;
        manifest_is = first_other main info g h w pair pair_lasts apart.0 apart.1 ∙ l.manifest_is;
        has = record {
          stored = λ n is lasts has. subst (λ (v : Value). Holds now n v) (sym (first_other main info g h w n lasts (own_apart n main is main_out) (own_apart n (copy_of main) is main_copy_out))) (l.has.stored n is lasts has);
        };
        others = λ n out lasts off off_copy off_main off_main_copy. first_other main info g h w n lasts off_main off_main_copy ∙ l.beside.others n out lasts off off_copy;
      }

  -- and then the stanza's pair
  pub made_way : (a b c d : View) → Way may (IsBeside own pair) a b → Way may (IsBeside own pair) a c → IsSealed own b → Ends (AllOf (member_writes pair text)) b c → Crash (FirstOf (member_writes main info)) c d → Way may (Done b.now) a d
  made_way a b c d p r sealed ends q = record {
    later = omega (arith, r.later, q.later);
    past = λ t n v le h. r.past t n v le (q.past t n v (omega (arith, le, r.later)) h);
    past_unsynced = λ t n le. q.past_unsynced t n (omega (arith, le, r.later)) ∙ r.past_unsynced t n le;
    known = λ s. q.known (r.known s);
    synced = λ t n lo hi off h. ⊎_elim
        (λ (le : t ≤ c.moment). q.past_unsynced t n le ∙ r.synced t n lo le off h)
        (λ (ge : c.moment ≤ t). q.synced t n ge hi (λ temp. off (inr temp)) (r.synced c.moment n r.later (omega arith) off h))
        (either t c.moment);
    comes = λ s t g lo hi leaves. ⊎_elim (λ now. following s d.moment g q.later (omega arith) (inl now))
        (λ image. ⊎_elim
        (λ (le : t ≤ c.moment). let x = r.comes s t g lo le (inr (λ n. ⊎_elim (λ k. inl (q.past t n (g n) le k)) (λ l. inr (sym (q.past_unsynced t n le) ∙ l.0, l.1)) (image n))) in (x.0, x.1, inl x.2))
        (λ (ge : c.moment ≤ t). following s t g ge hi (inr image))
        (either t c.moment)) leaves;
  }
    where
      either : (t b : ℕ) → (t ≤ b) ⊎ (b ≤ t)
      either t b = grind arith

      following : IsSome a.now → (t : ℕ) (h : Content) → c.moment ≤ t → t ≤ d.moment → Leaves d t h → (f : Content) × Leaves a a.moment f × Done b.now f h
      following s t h lo hi leaves =
          let x = q.comes (r.known s) t h lo hi leaves in
          let y = ready a b c p r sealed ends s x.0 x.1 in (y.0, y.1, listed_done b.now y.0 x.0 h y.2 x.2)

  -- at the end of which all that may be left has the backup
  pub made_ends : (a b c d : View) → Way may (IsBeside own pair) a b → Way may (IsBeside own pair) a c → IsSealed own b → Ends (AllOf (member_writes pair text)) b c → Ends (AllOf (member_writes main info)) c d → Ends (IsMade own pair main text info b.now) a d
  made_ends a b c d p r sealed ends last = record {
    comes = λ s h leaves.
        let x = last.comes (r.known s) h leaves in
        let y = ready a b c p r sealed ends s x.0 x.1 in (
          y.0,
          y.1,
          record {
            info_is = all_main main info main_lasts main_two x.0 h x.2;
            manifest_is = all_other main info x.0 h x.2 pair pair_lasts apart.0 apart.1 ∙ y.2.manifest_is;
            has = record {
              stored = λ n is lasts has. subst (λ (v : Value). Holds b.now n v) (sym (all_other main info x.0 h x.2 n lasts (own_apart n main is main_out) (own_apart n (copy_of main) is main_copy_out))) (y.2.has.stored n is lasts has);
            };
            others = λ n out lasts off off_copy off_main off_main_copy. all_other main info x.0 h x.2 n lasts off_main off_main_copy ∙ y.2.beside.others n out lasts off off_copy;
          },
        );
  }
