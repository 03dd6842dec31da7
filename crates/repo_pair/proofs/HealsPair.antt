-- Members that are written anew where they need it.
use Rattle.std.proofs.Common.{◌≡◌, ◌≢◌, ⊎_elim, List, [], ◌∷◌, Option, Some, None, refl, sym, ap, subst, ◌∙◌}
use Rattle.std.specs.Prelude.{false, IfSome, IsSome}
use Rattle.base_devices.specs.Content.{Value, Content, put}
use Rattle.base_devices.specs.Moments.{View, LeavesNoMore, is_unsynced}
use Rattle.base_devices.specs.Crash.{IsTemporary, Alike, Crash, NowChanges, Write, AllOf, FirstOf, SomeOf}
use Rattle.base_devices.proofs.Crashes.{crash_as, crash_rests, crash_none, crash_unknown, unknown, somes_on, first_some, some_none, some_part}
use Rattle.base_devices.proofs.Lasting.{still_synced}
use Rattle.base_devices.proofs.Nows.{now_somes_on, now_unknown, now_rests, now_as}
use Rattle.base_model.specs.Text.{Text}
use Rattle.base_model.specs.Names.{copy_of}
use Rattle.base_model.specs.Create.{member_writes}
use Rattle.base_model.specs.Pair.{MemberIs, PairIs}
use Rattle.base_model.proofs.Created.{put_other, put_same}
use Rattle.base_model.proofs.NameLemmas.{copy_apart}

abbrev pub one : Text → Text → List Write
one name text = (name, text) ∷ []

-- the member was only read
pub read_crash : (name text : Text) (a b : View) → LeavesNoMore a b → b.now ≡ a.now → Crash (SomeOf (one name text)) a b
read_crash name text a b rests now = crash_rests (SomeOf (one name text)) a b (some_none (one name text)) rests now

pub read_now : (name text : Text) (a b : Option Content) → b ≡ a → NowChanges (SomeOf (one name text)) a b
read_now name text a b now = now_rests (SomeOf (one name text)) a b (some_none (one name text)) now

-- it was read, and then written
pub written_now : (name text : Text) (a b c : Option Content) → b ≡ a → NowChanges (FirstOf (one name text)) b c → NowChanges (SomeOf (one name text)) a c
written_now name text a b c now p = subst (λ (o : Option Content). NowChanges (SomeOf (one name text)) o c) now (now_as (FirstOf (one name text)) (SomeOf (one name text)) b c (first_some (one name text)) p)

pub written_crash : (name text : Text) (a b c : View) → ¬ IsTemporary name → LeavesNoMore a b → b.now ≡ a.now → (is_unsynced b name ≡ false → Crash (FirstOf (one name text)) b c) → is_unsynced a name ≡ false → Crash (SomeOf (one name text)) a c
written_crash name text a b c lasts rests now written synced =
    let reading = crash_rests (SomeOf []) a b (some_none []) rests now in
    somes_on [] (one name text) a b c reading (crash_as (FirstOf (one name text)) (SomeOf (one name text)) b c (first_some (one name text)) (written (still_synced (SomeOf []) a b name reading lasts synced)))

-- the member that was written has the text
pub written_held : (name text : Text) (a b : Option Content) → ¬ IsTemporary name → (a ≡ None → b ≡ None) → NowChanges (AllOf (one name text)) a b → IfSome b (λ f. f name ≡ Some text)
written_held name text a None lasts still goes = tt
written_held name text None (Some g) lasts still goes = absurd (unknown (Some g) (still refl) refl)
written_held name text (Some f) (Some g) lasts still goes = (goes.goes f g refl refl).same name lasts ∙ put_same name (Some text) f

module _ (name text given : Text) (is : given ≡ copy_of name) (lasts : ¬ IsTemporary name) (copy_lasts : ¬ IsTemporary given) where
  apart : name ≢ given
  apart e = copy_apart name (e ∙ is)

  abbrev first : List Write
  first = one name text

  abbrev second : List Write
  second = one (copy_of name) text

  -- the main member, and then the copy
  pub both_crash : (a b c : View) → (is_unsynced a name ≡ false → Crash (SomeOf first) a b) → (is_unsynced b given ≡ false → Crash (SomeOf (one given text)) b c) → is_unsynced a name ≡ false → is_unsynced a (copy_of name) ≡ false → Crash (SomeOf (member_writes name text)) a c
  both_crash a b c p q main copy =
      let p' = p main in
      let synced = still_synced (SomeOf first) a b given p' copy_lasts (subst (λ (n : Text). is_unsynced a n ≡ false) (sym is) copy) in
      somes_on first second a b c p' (subst (λ (n : Text). Crash (SomeOf (one n text)) b c) is (q synced))

  pub both_now : (a b c : Option Content) → NowChanges (SomeOf first) a b → NowChanges (SomeOf (one given text)) b c → NowChanges (SomeOf (member_writes name text)) a c
  both_now a b c p q = now_somes_on first second a b c p (subst (λ (n : Text). NowChanges (SomeOf (one n text)) b c) is q)

  kept : (f g : Content) → SomeOf (one given text) f g → g name ≡ f name
  kept f g some = ⊎_elim (λ (p : Alike f g). p.same name lasts) (λ (p : Alike (put given (Some text) f) g). p.same name lasts ∙ put_other given (Some text) f name apart) some

  pub both_held : (b c : Option Content) → (b ≡ None → c ≡ None) → NowChanges (SomeOf (one given text)) b c → IfSome b (λ f. f name ≡ Some text) → IfSome c (λ f. f given ≡ Some text) → IfSome c (λ f. (f name ≡ Some text) × (f (copy_of name) ≡ Some text))
  both_held b None still goes main copy = tt
  both_held None (Some g) still goes main copy = absurd (unknown (Some g) (still refl) refl)
  both_held (Some f) (Some g) still goes main copy = (kept f g (goes.goes f g refl refl) ∙ main, ap g (sym is) ∙ copy)

pub first_crash : (name text : Text) (a b : View) → Crash (SomeOf (one name text)) a b → Crash (SomeOf (member_writes name text)) a b
first_crash name text a b p = crash_as (SomeOf (one name text)) (SomeOf (member_writes name text)) a b (some_part (one name text) (one (copy_of name) text)) p

pub no_crash : (name text : Text) (a b : View) → LeavesNoMore a b → b.now ≡ a.now → Crash (SomeOf (member_writes name text)) a b
no_crash name text a b rests now = crash_rests (SomeOf (member_writes name text)) a b (some_none (member_writes name text)) rests now

pub first_now : (name text : Text) (a b : Option Content) → NowChanges (SomeOf (one name text)) a b → NowChanges (SomeOf (member_writes name text)) a b
first_now name text a b p = now_as (SomeOf (one name text)) (SomeOf (member_writes name text)) a b (some_part (one name text) (one (copy_of name) text)) p

pub none_now : (name text : Text) (a : Option Content) → NowChanges (SomeOf (member_writes name text)) a a
none_now name text a = now_rests (SomeOf (member_writes name text)) a a (some_none (member_writes name text)) refl

pub no_writes : (name text : Text) (a : View) → Crash (SomeOf (member_writes name text)) a a
no_writes name text a = crash_as (FirstOf (member_writes name text)) (SomeOf (member_writes name text)) a a (first_some (member_writes name text)) (crash_none (member_writes name text) a)

-- the pair was read, and then written
pub rest_then : (name text : Text) (a b c : View) → ¬ IsTemporary name → ¬ IsTemporary (copy_of name) → LeavesNoMore a b → b.now ≡ a.now → (is_unsynced b name ≡ false → is_unsynced b (copy_of name) ≡ false → Crash (SomeOf (member_writes name text)) b c)
    → is_unsynced a name ≡ false → is_unsynced a (copy_of name) ≡ false → Crash (SomeOf (member_writes name text)) a c
rest_then name text a b c lasts copy_lasts rests now written main copy =
    let reading = crash_rests (SomeOf []) a b (some_none []) rests now in
    let synced : (n : Text) → ¬ IsTemporary n → is_unsynced a n ≡ false → is_unsynced b n ≡ false = λ n apart h. still_synced (SomeOf []) a b n reading apart h in
    somes_on [] (member_writes name text) a b c reading (written (synced name lasts main) (synced (copy_of name) copy_lasts copy))

-- ---- the value

module _ {V : Type 0} (IsTextOf : V → Text → Type 0) (text : V → Text) (one_text : (v : V) (b : Text) → IsTextOf v b → b ≡ text v) where
  same_bytes : (f : Content) (name : Text) (v w : V) → MemberIs IsTextOf f name v → MemberIs IsTextOf f name w → text v ≡ text w
  same_bytes f name v w h g =
      let e : ◌≡◌ {A = Value} (Some h.0) (Some g.0) = sym h.1 ∙ g.1 in
      let same : h.0 ≡ g.0 = cc in
      sym (one_text v h.0 h.2) ∙ same ∙ one_text w g.0 g.2

  -- a pair has one text
  pub same_text : (f : Content) (name : Text) (v w : V) → PairIs IsTextOf f name v → PairIs IsTextOf f name w → text v ≡ text w
  same_text f name v w h g = ⊎_elim
      (λ (m : MemberIs IsTextOf f name v). ⊎_elim (λ (n : MemberIs IsTextOf f name w). same_bytes f name v w m n) (λ other. absurd (other.0 v m)) g)
      (λ other. ⊎_elim (λ (n : MemberIs IsTextOf f name w). absurd (other.0 w n)) (λ also. same_bytes f (copy_of name) v w other.1 also.1) g)
      h

  abbrev Has : Option Content → Text → V → Type 0
  Has now name v = IfSome now (λ f. PairIs IsTextOf f name v)

  crash_by : (name : Text) (v : V) (bytes : Text) (a b : View) (now : Option Content) → a.now ≡ now → Has now name v → ((f : Content) → now ≡ Some f → PairIs IsTextOf f name v → bytes ≡ text v) → Crash (SomeOf (member_writes name bytes)) a b → Crash (SomeOf (member_writes name (text v))) a b
  crash_by name v bytes a b None is has same p = crash_unknown (SomeOf (member_writes name bytes)) (SomeOf (member_writes name (text v))) a b is p
  crash_by name v bytes a b (Some f) is has same p = subst (λ (t : Text). Crash (SomeOf (member_writes name t)) a b) (same f refl has) p

  now_by : (name : Text) (v : V) (bytes : Text) (a b : Option Content) → Has a name v → ((f : Content) → a ≡ Some f → PairIs IsTextOf f name v → bytes ≡ text v) → NowChanges (SomeOf (member_writes name bytes)) a b → NowChanges (SomeOf (member_writes name (text v))) a b
  now_by name v bytes None b has same p = now_unknown (SomeOf (member_writes name (text v))) None b refl
  now_by name v bytes (Some f) b has same p = subst (λ (t : Text). NowChanges (SomeOf (member_writes name t)) (Some f) b) (same f refl has) p

  same_for : (name : Text) (v w : V) (bytes : Text) (now : Option Content) → text w ≡ bytes → Has now name w → (f : Content) → now ≡ Some f → PairIs IsTextOf f name v → bytes ≡ text v
  same_for name v w bytes now own has f is pair = sym own ∙ same_text f name w v (subst (λ (o : Option Content). Has o name w) is has) pair

  -- the writes of a value's text are those of the text of any value of the pair
  pub healed_crash : (name : Text) (v w : V) (bytes : Text) (a b : View) → text w ≡ bytes → Has a.now name w → Has a.now name v → Crash (SomeOf (member_writes name bytes)) a b → Crash (SomeOf (member_writes name (text v))) a b
  healed_crash name v w bytes a b own found has p = crash_by name v bytes a b a.now refl has (same_for name v w bytes a.now own found) p

  pub healed_now : (name : Text) (v w : V) (bytes : Text) (a b : Option Content) → text w ≡ bytes → Has a name w → Has a name v → NowChanges (SomeOf (member_writes name bytes)) a b → NowChanges (SomeOf (member_writes name (text v))) a b
  healed_now name v w bytes a b own found has p = now_by name v bytes a b has (same_for name v w bytes a own found) p

-- what is known has a value or none
pub no_value : {V : Type 0} (P : Content → V → Type 0) (o : Option Content) (v : V) → IsSome o → IfSome o (λ f. P f v) → ((w : V) → IfSome o (λ f. ¬ P f w)) → ⊥
no_value P None v some found none = cc
no_value P (Some f) v some found none = none v found

-- what is known stays so
pub still_known : (Step : Content → Content → Type 0) (a b c : Option Content) → b ≡ a → NowChanges Step b c → IsSome a → IsSome c
still_known Step a b c same goes some = goes.known (subst (λ (o : Option Content). IsSome o) (sym same) some)
